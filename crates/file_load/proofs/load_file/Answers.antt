use Rattle.file_read.proofs.Answers.{used_fits}
use Rattle.file_load.proofs.load_file.Goals as goal

pub returns : goal.returns
returns c =
    let e = c.read_file.ensures in
    record { octets = _; read = e.0; room = e.1; within = rw e.0 (used_fits _ _) }
