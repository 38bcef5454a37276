-- `file_port::read_runs` meets its contract.
use borrow.Author.Rules.{rules}
use mathlib.Core.Path.{◌≡◌, refl}
use lib.ListN.{length}
use Rattle.file_port.proofs.LabelLaws.{label_again}
use Rattle.file_port.proofs.read_runs.Goals as goal

pub returns-clause-label : goal.returns-clause-label
returns-clause-label c =
    let n : length c.fill_runs.new.runs ≡ c.args.count = search rules in
    label_again c.args.domain c.args.level c.args.count c.fill_runs.new.runs _ n refl
