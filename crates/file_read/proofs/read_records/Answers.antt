-- `file_read::read_records` meets its contract.
use Prim.Native.Nat.{◌≤◌}
use lib.ListN.{length, take}
use Rattle.file_read.specs.File.{most_octets}
use Rattle.file_read.proofs.Files.{records_read}
use Rattle.file_read.proofs.read_records.Goals as goal

pub returns : goal.returns
returns c =
    let s = c.args.octets.now in
    let version = c.in_ok-number.number in
    let t = c.in_ok-tables.ensures in
    let h : length s ≤ most_octets version = rw (← c.most_octets.ensures) c.if-most_octets-total.false in
    record {
      head = _;
      said = t.said;
      reads = records_read s _ version _ _ _ _ _ t.said c.in_ok-at.ensures.read c.in_ok-number.ensures.read h c.in_ok-ports.ensures.read t.reads;
      filled = c.in_ok-ports.ensures.filled;
      heads = t.heads;
      counted = t.counted;
      numbers = t.numbers;
      rows = t.rows;
      few = t.few;
    }
