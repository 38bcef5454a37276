-- `option_write_bitmap::write_bitmap` meets its contract.
use lib.ListN.{length, take}
use Rattle.label.specs.Runs.{covers}
use Rattle.label_keys.specs.Keys.{key_runs}
use Rattle.option_write_bitmap.proofs.Octets.{Bitmap}
use Rattle.option_write_bitmap.proofs.write_bitmap.Given as goal

abbrev pub invariant-loop-key : goal.invariant-loop-key
invariant-loop-key l = Bitmap (covers (key_runs (take l.key-index l.keys))) (length l.initial.out) l.out
