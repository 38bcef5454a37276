-- `label_keys::fill_label` meets its contract. The loop's invariant: the label has the runs of the keys so far.
use Rattle.std.proofs.Common.{◌≡◌, length}
use Rattle.label_keys.proofs.Keys.{filled}
use Rattle.label_keys.proofs.fill_label.Given as goal

abbrev pub invariant-loop-i : goal.invariant-loop-i
invariant-loop-i l = l.out ≡ filled l.domain l.level (length l.keys) l.keys l.i
