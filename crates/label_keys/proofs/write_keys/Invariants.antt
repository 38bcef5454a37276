-- `label_keys::write_keys` meets its contract. The loop's invariant: the head of the list has the runs so far, the rest is as it was.
use Rattle.std.proofs.Common.{◌≡◌, map, ◌++◌, take, drop}
use Rattle.label.specs.Label.{used}
use Rattle.label_keys.specs.Keys.{run_key}
use Rattle.label_keys.proofs.write_keys.Given as goal

abbrev pub invariant-loop-i : goal.invariant-loop-i
invariant-loop-i l = l.keys ≡ map run_key (take l.i (used l.fn.label)) ++ drop l.i l.initial.keys
