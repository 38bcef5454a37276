-- `lists::copy_list` meets its contract. The loop's invariant: as many of the first list as turns, and then what was there.
use Rattle.std.proofs.Common.{◌≡◌, length, take, drop, ◌++◌}
use Rattle.lists.proofs.copy_list.Given as goal

abbrev pub invariant-loop-i : goal.invariant-loop-i
invariant-loop-i g l = (length l.dst ≡ length l.initial.dst) × (l.dst ≡ take l.i l.src ++ drop l.i l.initial.dst)
