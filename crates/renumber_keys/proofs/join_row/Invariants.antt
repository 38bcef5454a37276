-- `renumber_keys::join_row` meets its contract.
use Prim.Native.Nat.{◌≤◌, ◌+◌}
use mathlib.Core.Path.{◌≡◌}
use lib.ListN.{take, drop, length}
use Rattle.renumber_keys.specs.Stages.{join_onto}
use Rattle.renumber_keys.proofs.join_row.Given as goal

abbrev pub invariant-loop-i : goal.invariant-loop-i
invariant-loop-i l =
    (l.w ≤ l.k)
    × (drop l.k l.keys ≡ drop l.k l.initial.keys)
    × (l.k + length (drop l.i (take l.e l.cut)) ≤ l.w + length (drop l.a (take l.e l.cut)))
    × (join_onto (take l.k l.keys) (drop l.i (take l.e l.cut)) ≡ join_onto (take l.w l.initial.keys) (drop l.a (take l.e l.cut)))
