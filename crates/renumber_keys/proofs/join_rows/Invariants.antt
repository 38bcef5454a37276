-- `renumber_keys::join_rows` meets its contract.
use Prim.Native.Nat.{◌≤◌, ◌+◌}
use mathlib.Core.Path.{◌≡◌}
use mathlib.Core.List.{[]}
use lib.ListN.{take, drop, length}
use Rattle.renumber_keys.specs.Stages.{join_onto, parts_of}
use Rattle.renumber_keys.proofs.join_rows.Given as goal

abbrev pub invariant-loop-x : goal.invariant-loop-x
invariant-loop-x l =
    (drop l.w l.keys ≡ drop l.w l.initial.keys)
    × (l.w + length (parts_of (drop l.x-index l.order) l.start l.cut) ≤ length (parts_of l.order l.start l.cut))
    × (join_onto (take l.w l.keys) (parts_of (drop l.x-index l.order) l.start l.cut) ≡ join_onto [] (parts_of l.order l.start l.cut))
