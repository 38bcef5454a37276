-- `area::walk_options` meets its contract.
use Prim.Native.Nat.{◌≤◌, ◌-◌}
use mathlib.Core.Path.{◌≡◌}
use lib.ListN.{length, drop}
use Rattle.std.specs.Prelude.{None}
use Rattle.area.specs.Area.{met_from, met_of, judged}
use Rattle.area.proofs.walk_options.Given as goal

abbrev pub invariant-loop-at : goal.invariant-loop-at
invariant-loop-at l =
    (l.at ≤ length l.area) × (judged l.on l.lax (met_of l.area) None None ≡ judged l.on l.lax (met_from (drop l.at l.area) 0 l.at) l.met.label l.met.basic)

abbrev pub decreases-loop-at : goal.decreases-loop-at
decreases-loop-at l = length l.area - l.at
