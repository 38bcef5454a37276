-- `forward_batch::forward_gated` meets its contract.
use mathlib.Core.Path.{◌≡◌}
use mathlib.Core.Bool.{true}
use mathlib.Core.List.{List, ◌++◌}
use Prim.Native.Nat.{ℕ, ◌-◌, ◌*◌}
use lib.ListN.{length, take, drop}
use Rattle.forward_batch.specs.Batch.{batch_of}
use Rattle.port.specs.Port.{port_sound}
use Rattle.table.specs.Table.{lent}
use Rattle.gate.specs.Gate.{port_in}
use Rattle.forward_batch.specs.Stages.{gateway_in}
use Rattle.forward_batch.proofs.forward_gated.Given as goal

abbrev pub invariant-loop-i : goal.invariant-loop-i
invariant-loop-i l =
    (length l.output ≡ length l.initial.output) × (length l.own ≡ 120) × (length l.far ≡ 1144)
    × ((o z g w : List ℕ)
    → port_sound (port_in l.near l.lows l.highs l.given o l.receives z) ≡ true
    → port_sound (port_in l.beyond l.least l.most g l.only w l.sends) ≡ true
    → batch_of (gateway_in (port_in l.near l.lows l.highs l.given o l.receives z) (port_in l.beyond l.least l.most g l.only w l.sends) (lent l.table l.rows) l.levels) l.n l.input l.initial.output
    ≡ take (l.i * 64) l.output ++ batch_of (gateway_in (port_in l.near l.lows l.highs l.given o l.receives z) (port_in l.beyond l.least l.most g l.only w l.sends) (lent l.table l.rows) l.levels) (l.n - l.i) (drop (l.i * 64) l.input) (drop (l.i * 64) l.output))
