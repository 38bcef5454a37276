-- Records and slots between two gates, whatever two sound ports have these numbers and lists: cited by private contracts alone.
use Rattle.std.specs.Prelude.{true, List, ◌≡◌, ℕ}
use Rattle.port.specs.declared.Port.{Port}
use Rattle.port.specs.Port.{port_sound}
use Rattle.table.specs.Table.{Lent}
use Rattle.gate.specs.declared.Gate.{Gate}
use Rattle.gate.specs.Gate.{port_in}
use Rattle.forward_batch.specs.Batch.{Gateway, slot_of, batch_of}

abbrev pub gateway_in : Port → Port → Lent → List (List ℕ) → Gateway
gateway_in p q table levels = record { arriving = p; leaving = q; table = table; levels = levels }

-- one record's slot
abbrev pub Slotted : Gate → List ℕ → List ℕ → List ℕ → List ℕ → Gate → List ℕ → List ℕ → List ℕ → List ℕ → Lent → List (List ℕ) → List ℕ → List ℕ → List ℕ → Type 0
Slotted near lows highs given receives beyond least most only sends table levels r s s' =
    (o z g f : List ℕ)
    → port_sound (port_in near lows highs given o receives z) ≡ true
    → port_sound (port_in beyond least most g only f sends) ≡ true
    → s' ≡ slot_of (gateway_in (port_in near lows highs given o receives z) (port_in beyond least most g only f sends) table levels) r s

-- n records, each with its slot
abbrev pub Batched : Gate → List ℕ → List ℕ → List ℕ → List ℕ → Gate → List ℕ → List ℕ → List ℕ → List ℕ → Lent → List (List ℕ) → ℕ → List ℕ → List ℕ → List ℕ → Type 0
Batched near lows highs given receives beyond least most only sends table levels n ins outs outs' =
    (o z g f : List ℕ)
    → port_sound (port_in near lows highs given o receives z) ≡ true
    → port_sound (port_in beyond least most g only f sends) ≡ true
    → outs' ≡ batch_of (gateway_in (port_in near lows highs given o receives z) (port_in beyond least most g only f sends) table levels) n ins outs
