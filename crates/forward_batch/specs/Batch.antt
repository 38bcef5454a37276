-- Many datagrams between two ports. A record and a slot have 64 octets each; slot i is what record i is answered by.
use Rattle.std.specs.Prelude.{ℕ, zero, suc, ◌/◌, ◌%◌, Bool, cond, not, List, ◌++◌, eqb, ltb, get_or, set, take, drop}
use Rattle.port.specs.declared.Port.{Port}
use Rattle.table.specs.Table.{Lent}
use Rattle.decision.specs.declared.Decision.{Decision}
use Rattle.decision.specs.declared.Facts.{Facts}
use Rattle.forward_rules.specs.Crossing.{Forwarding}
use Rattle.forward_rules.specs.Forward.{forwarding_of, forward_of, output_of}

-- 1. The records that decide.

-- two ports, and a table with its rows and its level pairs
pub record Gateway : Type 0 where
  pub arriving : Port
  pub leaving : Port
  pub table : Lent
  pub levels : List (List ℕ)

-- 2. One datagram. Its record: the five facts in octets 0 to 4 (0 or not), the area's length in octet 5, the area from octet 8 on.

abbrev pub fact : List ℕ → ℕ → Bool
fact r i = not (eqb (get_or r i 0) 0)

abbrev pub facts_in : List ℕ → Facts
facts_in r = record { error = fact r 0; group = fact r 1; link = fact r 2; fragment = fact r 3; source = fact r 4 }

abbrev pub area_in : List ℕ → List ℕ
area_in r = take (get_or r 5 0) (drop 8 r)

abbrev pub forwarding_in : Gateway → List ℕ → Forwarding
forwarding_in g r = forwarding_of g.arriving g.leaving g.table g.levels (facts_in r) (area_in r) 40

-- the first five octets of a slot: number, type, code, pointer, count
abbrev pub with_head : Decision → List ℕ → List ℕ
with_head d s = set (set (set (set (set s 0 d.number) 1 d.kind) 2 d.code) 3 d.pointer) 4 (d.count % 256)

-- its slot: the head, and from octet 24 on what the decision writes; the octets between stay
unfoldable pub slot_of : Gateway → List ℕ → List ℕ → List ℕ
slot_of g r s = with_head (forward_of (forwarding_in g r)) (take 24 s ++ output_of (forwarding_in g r) (drop 24 s))

-- 3. Many: the whole records that have a slot.

unfoldable pub slot_count : ℕ → ℕ → ℕ
slot_count input output = cond (ltb input output) (input / 64) (output / 64)

-- n records, each with its slot
abbrev pub batch_of : Gateway → ℕ → List ℕ → List ℕ → List ℕ
batch_of g zero ins outs = outs
batch_of g (suc n) ins outs = slot_of g (take 64 ins) (take 64 outs) ++ batch_of g n (drop 64 ins) (drop 64 outs)
