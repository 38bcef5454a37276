-- Forward between two ports that are taken for sound: the stages of a forwarding without check 2 of the ports, of whatever ports and lists. Of two sound
-- ports, with room for the label's keys, it is the forwarding itself.
use Rattle.std.specs.Prelude.{true, List, ◌≡◌, ℕ, ◌+◌, ◌≤◌, length}
use Rattle.area.specs.Area.{walk_of, octets_at}
use Rattle.port.specs.declared.Port.{Port}
use Rattle.port.specs.Port.{port_sound, lowest_out, highest_out}
use Rattle.table.specs.Table.{Lent, table_sound}
use Rattle.decision.specs.declared.Decision.{Decision}
use Rattle.decision.specs.declared.Facts.{Facts}
use Rattle.decision.specs.Decision.{silenced}
use Rattle.decision.specs.Verdict.{Verdict, concluded}
use Rattle.arrive.specs.Checks.{basic_in}
use Rattle.arrive.specs.Stages.{basic_read}
use Rattle.forward_leave.specs.Departure.{recorded_by, sent_by, held_by_range}
use Rattle.forward_cross.specs.Crossed.{crossed_by, crossed_keys}
use Rattle.forward_write.specs.Sending.{kept_by, fitted_by, area_count, area_written}
use Rattle.forward_rules.specs.Forward.{forwarding_of, forward_of, output_of}
use Rattle.gate.specs.Acts.{acts_of, acts_keys}

-- what arrived, with 1 of the output and 21 of the leaving port
abbrev pub sent_of : Port → Port → List ℕ → ℕ → ℕ → Verdict
sent_of p l area keys room =
    sent_by (recorded_by (acts_of p area 9 keys) room true) p.basic.on l.basic.on l.basic.sending (basic_read (octets_at (basic_in (walk_of true area)) area))

-- its label carried over, and held against the leaving range
abbrev pub held_of : Port → Port → Lent → List (List ℕ) → Verdict → List ℕ → ℕ → List ℕ → Verdict
held_of p l t levels sent own room far = held_by_range (crossed_by sent p.domain l.domain t levels own room) (lowest_out l) (highest_out l) far

-- and spelled
abbrev pub fitted_of : Port → Verdict → List ℕ → List ℕ → Verdict
fitted_of l held area far = fitted_by l.unlabelled l.spellings l.domain held (kept_by held area) far

abbrev pub gated_of : Port → Facts → Verdict → Verdict → List ℕ → List ℕ → List ℕ → Decision
gated_of l facts held v area far out =
    concluded v l.domain (silenced facts) (area_count v l.unlabelled l.spellings l.domain (kept_by held area) area far out) far

abbrev pub gated_output : Port → Verdict → Verdict → List ℕ → List ℕ → List ℕ → List ℕ
gated_output l held v area far out = area_written v l.unlabelled l.spellings l.domain (kept_by held area) area far out

-- the lists of keys at entry and at exit, the output and the decision, for every two ports
pub record Gated (p l : Port) (t : Lent) (levels : List (List ℕ)) (facts : Facts) (area own own' far far' out out' : List ℕ) (r : Decision) : Type 0 where
  pub near : own' ≡ acts_keys p area own
  pub beyond : far' ≡ crossed_keys (sent_of p l area (length own) (length out)) p.domain l.domain t levels own' far
  pub answer :
      let held = held_of p l t levels (sent_of p l area (length own) (length out)) own' (length far) far' in
      r ≡ gated_of l facts held (fitted_of l held area far') area far' out
  pub written :
      let held = held_of p l t levels (sent_of p l area (length own) (length out)) own' (length far) far' in
      out' ≡ gated_output l held (fitted_of l held area far') area far' out
  pub forwards : port_sound p ≡ true → port_sound l ≡ true → 120 ≤ length own → 120 ≤ length far → (table_sound t levels ≡ true → 120 + t.count ≤ length far)
      → (r ≡ forward_of (forwarding_of p l t levels facts area (length out))) × (out' ≡ output_of (forwarding_of p l t levels facts area (length out)) out)
