-- Forward between two ports that are taken for sound: what each stage answered, put together; and of two sound ports it is the forwarding.
use mathlib.Core.Path.{◌≡◌, refl, sym, ◌∙◌, ap}
use mathlib.Core.Bool.{true}
use mathlib.Core.List.{List}
use Prim.Native.Nat.{ℕ, ◌+◌, ◌≤◌, ◌<◌}
use native.Mathlib.Omega.{arith}
use lib.ListN.{length, get_or}
use Rattle.area.specs.Area.{walk_of, octets_at}
use Rattle.port.specs.declared.Port.{Port}
use Rattle.port.specs.Port.{port_sound, lowest_out, highest_out}
use Rattle.table.specs.Table.{Lent, table_sound}
use Rattle.decision.specs.declared.Decision.{Decision}
use Rattle.decision.specs.declared.Facts.{Facts}
use Rattle.decision.specs.Decision.{silenced}
use Rattle.decision.specs.Verdict.{Verdict, concluded}
use Rattle.arrive.specs.Checks.{basic_in}
use Rattle.arrive.specs.Stages.{basic_read}
use Rattle.forward_leave.specs.Departure.{recorded_by, sent_by, held_by_range}
use Rattle.forward_cross.specs.Crossed.{crossed_by, crossed_keys}
use Rattle.forward_write.specs.Sending.{kept_by, fitted_by, area_count, area_written}
use Rattle.forward_rules.specs.Forward.{forwarding_of, forward_of, output_of}
use Rattle.forward_any.proofs.Stages.{forwarded}
use Rattle.gate.specs.Acts.{Acts}
use Rattle.gate.proofs.Arrives.{acts_arrives}
use Rattle.forward_gate.specs.Gated.{sent_of, held_of, fitted_of, Gated}

-- what each stage answered
pub record Stages (p l : Port) (t : Lent) (levels : List (List ℕ)) (facts : Facts) (area own own' far far' out out' : List ℕ) (a r u c h v : Verdict) (kept count : ℕ) (d : Decision) : Type 0 where
  pub octets : (i : ℕ) → get_or area i 0 < 256
  pub own_stays : length own' ≡ length own
  pub acts : Acts p area 9 own own' a
  pub ready : r ≡ recorded_by a (length out) true
  pub sent : u ≡ sent_by r p.basic.on l.basic.on l.basic.sending (basic_read (octets_at (basic_in (walk_of true area)) area))
  pub crosses : c ≡ crossed_by u p.domain l.domain t levels own' (length far)
  pub crossed : far' ≡ crossed_keys u p.domain l.domain t levels own' far
  pub held : h ≡ held_by_range c (lowest_out l) (highest_out l) far'
  pub keeps : kept ≡ kept_by h area
  pub fits : (e : ℕ) → v ≡ fitted_by l.unlabelled l.spellings e h kept far'
  pub counts : count ≡ area_count v l.unlabelled l.spellings l.domain kept area far' out
  pub writes : out' ≡ area_written v l.unlabelled l.spellings l.domain kept area far' out
  pub concludes : d ≡ concluded v l.domain (silenced facts) count far'

module _ (p l : Port) (t : Lent) (levels : List (List ℕ)) (facts : Facts) (area own own' far far' out out' : List ℕ) (a r u c h v : Verdict) (kept count : ℕ) (d : Decision)
    (s : Stages p l t levels facts area own own' far far' out out' a r u c h v kept count d) where
  sent_is : u ≡ sent_of p l area (length own) (length out)
  sent_is =
      s.sent
      ∙ ap (λ (w : Verdict). sent_by w p.basic.on l.basic.on l.basic.sending (basic_read (octets_at (basic_in (walk_of true area)) area)))
      (s.ready ∙ ap (λ (w : Verdict). recorded_by w (length out) true) s.acts.answer)

  abbrev held_by : Verdict
  held_by = held_of p l t levels (sent_of p l area (length own) (length out)) own' (length far) far'

  held_is : h ≡ held_by
  held_is =
      s.held
      ∙ ap (λ (w : Verdict). held_by_range w (lowest_out l) (highest_out l) far') (s.crosses ∙ ap (λ (w : Verdict). crossed_by w p.domain l.domain t levels own' (length far)) sent_is)

  kept_is : kept ≡ kept_by held_by area
  kept_is = s.keeps ∙ ap (λ (w : Verdict). kept_by w area) held_is

  fit_is : v ≡ fitted_of l held_by area far'
  fit_is = s.fits l.domain ∙ (λ i. fitted_by l.unlabelled l.spellings l.domain (held_is i) (kept_is i) far')

  count_is : count ≡ area_count (fitted_of l held_by area far') l.unlabelled l.spellings l.domain (kept_by held_by area) area far' out
  count_is = s.counts ∙ (λ i. area_count (fit_is i) l.unlabelled l.spellings l.domain (kept_is i) area far' out)

  -- of two sound ports
  forwards_is : port_sound p ≡ true → port_sound l ≡ true → 120 ≤ length own → 120 ≤ length far → (table_sound t levels ≡ true → 120 + t.count ≤ length far)
      → (d ≡ forward_of (forwarding_of p l t levels facts area (length out))) × (out' ≡ output_of (forwarding_of p l t levels facts area (length out)) out)
  forwards_is from to near_room far_room far_rows =
      let n : 120 ≤ length own' = omega (arith, s.own_stays, near_room) in
      let q =
      forwarded (forwarding_of p l t levels facts area (length out)) own own' far far' out out' a r u c h v kept count
      (record {
        room = refl;
        own_room = near_room;
        own_kept = n;
        far_room = far_room;
        far_rows = far_rows;
        arrives = acts_arrives p area 9 from s.octets own own' a s.acts;
        ready = s.ready ∙ ap (recorded_by a (length out)) (sym to);
        sent = s.sent;
        crosses = s.crosses;
        crossed = s.crossed;
        held = s.held;
        keeps = s.keeps;
        fits = s.fits;
        counts = s.counts;
        writes = s.writes;
      }) in
      (s.concludes ∙ q.0, q.1)

  pub gated : Gated p l t levels facts area own own' far far' out out' d
  gated =
      record {
        near = s.acts.left;
        beyond = s.crossed ∙ ap (λ (w : Verdict). crossed_keys w p.domain l.domain t levels own' far) sent_is;
        answer = s.concludes ∙ (λ i. concluded (fit_is i) l.domain (silenced facts) (count_is i) far');
        written = s.writes ∙ (λ i. area_written (fit_is i) l.unlabelled l.spellings l.domain (kept_is i) area far' out);
        forwards = forwards_is;
      }
