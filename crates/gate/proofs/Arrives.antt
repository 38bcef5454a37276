-- What arrives at a sound port, by its numbers: the checks of the port itself.
use mathlib.Core.Path.{◌≡◌, refl, sym, ◌∙◌, ap}
use mathlib.Core.Bool.{Bool, true, false, cond, not, ◌||◌}
use mathlib.Core.List.{List, [], ◌∷◌, ◌++◌}
use mathlib.Core.Option.{Option, none, some}
use Prim.Native.Nat.{ℕ, ◌+◌, ◌≤◌, ◌<◌}
use native.Mathlib.Omega.{arith}
use lib.Dec.{ltb, eqb}
use lib.ListN.{length, get_or}
use borrow.Author.Tests.{eqb-true}
use Rattle.label.specs.declared.Label.{Label}
use Rattle.label.specs.Label.{used, well_formed, in_range}
use Rattle.label.proofs.Labels.{formed}
use Rattle.label_keys.proofs.Range.{look_right, set_in_range_lem}
use Rattle.option.specs.Option.{Octets}
use Rattle.option.proofs.Octets.{octets_part}
use Rattle.option_read.specs.Reading.{reading_for}
use Rattle.option_read.proofs.Theorems.{reads}
use Rattle.option_slack.proofs.Strict.{strictly_reads}
use Rattle.std.specs.Prelude.{Ok, Err, IfOk, Some, None}
use Rattle.area.specs.Kinds.{Place, Walk}
use Rattle.area.specs.declared.Kind.TheVariants.{Cipso}
use Rattle.area.specs.Area.{bad_area, placed_within, WholeAt}
use Rattle.area.proofs.Laws.{sound_placed}
use Rattle.port.specs.declared.Port.{Port}
use Rattle.port.specs.Port.{port_sound}
use Rattle.port.proofs.Laws.{sound}
use Rattle.decision.specs.declared.Passed.{Passed}
use Rattle.decision.specs.declared.Refusal.{Refusal}
use Rattle.decision.specs.Verdict.{Verdict, verdict_of}
use Rattle.arrive.specs.Checks.{silent, barred, when, first_of, walk_at, option_at, read_at, required_by, option_by, label_by, arriving_label, arrival_checks}
use Rattle.arrive.specs.Verdict.{keys_walked, arrival_of, arrival_keys, Arrives}
use Rattle.arrive.specs.Stages.{basic_checks}
use Rattle.arrive.proofs.Arrival.{arrival_refused, arrival_placed, arrival_held, placed_framed}
use Rattle.gate.specs.Acts.{label_between, outside, acts_checks, acts_of, acts_keys, Acts}
use Rattle.gate.proofs.Acts.{acts_walk, acts_placed}

module _ (p : Port) (area : List ℕ) (code : ℕ) (s : port_sound p ≡ true) (octet : (i : ℕ) → get_or area i 0 < 256) where
  abbrev rest : Place → Place → Bool → Option Refusal
  rest l b out =
      first_of ((required_by l p ∷ option_by l p area ∷ []) ++ (basic_checks b p.basic.on p.basic.receiving area code ++ (when out (barred 14 code) ∷ [])))

  abbrev beyond : Place → Bool
  beyond l = not (in_range p.lowest p.highest (label_by l p area))

  -- a label that was read: its level and runs lie in the range exactly when it does
  read_within : (i : ℕ) → WholeAt Cipso area i → (reading_for p.domain (option_at i area)).number ≡ 0
      → label_between p.lowest p.highest (label_by (Some i) p area) ≡ in_range p.lowest p.highest (label_by (Some i) p area)
  read_within i o z =
      let l : Label = label_by (Some i) p area in
      let d = sound p s in
      let g = d.range in
      let oct : Octets (option_at i area) = octets_part (get_or area (i + 1) 0) i area octet in
      let framed = (placed_framed area i o).framed in
      let m = (reads.for p.domain).means (option_at i area) oct framed d.owned z in
      let own : l.domain ≡ p.domain = sym m.domain ∙ (((reads.for p.domain).exactly (option_at i area) oct framed).0 z).1 in
      let w : well_formed l ≡ true = m.label in
      look_right p.lowest p.highest l.level g.low_formed g.high_formed (used l) (formed l w).runs
      ∙ set_in_range_lem p.lowest p.highest l g.low_formed g.high_formed w (g.low_domain ∙ sym own) (own ∙ sym g.high_domain)

  -- so 14 is given of one exactly when it is of the other, if it is asked
  at_place : (l b : Place) → placed_within Cipso l area → rest l b (outside l p area) ≡ rest l b (beyond l)
  at_place None b o = go p.required refl
    where
      go : (t : Bool) → p.required ≡ t → rest None b false ≡ rest None b (beyond None)
      go true e = rw e
      go false e = ap (λ (x : Bool). rest None b (not x)) (sym ((sound p s).assigned e))
  at_place (Some i) b o = go (eqb (read_at p (option_at i area)).number 0) refl
    where
      go : (t : Bool) → eqb (read_at p (option_at i area)).number 0 ≡ t → rest (Some i) b (outside (Some i) p area) ≡ rest (Some i) b (beyond (Some i))
      go true e = ap (λ (x : Bool). rest (Some i) b (not x)) (read_within i o ((strictly_reads.exactly p.strict p.domain (option_at i area)).0 (eqb-true _ _ e)).0)
      go false e = rw e

  pub same_checks : first_of (acts_checks p area code) ≡ first_of (arrival_checks p area code)
  same_checks = go (walk_at p area) refl
    where
      go : (w : Walk) → walk_at p area ≡ w → first_of (acts_checks p area code) ≡ first_of (arrival_checks p area code)
      go (Err r) e = acts_walk p area code r.number r.at e ∙ sym (arrival_refused p area code r.number r.at e)
      go (Ok m) e =
          (acts_placed p area code m.label m.basic e).0 ∙ at_place m.label m.basic (sound_placed p.basic.on area m.label m.basic e).0 ∙ sym (arrival_placed p area code m.label m.basic e).0

  -- where no check applies, the label has at most 120 runs
  stands_if : (o : Option Refusal) (v n : ℕ) (P : Passed → Type 0) → (o ≡ none → (arriving_label p area).count ≤ 120)
      → IfOk (verdict_of o v n) (λ q. (arriving_label p area).count ≤ 120 → P q) → IfOk (verdict_of o v n) P
  stands_if none v n P f h = h (f refl)
  stands_if (some x) v n P f h = tt

  few : (t : Bool) → first_of (when t (silent 1) ∷ acts_checks p area code) ≡ none → (arriving_label p area).count ≤ 120
  few true e = let z : ◌≡◌ {A = ℕ} 0 1 = cc in absurd (omega arith)
  few false e = (formed (arriving_label p area) (arrival_held p area code s (sym same_checks ∙ e)).formed).held

  same_answer : (t u : Bool) (v n : ℕ) → u ≡ true
      → verdict_of (first_of (when t (silent 1) ∷ acts_checks p area code)) v n ≡ verdict_of (first_of (when t (silent 1) ∷ when (not u) (silent 2) ∷ arrival_checks p area code)) v n
  same_answer true u v n e = refl
  same_answer false u v n e = ap (λ (o : Option Refusal). verdict_of o v n) same_checks ∙ sym (rw e)

  -- the law: of a sound port, what its numbers answer is what it answers
  pub acts_arrives : (keys keys' : List ℕ) (r : Verdict) → Acts p area code keys keys' r → Arrives p area code keys keys' r
  unfolding acts_of arrival_of acts_keys arrival_keys
  acts_arrives keys keys' r a =
      let t : Bool = bad_area area || ltb (length keys) 120 in
      let v = (arriving_label p area).level in
      let n = (arriving_label p area).count in
      record {
        answer = a.answer ∙ same_answer t (port_sound p) v n s;
        left = a.left ∙ sym (ap (λ (u : Bool). cond t keys (cond u (keys_walked (walk_at p area) p area keys) keys)) s);
        stands = rw a.answer (stands_if (first_of (when t (silent 1) ∷ acts_checks p area code)) v n _ (few t) (rw a.answer at a.stands));
      }
