-- The option 130 of a datagram that passes, and what its area's kept options tell of it.
use mathlib.Core.Path.{◌≡◌, refl, sym, ◌∙◌, ap}
use mathlib.Core.Bool.{Bool, true, false, not}
use mathlib.Core.List.{List, [], ◌∷◌}
use mathlib.Core.Option.{Option, none, some}
use Prim.Native.Nat.{ℕ, zero, suc, ◌+◌, ◌<◌}
use native.Mathlib.Omega.{arith}
use lib.ListN.{get_or}
use Rattle.label.proofs.Bools.{never, and_right}
use Rattle.option.specs.Option.{Octets}
use Rattle.basic.specs.declared.BasicReading.{BasicReading}
use Rattle.basic.specs.declared.Way.{Way}
use Rattle.basic.specs.Option.{BasicMeans}
use Rattle.basic.specs.Alone.{BasicRead, basic_reading}
use Rattle.basic.specs.Settings.{way_sound, passes_read}
use Rattle.basic.specs.Theorems.{BasicPermitted}
use Rattle.basic.proofs.Settings.{on_ways}
use Rattle.basic.proofs.OptionTheorems.{reads_basic_lem}
use Rattle.basic.proofs.Theorems.{passes_exactly}
use Rattle.std.specs.Prelude.{Ok, Err, Some, None, is_none}
use Rattle.area.specs.Kinds.{Place, Walk, places}
use Rattle.area.specs.Area.{walk_of, octets_at}
use Rattle.area.proofs.Laws.{off_nowhere}
use Rattle.area_leaving.specs.Kept.{kept_of}
use Rattle.area_leaving.proofs.Again.{basic_from, basic_of_kept}
use Rattle.port.specs.declared.Port.{Port}
use Rattle.port.specs.Port.{port_sound}
use Rattle.port.proofs.Laws.{sound}
use Rattle.arrive.specs.Checks.{faulty, barred, when, first_of, NoneApplies, walk_at, walk_refusal, walk_check, basic_in, option_at, bad_basic_by, bad_basic_check, arriving_basic, missing_basic_by, missing_basic_check, basic_passes, basic_range_check, arrival_checks}
use Rattle.arrive.proofs.First.{first_none, when_none, not_false_yes}
use Rattle.option.proofs.Octets.{octets_part}
use Rattle.arrive.proofs.Arrival.{off_none}
use Rattle.forward_rules.specs.Crossing.{Forwarding, leaving_basic_check}
use Rattle.forward_rules.proofs.Forwards.{Passed}
use Rattle.demands.specs.Demands.{BasicArrives, unread, read, BasicPasses, neither, both}

pub octets_at_lem : (xs : List ℕ) → Octets xs → (i : ℕ) → get_or xs i 0 < 256
octets_at_lem [] o i = omega arith
octets_at_lem (x ∷ xs) o zero = o.0
octets_at_lem (x ∷ xs) o (suc i) = octets_at_lem xs o.1 i

pub walk_sound : (w : Walk) → walk_refusal w ≡ none → (l : Place) × (b : Place) × (w ≡ Ok (places l b))
walk_sound (Ok m) e = (m.label, m.basic, refl)
walk_sound (Err r) e = let z : ◌≡◌ {A = ℕ} 0 1 = cc in absurd (omega arith)

-- An area past 3 to 5: its option 130 is among its kept options.
pub basic_kept : (p : Port) (area : List ℕ) (l b : Place) → walk_at p area ≡ Ok (places l b) → arriving_basic p area ≡ basic_from (kept_of area) 0
unfolding arriving_basic
basic_kept p area l b w = ap (λ (x : Walk). octets_at (basic_in x) area) w ∙ basic_of_kept p.basic.on area l b w

-- A port that an area passes reads option 130 exactly where the area has one.
abbrev pub there : Option (List ℕ) → Bool
there none = false
there (some o) = true

pub passes_there : (on : Bool) (way : Way) (o : Option (List ℕ)) → basic_passes on way o ≡ true → on ≡ there o
passes_there true way none e = absurd (never (sym e))
passes_there false way none e = refl
passes_there true way (some o) e = refl
passes_there false way (some o) e = absurd (never (sym e))

module _ (p : Port) (area : List ℕ) (code : ℕ) (passed : first_of (arrival_checks p area code) ≡ none) where
  n : NoneApplies (arrival_checks p area code)
  n = first_none (arrival_checks p area code) passed

  pub passed_walk : (l : Place) × (b : Place) × (walk_at p area ≡ Ok (places l b))
  unfolding walk_check
  passed_walk = walk_sound (walk_at p area) n.0

  pub passed_range : basic_passes p.basic.on p.basic.receiving (arriving_basic p area) ≡ true
  unfolding basic_range_check
  passed_range = not_false_yes _ (when_none _ (barred 21 code) n.1.1.1.1.1.0)

  pub passed_switch : p.basic.on ≡ there (arriving_basic p area)
  passed_switch = passes_there p.basic.on p.basic.receiving (arriving_basic p area) passed_range

  -- what an option that is not bad was read to
  read_to : (r : BasicRead) → is_none r ≡ false → (x : BasicReading) × (r ≡ Some x)
  read_to (Some x) e = (x, refl)
  read_to None e = absurd (never e)

  -- the option that was read
  pub record Received : Type 0 where
    pub label : Place
    pub at : ℕ
    pub walk : walk_at p area ≡ Ok (places label (Some at))
    pub octets : arriving_basic p area ≡ some (option_at at area)
    pub reading : BasicReading
    pub is : basic_reading (option_at at area) ≡ Some reading

  pub received : p.basic.on ≡ true → Received
  unfolding bad_basic_check arriving_basic
  received on = go passed_walk.0 passed_walk.1 passed_walk.2
    where
      go : (l b : Place) → walk_at p area ≡ Ok (places l b) → Received
      go l None w =
          let o : octets_at (basic_in (walk_at p area)) area ≡ none = rw w in
          absurd (never (sym on ∙ passed_switch ∙ ap there o))
      go l (Some i) w =
          let o : octets_at (basic_in (walk_at p area)) area ≡ some (option_at i area) = rw w in
          let z : when (is_none (basic_reading (option_at i area))) (faulty 19 i) ≡ none = rw w at n.1.1.1.0 in
          let r = read_to (basic_reading (option_at i area)) (when_none _ _ z) in
          record { label = l; at = i; walk = w; octets = o; reading = r.0; is = r.1 }

-- what it means, and that it is permitted
module _ (area : List ℕ) (oct : Octets area) (at : ℕ) (x : BasicReading) (is : basic_reading (option_at at area) ≡ Some x) where
  pub means_it : BasicMeans (option_at at area) x.level x.flags
  means_it = reads_basic_lem.means (option_at at area) x (octets_part (get_or area (at + 1) 0) at area (octets_at_lem area oct)) is

  pub permits_it : (on : Bool) (way : Way) (o : Option (List ℕ)) → o ≡ some (option_at at area) → way_sound way ≡ true → basic_passes on way o ≡ true
      → BasicPermitted way x.level x.flags
  permits_it on way o e s g =
      (passes_exactly way x.level x.flags s).0
      (ap (passes_read way) (sym is) ∙ and_right on _ (ap (basic_passes on way) (sym e) ∙ g))

-- Demand 2 of the option 130, from the checks.
pub basic_arrives : (p : Port) (area : List ℕ) (code : ℕ) → Octets area → port_sound p ≡ true → first_of (arrival_checks p area code) ≡ none → BasicArrives p area
basic_arrives p area code oct s e = go p.basic.on refl
  where
    go : (b : Bool) → p.basic.on ≡ b → BasicArrives p area
    go false f = unread f
    go true f =
        let r = received p area code e f in
        let m = means_it area oct r.at r.reading r.is in
        read r.label r.at _ _ f r.walk m
        (permits_it area oct r.at r.reading r.is p.basic.on p.basic.receiving (arriving_basic p area) r.octets (on_ways p.basic f (sound p s).basic).0 (passed_range p area code e))

module _ (f : Forwarding) (p : Passed f) (oct : Octets f.area) (sa : port_sound f.arriving ≡ true) (sl : port_sound f.leaving ≡ true) where
  sent_passes : basic_passes f.leaving.basic.on f.leaving.basic.sending (arriving_basic f.arriving f.area) ≡ true
  unfolding leaving_basic_check
  sent_passes = not_false_yes _ (when_none _ (barred 21 9) p.sent)

  leaving_switch : f.leaving.basic.on ≡ there (arriving_basic f.arriving f.area)
  leaving_switch = passes_there f.leaving.basic.on f.leaving.basic.sending (arriving_basic f.arriving f.area) sent_passes

  pub basic_passes_lem : BasicPasses f.arriving f.leaving f.area
  basic_passes_lem = go f.arriving.basic.on refl
    where
      same : f.arriving.basic.on ≡ f.leaving.basic.on
      same = passed_switch f.arriving f.area 9 p.arrived ∙ sym leaving_switch

      go : (b : Bool) → f.arriving.basic.on ≡ b → BasicPasses f.arriving f.leaving f.area
      go false e = neither e (sym same ∙ e)
      go true e =
          let r = received f.arriving f.area 9 p.arrived e in
          let m = means_it f.area oct r.at r.reading r.is in
          let l : f.leaving.basic.on ≡ true = sym same ∙ e in
          both r.label r.at _ _ e l r.walk m
          (permits_it f.area oct r.at r.reading r.is f.arriving.basic.on f.arriving.basic.receiving (arriving_basic f.arriving f.area) r.octets
          (on_ways f.arriving.basic e (sound f.arriving sa).basic).0 (passed_range f.arriving f.area 9 p.arrived))
          (permits_it f.area oct r.at r.reading r.is f.leaving.basic.on f.leaving.basic.sending (arriving_basic f.arriving f.area) r.octets
          (on_ways f.leaving.basic l (sound f.leaving sl).basic).1 sent_passes)

-- both ports of a forwarding that passes read option 130, or neither does
pub same_switch : (f : Forwarding) → Passed f → f.arriving.basic.on ≡ f.leaving.basic.on
unfolding leaving_basic_check
same_switch f p =
    passed_switch f.arriving f.area 9 p.arrived
    ∙ sym (passes_there f.leaving.basic.on f.leaving.basic.sending (arriving_basic f.arriving f.area) (not_false_yes _ (when_none _ (barred 21 9) p.sent)))

-- And back: with the conditions, 19 to 21 do not apply.
pub record Unbarred (p : Port) (area : List ℕ) (code : ℕ) : Type 0 where
  pub bad : bad_basic_check p area ≡ none
  pub missing : missing_basic_check p area ≡ none
  pub range : basic_range_check p area code ≡ none

module _ (p : Port) (area : List ℕ) where
  -- the port has it switched off
  pub off_unbarred : (code : ℕ) (l b : Place) → walk_at p area ≡ Ok (places l b) → p.basic.on ≡ false → Unbarred p area code
  unfolding bad_basic_check missing_basic_check basic_range_check
  off_unbarred code l b w e =
      let q : b ≡ None = off_nowhere area l b (ap (λ (t : Bool). walk_of t area) (sym e) ∙ w) in
      let c = off_none p area e in
      record {
        bad = ap (λ (x : Walk). bad_basic_by (basic_in x) area) w ∙ ap (λ (x : Place). bad_basic_by x area) q;
        missing = (λ i. missing_basic_by (c i) (e i));
        range = (λ i. when (not (basic_passes (e i) p.basic.receiving (c i))) (barred 21 code));
      }

  -- or on
  module _ (label : Place) (at v f : ℕ) (w : walk_at p area ≡ Ok (places label (Some at))) (m : BasicMeans (option_at at area) v f) where
    octets_is : arriving_basic p area ≡ some (option_at at area)
    unfolding arriving_basic
    octets_is = ap (λ (x : Walk). octets_at (basic_in x) area) w

    pub way_passes : (on : Bool) (way : Way) → on ≡ true → way_sound way ≡ true → BasicPermitted way v f → basic_passes on way (arriving_basic p area) ≡ true
    way_passes on way e s h =
        let r = reads_basic_lem.back (option_at at area) v f m in
        (λ i. basic_passes (e i) way (octets_is i)) ∙ ap (passes_read way) r ∙ (passes_exactly way v f s).1 h

    pub on_unbarred : (code : ℕ) → p.basic.on ≡ true → port_sound p ≡ true → BasicPermitted p.basic.receiving v f → Unbarred p area code
    unfolding bad_basic_check missing_basic_check basic_range_check
    on_unbarred code e s h =
        let r = reads_basic_lem.back (option_at at area) v f m in
        record {
          bad = ap (λ (x : Walk). bad_basic_by (basic_in x) area) w ∙ ap (λ (x : BasicRead). when (is_none x) (faulty 19 at)) r;
          missing = ap (λ (x : Option (List ℕ)). missing_basic_by x p.basic.on) octets_is;
          range = ap (λ (t : Bool). when (not t) (barred 21 code)) (way_passes p.basic.on p.basic.receiving e (on_ways p.basic e (sound p s).basic).0 h);
        }

pub arrives_unbarred : (p : Port) (area : List ℕ) (code : ℕ) (l b : Place) → walk_at p area ≡ Ok (places l b) → port_sound p ≡ true → BasicArrives p area → Unbarred p area code
arrives_unbarred p area code l b w s (unread e) = off_unbarred p area code l b w e
arrives_unbarred p area code l b w s (read label at v f e k m h) = on_unbarred p area label at v f k m code e s h

pub passes_unbarred : (p q : Port) (area : List ℕ) (l b : Place) → walk_at p area ≡ Ok (places l b) → port_sound p ≡ true → BasicPasses p q area → Unbarred p area 9
passes_unbarred p q area l b w s (neither e g) = off_unbarred p area 9 l b w e
passes_unbarred p q area l b w s (both label at v f e g k m h i) = on_unbarred p area label at v f k m 9 e s h

pub passes_sent : (f : Forwarding) → port_sound f.leaving ≡ true → BasicPasses f.arriving f.leaving f.area → leaving_basic_check f ≡ none
unfolding leaving_basic_check
passes_sent f s (neither e g) =
    let c = off_none f.arriving f.area e in
    λ i. when (not (basic_passes (g i) f.leaving.basic.sending (c i))) (barred 21 9)
passes_sent f s (both label at v x e g k m h i) =
    ap (λ (t : Bool). when (not t) (barred 21 9))
    (way_passes f.arriving f.area label at v x k m f.leaving.basic.on f.leaving.basic.sending g (on_ways f.leaving.basic g (sound f.leaving s).basic).1 i)
