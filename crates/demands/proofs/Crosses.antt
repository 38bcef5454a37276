-- Between two domains: 16, 17 and 18 over the decision.
use mathlib.Core.Path.{◌≡◌, refl, sym, ◌∙◌, ap}
use mathlib.Core.Bool.{Bool, true, false, ◌||◌}
use mathlib.Core.List.{[], ◌∷◌}
use mathlib.Core.Logic.{◌⊎◌, inl, inr}
use mathlib.Core.Option.{none}
use Prim.Native.Nat.{ℕ, ◌<◌}
use native.Mathlib.Omega.{arith}
use lib.Dec.{eqb, ltb}
use lib.ListN.{length}
use borrow.Author.Tests.{eqb-true, eq-eqb, ne_eqb, lt-ltb}
use Rattle.std.specs.Prelude.{None, Some}
use Rattle.label.specs.Label.{used, well_formed}
use Rattle.label.proofs.Bools.{never, and_left, and_right}
use Rattle.label_keys.specs.Range.{set_in_range}
use Rattle.port.specs.Port.{lowest_out, highest_out}
use Rattle.port.proofs.Laws.{range_formed}
use Rattle.table.specs.Table.{used_rows}
use Rattle.table.specs.Numbers.{numbered}
use Rattle.table_levels.specs.Levels.{Partner, known}
use Rattle.renumber.specs.Renumber.{image_runs}
use Rattle.area_leaving.specs.Kept.{kept_of}
use Rattle.decision.specs.declared.Decision.{Decision}
use Rattle.decision.specs.Decision.{silenced, decided}
use Rattle.arrive.specs.Checks.{barred, first_of, NoneApplies, range_check}
use Rattle.arrive.proofs.First.{when_none, not_false_yes}
use Rattle.forward_rules.specs.Crossing.{no_room, Forwarding, Crossing, crossing, partner, has_numbers, number_check, leaving_check, leaving_level, leaving_runs, leaving_option, leaving_label, spelling_check}
use Rattle.forward_rules.specs.Forward.{forward_of, leaving_count}
use Rattle.demands.specs.Crosses.{before_numbers, label_at, HasNumbers, inside, Crosses}
use Rattle.demands.proofs.Renumbering.{whole_says, whole_said}

module _ (f : Forwarding) (n : NoneApplies (before_numbers f)) where
  abbrev x : Crossing
  x = crossing f

  -- what is left of the checks
  left_is : forward_of f ≡ decided (silenced f.facts) (first_of (number_check x ∷ leaving_check x ∷ spelling_check x (kept_of f.area) ∷ [])) (leaving_label x) (leaving_count f)
  unfolding forward_of
  left_is =
      let m = n.1.1 in
      rw (n.0, n.1.0, m.0, m.1.0, m.1.1.0, m.1.1.1.0, m.1.1.1.1.0, m.1.1.1.1.1.0, m.1.1.1.1.1.1.0, m.1.1.1.1.1.1.1.0)

  formed : well_formed (label_at f) ≡ true
  unfolding range_check
  formed =
      range_formed f.arriving.lowest f.arriving.highest (label_at f)
      (not_false_yes _ (when_none _ (barred 14 9) n.1.1.1.1.1.1.1.1.1.0))

  -- the test of the numbers, in words
  has_says : has_numbers x ≡ true → (v : ℕ) × HasNumbers f v
  has_says h =
      let r1 = and_right (eqb f.table.from f.arriving.domain) _ h in
      let r2 = and_right (eqb f.table.to f.leaving.domain) _ r1 in
      go (partner x) refl (and_left (known (partner x)) _ r2) (and_right (known (partner x)) _ r2) (eqb-true _ _ (and_left (eqb f.table.from f.arriving.domain) _ h)) (eqb-true _ _ (and_left (eqb f.table.to f.leaving.domain) _ r1))
    where
      go : (q : Partner) → partner x ≡ q → known q ≡ true → numbered (used_rows f.table) (used (label_at f)) ≡ true → f.table.from ≡ f.arriving.domain → f.table.to ≡ f.leaving.domain → (v : ℕ) × HasNumbers f v
      go None p k c a b = absurd (never (sym k))
      go (Some v) p k c a b = (v, record { from = a; to = b; level = p; categories = whole_says (label_at f) f.table formed c })

  has_said : (v : ℕ) → HasNumbers f v → has_numbers x ≡ true
  has_said v h = rw (eq-eqb _ _ h.from, eq-eqb _ _ h.to, h.level, whole_said (label_at f) f.table formed h.categories)

  number_of : {d : Decision} → forward_of f ≡ d → (forward_of f).number ≡ d.number
  number_of e = ap (λ (z : Decision). z.number) e

  -- past 16: 17, 18 or none
  passed_numbers : number_check x ≡ none → (forward_of f).number ≡ 16 → ⊥
  unfolding leaving_check spelling_check
  passed_numbers e =
      go (set_in_range (lowest_out x.leaving) (highest_out x.leaving) (leaving_level x) (leaving_runs x)) refl (ltb 120 (length (leaving_runs x)) || no_room (leaving_option x) (kept_of f.area)) refl
    where
      go : (b : Bool) → set_in_range (lowest_out x.leaving) (highest_out x.leaving) (leaving_level x) (leaving_runs x) ≡ b
          → (c : Bool) → (ltb 120 (length (leaving_runs x)) || no_room (leaving_option x) (kept_of f.area)) ≡ c → (forward_of f).number ≡ 16 → ⊥
      go false p c q h = let z : (forward_of f).number ≡ 17 = number_of left_is ∙ rw (e, p) in omega arith
      go true p true q h = let z : (forward_of f).number ≡ 18 = number_of left_is ∙ rw (e, p, q) in omega arith
      go true p false q h = let z : (forward_of f).number ≡ 0 = number_of left_is ∙ rw (e, p, q) in omega arith

  stays_passes : f.arriving.domain ≡ f.leaving.domain → number_check x ≡ none
  unfolding number_check
  stays_passes d = rw (eq-eqb _ _ d)

  module _ (apart : f.arriving.domain ≡ f.leaving.domain → ⊥) where
    numbers_pass : has_numbers x ≡ true → number_check x ≡ none
    unfolding number_check
    numbers_pass h = rw (ne_eqb _ _ apart, h)

    numbers_fail : has_numbers x ≡ false → (forward_of f).number ≡ 16
    unfolding number_check
    numbers_fail h = number_of left_is ∙ rw (ne_eqb _ _ apart, h)

    sixteen : ((forward_of f).number ≡ 16 → (v : ℕ) → HasNumbers f v → ⊥) × (((v : ℕ) → HasNumbers f v → ⊥) → (forward_of f).number ≡ 16)
    sixteen = (λ e v h. passed_numbers (numbers_pass (has_said v h)) e, λ h. go (has_numbers x) refl h)
      where
        go : (b : Bool) → has_numbers x ≡ b → ((v : ℕ) → HasNumbers f v → ⊥) → (forward_of f).number ≡ 16
        go false p h = numbers_fail p
        go true p h = let y = has_says p in absurd (h y.0 y.1)

    module _ (v : ℕ) (h : HasNumbers f v) where
      inside_is : set_in_range (lowest_out x.leaving) (highest_out x.leaving) (leaving_level x) (leaving_runs x) ≡ inside f v
      unfolding leaving_level leaving_runs
      inside_is = rw (ne_eqb _ _ apart, h.level)

      many_runs : 120 < length (image_runs (label_at f) f.table) → ltb 120 (length (leaving_runs x)) ≡ true
      unfolding leaving_runs
      many_runs many = rw (ne_eqb _ _ apart) (lt-ltb 120 (length (image_runs (label_at f) f.table)) many)

      large : 120 < length (image_runs (label_at f) f.table)
          → ((inside f v ≡ false) × ((forward_of f).number ≡ 17)) ⊎ ((inside f v ≡ true) × ((forward_of f).number ≡ 18))
      unfolding leaving_check spelling_check
      large many = go (inside f v) refl
        where
          go : (b : Bool) → inside f v ≡ b → ((inside f v ≡ false) × ((forward_of f).number ≡ 17)) ⊎ ((inside f v ≡ true) × ((forward_of f).number ≡ 18))
          go false p = inl (p, number_of left_is ∙ rw (numbers_pass (has_said v h), inside_is ∙ p))
          go true p = inr (p, number_of left_is ∙ rw (numbers_pass (has_said v h), inside_is ∙ p, many_runs many))

pub crosses : Crosses
crosses =
    record {
      sixteen = λ f apart n. sixteen f n apart;
      large = λ f v apart n h many. large f n apart v h many;
      same = λ f d n e. passed_numbers f n (stays_passes f n d) e;
    }
