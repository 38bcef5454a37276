-- Laws of the table of levels: what its rule, computed once over the whole table, says of every octet.
use Prim.Native.Nat.{ℕ, zero, suc, ◌+◌, ◌/◌, ◌%◌, ◌≤◌, ◌<◌}
use mathlib.Core.Path.{◌≡◌, refl, sym, ap, ◌∙◌}
use mathlib.Core.Bool.{Bool, true, false, ◌&&◌}
use mathlib.Core.List.{List, [], ◌∷◌}
use mathlib.Core.Logic.{⊎_elim}
use native.Mathlib.Omega.{arith}
use lib.Dec.{leb, ltb, eqb}
use lib.ListN.{length}
use borrow.Author.Tests.{eqb-true, ltb-true, leb-true, le-leb, lt-ltb, eq-eqb}
use Rattle.std.specs.Prelude.{Option, Some, None, MatchOption, is_some}
use Rattle.label.proofs.Bools.{never, and_left, and_right, and_both, or_cases, same_yes}
use Rattle.basic.specs.declared.Level.{Level}
use Rattle.basic.specs.Levels.{levels, is_in, rank_in, is_level, rank_of, at_most, bits_apart, far_from_all, table_rule}

pub rule : table_rule 0 levels ≡ true
rule = refl

eqb_sym : (a b : ℕ) → eqb a b ≡ eqb b a
eqb_sym a b = same_yes (eqb a b) (eqb b a) (λ e. eq-eqb b a (sym (eqb-true a b e))) (λ e. eq-eqb a b (sym (eqb-true b a e)))

apart_sym : (n x y : ℕ) → bits_apart n x y ≡ bits_apart n y x
apart_sym zero x y = refl
apart_sym (suc n) x y = rw (eqb_sym (x % 2) (y % 2), apart_sym n (x / 2) (y / 2))

far_from : (x : ℕ) (ls : List Level) → far_from_all x ls ≡ true → (y : ℕ) → is_in ls y ≡ true → 4 ≤ bits_apart 8 x y
far_from x [] e y m = absurd (never (sym m))
far_from x (l ∷ ls) e y m =
    ⊎_elim
    (λ h. rw (eqb-true l.octet y h) at (leb-true 4 (bits_apart 8 x l.octet) (and_left (leb 4 (bits_apart 8 x l.octet)) _ e)))
    (λ h. far_from x ls (and_right (leb 4 (bits_apart 8 x l.octet)) _ e) y h)
    (or_cases (eqb l.octet y) (is_in ls y) m)

-- The parts of the rule at a level.
record Ruled (r : ℕ) (l : Level) (ls : List Level) : Type 0 where
  ranked : l.rank ≡ r
  far : far_from_all l.octet ls ≡ true
  rest : table_rule (r + 1) ls ≡ true

ruled : (r : ℕ) (l : Level) (ls : List Level) → table_rule r (l ∷ ls) ≡ true → Ruled r l ls
ruled r l ls e =
    let a = and_right (leb l.octet 255) _ e in
    let b = and_right (eqb l.rank r) _ a in
    record {
      ranked = eqb-true l.rank r (and_left (eqb l.rank r) _ a);
      far = and_left (far_from_all l.octet ls) _ b;
      rest = and_right (far_from_all l.octet ls) _ b;
    }

pub apart_in : (r : ℕ) (ls : List Level) → table_rule r ls ≡ true → (x y : ℕ) → is_in ls x ≡ true → is_in ls y ≡ true → (x ≡ y → ⊥)
    → 4 ≤ bits_apart 8 x y
apart_in r [] e x y m n d = absurd (never (sym m))
apart_in r (l ∷ ls) e x y m n d =
    let k = ruled r l ls e in
    ⊎_elim
    (λ p.
    ⊎_elim
    (λ q. absurd (d (sym (eqb-true l.octet x p) ∙ eqb-true l.octet y q)))
    (λ q. rw (eqb-true l.octet x p) at (far_from l.octet ls k.far y q))
    (or_cases (eqb l.octet y) (is_in ls y) n))
    (λ p.
    ⊎_elim
    (λ q. rw (apart_sym 8 x y) (rw (eqb-true l.octet y q) at (far_from l.octet ls k.far x p)))
    (λ q. apart_in (r + 1) ls k.rest x y p q d)
    (or_cases (eqb l.octet y) (is_in ls y) n))
    (or_cases (eqb l.octet x) (is_in ls x) m)

-- The rank of an octet of the list, and of one that is none of it.
abbrev Within : ℕ → List Level → ℕ → Type 0
Within r ls x = (r ≤ rank_in ls x) × (rank_in ls x < r + length ls)

rank_from : (r : ℕ) (ls : List Level) → table_rule r ls ≡ true → (x : ℕ) → is_in ls x ≡ true → Within r ls x
rank_from r [] e x m = absurd (never (sym m))
rank_from r (l ∷ ls) e x m = go (eqb l.octet x) refl (rank_from (r + 1) ls (ruled r l ls e).rest x)
  where
    go : (t : Bool) → eqb l.octet x ≡ t → (is_in ls x ≡ true → Within (r + 1) ls x) → Within r (l ∷ ls) x
    go true p k = rw p (omega (arith, (ruled r l ls e).ranked), omega (arith, (ruled r l ls e).ranked))
    go false p k = let w = k (rw p at m) in rw p (omega (arith, w.0), omega (arith, w.1))

rank_none : (ls : List Level) (x : ℕ) → is_in ls x ≡ false → rank_in ls x ≡ 4
rank_none [] x m = refl
rank_none (l ∷ ls) x m = go (eqb l.octet x) refl (rank_none ls x)
  where
    go : (t : Bool) → eqb l.octet x ≡ t → (is_in ls x ≡ false → rank_in ls x ≡ 4) → rank_in (l ∷ ls) x ≡ 4
    go true p k = absurd (never (rw p at m))
    go false p k = rw p (k (rw p at m))

told_in : (r : ℕ) (ls : List Level) → table_rule r ls ≡ true → (x y : ℕ) → is_in ls x ≡ true → is_in ls y ≡ true → rank_in ls x ≡ rank_in ls y → x ≡ y
told_in r [] e x y m n q = absurd (never (sym m))
told_in r (l ∷ ls) e x y m n q = go (eqb l.octet x) refl (eqb l.octet y) refl (told_in (r + 1) ls (ruled r l ls e).rest x y)
  where
    -- an octet of the levels behind this one has a higher rank
    above : (z : ℕ) → is_in ls z ≡ true → l.rank < rank_in ls z
    above z m = let w = rank_from (r + 1) ls (ruled r l ls e).rest z m in omega (arith, w.0, (ruled r l ls e).ranked)

    go : (s : Bool) → eqb l.octet x ≡ s → (t : Bool) → eqb l.octet y ≡ t
        → (is_in ls x ≡ true → is_in ls y ≡ true → rank_in ls x ≡ rank_in ls y → x ≡ y)
        → x ≡ y
    go true a true b k = sym (eqb-true l.octet x a) ∙ eqb-true l.octet y b
    go true a false b k =
        let u : l.rank ≡ rank_in ls y = rw (a, b) at q in
        absurd (omega (arith, above y (rw b at n)))
    go false a true b k =
        let u : rank_in ls x ≡ l.rank = rw (a, b) at q in
        absurd (omega (arith, above x (rw a at m)))
    go false a false b k = k (rw a at m) (rw b at n) (rw (a, b) at q)

octet_in : (r : ℕ) (ls : List Level) → table_rule r ls ≡ true → (x : ℕ) → is_in ls x ≡ true → x < 256
octet_in r [] e x m = absurd (never (sym m))
octet_in r (l ∷ ls) e x m =
    ⊎_elim
    (λ p. let h : l.octet ≤ 255 = leb-true _ _ (and_left (leb l.octet 255) _ e) in omega (arith, eqb-true l.octet x p))
    (λ p. octet_in (r + 1) ls (ruled r l ls e).rest x p)
    (or_cases (eqb l.octet x) (is_in ls x) m)

-- Of the four.

pub level_octet : (x : ℕ) → is_level x ≡ true → x < 256
unfolding is_level
level_octet x m = octet_in 0 levels rule x m

pub level_rank : (x : ℕ) → is_level x ≡ true → rank_of x < 4
unfolding is_level rank_of
level_rank x m = (rank_from 0 levels rule x m).1

pub no_level_rank : (x : ℕ) → is_level x ≡ false → rank_of x ≡ 4
unfolding is_level rank_of
no_level_rank x m = rank_none levels x m

pub rank_told : (x y : ℕ) → is_level x ≡ true → is_level y ≡ true → rank_of x ≡ rank_of y → x ≡ y
unfolding is_level rank_of
rank_told x y m n q = told_in 0 levels rule x y m n q

pub levels_apart : (x y : ℕ) → is_level x ≡ true → is_level y ≡ true → (x ≡ y → ⊥) → 4 ≤ bits_apart 8 x y
unfolding is_level
levels_apart x y m n d = apart_in 0 levels rule x y m n d

-- an octet is of the four exactly when its rank is below 4
pub level_is : (x : ℕ) → is_level x ≡ ltb (rank_of x) 4
level_is x = go (is_level x) refl
  where
    go : (t : Bool) → is_level x ≡ t → is_level x ≡ ltb (rank_of x) 4
    go true p = p ∙ sym (lt-ltb (rank_of x) 4 (level_rank x p))
    go false p = p ∙ sym (ap (λ (k : ℕ). ltb k 4) (no_level_rank x p))

pub is_level_lem : (x : ℕ) → rank_of x < 4 → is_level x ≡ true
is_level_lem x h = level_is x ∙ lt-ltb (rank_of x) 4 h

pub ranked_most : (x : ℕ) → rank_of x ≤ 4
ranked_most x = go (is_level x) refl
  where
    go : (t : Bool) → is_level x ≡ t → rank_of x ≤ 4
    go true p = omega (arith, level_rank x p)
    go false p = omega (arith, no_level_rank x p)

-- what the code's test of a rank says
pub rank_level : (x : ℕ) → (rank_of x ≡ 4 → ⊥) → is_level x ≡ true
rank_level x h = is_level_lem x (omega (arith, ranked_most x))

pub rank_no_level : (x : ℕ) → rank_of x ≡ 4 → is_level x ≡ false
rank_no_level x h = level_is x ∙ ap (λ (k : ℕ). ltb k 4) h

pub level_ranked : (x : ℕ) (r : Option ℕ) → MatchOption r (rank_of x ≡ 4) (λ k. (rank_of x ≡ k) × (k < 4)) → is_some r ≡ true → is_level x ≡ true
level_ranked x (Some k) m e = is_level_lem x (omega (arith, m.0, m.1))
level_ranked x None m e = absurd (never (sym e))

-- the code's comparing of ranks
pub at_most_is : (a b : ℕ) → at_most a b ≡ (leb (rank_of a) (rank_of b) && ltb (rank_of b) 4)
unfolding at_most
at_most_is a b =
    same_yes (is_level a && (is_level b && leb (rank_of a) (rank_of b))) (leb (rank_of a) (rank_of b) && ltb (rank_of b) 4)
    (λ e.
    let r = and_right (is_level a) _ e in
    and_both (and_right (is_level b) _ r) (sym (level_is b) ∙ and_left (is_level b) _ r))
    (λ e.
    let l : rank_of a ≤ rank_of b = leb-true _ _ (and_left (leb (rank_of a) (rank_of b)) _ e) in
    let m : rank_of b < 4 = ltb-true _ _ (and_right (leb (rank_of a) (rank_of b)) _ e) in
    and_both (level_is a ∙ lt-ltb (rank_of a) 4 (omega arith)) (and_both (level_is b ∙ lt-ltb (rank_of b) 4 m) (le-leb _ _ l)))
