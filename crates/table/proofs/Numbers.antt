-- Laws of the numbers that rows give: what has a number has one, and each number comes from one.
use mathlib.Core.Path.{◌≡◌, refl, sym}
use mathlib.Core.Bool.{true, ◌&&◌}
use mathlib.Core.List.{List, [], ◌∷◌, map}
use mathlib.Core.Logic.{◌⊎◌, inl, inr, ⊎_elim}
use Prim.Native.Nat.{ℕ, ◌+◌, ◌-◌, ◌≤◌, ◌<◌}
use native.Mathlib.Omega.{arith}
use lib.Dec.{leb, ltb, eqb}
use borrow.Author.Tests.{le-leb, leb-true, ltb-true, eqb-true, eq-eqb}
use Rattle.label.specs.Runs.{in_run}
use Rattle.label.proofs.Bools.{never, and_left, and_right, or_cases, or_true_right}
use Rattle.label.proofs.Runs.{covers_in, covers_cases}
use Rattle.table.specs.declared.Row.{Row}
use Rattle.table.specs.Table.{target_end, rising, apart, apart_from_all, targets_apart}
use Rattle.table.specs.Numbers.{source, has_number, sends}
use Rattle.table.proofs.Rows.{good}

-- A row gives the category its number.
pub record At (r : Row) (c d : ℕ) : Type 0 where
  pub low : r.low ≤ c
  pub high : c ≤ r.high
  pub number : r.target + (c - r.low) ≡ d

pub sends_cases : (r : Row) (rs : List Row) (c d : ℕ) → sends (r ∷ rs) c d ≡ true → At r c d ⊎ (sends rs c d ≡ true)
sends_cases r rs c d e = ⊎_elim (λ q. inl (at q)) inr (or_cases (leb r.low c && (leb c r.high && eqb (r.target + (c - r.low)) d)) (sends rs c d) e)
  where
    at : (leb r.low c && (leb c r.high && eqb (r.target + (c - r.low)) d)) ≡ true → At r c d
    at q =
        let q1 = and_right (leb r.low c) _ q in
        record {
          low = leb-true _ _ (and_left (leb r.low c) _ q);
          high = leb-true _ _ (and_left (leb c r.high) _ q1);
          number = eqb-true _ _ (and_right (leb c r.high) _ q1);
        }

-- A number of a row is none of the rows that it is apart from.
clash : (r : Row) (rs : List Row) (f c c' d : ℕ) → apart_from_all r rs ≡ true → rising f rs ≡ true → At r c d → sends rs c' d ≡ true → ⊥
clash r [] f c c' d a e p k = never (sym k)
clash r (s ∷ rs) f c c' d a e p k =
    let g = good f s rs e in
    let x = and_left (apart r s) _ a in
    ⊎_elim
    (λ q. ⊎_elim
    (λ u. let v : target_end r < s.target = ltb-true _ _ u in omega (arith, p.low, p.high, p.number, q.low, q.high, q.number))
    (λ u. let v : target_end s < r.target = ltb-true _ _ u in omega (arith, p.low, p.high, p.number, q.low, q.high, q.number))
    (or_cases (ltb (target_end r) s.target) (ltb (target_end s) r.target) x))
    (λ q. clash r rs (s.high + 1) c c' d (and_right (apart r s) _ a) g.rest p q)
    (sends_cases s rs c' d k)

-- Each number comes from one category.
pub one_category : (f : ℕ) (rs : List Row) (c c' d : ℕ) → rising f rs ≡ true → targets_apart rs ≡ true → sends rs c d ≡ true → sends rs c' d ≡ true → c ≡ c'
one_category f [] c c' d e a h k = absurd (never (sym h))
one_category f (r ∷ rs) c c' d e a h k =
    let g = good f r rs e in
    let a1 = and_left (apart_from_all r rs) _ a in
    let a2 = and_right (apart_from_all r rs) _ a in
    ⊎_elim
    (λ p. ⊎_elim
    (λ q. omega (arith, p.low, p.number, q.low, q.number))
    (λ q. absurd (clash r rs (r.high + 1) c c' d a1 g.rest p q))
    (sends_cases r rs c' d k))
    (λ p. ⊎_elim
    (λ q. absurd (clash r rs (r.high + 1) c' c d a1 g.rest q p))
    (λ q. one_category (r.high + 1) rs c c' d g.rest a2 p q)
    (sends_cases r rs c' d k))
    (sends_cases r rs c d h)

sends_from : (f : ℕ) (rs : List Row) (c d : ℕ) → rising f rs ≡ true → sends rs c d ≡ true → f ≤ c
sends_from f [] c d e h = absurd (never (sym h))
sends_from f (r ∷ rs) c d e h =
    let g = good f r rs e in
    ⊎_elim (λ p. omega (arith, p.low, g.floor)) (λ p. omega (arith, sends_from (r.high + 1) rs c d g.rest p, g.floor, g.ordered)) (sends_cases r rs c d h)

-- Each category has one number at most.
pub one_number : (f : ℕ) (rs : List Row) (c d d' : ℕ) → rising f rs ≡ true → sends rs c d ≡ true → sends rs c d' ≡ true → d ≡ d'
one_number f [] c d d' e h k = absurd (never (sym h))
one_number f (r ∷ rs) c d d' e h k =
    let g = good f r rs e in
    ⊎_elim
    (λ p. ⊎_elim
    (λ q. omega (arith, p.number, q.number))
    (λ q. absurd (let z = sends_from (r.high + 1) rs c d' g.rest q in omega (arith, z, p.high)))
    (sends_cases r rs c d' k))
    (λ p. ⊎_elim
    (λ q. absurd (let z = sends_from (r.high + 1) rs c d g.rest p in omega (arith, z, q.high)))
    (λ q. one_number (r.high + 1) rs c d d' g.rest p q)
    (sends_cases r rs c d' k))
    (sends_cases r rs c d h)

-- A category that lies in a row has a number, and the number is a category.
pub has_number_lem : (f : ℕ) (rs : List Row) (c : ℕ) → rising f rs ≡ true → has_number rs c ≡ true → (d : ℕ) × (sends rs c d ≡ true) × (d ≤ 65534)
has_number_lem f [] c e h = absurd (never (sym h))
has_number_lem f (r ∷ rs) c e h =
    let g = good f r rs e in
    ⊎_elim
    (λ p. (
      r.target + (c - r.low),
      simp (le-leb r.low c p.0, le-leb c r.high p.1, eq-eqb (r.target + (c - r.low)) (r.target + (c - r.low)) refl),
      omega (arith, p.0, p.1, g.end),
    ))
    (λ p. let n = has_number_lem (r.high + 1) rs c g.rest p in (n.0, or_true_right (leb r.low c && (leb c r.high && eqb (r.target + (c - r.low)) n.0)) n.1, n.2))
    (covers_cases (source r) (map source rs) c h)

-- What has a number lies in a row.
pub number_has : (rs : List Row) (c d : ℕ) → sends rs c d ≡ true → has_number rs c ≡ true
number_has [] c d h = absurd (never (sym h))
number_has (r ∷ rs) c d h =
    ⊎_elim (λ p. covers_in (source r) (map source rs) c p.low p.high) (λ p. or_true_right (in_run (source r) c) (number_has rs c d p)) (sends_cases r rs c d h)
