-- Laws of the pass over rows and runs that finds whether every category has a number, and of the numbers of a set asked row by row.
use mathlib.Core.Path.{◌≡◌, refl, sym, ◌∙◌, ap}
use mathlib.Core.Bool.{Bool, true, false, not, ◌&&◌, ◌||◌}
use mathlib.Core.List.{List, [], ◌∷◌}
use mathlib.Core.Logic.{⊎_elim}
use Prim.Native.Nat.{ℕ, zero, suc, ◌+◌, ◌-◌, ◌≤◌, ◌<◌, max}
use native.Mathlib.Omega.{arith}
use lib.Dec.{leb, eqb}
use lib.ListN.{drop}
use borrow.Author.Tests.{le-leb, leb-true, eqb-true, eq-eqb}
use Rattle.label.specs.declared.Run.{Run}
use Rattle.label.specs.Runs.{run, covers, spaced}
use Rattle.label.proofs.Bools.{never, and_left, and_right, not_yes, less_or, or_true_right, same_yes, all_below_lem, below_all, implies_yes, yes_implies}
use Rattle.label.proofs.Runs.{First, first, lower, covers_top}
use Rattle.table.specs.declared.Row.{Row}
use Rattle.table.specs.Table.{target_end, rising}
use Rattle.table.specs.Numbers.{has_number, sends, any_below, numbered, in_image}
use Rattle.table.proofs.Rows.{good, rise_lower}
use Rattle.renumber_keys.specs.Stages.{hit, hits}
use Rattle.renumber_keys.proofs.Image.{Numbered, left, skip_to, skip_back, stop_before, stop_none, whole_to, whole_back, cut_spaced, cut_to, cut_back}

-- the first run from `f` on
abbrev pub clip : ℕ → List Run → List Run
clip f [] = []
clip f (x ∷ xs) = run (max x.low f) x.high ∷ xs

-- What is left of rows and runs says the same as the whole.
pub record Left (rows : List Row) (runs : List Run) (rs : List Row) (xs : List Run) : Type 0 where
  pub rise : rising 0 rs ≡ true
  pub gaps : spaced 0 xs ≡ true
  pub to : Numbered rows runs → Numbered rs xs
  pub back : Numbered rs xs → Numbered rows runs

pub left_start : (rows : List Row) (runs : List Run) → rising 0 rows ≡ true → spaced 0 runs ≡ true → Left rows runs rows runs
left_start rows runs e h = record { rise = e; gaps = h; to = λ k. k; back = λ k. k }

-- no run is left: the other rows change nothing
pub left_done : (rows : List Row) (runs : List Run) (r : Row) (rs : List Row) → Left rows runs (r ∷ rs) [] → Left rows runs rs []
left_done rows runs r rs k =
    record {
      rise = rise_lower (r.high + 1) 0 rs (omega arith) (good 0 r rs k.rise).rest;
      gaps = refl;
      to = λ q c e. absurd (never (sym e));
      back = λ q. k.back (λ c e. absurd (never (sym e)));
    }

module _ (rows : List Row) (runs : List Run) (r : Row) (rs : List Row) (x : Run) (xs : List Run) (k : Left rows runs (r ∷ rs) (x ∷ xs)) where
  pub left_skip : r.high < x.low → Left rows runs rs (x ∷ xs)
  left_skip h =
      record {
        rise = rise_lower (r.high + 1) 0 rs (omega arith) (good 0 r rs k.rise).rest;
        gaps = k.gaps;
        to = λ q. skip_to 0 r rs x xs k.rise k.gaps h (k.to q);
        back = λ q. k.back (skip_back 0 r rs x xs k.rise k.gaps q);
      }

  pub left_stop : x.low < r.low → Numbered rows runs → ⊥
  left_stop h q = stop_before 0 r rs x xs k.rise k.gaps h (k.to q)

  pub left_whole : r.low ≤ x.low → x.high ≤ r.high → Left rows runs (r ∷ rs) xs
  left_whole h l =
      let s = first 0 x xs k.gaps in
      record {
        rise = k.rise;
        gaps = lower (x.high + 2) 0 xs (omega arith) s.rest;
        to = λ q. whole_to 0 r rs x xs k.rise s.ordered h l (k.to q);
        back = λ q. k.back (whole_back 0 r rs x xs k.rise s.ordered h l q);
      }

  pub left_cut : r.low ≤ x.low → x.low ≤ r.high → r.high < x.high → Left rows runs rs (left r x ∷ xs)
  left_cut h m l =
      record {
        rise = rise_lower (r.high + 1) 0 rs (omega arith) (good 0 r rs k.rise).rest;
        gaps = cut_spaced 0 r rs x xs k.rise k.gaps h m l;
        to = λ q. cut_to 0 r rs x xs k.rise k.gaps h m l (k.to q);
        back = λ q. k.back (cut_back 0 r rs x xs k.rise k.gaps h m l q);
      }

pub left_none : (rows : List Row) (runs : List Run) (x : Run) (xs : List Run) → Left rows runs [] (x ∷ xs) → Numbered rows runs → ⊥
left_none rows runs x xs k q = stop_none x xs k.gaps (k.to q)

-- The first run from a number on, as the loop has it.
pub clip_same : (f g : ℕ) (xs : List Run) → spaced g xs ≡ true → f ≤ g → clip f xs ≡ xs
clip_same f g [] e h = refl
clip_same f g (x ∷ xs) e h =
    let s = first g x xs e in
    let m : max x.low f ≡ x.low = omega (arith, s.from) in
    λ i. record { low = m i; high = x.high } ∷ xs

pub clip_start : (xs : List Run) → clip 0 xs ≡ xs
clip_start [] = refl
clip_start (x ∷ xs) =
    let m : max x.low 0 ≡ x.low = omega arith in
    λ i. record { low = m i; high = x.high } ∷ xs

module _ (rows : List Row) (runs : List Run) (r : Row) (rs : List Row) (f : ℕ) (x : Run) (xs : List Run) (k : Left rows runs (r ∷ rs) (clip f (x ∷ xs))) where
  pub turn_whole : r.low ≤ max x.low f → x.high ≤ r.high → Left rows runs (r ∷ rs) (clip f xs)
  turn_whole h l =
      let s : First 0 (run (max x.low f) x.high) xs = first 0 (run (max x.low f) x.high) xs k.gaps in
      rw (clip_same f (x.high + 2) xs s.rest (omega (arith, s.ordered))) (left_whole rows runs r rs (run (max x.low f) x.high) xs k h l)

  pub turn_cut : r.low ≤ max x.low f → max x.low f ≤ r.high → r.high < x.high → Left rows runs rs (clip (r.high + 1) (x ∷ xs))
  turn_cut h m l =
      let e : max x.low (r.high + 1) ≡ r.high + 1 = omega arith in
      rw e (left_cut rows runs r rs (run (max x.low f) x.high) xs k h m l)

-- What is left, as the loop has it.
pub left_run : (rows : List Row) (runs : List Run) (rs : List Row) (f i : ℕ) (x : Run) → drop i runs ≡ x ∷ drop (i + 1) runs
    → Left rows runs rs (clip f (x ∷ drop (i + 1) runs)) → Left rows runs rs (clip f (drop i runs))
left_run rows runs rs f i x e k = rw e k

pub left_row : (rows : List Row) (runs : List Run) (xs : List Run) (j : ℕ) (r : Row) → drop j rows ≡ r ∷ drop (j + 1) rows
    → Left rows runs (r ∷ drop (j + 1) rows) xs → Left rows runs (drop j rows) xs
left_row rows runs xs j r e k = rw e k

-- The end of the pass.
pub left_numbered : (rows : List Row) (runs : List Run) (rs : List Row) → Left rows runs rs [] → Numbered rows runs
left_numbered rows runs rs k = k.back (λ c e. absurd (never (sym e)))

pub numbered_yes : (rows : List Row) (runs : List Run) → Numbered rows runs → numbered rows runs ≡ true
unfolding numbered
numbered_yes rows runs k = below_all 65535 (λ c. not (covers runs c) || has_number rows c) (λ c l. yes_implies (covers runs c) (has_number rows c) (k c))

pub numbered_all : (rows : List Row) (runs : List Run) → spaced 0 runs ≡ true → numbered rows runs ≡ true → Numbered rows runs
unfolding numbered
numbered_all rows runs s e c h =
    implies_yes (covers runs c) (has_number rows c) (all_below_lem 65535 (λ k. not (covers runs k) || has_number rows k) e c (omega (arith, covers_top 0 runs c s h))) h

pub numbered_none : (rows : List Row) (runs : List Run) → spaced 0 runs ≡ true → (Numbered rows runs → ⊥) → numbered rows runs ≡ false
numbered_none rows runs s h = not_yes (numbered rows runs) (λ e. h (numbered_all rows runs s e))

-- The numbers of a set, asked row by row, are those that come from its categories.

some_below : (n : ℕ) (p : ℕ → Bool) → any_below n p ≡ true → (c : ℕ) × (p c ≡ true)
unfolding any_below
some_below zero p e = absurd (never (sym e))
some_below (suc n) p e = go (p n) refl e (some_below n p)
  where
    go : (b : Bool) → p n ≡ b → (b || any_below n p) ≡ true → (any_below n p ≡ true → (c : ℕ) × (p c ≡ true)) → (c : ℕ) × (p c ≡ true)
    go true q e ih = (n, q)
    go false q e ih = ih e

below_some : (n : ℕ) (p : ℕ → Bool) (c : ℕ) → c < n → p c ≡ true → any_below n p ≡ true
unfolding any_below
below_some zero p c h e = absurd (omega arith)
below_some (suc n) p c h e =
    ⊎_elim (λ w. or_true_right (p n) (below_some n p c w e)) (λ w. let z : c ≡ n = omega arith in rw (ap p (sym z) ∙ e)) (less_or c n)

pub sends_hits : (f : ℕ) (rs : List Row) (xs : List Run) (c d : ℕ) → rising f rs ≡ true → covers xs c ≡ true → sends rs c d ≡ true → hits rs xs d ≡ true
sends_hits f [] xs c d e h k = absurd (never (sym k))
sends_hits f (r ∷ rs) xs c d e h k = go (leb r.low c && (leb c r.high && eqb (r.target + (c - r.low)) d)) refl k (λ w. sends_hits (r.high + 1) rs xs c d (good f r rs e).rest h w)
  where
    go : (b : Bool) → (leb r.low c && (leb c r.high && eqb (r.target + (c - r.low)) d)) ≡ b → (b || sends rs c d) ≡ true → (sends rs c d ≡ true → hits rs xs d ≡ true) → hits (r ∷ rs) xs d ≡ true
    go true q k ih =
        let q1 = and_right (leb r.low c) _ q in
        let lo : r.low ≤ c = leb-true _ _ (and_left (leb r.low c) _ q) in
        let hi : c ≤ r.high = leb-true _ _ (and_left (leb c r.high) _ q1) in
        let at : r.target + (c - r.low) ≡ d = eqb-true _ _ (and_right (leb c r.high) _ q1) in
        let back : r.low + (d - r.target) ≡ c = omega arith in
        rw back (simp (le-leb r.target d (omega arith), le-leb d (target_end r) (omega arith), h))
    go false q k ih = or_true_right (hit r xs d) (ih k)

pub hits_sends : (f : ℕ) (rs : List Row) (xs : List Run) (d : ℕ) → rising f rs ≡ true → hits rs xs d ≡ true → (c : ℕ) × (covers xs c ≡ true) × (sends rs c d ≡ true)
hits_sends f [] xs d e k = absurd (never (sym k))
hits_sends f (r ∷ rs) xs d e k = go (hit r xs d) refl k (good f r rs e).ordered (hits_sends (r.high + 1) rs xs d (good f r rs e).rest)
  where
    go : (b : Bool) → hit r xs d ≡ b → (b || hits rs xs d) ≡ true → r.low ≤ r.high → (hits rs xs d ≡ true → (c : ℕ) × (covers xs c ≡ true) × (sends rs c d ≡ true))
        → (c : ℕ) × (covers xs c ≡ true) × (sends (r ∷ rs) c d ≡ true)
    go true q k o ih =
        let q1 = and_right (leb r.target d) _ q in
        let lo : r.target ≤ d = leb-true _ _ (and_left (leb r.target d) _ q) in
        let hi : d ≤ target_end r = leb-true _ _ (and_left (leb d (target_end r)) _ q1) in (
          r.low + (d - r.target),
          and_right (leb d (target_end r)) _ q1,
          simp (le-leb r.low (r.low + (d - r.target)) (omega arith), le-leb (r.low + (d - r.target)) r.high (omega arith), eq-eqb (r.target + (r.low + (d - r.target) - r.low)) d (omega arith)),
        )
    go false q k o ih = let w = ih k in (w.0, w.1, or_true_right (leb r.low w.0 && (leb w.0 r.high && eqb (r.target + (w.0 - r.low)) d)) w.2)

pub image_hits : (rs : List Row) (xs : List Run) (d : ℕ) → rising 0 rs ≡ true → spaced 0 xs ≡ true → in_image rs xs d ≡ hits rs xs d
unfolding in_image
image_hits rs xs d e s =
    same_yes _ _
    (λ w. let c = some_below 65535 (λ c. covers xs c && sends rs c d) w in sends_hits 0 rs xs c.0 d e (and_left (covers xs c.0) _ c.1) (and_right (covers xs c.0) _ c.1))
    (λ w. let c = hits_sends 0 rs xs d e w in below_some 65535 (λ c. covers xs c && sends rs c d) c.0 (omega (arith, covers_top 0 xs c.0 s c.1)) (rw c.1 c.2))
