-- Laws of one step of the pass over rows and runs: what a row asks of a run.
use mathlib.Core.Path.{◌≡◌, refl, sym, ◌∙◌}
use mathlib.Core.Bool.{true, false}
use mathlib.Core.List.{List, [], ◌∷◌, map}
use mathlib.Core.Logic.{⊎_elim}
use Prim.Native.Nat.{ℕ, ◌+◌, ◌≤◌, ◌<◌}
use native.Mathlib.Omega.{arith}
use native.Mathlib.Decide.{dec_le}
use borrow.Author.Tests.{le-leb, lt-leb}
use Rattle.label.specs.declared.Run.{Run}
use Rattle.label.specs.Runs.{run, in_run, covers, spaced}
use Rattle.label.proofs.Bools.{never, less_or, or_true_right}
use Rattle.label.proofs.Runs.{covers_in, covers_under, covers_over, covers_cases, covers_below, first}
use Rattle.table.specs.declared.Row.{Row}
use Rattle.table.specs.Table.{rising}
use Rattle.table.specs.Numbers.{source, has_number}
use Rattle.table.proofs.Rows.{good}

-- every category of the runs has a number
abbrev pub Numbered : List Row → List Run → Type 0
Numbered rs xs = (c : ℕ) → covers xs c ≡ true → has_number rs c ≡ true

pub row_below : (f : ℕ) (rs : List Row) (c : ℕ) → rising f rs ≡ true → c < f → has_number rs c ≡ false
row_below f [] c e h = refl
row_below f (r ∷ rs) c e h =
    let s = good f r rs e in
    covers_under (source r) (map source rs) c (omega arith) ∙ row_below (r.high + 1) rs c s.rest (omega arith)

-- The first row ends before the first run begins.
module _ (f : ℕ) (r : Row) (rs : List Row) (x : Run) (xs : List Run) (rise : rising f (r ∷ rs) ≡ true) (sp : spaced 0 (x ∷ xs) ≡ true) where
  above : (c : ℕ) → c < x.low → covers (x ∷ xs) c ≡ false
  above c h = let s = first 0 x xs sp in covers_under x xs c h ∙ covers_below (x.high + 2) xs c s.rest (omega arith)

  pub skip_to : r.high < x.low → Numbered (r ∷ rs) (x ∷ xs) → Numbered rs (x ∷ xs)
  skip_to h k c e =
      ⊎_elim
      (λ w. absurd (never (sym e ∙ above c w)))
      (λ w. sym (covers_over (source r) (map source rs) c (omega arith)) ∙ k c e)
      (less_or c x.low)

  pub skip_back : Numbered rs (x ∷ xs) → Numbered (r ∷ rs) (x ∷ xs)
  skip_back k c e = or_true_right (in_run (source r) c) (k c e)

  -- the first run begins where no row is
  pub stop_before : x.low < r.low → Numbered (r ∷ rs) (x ∷ xs) → ⊥
  stop_before h k =
      let s = first 0 x xs sp in
      let g = good f r rs rise in
      never (sym (k x.low (covers_in x xs x.low (omega arith) s.ordered)) ∙ covers_under (source r) (map source rs) x.low h ∙ row_below (r.high + 1) rs x.low g.rest (omega arith))

pub stop_none : (x : Run) (xs : List Run) → spaced 0 (x ∷ xs) ≡ true → Numbered [] (x ∷ xs) → ⊥
stop_none x xs sp k = let s = first 0 x xs sp in never (sym (k x.low (covers_in x xs x.low (omega arith) s.ordered)))

-- The first run lies in the first row.
module _ (f : ℕ) (r : Row) (rs : List Row) (x : Run) (xs : List Run) (rise : rising f (r ∷ rs) ≡ true) (ord : x.low ≤ x.high) (h : r.low ≤ x.low) (l : x.high ≤ r.high) where
  pub whole_to : Numbered (r ∷ rs) (x ∷ xs) → Numbered (r ∷ rs) xs
  whole_to k c e = k c (or_true_right (in_run x c) e)

  pub whole_back : Numbered (r ∷ rs) xs → Numbered (r ∷ rs) (x ∷ xs)
  whole_back k c e = ⊎_elim (λ w. covers_in (source r) (map source rs) c (omega arith) (omega arith)) (λ w. k c w) (covers_cases x xs c e)

-- The first row ends inside the first run.
abbrev pub front : Row → Run → Run
front r x = run x.low r.high

abbrev pub left : Row → Run → Run
left r x = run (r.high + 1) x.high

module _ (f : ℕ) (r : Row) (rs : List Row) (x : Run) (xs : List Run) (rise : rising f (r ∷ rs) ≡ true) (sp : spaced 0 (x ∷ xs) ≡ true) (h : r.low ≤ x.low) (m : x.low ≤ r.high) (l : r.high < x.high) where
  pub cut_spaced : spaced 0 (left r x ∷ xs) ≡ true
  cut_spaced =
      let s = first 0 x xs sp in
      simp (le-leb 0 (r.high + 1) (omega arith), le-leb (r.high + 1) x.high (omega arith), le-leb x.high 65534 s.top) s.rest

  cut_covers : (c : ℕ) → covers (x ∷ xs) c ≡ covers (front r x ∷ left r x ∷ xs) c
  cut_covers c = elim (dec_le c r.high) [ yes u ↦ simp (le-leb c r.high u, le-leb c x.high (omega arith), lt-leb (r.high + 1) c (omega arith)) | no u ↦ simp (le-leb x.low c (omega arith), lt-leb c r.high (omega arith), le-leb (r.high + 1) c (omega arith)) ]

  pub cut_to : Numbered (r ∷ rs) (x ∷ xs) → Numbered rs (left r x ∷ xs)
  cut_to k =
      skip_to f r rs (left r x) xs rise cut_spaced (omega arith)
      (λ c e. k c (cut_covers c ∙ or_true_right (in_run (front r x) c) e))

  pub cut_back : Numbered rs (left r x ∷ xs) → Numbered (r ∷ rs) (x ∷ xs)
  cut_back k c e =
      whole_back f r rs (front r x) (left r x ∷ xs) rise m h (omega arith) (skip_back f r rs (left r x) xs rise cut_spaced k) c (sym (cut_covers c) ∙ e)
