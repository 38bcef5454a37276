-- Of rows that rise and spaced runs, cutting by search says whether every category has a number, and finds the pieces that the rows cut out of the runs.
use mathlib.Core.Path.{◌≡◌, refl, sym, ◌∙◌, ap}
use mathlib.Core.Bool.{Bool, true, false}
use mathlib.Core.List.{List, [], ◌∷◌, ◌++◌, append_assoc}
use Prim.Native.Nat.{ℕ, zero, suc, ◌+◌, ◌-◌, ◌≤◌, ◌<◌, min}
use native.Mathlib.Omega.{arith}
use native.Mathlib.Decide.{dec_le}
use lib.ListN.{length, drop, get_or, length-drop}
use lib.Seq.{drop-cons, drop-drop, get_or-drop}
use borrow.Author.Tests.{le-leb, lt-leb}
use Rattle.label.specs.declared.Run.{Run}
use Rattle.label.specs.Runs.{run, spaced}
use Rattle.label.proofs.Bools.{never}
use Rattle.label.proofs.Runs.{first}
use Rattle.table.specs.declared.Row.{Row}
use Rattle.table.specs.Table.{no_row, rising}
use Rattle.table.specs.Numbers.{numbered}
use Rattle.table.proofs.Rows.{good}
use Rattle.renumber_keys.specs.Stages.{piece_key, row_pieces, pieces}
use Rattle.renumber_keys.proofs.Image.{Numbered, left}
use Rattle.renumber_keys.proofs.Pass.{Left, left_start, left_skip, left_stop, left_whole, left_cut, left_none, left_numbered, numbered_yes, numbered_none}
use Rattle.renumber_keys.proofs.Pieces.{above_none, below_skip, row_over}
use Rattle.renumber_keys.proofs.Cutting.{same_start, whole_piece, first_piece}
use Rattle.renumber_keys.proofs.Carrying.{pieces_none}
use Rattle.renumber_search.specs.Search.{end_of, bisect, gives_to, RunCut, cut_none, run_cut, Cuts, cuts_from}
use Rattle.renumber_search.specs.Theorems.{Skips}
use Rattle.renumber_search.proofs.Bisecting.{bisect_skips}
use Rattle.renumber_search.proofs.Cuts.{run_few}

-- Rows that lie behind a run, or behind where it begins, see no difference.
run_behind : (f : ℕ) (rs : List Row) (x : Run) (xs : List Run) → rising f rs ≡ true → x.high < f → pieces rs (x ∷ xs) ≡ pieces rs xs
run_behind f [] x xs e h = refl
run_behind f (r ∷ rs) x xs e h =
    let g = good f r rs e in
    rw (below_skip r x xs (omega (arith, g.floor)), run_behind (r.high + 1) rs x xs g.rest (omega (arith, g.floor, g.ordered)))

begun_behind : (f : ℕ) (rs : List Row) (a b h : ℕ) (xs : List Run) → rising f rs ≡ true → a ≤ f → b ≤ f → pieces rs (run a h ∷ xs) ≡ pieces rs (run b h ∷ xs)
begun_behind f [] a b h xs e p q = refl
begun_behind f (r ∷ rs) a b h xs e p q =
    let g = good f r rs e in
    rw (same_start r a b h xs (omega (arith, g.floor)) (omega (arith, g.floor)), begun_behind (r.high + 1) rs a b h xs g.rest (omega (arith, g.floor, g.ordered)) (omega (arith, g.floor, g.ordered)))

-- What is left of rows and runs says the same as the whole, and has the pieces that are not cut yet.
pub record Ahead (rows : List Row) (runs : List Run) (done : List ℕ) (rs : List Row) (xs : List Run) : Type 0 where
  pub left : Left rows runs rs xs
  pub rest : pieces rows runs ≡ done ++ pieces rs xs

module _ (rows : List Row) (runs : List Run) (done : List ℕ) (x : Run) (xs : List Run) where
  ahead_skip : (r : Row) (rs : List Row) → Ahead rows runs done (r ∷ rs) (x ∷ xs) → r.high < x.low → Ahead rows runs done rs (x ∷ xs)
  ahead_skip r rs a h =
      record {
        left = left_skip rows runs r rs x xs a.left h;
        rest = a.rest ∙ ap (λ (z : List ℕ). done ++ (z ++ pieces rs (x ∷ xs))) (row_over r x xs a.left.gaps h);
      }

  -- as often as rows are passed
  ahead_passes : (n from : ℕ) → from + n ≤ length rows → ((j : ℕ) → from ≤ j → j < from + n → end_of rows j < x.low) → Ahead rows runs done (drop from rows) (x ∷ xs) → Ahead rows runs done (drop (from + n) rows) (x ∷ xs)
  ahead_passes zero from h b a = let e : from + 0 ≡ from = omega arith in rw e a
  ahead_passes (suc n) from h b a =
      let e : from + suc n ≡ suc from + n = omega arith in
      let k : Ahead rows runs done (get_or rows from no_row ∷ drop (suc from) rows) (x ∷ xs) = rw (drop-cons rows from no_row (omega arith)) at a in
      rw e (ahead_passes n (suc from) (omega arith) (λ j p q. b j (omega arith) (omega arith)) (ahead_skip (get_or rows from no_row) (drop (suc from) rows) k (b from (omega arith) (omega arith))))

  -- from the row at hand to the first that ends at the run's low or after it
  pub ahead_found : (from r : ℕ) → from ≤ length rows → Skips rows from x.low r → Ahead rows runs done (drop from rows) (x ∷ xs) → Ahead rows runs done (drop r rows) (x ∷ xs)
  ahead_found from r h s a =
      let e : from + (r - from) ≡ r = omega (arith, s.onward) in
      rw e at (ahead_passes (r - from) from (omega (arith, s.onward, s.inside h)) (λ j p q. s.before j p (omega (arith, s.onward))) a)

-- the first row, where there is one, ends at the number or after it
abbrev Reaching : List Row → ℕ → Type 0
Reaching [] c = Unit {0}
Reaching (r ∷ rs) c = c ≤ r.high

-- What cutting a run by the rows at hand comes to.
record RunFound (rows : List Row) (runs : List Run) (done : List ℕ) (rs : List Row) (xs : List Run) (c : RunCut) : Type 0 where
  on : c.whole ≡ true → Ahead rows runs (done ++ c.keys) (drop c.passed rs) xs
  stop : c.whole ≡ false → Numbered rows runs → ⊥

module _ (rows : List Row) (runs : List Run) (xs : List Run) (high : ℕ) where
  found_none : (done : List ℕ) (rs : List Row) → (Numbered rows runs → ⊥) → RunFound rows runs done rs xs cut_none
  found_none done rs h = record { on = λ e. absurd (never (sym e)); stop = λ e. h }

  -- the row at hand
  module _ (done : List ℕ) (r : Row) (rs : List Row) (low : ℕ) (a : Ahead rows runs done (r ∷ rs) (run low high ∷ xs)) (t : low ≤ r.high) where
    abbrev x : Run
    x = run low high

    abbrev top : ℕ
    top = min high r.high

    gives_yes : r.low ≤ low → gives_to r low top ≡ true
    gives_yes h =
        let s = first 0 x xs a.left.gaps in
        let g = good 0 r rs a.left.rise in
        rw (le-leb r.low low h, le-leb low top (omega (arith, s.ordered)), le-leb (r.target + (top - r.low)) 65534 (omega (arith, g.end, g.ordered)))

    before : low < r.low → RunFound rows runs done (r ∷ rs) xs (run_cut (r ∷ rs) low high)
    before h = rw (lt-leb r.low low h) (found_none done (r ∷ rs) (left_stop rows runs r rs x xs a.left h))

    -- the run ends in the row
    inside : r.low ≤ low → high ≤ r.high → RunFound rows runs done (r ∷ rs) xs (run_cut (r ∷ rs) low high)
    inside h l =
        let s = first 0 x xs a.left.gaps in
        let g = good 0 r rs a.left.rise in
        let m : min high r.high ≡ high = omega arith in
        let p : pieces (r ∷ rs) (x ∷ xs) ≡ piece_key r low high ∷ pieces (r ∷ rs) xs =
        ap (λ (z : List ℕ). z ++ pieces rs (x ∷ xs)) (whole_piece r low high xs h s.ordered l) ∙ ap (λ (z : List ℕ). (piece_key r low high ∷ row_pieces r xs) ++ z) (run_behind (r.high + 1) rs x xs g.rest (omega arith)) in
        rw (gives_yes h, le-leb high r.high l, m)
        (record {
          on = λ e. record { left = left_whole rows runs r rs x xs a.left h l; rest = a.rest ∙ ap (λ (z : List ℕ). done ++ z) p ∙ sym (append_assoc done (piece_key r low high ∷ []) (pieces (r ∷ rs) xs)) };
          stop = λ e. absurd (never e);
        })

    -- the row ends in the run
    parted : r.low ≤ low → r.high < high
        → ((d : List ℕ) → Ahead rows runs d rs (left r x ∷ xs) → RunFound rows runs d rs xs (run_cut rs (r.high + 1) high))
        → RunFound rows runs done (r ∷ rs) xs (run_cut (r ∷ rs) low high)
    parted h l ih =
        let s = first 0 x xs a.left.gaps in
        let g = good 0 r rs a.left.rise in
        let m : min high r.high ≡ r.high = omega arith in
        let k : ℕ = piece_key r low r.high in
        let none : row_pieces r xs ≡ [] = above_none r (high + 2) xs s.rest (omega arith) in
        let p : pieces (r ∷ rs) (x ∷ xs) ≡ k ∷ pieces rs (left r x ∷ xs) =
        ap (λ (z : List ℕ). z ++ pieces rs (x ∷ xs)) (first_piece r low high xs h t l ∙ ap (λ (z : List ℕ). k ∷ z) none) ∙ ap (λ (z : List ℕ). k ∷ z) (begun_behind (r.high + 1) rs low (r.high + 1) high xs g.rest (omega arith) (omega arith)) in
        let b : Ahead rows runs (done ++ (k ∷ [])) rs (left r x ∷ xs) =
        record { left = left_cut rows runs r rs x xs a.left h t l; rest = a.rest ∙ ap (λ (z : List ℕ). done ++ z) p ∙ sym (append_assoc done (k ∷ []) (pieces rs (left r x ∷ xs))) } in
        let i : RunFound rows runs (done ++ (k ∷ [])) rs xs (run_cut rs (r.high + 1) high) = ih (done ++ (k ∷ [])) b in
        rw (gives_yes h, lt-leb high r.high l, m)
        (record {
          on = λ e. (let o = i.on e in record { left = o.left; rest = o.rest ∙ ap (λ (z : List ℕ). z ++ pieces (drop (run_cut rs (r.high + 1) high).passed rs) xs) (append_assoc done (k ∷ []) (run_cut rs (r.high + 1) high).keys) });
          stop = i.stop;
        })

  next_reaching : (f : ℕ) (rs : List Row) → rising f rs ≡ true → Reaching rs f
  next_reaching f [] e = tt
  next_reaching f (r ∷ rs) e = let g = good f r rs e in omega (arith, g.floor, g.ordered)

  run_found : (done : List ℕ) (rs : List Row) (low : ℕ) → Ahead rows runs done rs (run low high ∷ xs) → Reaching rs low → RunFound rows runs done rs xs (run_cut rs low high)
  run_found done [] low a t = found_none done [] (left_none rows runs (run low high) xs a.left)
  run_found done (r ∷ rs) low a t =
      elim (dec_le r.low low) [
        | yes h ↦ elim (dec_le high r.high) [
          | yes l ↦ inside done r rs low a t h l
          | no l ↦ parted done r rs low a t h (omega arith) (λ d b. run_found d rs (r.high + 1) b (next_reaching (r.high + 1) rs (good 0 r rs a.left.rise).rest))
        ]
        | no h ↦ before done r rs low a t (omega arith)
      ]

-- What cutting all runs comes to.
pub record AllFound (rows : List Row) (runs : List Run) (done : List ℕ) (c : Cuts) : Type 0 where
  pub answer : c.whole ≡ numbered rows runs
  pub cut : c.whole ≡ true → pieces rows runs ≡ done ++ c.keys

module _ (rows : List Row) (runs : List Run) (up : rising 0 rows ≡ true) (sp : spaced 0 runs ≡ true) where
  reached_at : (k c : ℕ) → (k < length rows → c ≤ end_of rows k) → Reaching (drop k rows) c
  reached_at k c h = go (drop k rows) refl
    where
      go : (rs : List Row) → drop k rows ≡ rs → Reaching rs c
      go [] e = tt
      go (r ∷ rs) e =
          let n : length (drop k rows) ≡ suc (length rs) = ap length e in
          let l : k < length rows = omega (arith, length-drop k rows) in
          let z : k + 0 ≡ k = omega arith in
          let g : get_or rows k no_row ≡ r = sym (rw z at (get_or-drop k rows 0 no_row)) ∙ ap (λ (q : List Row). get_or q 0 no_row) e in
          rw (← g) (h l)

  all_found : (j : ℕ) (xs : List Run) (done : List ℕ) → j ≤ length rows → Ahead rows runs done (drop j rows) xs → AllFound rows runs done (cuts_from rows j xs)
  all_found j [] done l a =
      record {
        answer = sym (numbered_yes rows runs (left_numbered rows runs (drop j rows) a.left));
        cut = λ e. a.rest ∙ ap (λ (z : List ℕ). done ++ z) (pieces_none (drop j rows));
      }
  all_found j (x ∷ xs) done l a =
      let k : ℕ = bisect rows j x.low in
      let s : Skips rows j x.low k = bisect_skips 0 rows j x.low up in
      let c : RunCut = run_cut (drop k rows) x.low x.high in
      let f : RunFound rows runs done (drop k rows) xs c = run_found rows runs xs x.high done (drop k rows) x.low (ahead_found rows runs done x xs j k l s a) (reached_at k x.low s.there) in
      go c.whole refl f (λ b w. all_found (k + c.passed) xs (done ++ c.keys) (omega (arith, (run_few (drop k rows) x.low x.high w).1, length-drop k rows, s.inside l)) b)
    where
      go : (b : Bool) → (run_cut (drop (bisect rows j x.low) rows) x.low x.high).whole ≡ b
          → RunFound rows runs done (drop (bisect rows j x.low) rows) xs (run_cut (drop (bisect rows j x.low) rows) x.low x.high)
          → (Ahead rows runs (done ++ (run_cut (drop (bisect rows j x.low) rows) x.low x.high).keys) (drop (bisect rows j x.low + (run_cut (drop (bisect rows j x.low) rows) x.low x.high).passed) rows) xs
          → (run_cut (drop (bisect rows j x.low) rows) x.low x.high).whole ≡ true
          → AllFound rows runs (done ++ (run_cut (drop (bisect rows j x.low) rows) x.low x.high).keys) (cuts_from rows (bisect rows j x.low + (run_cut (drop (bisect rows j x.low) rows) x.low x.high).passed) xs))
          → AllFound rows runs done (cuts_from rows j (x ∷ xs))
      go true w f ih =
          let k : ℕ = bisect rows j x.low in
          let c : RunCut = run_cut (drop k rows) x.low x.high in
          let b : Ahead rows runs (done ++ c.keys) (drop (k + c.passed) rows) xs = rw (drop-drop c.passed k rows) at (f.on w) in
          let i = ih b w in
          rw w (record { answer = i.answer; cut = λ e. i.cut e ∙ append_assoc done c.keys (cuts_from rows (k + c.passed) xs).keys })
      go false w f ih = rw w (record { answer = sym (numbered_none rows runs sp (f.stop w)); cut = λ e. absurd (never (sym e)) })

  -- from the first row and the first run on
  pub search_cuts : AllFound rows runs [] (cuts_from rows 0 runs)
  search_cuts = all_found 0 runs [] (omega arith) (record { left = left_start rows runs up sp; rest = refl })
