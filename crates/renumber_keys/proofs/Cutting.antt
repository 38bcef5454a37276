-- Laws of the pass that cuts the runs into the pieces of each row.
use mathlib.Core.Path.{◌≡◌, sym, ◌∙◌, ap}
use mathlib.Core.Bool.{true, false, true≢false}
use mathlib.Core.List.{List, [], ◌∷◌, ◌++◌, append_assoc, append-nil}
use Prim.Native.Nat.{ℕ, zero, suc, ◌+◌, ◌/◌, ◌%◌, ◌≤◌, ◌<◌, min, max}
use native.Mathlib.Omega.{arith}
use native.Mathlib.Decide.{dec_le}
use borrow.Author.Tests.{le-leb, lt-leb}
use lib.Dec.{leb}
use lib.ListN.{length, take, drop, get_or, set, drop_of_length-le}
use lib.Seq.{get_or-set_same, get_or-set_other, take-set-le, drop-append-le, length-take-le}
use Rattle.label.specs.declared.Run.{Run}
use Rattle.label.specs.Runs.{run, spaced}
use Rattle.label.proofs.Runs.{First, first}
use Rattle.label_keys.specs.Keys.{key_run, key_runs}
use Rattle.label.proofs.Steps.{next, used_up}
use Rattle.lists_sort.proofs.Merge.{put}
use Rattle.table.specs.declared.Row.{Row}
use Rattle.table.specs.Table.{no_row, target_end, rising}
use Rattle.table.specs.Numbers.{numbered}
use Rattle.table.proofs.Rows.{good}
use Rattle.renumber_keys.specs.Stages.{piece_key, row_pieces, Cut}
use Rattle.renumber_keys.proofs.Held.{key_at, no_key}
use Rattle.renumber_keys.proofs.Pass.{clip, Left, left_start, left_done, left_skip, left_stop, left_none, left_run, left_row, left_numbered, turn_whole, turn_cut, clip_same, clip_start, numbered_yes, numbered_none}
use Rattle.renumber_keys.proofs.Pieces.{above_none, below_skip, row_over}

-- a later row begins above an earlier one's end
floor_under : (f : ℕ) (rows : List Row) (q : ℕ) → rising f rows ≡ true → q < length rows → f ≤ (get_or rows q no_row).low
floor_under f [] q e h = absurd (omega arith)
floor_under f (r ∷ rows) zero e h = (good f r rows e).floor
floor_under f (r ∷ rows) (suc q) e h =
    let g = good f r rows e in
    omega (arith, floor_under (r.high + 1) rows q g.rest (omega arith), g.floor, g.ordered)

later_row : (f : ℕ) (rows : List Row) (j q : ℕ) → rising f rows ≡ true → j < q → q < length rows → (get_or rows j no_row).high < (get_or rows q no_row).low
later_row f [] j q e l h = absurd (omega arith)
later_row f (r ∷ rows) zero zero e l h = absurd (omega arith)
later_row f (r ∷ rows) zero (suc q) e l h = omega (arith, floor_under (r.high + 1) rows q (good f r rows e).rest (omega arith))
later_row f (r ∷ rows) (suc j) zero e l h = absurd (omega arith)
later_row f (r ∷ rows) (suc j) (suc q) e l h = later_row (r.high + 1) rows j q (good f r rows e).rest (omega arith) (omega arith)

-- The rows before `j` have their pieces, row `j` those of the runs before what is left, and the later rows none.
pub record Cutting (rows : List Row) (runs : List Run) (cut start : List ℕ) (w i j f : ℕ) : Type 0 where
  pub below : (q : ℕ) → q ≤ j → get_or start q 0 ≤ w
  pub done : (q : ℕ) → q < j → q < length rows → drop (get_or start q 0) (take (get_or start (q + 1) 0) cut) ≡ row_pieces (get_or rows q no_row) runs
  pub here : j < length rows → drop (get_or start j 0) (take w cut) ++ row_pieces (get_or rows j no_row) (clip f (drop i runs)) ≡ row_pieces (get_or rows j no_row) runs
  pub ahead : (q : ℕ) → j < q → q < length rows → row_pieces (get_or rows q no_row) (clip f (drop i runs)) ≡ row_pieces (get_or rows q no_row) runs

pub cutting_start : (rows : List Row) (runs : List Run) (cut start : List ℕ) → 0 < length start → Cutting rows runs cut (set start 0 0) 0 0 0 0
cutting_start rows runs cut start h =
    record {
      below = λ q l. let z : q ≡ 0 = omega arith in rw (z, get_or-set_same start 0 0 0 h) (omega arith);
      done = λ q l k. absurd (omega arith);
      here = λ k. rw (get_or-set_same start 0 0 0 h, clip_start runs);
      ahead = λ q l k. rw (clip_start runs);
    }

module _ (rows : List Row) (runs : List Run) (cut start : List ℕ) (w i j f : ℕ) (b : Cutting rows runs cut start w i j f) where
  -- the row has no more pieces
  row_done : (j < length rows → row_pieces (get_or rows j no_row) (clip f (drop i runs)) ≡ []) → j + 1 < length start → Cutting rows runs cut (set start (j + 1) w) w i (j + 1) f
  row_done over h =
      record {
        below = λ q l. elim (dec_le q j) [ yes u ↦ (let z : (q ≡ j + 1 → ⊥) = λ e. omega arith in rw (get_or-set_other start (j + 1) q w 0 z) (b.below q u)) | no u ↦ (let z : q ≡ j + 1 = omega arith in rw (z, get_or-set_same start (j + 1) w 0 h) (omega arith)) ];
        done = λ q l k. elim (dec_le (q + 1) j) [ yes u ↦ before q u k | no u ↦ last q (omega arith) k ];
        here = λ k. rw (get_or-set_same start (j + 1) w 0 h, used_up cut w w (omega arith)) (b.ahead (j + 1) (omega arith) k);
        ahead = λ q l k. b.ahead q (omega arith) k;
      }
    where
      before : (q : ℕ) → q + 1 ≤ j → q < length rows
          → drop (get_or (set start (j + 1) w) q 0) (take (get_or (set start (j + 1) w) (q + 1) 0) cut) ≡ row_pieces (get_or rows q no_row) runs
      before q u k =
          let y : (q ≡ j + 1 → ⊥) = λ e. omega arith in
          let z : (q + 1 ≡ j + 1 → ⊥) = λ e. omega arith in
          rw (get_or-set_other start (j + 1) q w 0 y, get_or-set_other start (j + 1) (q + 1) w 0 z) (b.done q (omega arith) k)

      last : (q : ℕ) → q ≡ j → q < length rows
          → drop (get_or (set start (j + 1) w) q 0) (take (get_or (set start (j + 1) w) (q + 1) 0) cut) ≡ row_pieces (get_or rows q no_row) runs
      last q e k =
          let y : (j ≡ j + 1 → ⊥) = λ e. omega arith in
          let k1 : j < length rows = omega arith in
          rw (e, get_or-set_other start (j + 1) j w 0 y, get_or-set_same start (j + 1) w 0 h)
          (sym (append-nil (drop (get_or start j 0) (take w cut))) ∙ ap (λ (z : List ℕ). drop (get_or start j 0) (take w cut) ++ z) (sym (over k1)) ∙ b.here k1)

  pub none_left : drop i runs ≡ [] → j + 1 < length start → Cutting rows runs cut (set start (j + 1) w) w i (j + 1) f
  none_left e h = row_done (λ k. rw e) h

  -- one more piece of the row
  one_piece : (p i' f' : ℕ) → w < length cut
      → row_pieces (get_or rows j no_row) (clip f (drop i runs)) ≡ p ∷ row_pieces (get_or rows j no_row) (clip f' (drop i' runs))
      → ((q : ℕ) → j < q → q < length rows → row_pieces (get_or rows q no_row) (clip f (drop i runs)) ≡ row_pieces (get_or rows q no_row) (clip f' (drop i' runs)))
      → Cutting rows runs (set cut w p) start (w + 1) i' j f'
  one_piece p i' f' l e a =
      record {
        below = λ q u. omega (arith, b.below q u);
        done = λ q u k. rw (take-set-le (get_or start (q + 1) 0) cut w p (b.below (q + 1) (omega arith))) (b.done q u k);
        here = λ k.
            let n : length (take w cut) ≡ w = length-take-le w cut (omega arith) in
            rw (put cut w p l, drop-append-le (get_or start j 0) (take w cut) (p ∷ []) (omega (arith, b.below j (omega arith))))
            (append_assoc (drop (get_or start j 0) (take w cut)) (p ∷ []) (row_pieces (get_or rows j no_row) (clip f' (drop i' runs)))
            ∙ ap (λ (z : List ℕ). drop (get_or start j 0) (take w cut) ++ z) (sym e)
            ∙ b.here k);
        ahead = λ q u k. sym (a q u k) ∙ b.ahead q u k;
      }

-- over plain numbers
pub same_start : (r : Row) (a c h : ℕ) (xs : List Run) → a ≤ r.low → c ≤ r.low → row_pieces r (run a h ∷ xs) ≡ row_pieces r (run c h ∷ xs)
same_start r a c h xs p q =
    let m : max a r.low ≡ r.low = omega arith in
    let n : max c r.low ≡ r.low = omega arith in
    rw (m, n)

pub whole_piece : (r : Row) (a h : ℕ) (xs : List Run) → r.low ≤ a → a ≤ h → h ≤ r.high → row_pieces r (run a h ∷ xs) ≡ piece_key r a h ∷ row_pieces r xs
whole_piece r a h xs p o q =
    let m : max a r.low ≡ a = omega arith in
    let n : min h r.high ≡ h = omega arith in
    rw (m, n) (simp (le-leb a h o))

pub first_piece : (r : Row) (a h : ℕ) (xs : List Run) → r.low ≤ a → a ≤ r.high → r.high < h → row_pieces r (run a h ∷ xs) ≡ piece_key r a r.high ∷ row_pieces r xs
first_piece r a h xs p o q =
    let m : max a r.low ≡ a = omega arith in
    let n : min h r.high ≡ r.high = omega arith in
    rw (m, n) (simp (le-leb a r.high o))

-- The turns of the pass, at the run `x` and the row `r`.
module _ (rows : List Row) (runs : List Run) (cut start : List ℕ) (w i j f : ℕ) (b : Cutting rows runs cut start w i j f) (r : Row) (g : get_or rows j no_row ≡ r)
    (x : Run) (e : drop i runs ≡ x ∷ drop (i + 1) runs) (up : rising 0 rows ≡ true) (k : spaced 0 (clip f (x ∷ drop (i + 1) runs)) ≡ true) where
  rest : First 0 (run (max x.low f) x.high) (drop (i + 1) runs)
  rest = first 0 (run (max x.low f) x.high) (drop (i + 1) runs) k

  pub turn_over : r.high < max x.low f → j + 1 < length start → Cutting rows runs cut (set start (j + 1) w) w i (j + 1) f
  turn_over h l = row_done rows runs cut start w i j f b (λ u. rw (g, e) (row_over r (run (max x.low f) x.high) (drop (i + 1) runs) k h)) l

  inside_piece : r.low ≤ max x.low f → x.high ≤ r.high → w < length cut → Cutting rows runs (set cut w (piece_key r (max x.low f) x.high)) start (w + 1) (i + 1) j f
  inside_piece h l m =
      let same : clip f (drop (i + 1) runs) ≡ drop (i + 1) runs = clip_same f (x.high + 2) (drop (i + 1) runs) rest.rest (omega (arith, rest.ordered)) in
      one_piece rows runs cut start w i j f b (piece_key r (max x.low f) x.high) (i + 1) f m
      (rw (same, g, e) (whole_piece r (max x.low f) x.high (drop (i + 1) runs) h rest.ordered l))
      (λ q u v. rw (same, e) (below_skip (get_or rows q no_row) (run (max x.low f) x.high) (drop (i + 1) runs) (omega (arith, rw g at (later_row 0 rows j q up u v)))))

  pub turn_inside : (p : ℕ) → p ≡ piece_key r (max x.low f) x.high → r.low ≤ max x.low f → x.high ≤ r.high → w < length cut → Cutting rows runs (set cut w p) start (w + 1) (i + 1) j f
  turn_inside p y h l m = rw y (inside_piece h l m)

  parted_piece : r.low ≤ max x.low f → max x.low f ≤ r.high → r.high < x.high → w < length cut → spaced 0 (clip (r.high + 1) (x ∷ drop (i + 1) runs)) ≡ true → j + 1 < length start
      → Cutting rows runs (set cut w (piece_key r (max x.low f) r.high)) (set start (j + 1) (w + 1)) (w + 1) i (j + 1) (r.high + 1)
  parted_piece h o l m s t =
      let n : r.high < max x.low (r.high + 1) = omega arith in
      let over : row_pieces r (clip (r.high + 1) (x ∷ drop (i + 1) runs)) ≡ [] = row_over r (run (max x.low (r.high + 1)) x.high) (drop (i + 1) runs) s n in
      let none : row_pieces r (drop (i + 1) runs) ≡ [] = above_none r (x.high + 2) (drop (i + 1) runs) rest.rest (omega arith) in
      let c : Cutting rows runs (set cut w (piece_key r (max x.low f) r.high)) start (w + 1) i j (r.high + 1) =
      one_piece rows runs cut start w i j f b (piece_key r (max x.low f) r.high) i (r.high + 1) m
      (rw (g, e) (rw over (first_piece r (max x.low f) x.high (drop (i + 1) runs) h o l ∙ rw none)))
      (λ q u v.
      let z : r.high < (get_or rows q no_row).low = rw g at (later_row 0 rows j q up u v) in
      rw e (same_start (get_or rows q no_row) (max x.low f) (max x.low (r.high + 1)) x.high (drop (i + 1) runs) (omega arith) (omega arith)))
      in
      row_done rows runs (set cut w (piece_key r (max x.low f) r.high)) start (w + 1) i j (r.high + 1) c (λ u. rw (g, e) over) t

  pub turn_parted : (p : ℕ) → p ≡ piece_key r (max x.low f) r.high → r.low ≤ max x.low f → max x.low f ≤ r.high → r.high < x.high → w < length cut
      → spaced 0 (clip (r.high + 1) (x ∷ drop (i + 1) runs)) ≡ true → j + 1 < length start
      → Cutting rows runs (set cut w p) (set start (j + 1) (w + 1)) (w + 1) i (j + 1) (r.high + 1)
  turn_parted p y h o l m s t = rw y (parted_piece h o l m s t)

-- What the pass keeps, at the run `i` from `f` on and the row `j`, with w pieces cut.
pub record Turning (rows : List Row) (own cut start : List ℕ) (w i j f : ℕ) : Type 0 where
  pub run_place : i ≤ length own
  pub row_place : j ≤ length rows
  pub few : w ≤ i + j
  pub left : Left rows (key_runs own) (drop j rows) (clip f (drop i (key_runs own)))
  pub cutting : Cutting rows (key_runs own) cut start w i j f

pub turning_start : (rows : List Row) (own cut start : List ℕ) → rising 0 rows ≡ true → spaced 0 (key_runs own) ≡ true → 0 < length start → Turning rows own cut (set start 0 0) 0 0 0 0
turning_start rows own cut start e s h =
    record {
      run_place = omega arith;
      row_place = omega arith;
      few = omega arith;
      left = rw (clip_start (key_runs own)) (left_start rows (key_runs own) e s);
      cutting = cutting_start rows (key_runs own) cut start h;
    }

module _ {rows : List Row} {own cut start : List ℕ} {w i j f : ℕ} (up : rising 0 rows ≡ true) (gaps : spaced 0 (key_runs own) ≡ true) (t : Turning rows own cut start w i j f) where
  row_at : j < length rows → drop j rows ≡ get_or rows j no_row ∷ drop (j + 1) rows
  row_at h = next no_row rows j h

  -- no run is left
  pub turned_none : length own ≤ i → j < length rows → j + 1 < length start → Turning rows own cut (set start (j + 1) w) w i (j + 1) f
  turned_none h k l =
      let none : drop i (key_runs own) ≡ [] = no_key own i h in
      record {
        run_place = t.run_place;
        row_place = omega arith;
        few = omega (arith, t.few);
        left = rw none (left_done rows (key_runs own) (get_or rows j no_row) (drop (j + 1) rows) (rw (row_at k, none) at t.left));
        cutting = none_left rows (key_runs own) cut start w i j f t.cutting none l;
      }

  -- The turn at a run and a row.
  module _ (h : i < length own) (k : j < length rows) {r : Row} (is : r ≡ get_or rows j no_row) where
    abbrev low : ℕ
    low = max (get_or own i 0 / 65536) f

    abbrev high : ℕ
    high = get_or own i 0 % 65536

    row_here : drop j rows ≡ r ∷ drop (j + 1) rows
    row_here = row_at k ∙ ap (λ (z : Row). z ∷ drop (j + 1) rows) (sym is)

    run_here : drop i (key_runs own) ≡ key_run (get_or own i 0) ∷ drop (i + 1) (key_runs own)
    run_here = key_at own i h

    standing : Left rows (key_runs own) (r ∷ drop (j + 1) rows) (clip f (key_run (get_or own i 0) ∷ drop (i + 1) (key_runs own)))
    standing = rw (row_here, run_here) at t.left

    pub row_ends : target_end r ≤ 65534
    row_ends = (good 0 r (drop (j + 1) rows) standing.rise).end

    pub run_ordered : low ≤ high
    run_ordered = (first 0 (run low high) (drop (i + 1) (key_runs own)) standing.gaps).ordered

    -- the run begins below the row: a category has no number
    pub turned_away : (cut' start' : List ℕ) → low < r.low → Cut rows (key_runs own) false cut' start'
    turned_away cut' start' o =
        record {
          answer = sym (numbered_none rows (key_runs own) gaps (left_stop rows (key_runs own) r (drop (j + 1) rows) (run low high) (drop (i + 1) (key_runs own)) standing o));
          inside = λ e. absurd (true≢false (sym e));
          each = λ e. absurd (true≢false (sym e));
        }

    -- the row ends below the run
    pub turned_over : r.high < low → j + 1 < length start → Turning rows own cut (set start (j + 1) w) w i (j + 1) f
    turned_over o l =
        record {
          run_place = t.run_place;
          row_place = omega arith;
          few = omega (arith, t.few);
          left =
              left_run rows (key_runs own) (drop (j + 1) rows) f i (key_run (get_or own i 0)) run_here
              (left_skip rows (key_runs own) r (drop (j + 1) rows) (run low high) (drop (i + 1) (key_runs own)) standing o);
          cutting = turn_over rows (key_runs own) cut start w i j f t.cutting r (sym is) (key_run (get_or own i 0)) run_here up standing.gaps o l;
        }

    -- the run ends in the row
    pub turned_inside : (p : ℕ) → p ≡ piece_key r low high → r.low ≤ low → high ≤ r.high → w < length cut → Turning rows own (set cut w p) start (w + 1) (i + 1) j f
    turned_inside p y o l room =
        record {
          run_place = omega arith;
          row_place = t.row_place;
          few = omega (arith, t.few);
          left =
              left_row rows (key_runs own) (clip f (drop (i + 1) (key_runs own))) j r row_here
              (turn_whole rows (key_runs own) r (drop (j + 1) rows) f (key_run (get_or own i 0)) (drop (i + 1) (key_runs own)) standing o l);
          cutting = turn_inside rows (key_runs own) cut start w i j f t.cutting r (sym is) (key_run (get_or own i 0)) run_here up standing.gaps p y o l room;
        }

    -- the row ends in the run
    pub turned_parted : (p : ℕ) → p ≡ piece_key r low r.high → r.low ≤ low → low ≤ r.high → r.high < high → w < length cut → j + 1 < length start
        → Turning rows own (set cut w p) (set start (j + 1) (w + 1)) (w + 1) i (j + 1) (r.high + 1)
    turned_parted p y o m l room place =
        let after = turn_cut rows (key_runs own) r (drop (j + 1) rows) f (key_run (get_or own i 0)) (drop (i + 1) (key_runs own)) standing o m l in
        record {
          run_place = t.run_place;
          row_place = omega arith;
          few = omega (arith, t.few);
          left = left_run rows (key_runs own) (drop (j + 1) rows) (r.high + 1) i (key_run (get_or own i 0)) run_here after;
          cutting = turn_parted rows (key_runs own) cut start w i j f t.cutting r (sym is) (key_run (get_or own i 0)) run_here up standing.gaps p y o m l room after.gaps place;
        }

  -- past the last row
  module _ (over : length rows ≤ j) (room : length own + length rows ≤ length cut) where
    no_row_left : drop j rows ≡ []
    no_row_left = drop_of_length-le rows {i = j} over

    whole_told : leb (length own) i ≡ numbered rows (key_runs own)
    whole_told = elim (dec_le (length own) i) [ yes u ↦ all_seen u | no u ↦ one_left (omega arith) ]
      where
        all_seen : length own ≤ i → leb (length own) i ≡ numbered rows (key_runs own)
        all_seen u = le-leb _ _ u ∙ sym (numbered_yes rows (key_runs own) (left_numbered rows (key_runs own) [] (rw (no_row_left, no_key own i u) at t.left)))

        one_left : i < length own → leb (length own) i ≡ numbered rows (key_runs own)
        one_left l =
            let x = key_run (get_or own i 0) in
            lt-leb _ _ l
            ∙ sym (numbered_none rows (key_runs own) gaps (left_none rows (key_runs own) (run (max x.low f) x.high) (drop (i + 1) (key_runs own)) (rw (no_row_left, key_at own i l) at t.left)))

    pub turned_all : Cut rows (key_runs own) (leb (length own) i) cut start
    turned_all =
        record {
          answer = whole_told;
          inside = λ e q l. omega (arith, t.cutting.below (q + 1) (omega arith), t.few, t.run_place, t.row_place);
          each = λ e q l. t.cutting.done q (omega arith) l;
        }
