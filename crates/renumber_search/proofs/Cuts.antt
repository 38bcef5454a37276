-- Laws of the loops that cut runs at the ends of rows.
use mathlib.Core.Path.{◌≡◌, refl, sym, ◌∙◌, ap}
use mathlib.Core.Bool.{Bool, true, false, cond}
use mathlib.Core.List.{List, [], ◌∷◌, ◌++◌, append_assoc, append-nil}
use Prim.Native.Nat.{ℕ, suc, ◌+◌, ◌-◌, ◌≤◌, ◌<◌, min}
use native.Mathlib.Omega.{arith}
use lib.Dec.{leb}
use lib.ListN.{length, take, drop, get_or, set, length-append, length-set, length-drop, length-map, drop_of_length-le, get_or-map}
use lib.Seq.{set_at, append_snoc, length-take-le, drop-cons, drop-drop, take_at, drop_at}
use borrow.Author.Tests.{le-leb, lt-leb, leb-true}
use Rattle.label.proofs.Bools.{never, and_left, and_right}
use Rattle.lists.specs.Lists.{paint}
use Rattle.lists.proofs.Laws.{paint_none}
use Rattle.label.specs.declared.Run.{Run}
use Rattle.label.proofs.Steps.{next}
use Rattle.label_keys.specs.Keys.{key_run, key_runs}
use Rattle.table.specs.declared.Row.{Row}
use Rattle.table.specs.Table.{no_row}
use Rattle.renumber_keys.specs.Stages.{piece_key}
use Rattle.renumber_search.specs.Search.{bisect, gives_to, RunCut, cut_none, cut_last, cut_more, run_cut, Cuts, cuts_on, cuts_from, over}
use Rattle.renumber_search.specs.Stages.{RunIsCut, RunFails, AllFail}
use Rattle.renumber_search.proofs.Bisecting.{bisect_on}

-- One number more behind those that were written
paint_more : (w : ℕ) (ks was : List ℕ) (p : ℕ) → w + length ks < length was → set (paint w ks was) (w + length ks) p ≡ paint w (ks ++ (p ∷ [])) was
paint_more w ks was p h =
    let n : length (take w was ++ ks) ≡ w + length ks = length-append (take w was) ks ∙ ap (λ (k : ℕ). k + length ks) (length-take-le w was (omega arith)) in
    let m : w + length (ks ++ (p ∷ [])) ≡ suc (w + length ks) = omega (arith, length-append ks (p ∷ [])) in
    ap (λ (z : List ℕ). set z (w + length ks) p) (sym (append_assoc (take w was) ks (drop (w + length ks) was)))
    ∙ ap (λ (z : List ℕ). set ((take w was ++ ks) ++ z) (w + length ks) p) (drop-cons was (w + length ks) 0 h)
    ∙ set_at (take w was ++ ks) (get_or was (w + length ks) 0) (drop (suc (w + length ks)) was) p (w + length ks) n
    ∙ append_assoc (take w was) ks (p ∷ drop (suc (w + length ks)) was)
    ∙ ap (λ (z : List ℕ). take w was ++ z) (sym (append_snoc ks p (drop (suc (w + length ks)) was)) ∙ ap (λ (k : ℕ). (ks ++ (p ∷ [])) ++ drop k was) (sym m))

paint_over : (a b was : List ℕ) → paint (length a) b (over a was) ≡ over (a ++ b) was
paint_over a b was =
    ap (λ (z : List ℕ). z ++ (b ++ drop (length a + length b) (over a was))) (take_at a (drop (length a) was) (length a) refl)
    ∙ ap (λ (z : List ℕ). a ++ (b ++ z)) (sym (drop-drop (length b) (length a) (over a was)) ∙ ap (drop (length b)) (drop_at a (drop (length a) was) (length a) refl) ∙ drop-drop (length b) (length a) was)
    ∙ sym (append_assoc a b (drop (length a + length b) was))
    ∙ ap (λ (k : ℕ). (a ++ b) ++ drop k was) (sym (length-append a b))

-- a row that gives each category a number
pub record Giving (r : Row) (low high : ℕ) : Type 0 where
  pub begun : r.low ≤ low
  pub ordered : low ≤ high
  pub end : r.target + (high - r.low) ≤ 65534

pub gives : (r : Row) (low high : ℕ) → gives_to r low high ≡ true → Giving r low high
gives r low high e =
    let f = and_right (leb r.low low) _ e in
    record { begun = leb-true _ _ (and_left (leb r.low low) _ e); ordered = leb-true _ _ (and_left (leb low high) _ f); end = leb-true _ _ (and_right (leb low high) _ f) }

-- One run: what is cut so far and what is left are the whole.
pub record RunCutting (rs : List Row) (row w high : ℕ) (c : RunCut) (was : List ℕ) (j k low : ℕ) (far : List ℕ) : Type 0 where
  pub cut : List ℕ
  pub answer : c.whole ≡ (run_cut (drop j rs) low high).whole
  pub keys : c.keys ≡ cut ++ (run_cut (drop j rs) low high).keys
  pub passed : c.passed ≡ length cut + (run_cut (drop j rs) low high).passed
  pub place : j ≡ row + length cut
  pub count : k ≡ w + length cut
  pub written : far ≡ paint w cut was
  pub sized : length far ≡ length was

pub cutting_start : (rs : List Row) (row w low high : ℕ) (was : List ℕ) → RunCutting rs row w high (run_cut (drop row rs) low high) was row w low was
cutting_start rs row w low high was =
    record { cut = []; answer = refl; keys = refl; passed = omega arith; place = omega arith; count = omega arith; written = sym (paint_none w was); sized = refl }

pub row_at_hand : (rs : List Row) (j : ℕ) (r : Row) → j < length rs → r ≡ get_or rs j no_row → drop j rs ≡ r ∷ drop (j + 1) rs
row_at_hand rs j r l e = next no_row rs j l ∙ ap (λ (z : Row). z ∷ drop (j + 1) rs) (sym e)

-- the row at hand: it gives a category no number, it ends the run, or it parts it
module _ (rs : List Row) (j low high : ℕ) (r : Row) (e : drop j rs ≡ r ∷ drop (j + 1) rs) where
  pub row_none : gives_to r low (min high r.high) ≡ false → run_cut (drop j rs) low high ≡ cut_none
  row_none g = rw (e, g)

  pub row_last : gives_to r low (min high r.high) ≡ true → high ≤ r.high → run_cut (drop j rs) low high ≡ cut_last (piece_key r low (min high r.high))
  row_last g h = rw (e, g, le-leb high r.high h)

  pub row_more : gives_to r low (min high r.high) ≡ true → r.high < high
      → run_cut (drop j rs) low high ≡ cut_more (piece_key r low (min high r.high)) (run_cut (drop (j + 1) rs) (r.high + 1) high)
  row_more g h = rw (e, g, lt-leb high r.high h)

pub rows_up : (rs : List Row) (j low high : ℕ) → length rs ≤ j → run_cut (drop j rs) low high ≡ cut_none
rows_up rs j low high h = rw (drop_of_length-le rs {i = j} h)

module _ (rs : List Row) (row w high : ℕ) (c : RunCut) (was : List ℕ) (j k low : ℕ) (far : List ℕ) (s : RunCutting rs row w high c was j k low far) (room : w + (length rs - row) ≤ length was) where
  -- there is a place for one more
  pub cutting_room : j < length rs → k < length far
  cutting_room h = omega (arith, s.sized, s.place, s.count)

  pub cutting_stop : run_cut (drop j rs) low high ≡ cut_none → RunFails c w was far
  cutting_stop e =
      let ks : c.keys ≡ s.cut = s.keys ∙ ap (λ (z : RunCut). s.cut ++ z.keys) e ∙ append-nil s.cut in
      record {
        fails = s.answer ∙ ap (λ (z : RunCut). z.whole) e;
        written = rw ks s.written;
      }

  module _ (p : ℕ) (l : j < length rs) where
    -- the piece is written
    more_written : set far k p ≡ paint w (s.cut ++ (p ∷ [])) was
    more_written =
        let n : w + length s.cut < length was = omega (arith, s.place) in
        ap (λ (z : List ℕ). set z k p) s.written ∙ ap (λ (z : ℕ). set (paint w s.cut was) z p) s.count ∙ paint_more w s.cut was p n

    more_many : length (s.cut ++ (p ∷ [])) ≡ length s.cut + 1
    more_many = length-append s.cut (p ∷ [])

    pub cutting_end : run_cut (drop j rs) low high ≡ cut_last p → RunIsCut c row w j (k + 1) was (set far k p)
    cutting_end e =
        let ks : c.keys ≡ s.cut ++ (p ∷ []) = s.keys ∙ ap (λ (z : RunCut). s.cut ++ z.keys) e in
        let ps : c.passed ≡ length s.cut + 0 = s.passed ∙ ap (λ (z : RunCut). length s.cut + z.passed) e in
        record {
          whole = s.answer ∙ ap (λ (z : RunCut). z.whole) e;
          here = omega (arith, s.place, ps);
          many = rw ks (omega (arith, s.count, more_many));
          written = rw ks more_written;
        }

    pub cutting_again : (low' : ℕ) → run_cut (drop j rs) low high ≡ cut_more p (run_cut (drop (j + 1) rs) low' high)
        → RunCutting rs row w high c was (j + 1) (k + 1) low' (set far k p)
    cutting_again low' e =
        let rest : RunCut = run_cut (drop (j + 1) rs) low' high in
        record {
          cut = s.cut ++ (p ∷ []);
          answer = s.answer ∙ ap (λ (z : RunCut). z.whole) e;
          keys = s.keys ∙ ap (λ (z : RunCut). s.cut ++ z.keys) e ∙ sym (append_snoc s.cut p rest.keys);
          passed = (s.passed ∙ ap (λ (z : RunCut). length s.cut + z.passed) e) ∙ omega (arith, more_many);
          place = omega (arith, s.place, more_many);
          count = omega (arith, s.count, more_many);
          written = more_written;
          sized = length-set far k p ∙ s.sized;
        }

-- A run has a piece for each row that ends in it, and one more; each of these rows is there.
pub run_few : (rs : List Row) (low high : ℕ) → (run_cut rs low high).whole ≡ true → (length (run_cut rs low high).keys ≡ (run_cut rs low high).passed + 1) × ((run_cut rs low high).passed < length rs)
run_few [] low high e = absurd (never (sym e))
run_few (r ∷ rs) low high e = go (gives_to r low (min high r.high)) (leb high r.high) e (run_few rs (r.high + 1) high)
  where
    go : (g b : Bool)
        → (cond g (cond b (cut_last (piece_key r low (min high r.high))) (cut_more (piece_key r low (min high r.high)) (run_cut rs (r.high + 1) high))) cut_none).whole ≡ true
        → ((run_cut rs (r.high + 1) high).whole ≡ true → (length (run_cut rs (r.high + 1) high).keys ≡ (run_cut rs (r.high + 1) high).passed + 1) × ((run_cut rs (r.high + 1) high).passed < length rs))
        → (length (cond g (cond b (cut_last (piece_key r low (min high r.high))) (cut_more (piece_key r low (min high r.high)) (run_cut rs (r.high + 1) high))) cut_none).keys
        ≡ (cond g (cond b (cut_last (piece_key r low (min high r.high))) (cut_more (piece_key r low (min high r.high)) (run_cut rs (r.high + 1) high))) cut_none).passed + 1)
        × ((cond g (cond b (cut_last (piece_key r low (min high r.high))) (cut_more (piece_key r low (min high r.high)) (run_cut rs (r.high + 1) high))) cut_none).passed < length (r ∷ rs))
    go true true e ih = (omega arith, omega arith)
    go true false e ih = let i = ih e in (omega (arith, i.0), omega (arith, i.1))
    go false b e ih = absurd (never (sym e))

-- All runs: what is cut so far and what is left are the whole. There are no more pieces than runs and rows that were passed.
pub record AllCutting (rs : List Row) (runs : List Run) (was : List ℕ) (w i j : ℕ) (far : List ℕ) : Type 0 where
  pub cut : List ℕ
  pub answer : (cuts_from rs 0 runs).whole ≡ (cuts_from rs j (drop i runs)).whole
  pub keys : (cuts_from rs 0 runs).keys ≡ cut ++ (cuts_from rs j (drop i runs)).keys
  pub count : w ≡ length cut
  pub few : w ≤ i + j
  pub inside : j ≤ length rs
  pub written : far ≡ over cut was
  pub sized : length far ≡ length was

pub all_start : (rs : List Row) (runs : List Run) (was : List ℕ) → AllCutting rs runs was 0 0 0 was
all_start rs runs was = record { cut = []; answer = refl; keys = refl; count = refl; few = omega arith; inside = omega arith; written = refl; sized = refl }

pub run_at_hand : (ks : List ℕ) (i : ℕ) → i < length ks → drop i (key_runs ks) ≡ key_run (get_or ks i 0) ∷ drop (i + 1) (key_runs ks)
run_at_hand ks i h = next (key_run 0) (key_runs ks) i (rw length-map h) ∙ ap (λ (z : Run). z ∷ drop (i + 1) (key_runs ks)) (get_or-map key_run ks i 0)

-- The run at hand, from the row that the search found for it.
module _ (rs : List Row) (runs : List Run) (was : List ℕ) (w i j : ℕ) (far : List ℕ) (s : AllCutting rs runs was w i j far) (x : Run) (e : drop i runs ≡ x ∷ drop (i + 1) runs)
    (first : ℕ) (q : first ≡ bisect rs j x.low) (l : i < length runs) (room : length runs + length rs ≤ length was) where
  abbrev cut_run : RunCut
  cut_run = run_cut (drop first rs) x.low x.high

  found : (j ≤ first) × (first ≤ length rs)
  found = rw q (bisect_on rs j x.low s.inside)

  pub run_room : w + (length rs - first) ≤ length far
  run_room = omega (arith, found.0, found.1, s.few, s.sized)

  is_cut : cuts_from rs j (drop i runs) ≡ cuts_on cut_run (cuts_from rs (first + cut_run.passed) (drop (i + 1) runs))
  is_cut = ap (cuts_from rs j) e ∙ ap (λ (f : ℕ). cuts_on (run_cut (drop f rs) x.low x.high) (cuts_from rs (f + (run_cut (drop f rs) x.low x.high).passed) (drop (i + 1) runs))) (sym q)

  module _ (far' : List ℕ) where
    -- the pieces of the run are written behind the others
    over_more : far' ≡ paint w cut_run.keys far → far' ≡ over (s.cut ++ cut_run.keys) was
    over_more p =
        p
        ∙ ap (λ (z : List ℕ). paint w cut_run.keys z) s.written
        ∙ ap (λ (z : ℕ). paint z cut_run.keys (over s.cut was)) s.count
        ∙ paint_over s.cut cut_run.keys was

    pub all_stop : RunFails cut_run w far far' → AllFail (cuts_from rs 0 runs) was far'
    all_stop r =
        let c : cuts_from rs j (drop i runs) ≡ record { whole = false; keys = cut_run.keys } = is_cut ∙ rw (r.fails) in
        let ks : (cuts_from rs 0 runs).keys ≡ s.cut ++ cut_run.keys = s.keys ∙ ap (λ (z : Cuts). s.cut ++ z.keys) c in
        record {
          fails = s.answer ∙ ap (λ (z : Cuts). z.whole) c;
          written = over_more r.written ∙ ap (λ (z : List ℕ). over z was) (sym ks);
        }

    pub all_again : (at count : ℕ) → RunIsCut cut_run first w at count far far' → length far' ≡ length far → AllCutting rs runs was count (i + 1) at far'
    all_again at count r n =
        let rest : Cuts = cuts_from rs (first + cut_run.passed) (drop (i + 1) runs) in
        let c : cuts_from rs j (drop i runs) ≡ record { whole = rest.whole; keys = cut_run.keys ++ rest.keys } = is_cut ∙ rw (r.whole) in
        let f = run_few (drop first rs) x.low x.high r.whole in
        let a : at ≡ first + cut_run.passed = r.here in
        let d : length (drop first rs) ≡ length rs - first = length-drop first rs in
        record {
          cut = s.cut ++ cut_run.keys;
          answer = s.answer ∙ ap (λ (z : Cuts). z.whole) c ∙ ap (λ (z : ℕ). (cuts_from rs z (drop (i + 1) runs)).whole) (sym a);
          keys = s.keys ∙ ap (λ (z : Cuts). s.cut ++ z.keys) c ∙ sym (append_assoc s.cut cut_run.keys rest.keys) ∙ ap (λ (z : ℕ). (s.cut ++ cut_run.keys) ++ (cuts_from rs z (drop (i + 1) runs)).keys) (sym a);
          count = r.many ∙ ap (λ (z : ℕ). z + length cut_run.keys) s.count ∙ sym (length-append s.cut cut_run.keys);
          few = omega (arith, s.few, found.0, f.0, r.many);
          inside = omega (arith, f.1, found.1);
          written = over_more r.written;
          sized = n ∙ s.sized;
        }
