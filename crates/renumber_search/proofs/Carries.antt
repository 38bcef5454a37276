-- The theorem that carrying by search is carrying, for sound tables (`specs/Theorems.antt`).
use mathlib.Core.Path.{◌≡◌, refl, sym, ◌∙◌, ap}
use mathlib.Core.Bool.{Bool, true, false, cond, not, ◌&&◌, ◌||◌}
use mathlib.Core.List.{List, [], ◌∷◌, map}
use Prim.Native.Nat.{ℕ, suc, ◌+◌, ◌-◌, ◌≤◌, min}
use native.Mathlib.Omega.{arith}
use lib.Dec.{leb}
use lib.ListN.{length, take, drop, length-map, length-append, length-drop}
use borrow.Author.Tests.{le-leb, leb-true}
use Rattle.std.specs.Prelude.{Option, None, Some, is_some}
use Rattle.label.specs.declared.Run.{Run}
use Rattle.label.specs.Runs.{in_run, covers, spaced}
use Rattle.label.proofs.Bools.{and_left, and_right}
use Rattle.label_keys.specs.Keys.{key_run, key_runs, run_key}
use Rattle.lists_sort.specs.Order.{Sorted, all, sort_keys}
use Rattle.lists_sort.proofs.Laws.{sort_sorted, sort_all}
use Rattle.table_levels.specs.Levels.{Partner, partner_of, known, level_or0}
use Rattle.table.specs.declared.Row.{Row}
use Rattle.table.specs.Table.{Lent, used_rows, rising, table_sound}
use Rattle.table.specs.Numbers.{numbered, in_image}
use Rattle.table.proofs.Sound.{sound, sound_rows}
use Rattle.renumber_keys.specs.Sets.{runs_of}
use Rattle.renumber_keys.specs.Carry.{image_of, label_runs, carried_to, not_carried, row_of, carry_of}
use Rattle.renumber_keys.specs.Stages.{join_all, piece_key, pieces, Key}
use Rattle.renumber_keys.proofs.Join.{all_covers, all_spaced}
use Rattle.renumber_keys.proofs.Pass.{image_hits}
use Rattle.renumber_keys.proofs.Pieces.{rise_giving, pieces_keys, pieces_hits}
use Rattle.renumber_keys.proofs.Sets.{the_runs}
use Rattle.renumber_keys.proofs.Carrying.{runs_label, all_few, there_back, carry_checked}
use Rattle.renumber_search.specs.Search.{bisect, gives_to, RunCut, cut_none, cut_last, cut_more, run_cut, cuts_on, cuts_from, room_for, over, searched_of, searched_keys}
use Rattle.renumber_search.specs.Theorems.{carried_where, found_or0, Carrying, SearchCarries}
use Rattle.renumber_search.proofs.Search.{search_cuts}
use Rattle.renumber_search.proofs.Bisecting.{bisect_on}
use Rattle.renumber_search.proofs.Cuts.{run_few}
use Rattle.renumber_search.proofs.Whole.{head_taken, sorted_many}

-- What keys cover does not depend on their order.
covers_not : (ks : List ℕ) (c : ℕ) → covers (key_runs ks) c ≡ not (all (λ k. not (in_run (key_run k) c)) ks)
covers_not [] c = refl
covers_not (k ∷ ks) c = go (in_run (key_run k) c) (covers_not ks c)
  where
    go : (b : Bool) → covers (key_runs ks) c ≡ not (all (λ k. not (in_run (key_run k) c)) ks) → (b || covers (key_runs ks) c) ≡ not (not b && all (λ k. not (in_run (key_run k) c)) ks)
    go true e = refl
    go false e = e

sort_covers : (ks : List ℕ) (c : ℕ) → covers (key_runs (sort_keys ks)) c ≡ covers (key_runs ks) c
sort_covers ks c = covers_not (sort_keys ks) c ∙ ap not (sort_all (λ k. not (in_run (key_run k) c)) [] ks) ∙ sym (covers_not ks c)

-- The pieces, put in order and joined, are the runs of the image: whatever the order of the rows' targets.
sorted_runs : (rows : List Row) (runs : List Run) → rising 0 rows ≡ true → spaced 0 runs ≡ true → key_runs (join_all (sort_keys (pieces rows runs))) ≡ runs_of (in_image rows runs)
sorted_runs rows runs e s =
    let ks : List ℕ = sort_keys (pieces rows runs) in
    let v = rise_giving 0 rows e in
    let o : Sorted 0 ks = sort_sorted [] (pieces rows runs) tt in
    let g : all Key ks ≡ true = sort_all Key [] (pieces rows runs) ∙ pieces_keys rows runs v in
    the_runs (in_image rows runs) (key_runs (join_all ks)) (all_spaced ks o g)
    (λ c. all_covers ks c o g ∙ sort_covers (pieces rows runs) c ∙ pieces_hits rows runs c v ∙ sym (image_hits rows runs c e s))

-- A list written over another's head leaves its length.
over_sized : (xs out : List ℕ) → length xs ≤ length out → length (over xs out) ≡ length out
over_sized xs out h = length-append xs (drop (length xs) out) ∙ omega (arith, length-drop (length xs) out)

-- rows that rise, spaced runs, and room for both
module _ (rows : List Row) (runs : List Run) (up : rising 0 rows ≡ true) (sp : spaced 0 runs ≡ true) where
  abbrev ks : List ℕ
  ks = (cuts_from rows 0 runs).keys

  room_yes : (room : ℕ) → length runs + length rows ≤ room → room_for (length runs) (length rows) room ≡ true
  room_yes room h = rw (le-leb (length runs) room (omega arith), le-leb (length rows) (room - length runs) (omega arith))

  whole_is : (cuts_from rows 0 runs).whole ≡ numbered rows runs
  whole_is = (search_cuts rows runs up sp).answer

  module _ (w : numbered rows runs ≡ true) where
    joined_is : join_all (sort_keys ks) ≡ map run_key (runs_of (in_image rows runs))
    joined_is =
        let c : ks ≡ pieces rows runs = sym ((search_cuts rows runs up sp).cut (whole_is ∙ w)) in
        sym (there_back (join_all (sort_keys ks))) ∙ ap (λ (z : List ℕ). map run_key (key_runs (join_all (sort_keys z)))) c ∙ ap (map run_key) (sorted_runs rows runs up sp)

    joined_many : length (join_all (sort_keys ks)) ≡ length (runs_of (in_image rows runs))
    joined_many = ap length joined_is ∙ length-map (runs_of (in_image rows runs)) run_key

  answer_is : (room : ℕ) → length runs + length rows ≤ room → searched_of rows runs room ≡ cond (numbered rows runs) (Some (length (runs_of (in_image rows runs)))) None
  unfolding searched_of
  answer_is room h = rw (room_yes room h, whole_is) (go (numbered rows runs) joined_many)
    where
      go : (b : Bool) → (b ≡ true → length (join_all (sort_keys ks)) ≡ length (runs_of (in_image rows runs)))
          → cond b (Some (length (join_all (sort_keys ks)))) None ≡ cond b (Some (length (runs_of (in_image rows runs)))) None
      go true e = ap Some (e refl)
      go false e = refl

  keys_are : (far : List ℕ) → length runs + length rows ≤ length far → numbered rows runs ≡ true → take (length (runs_of (in_image rows runs))) (searched_keys rows runs far) ≡ map run_key (runs_of (in_image rows runs))
  unfolding searched_keys
  keys_are far h w =
      rw (room_yes (length far) h, whole_is ∙ w)
      (head_taken (join_all (sort_keys ks)) (over (sort_keys ks) far) (length (runs_of (in_image rows runs))) (sym (joined_many w)) ∙ joined_is w)

-- Whatever the rows and the runs: no more pieces than runs and rows.
run_most : (rs : List Row) (low high : ℕ) → length (run_cut rs low high).keys ≤ length rs
run_most [] low high = omega arith
run_most (r ∷ rs) low high = go (gives_to r low (min high r.high)) (leb high r.high) (run_most rs (r.high + 1) high)
  where
    go : (g b : Bool) → length (run_cut rs (r.high + 1) high).keys ≤ length rs
        → length (cond g (cond b (cut_last (piece_key r low (min high r.high))) (cut_more (piece_key r low (min high r.high)) (run_cut rs (r.high + 1) high))) cut_none).keys ≤ suc (length rs)
    go true true h = omega arith
    go true false h = omega arith
    go false b h = omega arith

cut_most : (rows : List Row) (runs : List Run) (j : ℕ) → j ≤ length rows → length (cuts_from rows j runs).keys + j ≤ length runs + length rows
cut_most rows [] j h = omega arith
cut_most rows (x ∷ xs) j h =
    let k : ℕ = bisect rows j x.low in
    let c : RunCut = run_cut (drop k rows) x.low x.high in
    let o = bisect_on rows j x.low h in
    go k c o.0 o.1 c.whole refl (omega (arith, run_most (drop k rows) x.low x.high, length-drop k rows))
    (λ w. let f = run_few (drop k rows) x.low x.high w in (f.0, omega (arith, f.1, length-drop k rows)))
    (λ l. cut_most rows xs (k + c.passed) l)
  where
    go : (k : ℕ) (c : RunCut) → j ≤ k → k ≤ length rows → (b : Bool) → c.whole ≡ b → length c.keys ≤ length rows - k
        → (c.whole ≡ true → (length c.keys ≡ c.passed + 1) × (k + c.passed ≤ length rows))
        → (k + c.passed ≤ length rows → length (cuts_from rows (k + c.passed) xs).keys + (k + c.passed) ≤ length xs + length rows)
        → length (cuts_on c (cuts_from rows (k + c.passed) xs)).keys + j ≤ suc (length xs) + length rows
    go k c p q true e m f ih =
        let g = f e in
        let i = ih g.1 in
        rw e (omega (arith, g.0, i, length-append c.keys (cuts_from rows (k + c.passed) xs).keys))
    go k c p q false e m f ih = rw e (omega arith)

searched_sized : (rows : List Row) (runs : List Run) (far : List ℕ) → length (searched_keys rows runs far) ≡ length far
unfolding searched_keys
searched_sized rows runs far = go (room_for (length runs) (length rows) (length far)) (cuts_from rows 0 runs).whole refl
  where
    few : room_for (length runs) (length rows) (length far) ≡ true → length (cuts_from rows 0 runs).keys ≤ length far
    few e =
        let a : length runs ≤ length far = leb-true _ _ (and_left (leb (length runs) (length far)) _ e) in
        let b : length rows ≤ length far - length runs = leb-true _ _ (and_right (leb (length runs) (length far)) _ e) in
        omega (arith, cut_most rows runs 0 (omega arith))

    go : (b w : Bool) → room_for (length runs) (length rows) (length far) ≡ b
        → length (cond b (cond w (over (join_all (sort_keys (cuts_from rows 0 runs).keys)) (over (sort_keys (cuts_from rows 0 runs).keys) far)) (over (cuts_from rows 0 runs).keys far)) far) ≡ length far
    go true true e =
        let s : List ℕ = sort_keys (cuts_from rows 0 runs).keys in
        let n : length s ≡ length (cuts_from rows 0 runs).keys = sorted_many (cuts_from rows 0 runs).keys in
        let m : length (over s far) ≡ length far = over_sized s far (omega (arith, few e)) in
        over_sized (join_all s) (over s far) (omega (arith, few e, all_few s)) ∙ m
    go true false e = over_sized (cuts_from rows 0 runs).keys far (few e)
    go false w e = refl

row_cases : (p : Partner) (s : Option ℕ)
    → row_of (carried_where p s) ≡ cond (known p && is_some s) (record { number = 0; level = level_or0 p; count = found_or0 s }) (not_carried 16)
row_cases None s = refl
row_cases (Some v) None = refl
row_cases (Some v) (Some n) = refl

carried_cases : (p : Partner) (b : Bool) (image : List Run) → carried_to p b image ≡ carried_where p (cond b (Some (length image)) None)
unfolding carried_to
carried_cases None b image = refl
carried_cases (Some v) true image = refl
carried_cases (Some v) false image = refl

module _ (t : Lent) (ls : List (List ℕ)) (rs : List Run) (s : table_sound t ls ≡ true) (f : label_runs rs ≡ true) where
  rise : rising 0 (used_rows t) ≡ true
  rise = (sound_rows t (sound t ls s).rows).rise

  spaced_runs : spaced 0 rs ≡ true
  spaced_runs = (runs_label rs f).gaps

  enough : (room : ℕ) → 120 + t.count ≤ room → length rs + length (used_rows t) ≤ room
  enough room h = let g = sound t ls s in omega (arith, g.counted, (runs_label rs f).few)

  carrying : Carrying t rs
  carrying =
      record {
        answer = λ room h. answer_is (used_rows t) rs rise spaced_runs room (enough room h);
        keys = λ far h w. keys_are (used_rows t) rs rise spaced_runs far (enough (length far) h) w;
      }

  by_search : (v room : ℕ) → 120 + t.count ≤ room → carry_of rs v t ls room ≡ carried_where (partner_of (take t.pairs ls) v) (searched_of (used_rows t) rs room)
  by_search v room h = carry_checked rs v t ls room s f h ∙ rw (carrying.answer room h) (carried_cases (partner_of (take t.pairs ls) v) (numbered (used_rows t) rs) (image_of t rs))

pub search_carries : SearchCarries
search_carries = record {
  sized = searched_sized;
  carries = carrying;
  carried = λ t ls rs v room s f h. by_search t ls rs s f v room h;
  row = λ t ls rs v room s f h. ap row_of (by_search t ls rs s f v room h) ∙ row_cases (partner_of (take t.pairs ls) v) (searched_of (used_rows t) rs room);
}
