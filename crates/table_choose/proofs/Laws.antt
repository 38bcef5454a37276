-- Turns of the loops over the tables, and the parts of the list that each takes.
use mathlib.Core.Path.{◌≡◌, refl, sym, ◌∙◌, ap}
use mathlib.Core.Bool.{Bool, true, false, cond, ◌&&◌}
use mathlib.Core.List.{List, ◌∷◌}
use Prim.Native.Nat.{ℕ, ◌+◌, ◌-◌, ◌<◌, ◌≤◌, min}
use native.Mathlib.Omega.{arith}
use native.Mathlib.Decide.{dec_le}
use lib.Dec.{leb, eqb}
use lib.ListN.{length, take, drop, get_or, length-drop, drop_of_length-le}
use lib.Seq.{take_all, drop-drop}
use borrow.Author.Tests.{leb-false, eqb-true, eq-eqb}
use Rattle.label.proofs.Bools.{same_yes}
use Rattle.label.proofs.Steps.{next}
use Rattle.table.specs.declared.Renumbering.{Renumbering}
use Rattle.table.specs.Renumbering.{LentTable, lent_sound}
use Rattle.table.proofs.Renumberings.{out_table}
use Rattle.table_choose.specs.declared.Tables.{Tables}
use Rattle.table_choose.specs.declared.Found.{Found}
use Rattle.table_choose.specs.Tables.{used_tables, share, tables_from, left_over, all_tables_sound, no_table_from, first_table, lent_found}

-- No more than all eight places are used.
pub used_same : (ts : Tables) (n : ℕ) → length ts.items ≡ 8 → n ≡ min ts.count 8 → take n ts.items ≡ used_tables ts
used_same ts n s e = elim (dec_le ts.count 8) [ yes u ↦ (let q : n ≡ ts.count = omega arith in rw q) | no u ↦ (take_all n ts.items (omega arith) ∙ sym (take_all ts.count ts.items (omega arith))) ]

-- The part of the list from `at` on that k numbers are taken of, and what is left behind it.
module _ (ns : List ℕ) (at k end : ℕ) (h : at ≤ length ns) (e : end ≡ cond (leb k (length ns - at)) (at + k) (length ns)) where
  pub part_is : take (end - at) (drop at ns) ≡ take k (drop at ns)
  part_is = go (leb k (length ns - at)) refl e
    where
      d : length (drop at ns) ≡ length ns - at
      d = length-drop at ns

      go : (b : Bool) → leb k (length ns - at) ≡ b → end ≡ cond b (at + k) (length ns) → take (end - at) (drop at ns) ≡ take k (drop at ns)
      go true t q = let m : end - at ≡ k = omega arith in ap (λ (j : ℕ). take j (drop at ns)) m
      go false t q =
          let l : length ns - at < k = leb-false _ _ t in
          take_all (end - at) (drop at ns) (omega (arith, d)) ∙ sym (take_all k (drop at ns) (omega (arith, d)))

  pub rest_is : drop end ns ≡ drop k (drop at ns)
  rest_is = go (leb k (length ns - at)) refl e
    where
      d : length (drop at ns) ≡ length ns - at
      d = length-drop at ns

      go : (b : Bool) → leb k (length ns - at) ≡ b → end ≡ cond b (at + k) (length ns) → drop end ns ≡ drop k (drop at ns)
      go true t q = ap (λ (j : ℕ). drop j ns) q ∙ sym (drop-drop k at ns)
      go false t q =
          let l : length ns - at < k = leb-false _ _ t in
          drop_of_length-le ns {i = end} (omega arith) ∙ sym (drop_of_length-le (drop at ns) {i = k} (omega (arith, d)))

module _ (rs : List Renumbering) (i : ℕ) (ns : List ℕ) (at : ℕ) where
  module _ (h : i < length rs) (r : Renumbering) (er : r ≡ get_or rs i out_table) (end : ℕ) (a : at ≤ length ns)
      (e : end ≡ cond (leb (share r) (length ns - at)) (at + share r) (length ns)) where
    -- the next table, and the others
    turn : tables_from (drop i rs) (drop at ns) ≡ record { item = r; rows = take (end - at) (drop at ns) } ∷ tables_from (drop (i + 1) rs) (drop end ns)
    turn =
        ap (λ (z : List Renumbering). tables_from z (drop at ns)) (next out_table rs i h ∙ ap (λ (x : Renumbering). x ∷ drop (i + 1) rs) (sym er))
        ∙ ap (λ (z : List ℕ). record { item = r; rows = z } ∷ tables_from (drop (i + 1) rs) (drop (share r) (drop at ns))) (sym (part_is ns at (share r) end a e))
        ∙ ap (λ (z : List ℕ). record { item = r; rows = take (end - at) (drop at ns) } ∷ tables_from (drop (i + 1) rs) z) (sym (rest_is ns at (share r) end a e))

    pub left_turn : (w : List ℕ) → w ≡ left_over (drop i rs) (drop at ns) → w ≡ left_over (drop (i + 1) rs) (drop end ns)
    left_turn w inv =
        inv
        ∙ ap (λ (z : List Renumbering). left_over z (drop at ns)) (next out_table rs i h ∙ ap (λ (x : Renumbering). x ∷ drop (i + 1) rs) (sym er))
        ∙ ap (λ (z : List ℕ). left_over (drop (i + 1) rs) z) (sym (rest_is ns at (share r) end a e))

    -- a test of every table
    module _ (w : Bool) (inv : w ≡ all_tables_sound (tables_from (drop i rs) (drop at ns))) (t : Bool)
        (test : t ≡ lent_sound (record { item = r; rows = take (end - at) (drop at ns) })) where
      one : w ≡ (t && all_tables_sound (tables_from (drop (i + 1) rs) (drop end ns)))
      one = inv ∙ ap all_tables_sound turn ∙ ap (λ (b : Bool). b && all_tables_sound (tables_from (drop (i + 1) rs) (drop end ns))) (sym test)

      pub fails : (b : Bool) → t ≡ false → false ≡ (w && b)
      fails b q = sym (ap (λ (x : Bool). x && b) (one ∙ ap (λ (x : Bool). x && all_tables_sound (tables_from (drop (i + 1) rs) (drop end ns))) q))

      pub passes : t ≡ true → w ≡ all_tables_sound (tables_from (drop (i + 1) rs) (drop end ns))
      passes q = one ∙ ap (λ (b : Bool). b && all_tables_sound (tables_from (drop (i + 1) rs) (drop end ns))) q

    -- the first for a pair
    module _ (from to : ℕ) (w : LentTable) (inv : w ≡ first_table from to (tables_from (drop i rs) (drop at ns))) (t : Bool)
        (test : t ≡ (eqb r.table.from from && eqb r.table.to to)) where
      one_for : w ≡ cond t (record { item = r; rows = take (end - at) (drop at ns) }) (first_table from to (tables_from (drop (i + 1) rs) (drop end ns)))
      one_for =
          inv
          ∙ ap (first_table from to) turn
          ∙ ap (λ (b : Bool). cond b (record { item = r; rows = take (end - at) (drop at ns) }) (first_table from to (tables_from (drop (i + 1) rs) (drop end ns)))) (sym test)

      pub found : t ≡ true → record { item = r; rows = take (end - at) (drop at ns) } ≡ w
      found q = sym (one_for ∙ ap (λ (b : Bool). cond b (record { item = r; rows = take (end - at) (drop at ns) }) (first_table from to (tables_from (drop (i + 1) rs) (drop end ns)))) q)

      pub passed : t ≡ false → w ≡ first_table from to (tables_from (drop (i + 1) rs) (drop end ns))
      passed q = one_for ∙ ap (λ (b : Bool). cond b (record { item = r; rows = take (end - at) (drop at ns) }) (first_table from to (tables_from (drop (i + 1) rs) (drop end ns)))) q

  -- where all tables are passed, nothing may be left of the list
  pub sound_end : (w : Bool) (over : List ℕ) → length rs ≤ i → at ≤ length ns → w ≡ all_tables_sound (tables_from (drop i rs) (drop at ns))
      → over ≡ left_over (drop i rs) (drop at ns) → eqb at (length ns) ≡ (w && eqb (length over) 0)
  sound_end w over h a e o =
      let p : w ≡ true = e ∙ ap (λ (z : List Renumbering). all_tables_sound (tables_from z (drop at ns))) (drop_of_length-le rs h) in
      let q : over ≡ drop at ns = o ∙ ap (λ (z : List Renumbering). left_over z (drop at ns)) (drop_of_length-le rs h) in
      let m : length over ≡ length ns - at = ap length q ∙ length-drop at ns in
      same_yes (eqb at (length ns)) (eqb (length over) 0)
      (λ t. let z : at ≡ length ns = eqb-true _ _ t in eq-eqb (length over) 0 (omega arith))
      (λ t. let z : length over ≡ 0 = eqb-true _ _ t in eq-eqb at (length ns) (omega arith))
      ∙ ap (λ (b : Bool). b && eqb (length over) 0) (sym p)

  pub none_left : (from to : ℕ) (w : LentTable) → w ≡ first_table from to (tables_from (drop i rs) (drop at ns)) → length rs ≤ i → no_table_from from ≡ w
  none_left from to w inv h = sym (inv ∙ ap (λ (z : List Renumbering). first_table from to (tables_from z (drop at ns))) (drop_of_length-le rs h))

-- what is answered where there is none
pub found_none : (f : Found) (ns : List ℕ) (from : ℕ) → f.item ≡ (no_table_from from).item → f.at ≡ 0 → f.end ≡ 0 → lent_found f ns ≡ no_table_from from
found_none f ns from p q s = λ j. record { item = p j; rows = take (s j - q j) (drop (q j) ns) }
