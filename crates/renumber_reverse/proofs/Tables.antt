-- Laws of the reverse table: its rows, that it is sound, and that reversed twice it is the table.
use mathlib.Core.Path.{◌≡◌, ◌∙◌, ap}
use mathlib.Core.Bool.{true, not}
use mathlib.Core.List.{List}
use Prim.Native.Nat.{ℕ, ◌*◌, ◌≤◌}
use native.Mathlib.Omega.{arith}
use lib.Dec.{leb, eqb}
use lib.ListN.{length, take, drop}
use borrow.Author.Tests.{le-leb, leb-true, eq-eqb, ne_eqb}
use Rattle.label.proofs.Bools.{and_left, and_right}
use Rattle.table.specs.Table.{Lent, row_numbers, used_rows, rows_sound, typed, table_sound}
use Rattle.table_levels.specs.Levels.{levels_sound, level_numbers}
use Rattle.table.proofs.Lent.{numbers_length, numbers_rows, rows_numbers}
use Rattle.table.proofs.Sound.{Sound, sound, Rows, sound_rows}
use Rattle.renumber_reverse.specs.Reverse.{turned_rows, turned_levels, reverse_table}
use Rattle.renumber_reverse.proofs.Rows.{turned_length, turned_rise, turned_apart, turned_twice}
use Rattle.renumber_reverse.proofs.Levels.{take_turned, drop_turned, levels_rise_lem, pairs_unused, pairs_numbers}

from_fits : (t : Lent) (ls : List (List ℕ)) → table_sound t ls ≡ true → t.from ≤ 4294967295
unfolding table_sound typed
from_fits t ls e =
    let e1 = and_right (not (eqb t.from 0)) _ e in
    let e2 = and_right (not (eqb t.to 0)) _ e1 in
    let e3 = and_right (leb t.pairs 256) _ e2 in
    let e4 = and_right (leb t.count 1024) _ e3 in
    let e5 = and_right (eqb (length t.rows) (t.count * 3)) _ e4 in
    let e6 = and_right (levels_sound ls t.pairs) _ e5 in
    leb-true _ _ (and_left (leb t.from 4294967295) _ (and_right (rows_sound t) _ e6))

module _ (t : Lent) (ls : List (List ℕ)) (s : table_sound t ls ≡ true) where
  parts : Sound t ls
  parts = sound t ls s

  rows : Rows t
  rows = sound_rows t parts.rows

  pub used_few : length (used_rows t) ≤ 65536
  used_few = omega (arith, parts.counted, parts.rows_held)

  long : length (turned_rows (used_rows t)) ≡ t.count
  long = turned_length (used_rows t) ∙ parts.counted

  pub back_used : used_rows (reverse_table t) ≡ turned_rows (used_rows t)
  unfolding reverse_table
  back_used = numbers_rows (turned_rows (used_rows t))

  back_lent : length (row_numbers (turned_rows (used_rows t))) ≡ t.count * 3
  back_lent = numbers_length (turned_rows (used_rows t)) ∙ ap (λ (k : ℕ). k * 3) long

  back_rows : rows_sound (reverse_table t) ≡ true
  unfolding rows_sound
  back_rows = rw (back_used, turned_rise (used_rows t) used_few rows.rise rows.apart, turned_apart (used_rows t) used_few rows.rise)

  back_levels : levels_sound (turned_levels ls) t.pairs ≡ true
  unfolding levels_sound
  back_levels =
      rw (take_turned t.pairs ls, drop_turned t.pairs ls, levels_rise_lem 0 0 (take t.pairs ls), pairs_unused (drop t.pairs ls), parts.levels, parts.levels_rest)

  back_typed : typed (reverse_table t) (turned_levels ls) ≡ true
  unfolding typed reverse_table
  back_typed =
      let l : level_numbers (take t.pairs (turned_levels ls)) ≡ true = ap level_numbers (take_turned t.pairs ls) ∙ pairs_numbers (take t.pairs ls) ∙ parts.level_numbers_held in
      rw (le-leb t.to 4294967295 parts.to_fits, le-leb t.from 4294967295 (from_fits t ls s)) l

  whole : rows_sound (reverse_table t) ≡ true → levels_sound (turned_levels ls) t.pairs ≡ true → typed (reverse_table t) (turned_levels ls) ≡ true → table_sound (reverse_table t) (turned_levels ls) ≡ true
  unfolding table_sound reverse_table
  whole a b c =
      rw (ne_eqb t.to 0 parts.to, ne_eqb t.from 0 parts.from, le-leb t.pairs 256 parts.pairs_held, le-leb t.count 1024 parts.rows_held, eq-eqb _ _ back_lent, a, b) c

  pub back_sound : table_sound (reverse_table t) (turned_levels ls) ≡ true
  back_sound = whole back_rows back_levels back_typed

  pub back_twice : reverse_table (reverse_table t) ≡ t
  unfolding reverse_table
  back_twice =
      let u : turned_rows (used_rows (reverse_table t)) ≡ used_rows t = ap turned_rows back_used ∙ turned_twice (used_rows t) used_few rows.rise rows.apart in
      let q : row_numbers (turned_rows (used_rows (reverse_table t))) ≡ t.rows = ap row_numbers u ∙ rows_numbers t.rows t.count parts.lent in
      λ i. record { from = t.from; to = t.to; pairs = t.pairs; count = t.count; rows = q i }
