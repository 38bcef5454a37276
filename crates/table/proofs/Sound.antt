-- Laws of sound tables, for whoever calls with one: the parts of soundness.
use mathlib.Core.Path.{◌≡◌}
use mathlib.Core.Bool.{true, not, ◌&&◌}
use mathlib.Core.List.{List}
use Prim.Native.Nat.{ℕ, ◌*◌, ◌≤◌}
use lib.Dec.{leb, eqb}
use lib.ListN.{length, take, drop}
use borrow.Author.Tests.{leb-true, eqb-true, eqb-false, not-true}
use Rattle.label.proofs.Bools.{and_left, and_right}
use Rattle.table.specs.Table.{Lent, used_rows, rising, targets_apart, rows_sound, typed, bare_sound, table_sound}
use Rattle.table_levels.specs.Levels.{levels_rise, unused_pairs, levels_sound, level_numbers}
use Rattle.table.proofs.Lent.{rows_counted}

-- Rows.
pub record Rows (t : Lent) : Type 0 where
  pub rise : rising 0 (used_rows t) ≡ true
  pub apart : targets_apart (used_rows t) ≡ true

pub sound_rows : (t : Lent) → rows_sound t ≡ true → Rows t
unfolding rows_sound
sound_rows t e =
    record { rise = and_left (rising 0 (used_rows t)) _ e; apart = and_right (rising 0 (used_rows t)) _ e }

-- The whole.
pub record Sound (t : Lent) (ls : List (List ℕ)) : Type 0 where
  pub from : t.from ≡ 0 → ⊥
  pub to : t.to ≡ 0 → ⊥
  pub pairs_held : t.pairs ≤ 256
  pub rows_held : t.count ≤ 1024
  pub lent : length t.rows ≡ t.count * 3
  pub counted : length (used_rows t) ≡ t.count
  pub levels : levels_rise 0 0 (take t.pairs ls) ≡ true
  pub levels_rest : unused_pairs (drop t.pairs ls) ≡ true
  pub rows : rows_sound t ≡ true
  pub to_fits : t.to ≤ 4294967295
  pub level_numbers_held : level_numbers (take t.pairs ls) ≡ true

pub sound : (t : Lent) (ls : List (List ℕ)) → table_sound t ls ≡ true → Sound t ls
unfolding table_sound levels_sound typed
sound t ls e =
    let e1 = and_right (not (eqb t.from 0)) _ e in
    let e2 = and_right (not (eqb t.to 0)) _ e1 in
    let e3 = and_right (leb t.pairs 256) _ e2 in
    let e4 = and_right (leb t.count 1024) _ e3 in
    let n : length t.rows ≡ t.count * 3 = eqb-true _ _ (and_left (eqb (length t.rows) (t.count * 3)) _ e4) in
    let e5 = and_right (eqb (length t.rows) (t.count * 3)) _ e4 in
    let l = and_left (levels_rise 0 0 (take t.pairs ls) && unused_pairs (drop t.pairs ls)) _ e5 in
    let e6 = and_right (levels_rise 0 0 (take t.pairs ls) && unused_pairs (drop t.pairs ls)) _ e5 in
    let e7 = and_right (rows_sound t) _ e6 in
    let e8 = and_right (leb t.from 4294967295) _ e7 in
    record {
      from = eqb-false _ _ (not-true _ (and_left (not (eqb t.from 0)) _ e));
      to = eqb-false _ _ (not-true _ (and_left (not (eqb t.to 0)) _ e1));
      pairs_held = leb-true _ _ (and_left (leb t.pairs 256) _ e2);
      rows_held = leb-true _ _ (and_left (leb t.count 1024) _ e3);
      lent = n;
      counted = rows_counted t.rows t.count n;
      levels = and_left (levels_rise 0 0 (take t.pairs ls)) _ l;
      levels_rest = and_right (levels_rise 0 0 (take t.pairs ls)) _ l;
      rows = and_left (rows_sound t) _ e6;
      to_fits = leb-true _ _ (and_left (leb t.to 4294967295) _ e8);
      level_numbers_held = and_right (leb t.to 4294967295) _ e8;
    }

-- The same but for the level pairs.
pub record Bare (t : Lent) : Type 0 where
  pub rows_held : t.count ≤ 1024
  pub counted : length (used_rows t) ≡ t.count
  pub rows : rows_sound t ≡ true

pub bare : (t : Lent) → bare_sound t ≡ true → Bare t
unfolding bare_sound
bare t e =
    let e1 = and_right (not (eqb t.from 0)) _ e in
    let e2 = and_right (not (eqb t.to 0)) _ e1 in
    let e3 = and_right (leb t.pairs 256) _ e2 in
    let e4 = and_right (leb t.count 1024) _ e3 in
    let e5 = and_right (eqb (length t.rows) (t.count * 3)) _ e4 in
    record {
      rows_held = leb-true _ _ (and_left (leb t.count 1024) _ e3);
      counted = rows_counted t.rows t.count (eqb-true _ _ (and_left (eqb (length t.rows) (t.count * 3)) _ e4));
      rows = and_left (rows_sound t) _ e5;
    }
