-- The theorem of `specs/Theorems.antt`.
use native.Mathlib.Omega.{arith}
use native.Mathlib.Nat.{le_refl}
use lib.ListN.{take}
use Rattle.table.specs.Table.{used_rows}
use Rattle.table.specs.Theorems.{Numbering}
use Rattle.table.proofs.Sound.{sound, sound_rows}
use Rattle.table.proofs.Numbers.{has_number_lem, one_number, one_category}
use Rattle.table_levels.proofs.Partners.{partners_order}

pub numbering : Numbering
numbering t ls e =
    let s = sound t ls e in
    let r = sound_rows t s.rows in
    record {
      has = λ c h. has_number_lem 0 (used_rows t) c r.rise h;
      number = λ c d d' h k. one_number 0 (used_rows t) c d d' r.rise h k;
      category = λ c c' d h k. one_category 0 (used_rows t) c c' d r.rise r.apart h k;
      level = λ v v' w h k.
          let o = partners_order 0 0 (take t.pairs ls) v w v' w s.levels h k in
          let p = partners_order 0 0 (take t.pairs ls) v' w v w s.levels k h in
          omega (arith, o.back (le_refl w), p.back (le_refl w));
    }
