-- The theorems of `specs/Theorems.antt`.
use Prim.Native.Nat.{ℕ, ◌≤◌, ◌<◌, min}
use mathlib.Core.Path.{◌≡◌, sym, ◌∙◌}
use mathlib.Core.Bool.{true}
use native.Mathlib.Omega.{arith}
use lib.ListN.{length, take, length-take}
use lib.Seq.{get_or-take}
use borrow.Author.Tests.{leb-true, le-leb}
use Rattle.label.proofs.Bools.{and_left, and_right, and_both}
use Rattle.basic.specs.Levels.{is_level, rank_of, at_most}
use Rattle.basic.specs.declared.Way.{Way}
use Rattle.basic.specs.Settings.{way_sound, passes_way}
use Rattle.basic.specs.Theorems.{BasicPermitted, PassesExactly}
use Rattle.basic.proofs.Settings.{among_says, among_said}

at_most_parts : (a b : ℕ) → at_most a b ≡ true → (is_level a ≡ true) × (is_level b ≡ true) × (rank_of a ≤ rank_of b)
unfolding at_most
at_most_parts a b e =
    let r = and_right (is_level a) _ e in
    (and_left (is_level a) _ e, and_left (is_level b) _ r, leb-true _ _ (and_right (is_level b) _ r))

at_most_of : (a b : ℕ) → is_level a ≡ true → is_level b ≡ true → rank_of a ≤ rank_of b → at_most a b ≡ true
unfolding at_most
at_most_of a b l m h = and_both l (and_both m (le-leb _ _ h))

module _ (w : Way) (v f : ℕ) (sound : way_sound w ≡ true) where
  range : (is_level w.lowest ≡ true) × (is_level w.highest ≡ true) × (rank_of w.lowest ≤ rank_of w.highest)
  unfolding way_sound
  range = at_most_parts w.lowest w.highest (and_left (at_most w.lowest w.highest) _ sound)

  used : length (take w.count w.flags) ≡ min w.count (length w.flags)
  used = length-take w.count w.flags

  permitted : passes_way w v f ≡ true → BasicPermitted w v f
  unfolding passes_way
  permitted e =
      let r = and_right (at_most w.lowest v) _ e in
      let l = at_most_parts w.lowest v (and_left (at_most w.lowest v) _ e) in
      let h = at_most_parts v w.highest (and_left (at_most v w.highest) _ r) in
      let m = among_says (take w.count w.flags) f (and_right (at_most v w.highest) _ r) in
      let i : m.0 < w.count = omega (arith, m.1, used) in
      let j : m.0 < length w.flags = omega (arith, m.1, used) in
      record { level = l.1; low = l.2; high = h.2; flags = (m.0, i, j, sym (get_or-take w.count w.flags m.0 0 i) ∙ m.2) }

  passes : BasicPermitted w v f → passes_way w v f ≡ true
  unfolding passes_way
  passes p =
      let k = p.flags.0 in
      let i : k < length (take w.count w.flags) = omega (arith, used, p.flags.1, p.flags.2) in
      and_both (at_most_of w.lowest v range.0 p.level p.low)
      (and_both (at_most_of v w.highest p.level range.1 p.high)
      (among_said (take w.count w.flags) f k i (get_or-take w.count w.flags k 0 p.flags.1 ∙ p.flags.3)))

pub passes_exactly : PassesExactly
passes_exactly w v f sound = (permitted w v f sound, passes w v f sound)
