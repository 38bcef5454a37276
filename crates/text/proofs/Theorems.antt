-- The theorems of `specs/Theorems.antt`.
use Prim.Native.Nat.{ℕ, zero, suc, ◌+◌, ◌*◌, ◌/◌, ◌%◌, ◌≤◌}
use mathlib.Core.Path.{◌≡◌, refl, ◌∙◌}
use mathlib.Core.Bool.{Bool, true, false, cond}
use mathlib.Core.List.{List, [], ◌∷◌, ◌++◌}
use native.Mathlib.Omega.{arith}
use lib.ListN.{length, take, length-append, length-take}
use lib.Seq.{sets-eq}
use lib.Dec.{eqb}
use Rattle.text.specs.Text.{leading, decimal, hex_of}
use Rattle.text.specs.Line.{shown, forward_line, drop_line}
use Rattle.text.specs.Theorems.{PutsWhole, Longest}
use Rattle.text.proofs.Laws.{put_sets, place_room}

pub puts_whole : PutsWhole
puts_whole before n octets after answer h p =
    record {
      buffer = p.buffer ∙ put_sets before n octets h ∙ sets-eq octets before n h;
      place = p.place ∙ place_room before n octets h;
    }

leading_length : (most x : ℕ) → length (leading most x) ≤ most
unfolding leading
leading_length zero x = omega arith
leading_length (suc most) x = go (eqb x 0) (leading_length most (x / 10))
  where
    go : (b : Bool) → length (leading most (x / 10)) ≤ most → length (cond b [] (leading most (x / 10) ++ ((48 + x % 10) ∷ []))) ≤ suc most
    go true h = omega arith
    go false h = simp length-append (omega arith)

decimal_length : (x : ℕ) → length (decimal x) ≤ 20
unfolding decimal
decimal_length x = simp length-append (omega (arith, leading_length 19 (x / 10)))

hex_length : (xs : List ℕ) → length (hex_of xs) ≡ 2 * length xs
unfolding hex_of
hex_length [] = refl
hex_length (x ∷ xs) = omega (arith, hex_length xs)

shown_length : (count : ℕ) (area : List ℕ) → length area ≤ 40 → length (shown count area) ≤ 81
unfolding shown
shown_length count area h = go (eqb count 0)
  where
    go : (b : Bool) → length (cond b [] (32 ∷ hex_of (take count area))) ≤ 81
    go true = omega arith
    go false = omega (arith, hex_length (take count area), length-take count area)

pub longest_forward : (count : ℕ) (area : List ℕ) → length area ≤ 40 → length (forward_line count area) ≤ 110
unfolding forward_line
longest_forward count area h = simp length-append (omega (arith, decimal_length count, shown_length count area h))

pub longest_drop : (number kind code pointer : ℕ) → length (drop_line number kind code pointer) ≤ 110
unfolding drop_line
longest_drop number kind code pointer =
    simp length-append (omega (arith, decimal_length number, decimal_length kind, decimal_length code, decimal_length pointer))

pub longest : Longest
longest count number kind code pointer area h = (longest_forward count area h, longest_drop number kind code pointer, omega arith)
