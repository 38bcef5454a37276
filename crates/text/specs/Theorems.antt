-- What the definitions come to where there is room, and how long a line can be.
use Rattle.std.specs.Prelude.{ℕ, ◌+◌, ◌≤◌, ◌≡◌, List, ◌++◌, length, take, drop}
use Rattle.text.specs.Put.{Puts}
use Rattle.text.specs.Line.{forward_line, drop_line, broken_line}

-- where there is room, all octets stand in the buffer from place n on, every other octet is as it was, and the answer is the place behind the last one
pub record Whole (before : List ℕ) (n : ℕ) (octets : List ℕ) (after : List ℕ) (answer : ℕ) : Type 0 where
  pub buffer : after ≡ take n before ++ octets ++ drop (n + length octets) before
  pub place : answer ≡ n + length octets

abbrev pub PutsWhole : Type 0
PutsWhole =
    (before : List ℕ) (n : ℕ) (octets after : List ℕ) (answer : ℕ)
    → n + length octets ≤ length before
    → Puts before n octets after answer
    → Whole before n octets after answer

-- a line of an area of at most 40 octets has at most 110 octets
abbrev pub Longest : Type 0
Longest =
    (count number kind code pointer : ℕ) (area : List ℕ)
    → length area ≤ 40
    → (length (forward_line count area) ≤ 110) × (length (drop_line number kind code pointer) ≤ 110) × (length broken_line ≤ 110)
