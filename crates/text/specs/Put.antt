-- What putting octets into a buffer leaves there, and the place behind them. House: an octet that finds no room is left out.
use Rattle.std.specs.Prelude.{ℕ, ◌+◌, ◌≡◌, cond, List, [], ◌∷◌, length, set, ltb}
use Rattle.text.specs.declared.Line.{Line}

-- the buffer with x at place n; as it was where it has no such place
abbrev pub put_octet : List ℕ → ℕ → ℕ → List ℕ
put_octet out n x = set out n x

-- the place behind place n; n itself where the buffer has no such place
abbrev pub behind : List ℕ → ℕ → ℕ
behind out n = cond (ltb n (length out)) (n + 1) n

-- octets, one after the other from place n on
unfoldable pub put : List ℕ → ℕ → List ℕ → List ℕ
put out n [] = out
put out n (x ∷ xs) = put (put_octet out n x) (behind out n) xs

-- the place behind the last of them
unfoldable pub place_after : List ℕ → ℕ → List ℕ → ℕ
place_after out n [] = n
place_after out n (x ∷ xs) = place_after (put_octet out n x) (behind out n) xs

-- a buffer at entry, the octets put there from place n on, the buffer at exit and the answer
pub record Puts (before : List ℕ) (n : ℕ) (octets : List ℕ) (after : List ℕ) (answer : ℕ) : Type 0 where
  pub buffer : after ≡ put before n octets
  pub place : answer ≡ place_after before n octets

-- a line at entry, the octets put behind its end, and the line at exit: it stands in the buffer that was lent
pub record Writes (before : Line) (octets : List ℕ) (after : Line) : Type 0 where
  pub same : after.octets.ghost_name ≡ before.octets.ghost_name
  pub puts : Puts before.octets.now before.end octets after.octets.now after.end
