-- Document 02, Wish 14: "recorded cases from standard input. Each is a two-octet big-endian length of the rest, then" the rest. What is read so far is cut into
-- records; what is left over is kept until more is read.
use Rattle.std.specs.Prelude.{ℕ, ◌+◌, ◌*◌, ◌/◌, ◌%◌, Bool, cond, ◌&&◌, List, [], ◌∷◌, ◌++◌, leb, eqb, length, get_or, drop}

-- the length of the rest, by the two octets that lead it, the higher first
abbrev pub lead_of : List ℕ → ℕ
lead_of s = get_or s 0 0 * 256 + get_or s 1 0

-- how many octets the first record has, with the two that lead it; 0 where it is not all there
unfoldable pub whole_of : List ℕ → ℕ
whole_of s = cond (leb 2 (length s) && leb (2 + lead_of s) (length s)) (2 + lead_of s) 0

-- these octets are one record and nothing else
unfoldable pub is_record : List ℕ → Bool
is_record s = leb 2 (length s) && eqb (length s) (2 + lead_of s)

-- what octets come to: the whole records in their order, each without the two octets that lead it, and what is kept
pub record Split : Type 0 where
  pub records : List (List ℕ)
  pub kept : List ℕ

abbrev pub keeping : List ℕ → Split
keeping held = record { records = []; kept = held }

abbrev pub behind : List ℕ → Split → Split
behind r p = record { records = r ∷ p.records; kept = p.kept }

-- Octet after octet behind what is held: once they are a record it is done, and nothing is held.
unfoldable pub split_from : List ℕ → List ℕ → Split
split_from held [] = keeping held
split_from held (x ∷ xs) = cond (is_record (held ++ (x ∷ []))) (behind (drop 2 (held ++ (x ∷ []))) (split_from [] xs)) (split_from (held ++ (x ∷ [])) xs)

-- what comes first, and then what comes of more octets behind what it kept
abbrev pub followed : Split → Split → Split
followed p q = record { records = p.records ++ q.records; kept = q.kept }

-- the records of octets, and what is left over
abbrev pub records_of : List ℕ → List (List ℕ)
records_of s = (split_from [] s).records

abbrev pub kept_of : List ℕ → List ℕ
kept_of s = (split_from [] s).kept

-- The input in pieces: each is put behind what was kept, cut, and what is left over is kept for the next.
abbrev pub split_pieces : List ℕ → List (List ℕ) → Split
split_pieces held [] = keeping held
split_pieces held (p ∷ ps) = followed (split_from [] (held ++ p)) (split_pieces (kept_of (held ++ p)) ps)

abbrev pub joined_pieces : List (List ℕ) → List ℕ
joined_pieces [] = []
joined_pieces (p ∷ ps) = p ++ joined_pieces ps

-- What is printed, by the line of a record and the line of one that is cut off: a line for each record, and one more where the input ends within a record.
abbrev pub lines_of : (List ℕ → List ℕ) → List (List ℕ) → List ℕ
lines_of line [] = []
lines_of line (r ∷ rs) = line r ++ lines_of line rs

abbrev pub last_line : List ℕ → List ℕ → List ℕ
last_line broken [] = []
last_line broken (x ∷ xs) = broken

abbrev pub printed_by : (List ℕ → List ℕ) → List ℕ → Split → List ℕ
printed_by line broken p = lines_of line p.records ++ last_line broken p.kept

-- The same, the other way round: records as they stand in the input.
abbrev pub framed : List ℕ → List ℕ
framed r = (length r / 256) ∷ (length r % 256) ∷ r

abbrev pub joined : List (List ℕ) → List ℕ
joined [] = []
joined (r ∷ rs) = framed r ++ joined rs
