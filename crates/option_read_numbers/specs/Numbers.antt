-- Document 01, "Option and tags" and row 12 of the table: what one pass over the numbers of a tag 2, or over the pairs of a tag 5, answers, and what the
-- lent keys hold then.
use Rattle.std.specs.Prelude.{ℕ, ◌*◌, ◌/◌, ◌≤◌, ◌≡◌, List, ◌++◌, map, Bool, true, false, ◌&&◌, cond, length, take, drop, leb, ltb, Result, Ok, Err}
use Rattle.label.specs.declared.Run.{Run}
use Rattle.label_keys.specs.Keys.{key_runs, run_key}
use Rattle.option.specs.Index.{range_runs, first_true, number_at, bad_number, pairs_of, bad_pair, low_pair, high_pair}
use Rattle.option_read_numbers.specs.declared.BadNumber.{BadNumber}

-- the octets of whole numbers: an odd last octet is left out
abbrev pub whole : List ℕ → List ℕ
whole b = take (2 * (length b / 2)) b

-- tag 2: which number is the first bad one, or how many there are where none is bad
abbrev pub first_bad_number : List ℕ → ℕ
first_bad_number b = first_true (bad_number b) (length b / 2)

-- the runs of the numbers before it
abbrev pub number_runs : List ℕ → List Run
number_runs b = range_runs (number_at b) (number_at b) (first_bad_number b)

-- tag 5: the same of the pairs
abbrev pub first_bad_pair : List ℕ → ℕ
first_bad_pair b = first_true (bad_pair b) (pairs_of b)

-- the runs of all pairs, lowest first
abbrev pub pair_runs : List ℕ → List Run
pair_runs b = range_runs (low_pair b) (high_pair b) (pairs_of b)

-- n octets can be a tag's numbers, and their keys have room: at most 30 octets, and 15 keys
abbrev pub fits : ℕ → ℕ → Bool
fits n room = leb n 30 && leb 15 room

-- the keys at the front of a lent list; what stands after them stays
abbrev pub at_front : List ℕ → List ℕ → List ℕ
at_front ks keys = ks ++ drop (length ks) keys

-- what a pass answers: how many keys it wrote, or of a bad number or pair also the octet at which it begins
abbrev pub Pass : Type 0
Pass = Result ℕ BadNumber

abbrev pub bad_number_at : (count at : ℕ) → Pass
bad_number_at count at = Err (record { count = count; at = at })

-- how many keys are written, either way
abbrev pub written : Pass → ℕ
written (Ok n) = n
written (Err b) = b.count

-- how many keys are written, and the octet at which the first bad number or pair begins, where that is before the end; octets that do not fit are bad from the first on
abbrev pub pass_of : Bool → List Run → (bad end : ℕ) → Pass
pass_of true rs bad end = cond (ltb bad end) (bad_number_at (length rs) bad) (Ok (length rs))
pass_of false rs bad end = bad_number_at 0 0

-- the lent keys after it
abbrev pub keys_passed : Bool → List Run → List ℕ → List ℕ
keys_passed true rs keys = at_front (map run_key rs) keys
keys_passed false rs keys = keys

-- what a pass answers and leaves; the keys that it writes stand for the runs
pub record Passes (fit : Bool) (rs : List Run) (bad end : ℕ) (keys keys' : List ℕ) (r : Pass) : Type 0 where
  pub answer : r ≡ pass_of fit rs bad end
  pub left : keys' ≡ keys_passed fit rs keys
  pub held : written r ≤ 15
  pub stands : fit ≡ true → key_runs (map run_key rs) ≡ rs

-- two octets a number
abbrev pub ReadsNumbers : List ℕ → List ℕ → List ℕ → Pass → Type 0
ReadsNumbers b keys keys' r = Passes (fits (length b) (length keys)) (number_runs (whole b)) (2 * first_bad_number (whole b)) (length (whole b)) keys keys' r

-- four a pair
abbrev pub ReadsPairs : List ℕ → List ℕ → List ℕ → Pass → Type 0
ReadsPairs b keys keys' r = Passes (fits (length b) (length keys)) (pair_runs (whole b)) (4 * first_bad_pair (whole b)) (length (whole b)) keys keys' r
