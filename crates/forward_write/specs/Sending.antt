-- What is found of the room, and what the output holds then.
use Rattle.std.specs.Prelude.{Bool, cond, not, ◌&&◌, ◌||◌, List, ℕ, ◌+◌, leb, eqb, length, take, Ok, Err}
use Rattle.option.specs.declared.Spellings.{Spellings}
use Rattle.option_form.specs.Spelled.{length_of}
use Rattle.option_form.specs.Keys.{keys_spelled}
use Rattle.option_write.specs.Keys.{keys_count, keys_written}
use Rattle.area_leaving.specs.Kept.{kept_of, rest_count, rest_of}
use Rattle.decision.specs.Verdict.{Verdict, stopped}

-- there is an option of this size, and 40 octets hold it and the kept ones
abbrev pub has_room_for : ℕ → ℕ → Bool
has_room_for size kept = not (eqb size 0) && leb (size + kept) 40

-- 18, with the permitted spellings, in a domain; toward unlabelled hosts nothing is spelled
unfoldable pub fitted_by : Bool → Spellings → ℕ → Verdict → ℕ → List ℕ → Verdict
fitted_by unlabelled p d (Ok s) kept keys =
    cond (leb s.count 120 && (unlabelled || has_room_for (length_of (keys_spelled p d s.level (take s.count keys))) kept)) (Ok s) (stopped 18 3 9 0)
fitted_by unlabelled p d (Err r) kept keys = Err r

-- the option at the front of the output: how many octets it has, and the output then
abbrev pub put_count : Bool → Spellings → ℕ → ℕ → List ℕ → ℕ → ℕ
put_count unlabelled p d v ks n = cond unlabelled 0 (keys_count p d v ks n)

abbrev pub put_front : Bool → Spellings → ℕ → ℕ → List ℕ → List ℕ → List ℕ
put_front unlabelled p d v ks out = cond unlabelled out (keys_written p d v ks out)

-- how many octets of other options are kept; none of a refusal
unfoldable pub kept_by : Verdict → List ℕ → ℕ
kept_by (Ok s) area = length (kept_of area)
kept_by (Err r) area = 0

-- the leaving area of a forwarding: its count, and the output then; a refusal writes nothing
unfoldable pub area_count : Verdict → Bool → Spellings → ℕ → ℕ → List ℕ → List ℕ → List ℕ → ℕ
area_count (Ok s) unlabelled p d kept area keys out =
    rest_count (put_count unlabelled p d s.level (take s.count keys) (length out)) kept (kept_of area)
    (length (put_front unlabelled p d s.level (take s.count keys) out))
area_count (Err r) unlabelled p d kept area keys out = 0

unfoldable pub area_written : Verdict → Bool → Spellings → ℕ → ℕ → List ℕ → List ℕ → List ℕ → List ℕ
area_written (Ok s) unlabelled p d kept area keys out =
    rest_of (put_count unlabelled p d s.level (take s.count keys) (length out)) kept (kept_of area)
    (put_front unlabelled p d s.level (take s.count keys) out)
area_written (Err r) unlabelled p d kept area keys out = out
