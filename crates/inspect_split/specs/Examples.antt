-- Document 02, Wish 14: octets of the input, and what they are cut into. The length is that of the rest, in two octets, the higher first.
use Rattle.std.specs.Prelude.{◌≡◌, List, [], ◌∷◌, ℕ}
use Rattle.inspect_split.specs.Records.{records_of, kept_of, printed_by, split_from}

pub record WorkedRecords : Type 0 where
  -- a record of three octets, an empty one, one of an octet; and then 258 octets are announced of which one is there
  pub records : records_of (0 ∷ 3 ∷ 7 ∷ 8 ∷ 9 ∷ 0 ∷ 0 ∷ 0 ∷ 1 ∷ 5 ∷ 1 ∷ 2 ∷ 9 ∷ []) ≡ (7 ∷ 8 ∷ 9 ∷ []) ∷ [] ∷ (5 ∷ []) ∷ []
  pub kept : kept_of (0 ∷ 3 ∷ 7 ∷ 8 ∷ 9 ∷ 0 ∷ 0 ∷ 0 ∷ 1 ∷ 5 ∷ 1 ∷ 2 ∷ 9 ∷ []) ≡ 1 ∷ 2 ∷ 9 ∷ []
  -- an octet of a length alone is kept too
  pub lead : kept_of (0 ∷ 0 ∷ 0 ∷ []) ≡ 0 ∷ []
  -- a line for each record, and one more where the input ends within a record; none where it ends behind one
  pub cut : printed_by (λ (r : List ℕ). r) (66 ∷ []) (split_from [] (0 ∷ 1 ∷ 7 ∷ 0 ∷ 2 ∷ 8 ∷ [])) ≡ 7 ∷ 66 ∷ []
  pub whole : printed_by (λ (r : List ℕ). r) (66 ∷ []) (split_from [] (0 ∷ 1 ∷ 7 ∷ 0 ∷ 2 ∷ 8 ∷ 9 ∷ [])) ≡ 7 ∷ 8 ∷ 9 ∷ []
