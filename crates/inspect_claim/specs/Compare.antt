-- Document 02, Wish 14: "`AGREES`, or `DIFFERS` and the first place that differs (0 to 3 the decision, 4 the leaving length, 5 on its octets)".
use Rattle.std.specs.Prelude.{ℕ, suc, ◌<◌, ◌≡◌, cond, List, [], ◌∷◌, Option, None, Some, eqb, take}
use Rattle.std.proofs.Math.ListN.{get_elem?}
use Rattle.decision.specs.declared.Decision.{Decision}

-- What the box says, in the places of a claim: the decision's number, type, code and pointer, the leaving length, and the octets of the leaving area.
abbrev pub said_of : Decision → List ℕ → List ℕ
said_of d out = d.number ∷ d.kind ∷ d.code ∷ d.pointer ∷ d.count ∷ take d.count out

-- the first place that differs, where one does
abbrev pub Finding : Type 0
Finding = Option ℕ

abbrev pub agreeing : Finding
agreeing = None

abbrev pub differing_at : ℕ → Finding
differing_at k = Some k

-- place after place from k on: the first at which one has another octet, or none
abbrev pub find_from : ℕ → List ℕ → List ℕ → Finding
find_from k [] [] = agreeing
find_from k [] (y ∷ ys) = differing_at k
find_from k (x ∷ xs) [] = differing_at k
find_from k (x ∷ xs) (y ∷ ys) = cond (eqb x y) (find_from (suc k) xs ys) (differing_at k)

unfoldable pub finding_of : List ℕ → List ℕ → Finding
finding_of said claimed = find_from 0 said claimed

-- k is the first place that differs
pub record FirstDifference (said claimed : List ℕ) (k : ℕ) : Type 0 where
  pub before : (i : ℕ) → i < k → get_elem? said i ≡ get_elem? claimed i
  pub here : get_elem? said k ≡ get_elem? claimed k → ⊥
