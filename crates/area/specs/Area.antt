-- RFC 791; document 01, "The order of checks"; document 02, Wish 9: the options area, its size, the options that the one walk meets, and 1, 3, 4 and 5.
use Rattle.std.specs.Prelude.{ℕ, zero, suc, pred, ◌+◌, ◌%◌, List, [], ◌∷◌, ◌++◌, ◌≡◌, Bool, true, false, not, ◌||◌, ltb, eqb, length, get_or, take, drop}
use Rattle.std.proofs.Math.Option.{Option, none, some}
use Rattle.area.specs.declared.Kind.{Kind}
use Rattle.area.specs.declared.Kind.TheVariants.{End, NoOperation, Basic, Extended, Cipso, Other}
use Rattle.std.specs.Prelude.{Ok, Err, Some, None}
use Rattle.area.specs.Kinds.{Place, Size, Walk, places}
use Rattle.area.specs.Kinds.{kind_of, size_of}
use Rattle.area.specs.Turn.{judge}

-- 1: over 40 octets, or not a multiple of 4
abbrev pub bad_size : ℕ → Bool
bad_size n = ltb 40 n || not (eqb (n % 4) 0)

abbrev pub bad_area : List ℕ → Bool
bad_area area = bad_size (length area)

-- an option that the walk meets: its type, the octet at which it begins, and its length, bad where its length octet is
pub record Met : Type 0 where
  pub kind : Kind
  pub at : ℕ
  pub size : Size

-- how far an option reaches: type 1 is one octet, type 0 ends the walk, and so does a bad length
abbrev pub span_of : Kind → Size → Size
span_of End z = None
span_of NoOperation z = Some 1
span_of Basic z = z
span_of Extended z = z
span_of Cipso z = z
span_of Other z = z

-- the option that stands here; type 0 is none
abbrev pub front_of : Kind → Size → ℕ → List Met
front_of End z at = []
front_of NoOperation z at = record { kind = NoOperation; at = at; size = Some 1 } ∷ []
front_of Basic z at = record { kind = Basic; at = at; size = z } ∷ []
front_of Extended z at = record { kind = Extended; at = at; size = z } ∷ []
front_of Cipso z at = record { kind = Cipso; at = at; size = z } ∷ []
front_of Other z at = record { kind = Other; at = at; size = z } ∷ []

-- the options from an octet on, with as many octets as `skip` still to pass over: they are of the option before
unfoldable pub met_from : List ℕ → ℕ → ℕ → List Met
met_from [] skip at = []
met_from (t ∷ r) (suc k) at = met_from r k (suc at)
met_from (t ∷ r) zero at =
    front_of (kind_of t) (size_of (t ∷ r)) at
    ++ elim (span_of (kind_of t) (size_of (t ∷ r))) [ Some n ↦ met_from r (pred n) (suc at) | None ↦ [] ]

-- the options that the walk meets, in order; the kept options (`area_leaving`) are among them
unfoldable pub met_of : List ℕ → List Met
met_of area = met_from area 0 0

-- the earliest option decides
abbrev pub judged : Bool → Bool → List Met → Place → Place → Walk
judged on lax [] label basic = Ok (places label basic)
judged on lax (m ∷ ms) label basic =
    elim (judge on lax m.kind m.size m.at label basic) [ Ok w ↦ judged on lax ms w.label w.basic | Err r ↦ Err r ]

-- what the walk answers: the places of the options 134 and 130, or the refusal; `on` says whether the arriving port reads option 130
unfoldable pub walk_of : Bool → List ℕ → Walk
walk_of on area = judged on false (met_of area) None None

-- the walk, check 4 left out (Wish 9): neither 130 nor 133 is refused; a second option 130 is 5 here too
unfoldable pub open_walk : List ℕ → Walk
open_walk area = judged true true (met_of area) None None

-- the octets of the option at a place: as many as its length octet says
abbrev pub option_at : ℕ → List ℕ → List ℕ
option_at p area = take (get_or area (p + 1) 0) (drop p area)

-- the same of a place, if there is one
abbrev pub octets_at : Place → List ℕ → Option (List ℕ)
octets_at None l = none
octets_at (Some p) l = some (option_at p l)

-- a whole option of a kind that stands in the list from octet i on
pub record WholeAt (k : Kind) (l : List ℕ) (i : ℕ) : Type 0 where
  pub size : ℕ
  pub whole : size_of (drop i l) ≡ Some size
  pub kind : kind_of (get_or (drop i l) 0 0) ≡ k

-- the place, if there is one, is that of a whole option of the kind
abbrev pub placed_within : Kind → Place → List ℕ → Type 0
placed_within k None l = Unit {0}
placed_within k (Some p) l = WholeAt k l p
