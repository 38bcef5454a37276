-- RFC 791; document 01, "The order of checks": an option's type, and its length.
use Rattle.std.specs.Prelude.{ℕ, List, cond, length, get_or, ltb, leb, eqb, Option, Some, None, Result}
use Rattle.area.specs.declared.Kind.{Kind}
use Rattle.area.specs.declared.Places.{Places}
use Rattle.area.specs.declared.Fault.{Fault}
use Rattle.area.specs.declared.Kind.TheVariants.{End, NoOperation, Basic, Extended, Cipso, Other}

-- the octet at which an option begins, if there is one
abbrev pub Place : Type 0
Place = Option ℕ

-- the length of an option, if it is whole
abbrev pub Size : Type 0
Size = Option ℕ

-- what a walk answers: the places of the options 134 and 130, or the refusal
abbrev pub Walk : Type 0
Walk = Result Places Fault

abbrev pub places : Place → Place → Places
places label basic = record { label = label; basic = basic }

abbrev pub fault : ℕ → ℕ → Fault
fault n at = record { number = n; at = at }

-- the walk matches on the option type
abbrev pub kind_of : ℕ → Kind
kind_of t =
    cond (eqb t 0) End
    (cond (eqb t 1) NoOperation
    (cond (eqb t 130) Basic
    (cond (eqb t 133) Extended
    (cond (eqb t 134) Cipso Other))))

-- the length of the option that the list starts with: none where its length octet is missing, under 2, or runs past the area
abbrev pub size_of : List ℕ → Size
size_of l =
    cond (ltb (length l) 2) None
    (cond (ltb (get_or l 1 0) 2) None
    (cond (leb (get_or l 1 0) (length l)) (Some (get_or l 1 0)) None))
