-- Document 01, "The leaving area"; demand 3; document 02, Wish 5: the one spelling of a label, the shortest of the permitted ones that mean it,
-- equal lengths to tag 1 in its shortest form, then tag 1 with ten bitmap octets, then tag 2, then tag 5.
-- That it is so is proved over the meaning of an option (`Theorems`); here is how it is made.
use Rattle.std.specs.Prelude.{ℕ, zero, suc, ◌+◌, ◌-◌, ◌*◌, ◌/◌, ◌%◌, List, [], ◌∷◌, ◌++◌, Bool, true, false, ◌&&◌, cond, length, replicate, leb, eqb}
use Rattle.std.proofs.Math.Option.{Option, none, some}
use Rattle.label.specs.declared.Run.{Run}
use Rattle.label.specs.declared.Label.{Label}
use Rattle.label.specs.Runs.{covers, count_of, top_of}
use Rattle.label.specs.Label.{used}
use Rattle.option.specs.declared.Spellings.{Spellings}
use Rattle.option.specs.declared.Form.{Form}
use Rattle.option.specs.Reading.{turned}

-- the lowest run starts at 0
abbrev pub from_zero : List Run → Bool
from_zero [] = false
from_zero (r ∷ rs) = eqb r.low 0

abbrev pub bit_of : Bool → ℕ
bit_of true = 1
bit_of false = 0

-- the number whose k bits, from the top, are f at base, base + 1, ..
abbrev pub bits_of : (ℕ → Bool) → ℕ → ℕ → ℕ
bits_of f base zero = 0
bits_of f base (suc k) = bits_of f base k * 2 + bit_of (f (base + k))

-- the first n octets of the bitmap of f
abbrev pub octets_of : (ℕ → Bool) → ℕ → List ℕ
octets_of f zero = []
octets_of f (suc n) = octets_of f n ++ bits_of f (8 * n) 8 ∷ []

-- octets of categories that each tag needs
abbrev pub size1 : List Run → ℕ
size1 rs = (top_of rs + 7) / 8

abbrev pub size2 : List Run → ℕ
size2 rs = 2 * count_of rs

abbrev pub size5 : List Run → ℕ
size5 rs = 4 * length rs - cond (from_zero rs) 2 0

-- a form that may be taken; else none: tag 0, with more octets than any
abbrev pub form_if : Bool → ℕ → ℕ → Form
form_if z t n = cond z (record { tag = t; size = n }) (record { tag = 0; size = 31 })

-- the shorter of two, equal lengths to the first
abbrev pub shorter : Form → Form → Form
shorter f g = cond (leb f.size g.size) f g

-- of the permitted forms that hold the categories the shortest, by the octets that tags 1, 2 and 5 need: a bitmap has at most 30, tag 2 at
-- most 15 numbers, tag 5 at most 7 pairs
unfoldable pub least_form : Spellings → ℕ → ℕ → ℕ → Form
least_form p a b c =
    shorter (form_if (p.shortest && leb a 30) 1 a)
    (shorter (form_if (p.ten && leb a 10) 1 10)
    (shorter (form_if (p.numbers && leb b 30) 2 b) (form_if (p.pairs && leb c 28) 5 c)))

-- the form of the spelling; tag 0 where there is none
unfoldable pub form_for : Spellings → List Run → Form
form_for p rs = least_form p (size1 rs) (size2 rs) (size5 rs)

-- numbers as two octets each
abbrev pub octets_out : List ℕ → List ℕ
octets_out [] = []
octets_out (x ∷ xs) = x / 256 ∷ x % 256 ∷ octets_out xs

-- n numbers from x on, before the others
abbrev pub count_up : ℕ → ℕ → List ℕ → List ℕ
count_up x zero rest = rest
count_up x (suc n) rest = x ∷ count_up (x + 1) n rest

-- every category, lowest first
abbrev pub numbers_of : List Run → List ℕ
numbers_of [] = []
numbers_of (r ∷ rs) = count_up r.low (r.high + 1 - r.low) (numbers_of rs)

-- top and bottom of each run, a last bottom of 0 left out
abbrev pub ends_of : List Run → List ℕ
ends_of [] = []
ends_of (r ∷ []) = cond (eqb r.low 0) (r.high ∷ []) (r.high ∷ r.low ∷ [])
ends_of (r ∷ s ∷ rs) = r.high ∷ r.low ∷ ends_of (s ∷ rs)

-- the categories in tag t; a bitmap of n octets
unfoldable pub body_for : ℕ → ℕ → List Run → List ℕ
body_for t n rs =
    elim (eqb t 1) [
      | true ↦ octets_of (covers rs) n
      | false ↦ elim (eqb t 2) [ true ↦ octets_out (numbers_of rs) | false ↦ octets_out (ends_of (turned [] rs)) ]
    ]

abbrev pub option_of : ℕ → ℕ → ℕ → List ℕ → List ℕ
option_of d v t b =
    134 ∷ (10 + length b) ∷ d / 256 / 256 / 256 ∷ d / 256 / 256 % 256 ∷ d / 256 % 256 ∷ d % 256 ∷ t ∷ (4 + length b) ∷ 0 ∷ v ∷ b

-- the option of a form
unfoldable pub spelled_by : Form → ℕ → ℕ → List Run → List ℕ
spelled_by f d v rs = option_of d v f.tag (body_for f.tag f.size rs)

unfoldable pub spelling_of : Spellings → ℕ → ℕ → List Run → Option (List ℕ)
spelling_of p d v rs = elim (eqb (form_for p rs).tag 0) [ true ↦ none | false ↦ some (spelled_by (form_for p rs) d v rs) ]

-- what 40 octets of output hold
abbrev pub padded : List ℕ → List ℕ
padded o = o ++ replicate (40 - length o) 0

-- the spelling of a label under a set of permitted ones, or none
abbrev pub spelled_of : Spellings → Label → Option (List ℕ)
spelled_of p l = spelling_of p l.domain l.level (used l)
