-- What is proved of every format of the vocabulary, once for all.
use Rattle.std.specs.Prelude.{List, [], ◌∷◌, ◌++◌, ◌≡◌, ℕ, suc, ◌+◌, ◌<◌, length, get_or}
use Rattle.file_format.specs.Format.{got, Format, octets, read_at, Sound}

-- the octets of a list, where the octets of one do not depend on what stands before it
abbrev pub flat : {A : Type 0} → (A → List ℕ) → List A → List ℕ
flat g [] = []
flat g (a ∷ as') = g a ++ flat g as'

-- every number of the list is an octet
abbrev pub Octets : List ℕ → Type 0
Octets s = (i : ℕ) → get_or s i 0 < 256

-- the octets stand in the list from this place on
abbrev pub Stands : List ℕ → ℕ → List ℕ → Type 0
Stands [] at s = Unit {0}
Stands (x ∷ xs) at s = (at < length s) × (get_or s at 0 ≡ x) × Stands xs (suc at) s

-- the value is sound, its octets stand there, and the place is the one after them
pub record Printed {A : Type 0} (f : Format A) (s : List ℕ) (at : ℕ) (a : A) (n : ℕ) : Type 0 where
  pub sound : Sound f a
  pub stands : Stands (octets f a) at s
  pub place : n ≡ at + length (octets f a)

-- what was printed is read back
abbrev pub ReadBack : Type 1
ReadBack = (A : Type 0) (f : Format A) (s : List ℕ) (at : ℕ) (a : A) → Sound f a → Stands (octets f a) at s → read_at f s at ≡ got a (at + length (octets f a))

-- what is read was printed: nothing else is accepted
abbrev pub OnlyPrinted : Type 1
OnlyPrinted = (A : Type 0) (f : Format A) (s : List ℕ) → Octets s → (at : ℕ) (a : A) (n : ℕ) → read_at f s at ≡ got a n → Printed f s at a n
