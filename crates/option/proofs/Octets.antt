-- Laws of octets: of a list whose every place is one, and of its parts.
use Prim.Native.Nat.{ℕ, zero, suc, ◌<◌}
use mathlib.Core.List.{List, [], ◌∷◌, ◌++◌}
use native.Mathlib.Omega.{arith}
use lib.ListN.{get_or, take, drop}
use Rattle.option.specs.Option.{Octets}

pub octet_at_lem : (b : List ℕ) (i : ℕ) → Octets b → get_or b i 0 < 256
octet_at_lem [] i o = omega arith
octet_at_lem (x ∷ b) zero o = o.0
octet_at_lem (x ∷ b) (suc i) o = octet_at_lem b i o.1

pub octets_of_lem : (b : List ℕ) → ((i : ℕ) → get_or b i 0 < 256) → Octets b
octets_of_lem [] h = tt
octets_of_lem (x ∷ b) h = (h 0, octets_of_lem b (λ i. h (suc i)))

pub octets_append : (a b : List ℕ) → Octets a → Octets b → Octets (a ++ b)
octets_append [] b h k = k
octets_append (x ∷ a) b h k = (h.0, octets_append a b h.1 k)

pub octets_take : (n : ℕ) (b : List ℕ) → Octets b → Octets (take n b)
octets_take zero b o = tt
octets_take (suc n) [] o = tt
octets_take (suc n) (x ∷ b) o = (o.0, octets_take n b o.1)

pub octets_drop : (n : ℕ) (b : List ℕ) → Octets b → Octets (drop n b)
octets_drop zero b o = o
octets_drop (suc n) [] o = tt
octets_drop (suc n) (x ∷ b) o = octets_drop n b o.1

-- those of a part
pub octets_part : (n at : ℕ) (b : List ℕ) → ((i : ℕ) → get_or b i 0 < 256) → Octets (take n (drop at b))
octets_part n at b h = octets_take n (drop at b) (octets_drop at b (octets_of_lem b h))
