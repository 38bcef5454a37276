-- RFC 1108, 2.1 to 2.4; Wish 3: what a valid Basic Security Option is, and which level and flags it means, over its octets alone.
use Rattle.std.specs.Prelude.{ℕ, ◌+◌, ◌*◌, ◌/◌, ◌%◌, ◌≡◌, Bool, true, not, ◌&&◌, List, [], ◌∷◌, length, get_or, drop, leb, eqb}
use Rattle.option.specs.Option.{Octets}
use Rattle.basic.specs.Levels.{is_level}

-- type 130, length (whole option), classification level, then the protection authority flags: no octet, or more
abbrev pub basic_level : List ℕ → ℕ
basic_level o = get_or o 2 0

abbrev pub flag_octets : List ℕ → List ℕ
flag_octets o = drop 3 o

-- the low bit of a flag octet says whether another follows; the other seven are flags
abbrev pub more_follows : ℕ → Bool
more_follows x = eqb (x % 2) 1

abbrev pub seven_flags : ℕ → ℕ
seven_flags x = x / 2

-- every flag octet says so rightly: the last that none follows, each before it that another does
abbrev pub ended : List ℕ → Bool
ended [] = true
ended (x ∷ []) = not (more_follows x)
ended (x ∷ y ∷ ys) = more_follows x && ended (y ∷ ys)

-- the flag field: the seven flags of the first octet, then the seven of the second; an octet that is left out has no flags
abbrev pub flag_field : ℕ → ℕ → ℕ
flag_field x y = seven_flags x * 128 + seven_flags y

abbrev pub basic_flags : List ℕ → ℕ
basic_flags o = flag_field (get_or o 3 0) (get_or o 4 0)

-- house: at most two flag octets. So the length is 3, 4 or 5
unfoldable pub basic_valid : List ℕ → Bool
basic_valid o =
    leb 3 (length o)
    && (eqb (get_or o 0 0) 130
    && (eqb (get_or o 1 0) (length o)
    && (is_level (basic_level o)
    && (leb (length (flag_octets o)) 2
    && ended (flag_octets o)))))

-- the option is valid and means the level and the flags
pub record BasicMeans (o : List ℕ) (v f : ℕ) : Type 0 where
  pub octets : Octets o
  pub good : basic_valid o ≡ true
  pub level : basic_level o ≡ v
  pub flags : basic_flags o ≡ f
