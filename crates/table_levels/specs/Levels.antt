-- Document 01, "Records": the level pairs of a renumbering table, what makes them sound, and the level that a level goes to.
use Rattle.std.specs.Prelude.{Bool, true, false, cond, ◌&&◌, List, [], ◌∷◌, ℕ, ◌+◌, leb, eqb, take, drop, get_or, Option, None, Some}
use Rattle.table_levels.specs.declared.LevelPair.{LevelPair}

-- a level pair, and the one of zeros, which stands in every place that is not used
abbrev pub pair : ℕ → ℕ → LevelPair
pair a b = record { levels = a ∷ b ∷ [] }

abbrev pub no_pair : LevelPair
no_pair = pair 0 0

-- the level pairs, each an array of two numbers: "strictly rising on both sides", the first at `f` and `g` or above
abbrev pub levels_rise : ℕ → ℕ → List (List ℕ) → Bool
levels_rise f g [] = true
levels_rise f g (p ∷ ps) = leb f (get_or p 0 0) && (leb g (get_or p 1 0) && levels_rise (get_or p 0 0 + 1) (get_or p 1 0 + 1) ps)

abbrev pub unused_pairs : List (List ℕ) → Bool
unused_pairs [] = true
unused_pairs (p ∷ ps) = eqb (get_or p 0 0) 0 && (eqb (get_or p 1 0) 0 && unused_pairs ps)

unfoldable pub levels_sound : List (List ℕ) → ℕ → Bool
levels_sound ls n = levels_rise 0 0 (take n ls) && unused_pairs (drop n ls)

-- what the types say of level pairs: each number is at most 255
abbrev pub level_numbers : List (List ℕ) → Bool
level_numbers [] = true
level_numbers (p ∷ ps) = leb (get_or p 0 0) 255 && (leb (get_or p 1 0) 255 && level_numbers ps)

-- sound level pairs of such numbers
abbrev pub pairs_sound : List (List ℕ) → ℕ → Bool
pairs_sound ls n = levels_sound ls n && level_numbers (take n ls)

-- the level that a level goes to, where it has one
abbrev pub Partner : Type 0
Partner = Option ℕ

-- the second level of the first pair whose first level it is
abbrev pub partner_of : List (List ℕ) → ℕ → Partner
partner_of [] v = None
partner_of (p ∷ ps) v = cond (eqb (get_or p 0 0) v) (Some (get_or p 1 0)) (partner_of ps v)

-- the level has a partner
abbrev pub known : Partner → Bool
known None = false
known (Some v) = true

abbrev pub level_or0 : Partner → ℕ
level_or0 None = 0
level_or0 (Some v) = v

-- a partner as one number, 256 where there is none, and back
abbrev pub partner_number : Partner → ℕ
partner_number None = 256
partner_number (Some v) = v

abbrev pub partner_from : ℕ → Partner
partner_from n = cond (leb n 255) (Some n) None

-- of sound pairs the partner of a level
abbrev pub sound_partner : List (List ℕ) → ℕ → ℕ → Option Partner
sound_partner ls n v = cond (pairs_sound ls n) (Some (partner_of (take n ls) v)) None
