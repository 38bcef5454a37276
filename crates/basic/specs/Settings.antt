-- Wish 3: what a port permits of option 130 each way, when these settings are sound, and what passes them.
use Rattle.std.specs.Prelude.{ℕ, Bool, true, false, cond, not, ◌&&◌, ◌||◌, List, [], ◌∷◌, take, drop, replicate, leb, eqb, Some, None}
use Rattle.basic.specs.Levels.{at_most}
use Rattle.basic.specs.declared.Way.{Way}
use Rattle.basic.specs.declared.Basic.{Basic}
use Rattle.basic.specs.Alone.{BasicRead}

-- switched off, as document 01 had the ports: every field is 0
abbrev pub no_way : Way
no_way = record { lowest = 0; highest = 0; count = 0; flags = replicate 256 0 }

abbrev pub basic_off : Basic
basic_off = record { on = false; receiving = no_way; sending = no_way }

-- every place is 0
abbrev pub unused : List ℕ → Bool
unused [] = true
unused (x ∷ xs) = eqb x 0 && unused xs

-- switched on: levels of the four, lowest ≤ highest, at most 256 flag fields, unused places 0
unfoldable pub way_sound : Way → Bool
way_sound w = at_most w.lowest w.highest && (leb w.count 256 && unused (drop w.count w.flags))

-- switched off: all 0
unfoldable pub way_zero : Way → Bool
way_zero w = eqb w.lowest 0 && (eqb w.highest 0 && (eqb w.count 0 && unused w.flags))

unfoldable pub basic_sound : Basic → Bool
basic_sound b =
    cond b.on (way_sound b.receiving && way_sound b.sending) (way_zero b.receiving && way_zero b.sending)

-- off, and all 0
unfoldable pub is_off : Basic → Bool
is_off b = not b.on && basic_sound b

-- the flag field is one of the list
abbrev pub among : List ℕ → ℕ → Bool
among [] f = false
among (x ∷ xs) f = eqb x f || among xs f

-- a level from lowest to highest; flags that are a member of the set, which are its first `count` places
unfoldable pub passes_way : Way → ℕ → ℕ → Bool
passes_way w v f = at_most w.lowest v && (at_most v w.highest && among (take w.count w.flags) f)

-- what was read passes: where no level and flags were, it does not
abbrev pub passes_read : Way → BasicRead → Bool
passes_read w (Some x) = passes_way w x.level x.flags
passes_read w None = false
