-- Options 130 and what each means, octet by octet: level Secret (90) or another of the four, flags GENSER (first of the first octet) and others. The four levels
-- in their order, and a port's settings that are sound or not, part by part.
use Rattle.std.specs.Prelude.{ℕ, ◌+◌, ◌-◌, ◌*◌, ◌≡◌, Bool, true, false, List, [], ◌∷◌, ◌++◌, map, length, replicate, Option, None, Ok, Err}
use Rattle.basic.specs.declared.BasicReading.{BasicReading}
use Rattle.basic.specs.declared.BasicError.TheVariants.{Short, Bad}
use Rattle.basic.specs.declared.Way.{Way}
use Rattle.basic.specs.declared.Basic.{Basic}
use Rattle.basic.specs.Levels.{is_level, rank_of, at_most}
use Rattle.basic.specs.Settings.{way_sound, basic_sound}
use Rattle.basic.specs.Alone.{Reading, reading_row, basic_found, basic_reading, basic_option, number_of, Writing, writing_row, basic_writing, basic_out}
use Rattle.basic.specs.OptionTheorems.{read_row}

-- octets, and what reading them alone answers
pub record Example : Type 0 where
  pub octets : List ℕ
  pub reading : Option BasicReading

-- not valid
abbrev pub invalid : Option BasicReading
invalid = None

abbrev pub examples : List Example
examples =
    -- a level alone
    record { octets = 130 ∷ 3 ∷ 171 ∷ []; reading = basic_found 171 0 }
    -- one flag octet, 10000000
    ∷ record { octets = 130 ∷ 4 ∷ 90 ∷ 128 ∷ []; reading = basic_found 90 8192 }
    -- two, 10000001 00000010
    ∷ record { octets = 130 ∷ 5 ∷ 61 ∷ 129 ∷ 2 ∷ []; reading = basic_found 61 8193 }
    -- all 14 flags
    ∷ record { octets = 130 ∷ 5 ∷ 150 ∷ 255 ∷ 254 ∷ []; reading = basic_found 150 16383 }
    -- flag octets without flags mean the same as none
    ∷ record { octets = 130 ∷ 4 ∷ 171 ∷ 0 ∷ []; reading = basic_found 171 0 }
    ∷ record { octets = 130 ∷ 5 ∷ 171 ∷ 1 ∷ 0 ∷ []; reading = basic_found 171 0 }
    -- another is said to follow, and none does; none is said to follow, and one does; a third
    ∷ record { octets = 130 ∷ 4 ∷ 90 ∷ 129 ∷ []; reading = invalid }
    ∷ record { octets = 130 ∷ 5 ∷ 90 ∷ 128 ∷ 2 ∷ []; reading = invalid }
    ∷ record { octets = 130 ∷ 6 ∷ 90 ∷ 129 ∷ 3 ∷ 2 ∷ []; reading = invalid }
    -- a reserved level; another type; a length that is not the buffer's; no level
    ∷ record { octets = 130 ∷ 3 ∷ 102 ∷ []; reading = invalid }
    ∷ record { octets = 133 ∷ 3 ∷ 90 ∷ []; reading = invalid }
    ∷ record { octets = 130 ∷ 4 ∷ 90 ∷ []; reading = invalid }
    ∷ record { octets = 130 ∷ 2 ∷ []; reading = invalid }
    ∷ []

abbrev pub Read : List Example → Type 0
Read [] = Unit {0}
Read (e ∷ es) = (basic_reading e.octets ≡ e.reading) × Read es

-- 19 and zeros
abbrev pub nineteen : Reading
nineteen = record { number = 19; level = 0; flags = 0 }

-- the rows of the examples
abbrev pub Rows : Type 0
Rows =
    (reading_row invalid ≡ nineteen)
    × (map (λ e. reading_row (basic_reading e.octets)) examples
    ≡ read_row 171 0
    ∷ read_row 90 8192
    ∷ read_row 61 8193
    ∷ read_row 150 16383
    ∷ read_row 171 0
    ∷ read_row 171 0
    ∷ nineteen
    ∷ nineteen
    ∷ nineteen
    ∷ nineteen
    ∷ nineteen
    ∷ nineteen
    ∷ nineteen
    ∷ [])

-- what is written for a level and flags
abbrev pub Written : Type 0
Written =
    (basic_option 171 0 ≡ 130 ∷ 3 ∷ 171 ∷ [])
    × (basic_option 90 8192 ≡ 130 ∷ 4 ∷ 90 ∷ 128 ∷ [])
    × (basic_option 61 8193 ≡ 130 ∷ 5 ∷ 61 ∷ 129 ∷ 2 ∷ [])
    × (basic_option 61 1 ≡ 130 ∷ 5 ∷ 61 ∷ 1 ∷ 2 ∷ [])

-- writing alone: 1 for an output under 5 octets, also of what cannot be written; 19 for a level that is none and for flags past the fourteenth
abbrev pub answered : ℕ → ℕ → Writing
answered n c = record { number = n; count = c }

abbrev pub WrittenAlone : Type 0
WrittenAlone =
    (basic_writing 171 0 4 ≡ Err Short)
    × (basic_writing 102 16384 4 ≡ Err Short)
    × (basic_writing 102 0 5 ≡ Err Bad)
    × (basic_writing 171 16384 5 ≡ Err Bad)
    × (basic_writing 171 16383 5 ≡ Ok 5)
    × (basic_writing 171 0 5 ≡ Ok 3)
    × (writing_row (basic_writing 171 0 4) ≡ answered 1 0)
    × (writing_row (basic_writing 102 16384 4) ≡ answered 1 0)
    × (writing_row (basic_writing 102 0 5) ≡ answered 19 0)
    × (writing_row (basic_writing 171 16384 5) ≡ answered 19 0)
    × (writing_row (basic_writing 171 16383 5) ≡ answered 0 5)
    × (writing_row (basic_writing 171 0 5) ≡ answered 0 3)
    × (number_of Short ≡ 1)
    × (number_of Bad ≡ 19)
    × (basic_out 90 8192 (9 ∷ 9 ∷ 9 ∷ 9 ∷ 9 ∷ 9 ∷ []) ≡ 130 ∷ 4 ∷ 90 ∷ 128 ∷ 9 ∷ 9 ∷ [])

-- an octet by its bits, the top one first
abbrev pub bits_from : ℕ → List ℕ → ℕ
bits_from n [] = n
bits_from n (x ∷ xs) = bits_from (2 * n + x) xs

abbrev pub bits : List ℕ → ℕ
bits xs = bits_from 0 xs

-- "Unclassified 10101011, Confidential 10010110, Secret 01011010 and Top Secret 00111101, in a short fixed list with their order"
abbrev pub unclassified : ℕ
unclassified = bits (1 ∷ 0 ∷ 1 ∷ 0 ∷ 1 ∷ 0 ∷ 1 ∷ 1 ∷ [])

abbrev pub confidential : ℕ
confidential = bits (1 ∷ 0 ∷ 0 ∷ 1 ∷ 0 ∷ 1 ∷ 1 ∷ 0 ∷ [])

abbrev pub secret : ℕ
secret = bits (0 ∷ 1 ∷ 0 ∷ 1 ∷ 1 ∷ 0 ∷ 1 ∷ 0 ∷ [])

abbrev pub top_secret : ℕ
top_secret = bits (0 ∷ 0 ∷ 1 ∷ 1 ∷ 1 ∷ 1 ∷ 0 ∷ 1 ∷ [])

abbrev pub FourInOrder : Type 0
FourInOrder =
    (map rank_of (unclassified ∷ confidential ∷ secret ∷ top_secret ∷ []) ≡ 0 ∷ 1 ∷ 2 ∷ 3 ∷ [])
    × (map is_level (unclassified ∷ confidential ∷ secret ∷ top_secret ∷ 0 ∷ 1 ∷ 102 ∷ 153 ∷ 241 ∷ 255 ∷ [])
    ≡ true ∷ true ∷ true ∷ true ∷ false ∷ false ∷ false ∷ false ∷ false ∷ false ∷ [])
    × (map (at_most unclassified) (unclassified ∷ confidential ∷ secret ∷ top_secret ∷ []) ≡ true ∷ true ∷ true ∷ true ∷ [])
    × (map (at_most confidential) (unclassified ∷ confidential ∷ secret ∷ top_secret ∷ []) ≡ false ∷ true ∷ true ∷ true ∷ [])
    × (map (at_most secret) (unclassified ∷ confidential ∷ secret ∷ top_secret ∷ []) ≡ false ∷ false ∷ true ∷ true ∷ [])
    × (map (at_most top_secret) (unclassified ∷ confidential ∷ secret ∷ top_secret ∷ []) ≡ false ∷ false ∷ false ∷ true ∷ [])

-- what one way permits: from a level to a level, so many flag fields, and what stands in their first places; zeros behind them
abbrev pub permits : ℕ → ℕ → ℕ → List ℕ → Way
permits low high n fields = record { lowest = low; highest = high; count = n; flags = fields ++ replicate (256 - length fields) 0 }

abbrev pub sound_ways : List Way
sound_ways =
    permits unclassified top_secret 1 (8192 ∷ [])
    -- one level; no field; all 256
    ∷ permits secret secret 1 (0 ∷ [])
    ∷ permits confidential secret 0 []
    ∷ permits confidential secret 256 (replicate 256 7)
    -- "and nothing else of these fields": one over 14 flags; one twice; in falling order; 0 before another
    ∷ permits confidential secret 2 (16384 ∷ 65535 ∷ [])
    ∷ permits confidential secret 2 (8192 ∷ 8192 ∷ [])
    ∷ permits confidential secret 3 (9 ∷ 0 ∷ 5 ∷ [])
    ∷ []

abbrev pub unsound_ways : List Way
unsound_ways =
    -- a lowest level that is none of the four; a highest; both
    permits 170 top_secret 1 (8192 ∷ [])
    ∷ permits unclassified 62 1 (8192 ∷ [])
    ∷ permits 0 0 0 []
    -- lowest above highest
    ∷ permits secret confidential 1 (8192 ∷ [])
    ∷ permits top_secret unclassified 1 (8192 ∷ [])
    -- more than 256 fields; a place that is unused and not 0: the first of them, the last
    ∷ permits confidential secret 257 (replicate 256 7)
    ∷ permits confidential secret 1 (8192 ∷ 1 ∷ [])
    ∷ permits confidential secret 1 (8192 ∷ (replicate 254 0 ++ (1 ∷ [])))
    ∷ []

abbrev pub zero_way : Way
zero_way = permits 0 0 0 []

abbrev pub settings : Bool → Way → Way → Basic
settings on r s = record { on = on; receiving = r; sending = s }

-- switched off: each field of a way alone is not 0
abbrev pub not_zero : List Way
not_zero = permits 171 0 0 [] ∷ permits 0 171 0 [] ∷ permits 0 0 1 [] ∷ permits 0 0 0 (1 ∷ []) ∷ permits 0 0 0 (replicate 255 0 ++ (1 ∷ [])) ∷ []

abbrev pub any_way : Way
any_way = permits unclassified top_secret 1 (8192 ∷ [])

abbrev pub WorkedSettings : Type 0
WorkedSettings =
    (map way_sound sound_ways ≡ true ∷ true ∷ true ∷ true ∷ true ∷ true ∷ true ∷ [])
    × (map way_sound unsound_ways ≡ false ∷ false ∷ false ∷ false ∷ false ∷ false ∷ false ∷ false ∷ [])
    -- switched on, both ways are asked; switched off, both are all 0
    × (basic_sound (settings true any_way any_way) ≡ true)
    × (basic_sound (settings true zero_way any_way) ≡ false)
    × (basic_sound (settings true any_way zero_way) ≡ false)
    × (basic_sound (settings false zero_way zero_way) ≡ true)
    × (map (λ w. basic_sound (settings false w zero_way)) not_zero ≡ false ∷ false ∷ false ∷ false ∷ false ∷ [])
    × (map (λ w. basic_sound (settings false zero_way w)) not_zero ≡ false ∷ false ∷ false ∷ false ∷ false ∷ [])
