-- What an output holds after the spelling of runs that are held as keys was written, for every list of keys and every output.
use Rattle.std.specs.Prelude.{ℕ, cond, List, ◌++◌, length, drop, ltb}
use Rattle.std.proofs.Math.Option.{Option, none, some}
use Rattle.option.specs.declared.Spellings.{Spellings}
use Rattle.option.specs.Spelling.{padded}
use Rattle.option_form.specs.Spelled.{length_of}
use Rattle.option_form.specs.Keys.{keys_spelled}

-- at the front of an output, in which the rest stays; where there is none, all stays
abbrev pub in_front : Option (List ℕ) → List ℕ → List ℕ
in_front none out = out
in_front (some s) out = s ++ drop (length s) out

-- with zeros from there up to octet 39, and the octets from 40 on as they were
abbrev pub laid : Option (List ℕ) → List ℕ → List ℕ
laid none out = out
laid (some s) out = padded s ++ drop 40 out

-- an output of under 40 octets is not written
unfoldable pub keys_count : Spellings → ℕ → ℕ → List ℕ → ℕ → ℕ
keys_count p d v ks n = cond (ltb n 40) 0 (length_of (keys_spelled p d v ks))

unfoldable pub keys_written : Spellings → ℕ → ℕ → List ℕ → List ℕ → List ℕ
keys_written p d v ks out = cond (ltb (length out) 40) out (in_front (keys_spelled p d v ks) out)

unfoldable pub keys_laid : Spellings → ℕ → ℕ → List ℕ → List ℕ → List ℕ
keys_laid p d v ks out = cond (ltb (length out) 40) out (laid (keys_spelled p d v ks) out)
