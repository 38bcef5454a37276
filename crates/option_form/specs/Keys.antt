-- The form and the spelling of runs that are held as keys, for every list of keys: over 120 are no label's, and have neither.
use Rattle.std.specs.Prelude.{ℕ, cond, List, length, leb}
use Rattle.std.proofs.Math.Option.{Option, none}
use Rattle.label_keys.specs.Keys.{key_runs}
use Rattle.option.specs.declared.Form.{Form}
use Rattle.option.specs.declared.Spellings.{Spellings}
use Rattle.option.specs.Spelling.{form_for, spelling_of}

-- the form under a set of permitted spellings; tag 0 where there is none
unfoldable pub keys_form : Spellings → List ℕ → Form
keys_form p ks = cond (leb (length ks) 120) (form_for p (key_runs ks)) (record { tag = 0; size = 31 })

-- the spelling
unfoldable pub keys_spelled : Spellings → ℕ → ℕ → List ℕ → Option (List ℕ)
keys_spelled p d v ks = cond (leb (length ks) 120) (spelling_of p d v (key_runs ks)) none
