-- The row of what `spell_label` answers.
use Prim.Native.Nat.{ℕ}
use mathlib.Core.Path.{◌≡◌, refl, ap, ◌∙◌}
use mathlib.Core.Bool.{Bool, true, false, not, cond}
use lib.Dec.{ltb, eqb}
use Rattle.std.specs.Prelude.{Ok, Err}
use Rattle.label.specs.declared.Label.{Label}
use Rattle.label.specs.Label.{well_formed}
use Rattle.option.specs.declared.Spellings.{Spellings}
use Rattle.option.specs.Spelling.{spelled_of}
use Rattle.option_form.specs.Spelled.{length_of, lacking}
use Rattle.option_spell.specs.declared.SpellError.{SpellError}
use Rattle.option_spell.specs.Spelling.{Spelling, number_of, told, row_of, spelling_number, spelling_answer}

-- by the number of the tests
abbrev by_number : ℕ → ℕ → Spelling
by_number n k = cond (eqb n 0) (record { number = 0; count = k }) (record { number = n; count = 0 })

pub row_back : (p : Spellings) (l : Label) (n : ℕ) → row_of (told (spelling_answer p l n)) ≡ spelling_answer p l n
unfolding spelling_answer spelling_number
row_back p l n = go (ltb n 40) (not (well_formed l)) (lacking (spelled_of p l))
  where
    go : (a b c : Bool) →
        let s = by_number (cond a 1 (cond b 2 (cond c 18 0))) (length_of (spelled_of p l)) in
        row_of (told s) ≡ s
    go true b c = refl
    go false true c = refl
    go false false true = refl
    go false false false = refl

module _ (p : Spellings) (l : Label) (n : ℕ) where
  pub told_spelled : (k : ℕ) → Ok k ≡ told (spelling_answer p l n) → ◌≡◌ {A = Spelling} (record { number = 0; count = k }) (spelling_answer p l n)
  told_spelled k e = ap row_of e ∙ row_back p l n

  pub told_unspelled : (x : SpellError) → Err x ≡ told (spelling_answer p l n) → ◌≡◌ {A = Spelling} (record { number = number_of x; count = 0 }) (spelling_answer p l n)
  told_unspelled x e = ap row_of e ∙ row_back p l n
