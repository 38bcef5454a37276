-- The theorems of `specs/Theorems.antt`.
use Prim.Native.Nat.{ℕ, ◌-◌, ◌≤◌}
use mathlib.Core.Path.{◌≡◌, refl, ap, ◌∙◌}
use mathlib.Core.Bool.{Bool, true, false}
use mathlib.Core.List.{List}
use mathlib.Core.Logic.{◌↔◌}
use mathlib.Core.Option.{Option, none, some}
use lib.ListN.{length, take, drop, replicate, length-append, length-drop, length-replicate}
use lib.Seq.{take_at, drop_at}
use native.Mathlib.Omega.{arith}
use native.Mathlib.Decide.{dec_le}
use Rattle.label.specs.declared.Label.{Label}
use Rattle.label.specs.Label.{used, well_formed}
use Rattle.option.specs.declared.Spellings.{Spellings}
use Rattle.option.specs.Spelling.{padded, spelled_of}
use Rattle.option_form.specs.Spelled.{lacking}
use Rattle.option_form.proofs.Lengths.{spelled_bounds}
use Rattle.option_spell.specs.Spelling.{Spelling}
use Rattle.option_spell.specs.Spelling.{spelling_number, spelling_answer, spelling_out}
use Rattle.option_spell.specs.Theorems.{SpellingAlone}
use Rattle.option_spell.proofs.Told.{row_back}
use Rattle.option_spell.proofs.Answers.{number_short, number_ill, number_none, number_done, answer_refused, answer_done, out_refused, out_done}

-- A refusal or the option: the four ways that the checks go.
pub data Result (p : Spellings) (l : Label) (out : List ℕ) : Type 0 where
  refusal : (k : ℕ) → (k ≡ 0 → ⊥) → spelling_number p l (length out) ≡ k → Result p l out
  option : (s : List ℕ) → spelled_of p l ≡ some s → spelling_number p l (length out) ≡ 0 → 40 ≤ length out → Result p l out

pub result : (p : Spellings) (l : Label) (out : List ℕ) → Result p l out
result p l out = go (dec_le 40 (length out)) (well_formed l) refl (spelled_of p l) refl
  where
    go : Dec (40 ≤ length out) → (b : Bool) → well_formed l ≡ b → (o : Option (List ℕ)) → spelled_of p l ≡ o → Result p l out
    go (no u) b w o e = refusal 1 (λ z. omega arith) (number_short p l (length out) (omega arith))
    go (yes u) false w o e = refusal 2 (λ z. omega arith) (number_ill p l (length out) u w)
    go (yes u) true w none e = refusal 18 (λ z. omega arith) (number_none p l (length out) u w e)
    go (yes u) true w (some s) e = option s e (number_done p l (length out) u w s e) u

padded_length : (p : Spellings) (l : Label) (s : List ℕ) → spelled_of p l ≡ some s → length (padded s) ≡ 40
padded_length p l s e =
    let b = spelled_bounds p l.domain l.level (used l) s e in
    omega (arith, b.1, length-append s (replicate (40 - length s) 0), length-replicate {A = ℕ} (40 - length s) 0)

done : (p : Spellings) (l : Label) (out : List ℕ) → well_formed l ≡ true → 40 ≤ length out → (spelling_answer p l (length out)).number ≡ 0 ↔ (lacking (spelled_of p l) ≡ false)
done p l out w h = go (spelled_of p l) refl
  where
    go : (o : Option (List ℕ)) → spelled_of p l ≡ o → (spelling_answer p l (length out)).number ≡ 0 ↔ (lacking (spelled_of p l) ≡ false)
    go none e =
        let n = answer_refused p l (length out) 18 (λ z. omega arith) (number_none p l (length out) h w e) in
        let k : (spelling_answer p l (length out)).number ≡ 18 = ap (λ (a : Spelling). a.number) n in
        (λ q. absurd (omega arith), λ q. (let y = ap lacking e in let z : ◌≡◌ {A = ℕ} 0 1 = cc in absurd (omega arith)))
    go (some s) e =
        let n = answer_done p l (length out) s (number_done p l (length out) h w s e) e in
        (λ q. ap lacking e, λ q. ap (λ (a : Spelling). a.number) n)

refused : (p : Spellings) (l : Label) (out : List ℕ) → ((spelling_answer p l (length out)).number ≡ 0 → ⊥) → ((spelling_answer p l (length out)).count ≡ 0) × (spelling_out p l out ≡ out)
refused p l out h = go (result p l out)
  where
    go : Result p l out → ((spelling_answer p l (length out)).count ≡ 0) × (spelling_out p l out ≡ out)
    go (refusal k z e) = (ap (λ (a : Spelling). a.count) (answer_refused p l (length out) k z e), out_refused p l out k z e)
    go (option s e n u) = absurd (h (ap (λ (a : Spelling). a.number) (answer_done p l (length out) s n e)))

beyond : (p : Spellings) (l : Label) (out : List ℕ) → drop 40 (spelling_out p l out) ≡ drop 40 out
beyond p l out = go (result p l out)
  where
    go : Result p l out → drop 40 (spelling_out p l out) ≡ drop 40 out
    go (refusal k z e) = ap (drop 40) (out_refused p l out k z e)
    go (option s e n u) = ap (drop 40) (out_done p l out s n e) ∙ drop_at (padded s) (drop 40 out) 40 (padded_length p l s e)

sized : (p : Spellings) (l : Label) (out : List ℕ) → length (spelling_out p l out) ≡ length out
sized p l out = go (result p l out)
  where
    go : Result p l out → length (spelling_out p l out) ≡ length out
    go (refusal k z e) = ap length (out_refused p l out k z e)
    go (option s e n u) = ap length (out_done p l out s n e) ∙ omega (arith, length-append (padded s) (drop 40 out), length-drop 40 out, padded_length p l s e)

pub spelling_alone : SpellingAlone
spelling_alone =
    record {
      done = done;
      counted = λ p l out s w h e. ap (λ (a : Spelling). a.count) (answer_done p l (length out) s (number_done p l (length out) h w s e) e);
      written = λ p l out s w h e.
          ap (take 40) (out_done p l out s (number_done p l (length out) h w s e) e) ∙ take_at (padded s) (drop 40 out) 40 (padded_length p l s e);
      refused = refused;
      beyond = beyond;
      sized = sized;
      row = row_back;
    }
