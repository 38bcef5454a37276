-- Laws of the answers: what each stage of spelling a label alone says.
use Prim.Native.Nat.{ℕ, ◌≤◌, ◌<◌}
use mathlib.Core.Path.{◌≡◌, refl, ap, sym, ◌∙◌}
use mathlib.Core.Bool.{true, false, and-false}
use mathlib.Core.List.{List, ◌++◌}
use mathlib.Core.Option.{Option, none, some}
use lib.ListN.{length, drop}
use native.Mathlib.Omega.{arith}
use borrow.Author.Tests.{lt-ltb, le-ltb, lt-leb, eq-eqb, ne_eqb}
use Rattle.label.specs.declared.Label.{Label}
use Rattle.label.specs.Label.{used, well_formed}
use Rattle.label_keys.specs.Keys.{key_runs}
use Rattle.label.proofs.Labels.{formed, used_length}
use Rattle.option.specs.declared.Spellings.{Spellings}
use Rattle.option.specs.Spelling.{padded, spelled_of}
use Rattle.option_form.specs.Spelled.{length_of}
use Rattle.option_form.proofs.Lengths.{spelled_bounds}
use Rattle.option_write.specs.Keys.{laid, keys_count, keys_laid}
use Rattle.option_write.proofs.Keys.{keys_laid_lem}
use Rattle.std.specs.Prelude.{Result, Err}
use Rattle.option_spell.specs.declared.SpellError.{SpellError}
use Rattle.option_spell.specs.Spelling.{error_of, told, spelling_number, spelling_answer, spelling_out}
use Rattle.option_spell.specs.Stages.{answer_of}

-- The number.

module _ (p : Spellings) (l : Label) (n : ℕ) where
  pub number_short : n < 40 → spelling_number p l n ≡ 1
  unfolding spelling_number
  number_short h = rw (lt-ltb n 40 h)

  pub number_ill : 40 ≤ n → well_formed l ≡ false → spelling_number p l n ≡ 2
  unfolding spelling_number
  number_ill h w = rw (le-ltb n 40 h, w)

  pub number_none : 40 ≤ n → well_formed l ≡ true → spelled_of p l ≡ none → spelling_number p l n ≡ 18
  unfolding spelling_number
  number_none h w e = rw (le-ltb n 40 h, w, e)

  pub number_done : 40 ≤ n → well_formed l ≡ true → (s : List ℕ) → spelled_of p l ≡ some s → spelling_number p l n ≡ 0
  unfolding spelling_number
  number_done h w s e = rw (le-ltb n 40 h, w, e)

  pub answer_refused : (k : ℕ) → (k ≡ 0 → ⊥) → spelling_number p l n ≡ k → spelling_answer p l n ≡ record { number = k; count = 0 }
  unfolding spelling_answer
  answer_refused k z e = rw (e, ne_eqb k 0 z)

  pub answer_done : (s : List ℕ) → spelling_number p l n ≡ 0 → spelled_of p l ≡ some s → spelling_answer p l n ≡ record { number = 0; count = length s }
  unfolding spelling_answer
  answer_done s e q = rw (e, q)

-- ill-formed at a look
pub ill_domain : (l : Label) → l.domain ≡ 0 → well_formed l ≡ false
unfolding well_formed
ill_domain l e = simp (eq-eqb _ _ e)

pub ill_count : (l : Label) → 120 < l.count → well_formed l ≡ false
unfolding well_formed
ill_count l h = simp (lt-leb _ _ h, and-false)

module _ (p : Spellings) (l : Label) (out : List ℕ) where
  pub out_refused : (k : ℕ) → (k ≡ 0 → ⊥) → spelling_number p l (length out) ≡ k → spelling_out p l out ≡ out
  unfolding spelling_out
  out_refused k z e = rw (e, ne_eqb k 0 z)

  -- a refusal: its number, count 0, and nothing written
  pub refused : (k : ℕ) → (k ≡ 0 → ⊥) → spelling_number p l (length out) ≡ k
      → (◌≡◌ {A = Result ℕ SpellError} (Err (error_of k)) (told (spelling_answer p l (length out)))) × (out ≡ spelling_out p l out)
  refused k z e = (rw (answer_refused p l (length out) k z e, ne_eqb k 0 z) refl, sym (out_refused k z e))

  pub out_done : (s : List ℕ) → spelling_number p l (length out) ≡ 0 → spelled_of p l ≡ some s → spelling_out p l out ≡ padded s ++ drop 40 out
  unfolding spelling_out
  out_done s e q = rw (e, q)

-- What spelling the keys of a well-formed label says is what spelling the label does.
module _ (p : Spellings) (l : Label) (out out' : List ℕ) (r : Result ℕ SpellError) (n : ℕ) (f : well_formed l ≡ true) (long : 40 ≤ length out) (ks : List ℕ) (e : key_runs ks ≡ used l)
    (w : (n ≡ keys_count p l.domain l.level ks (length out)) × (out' ≡ keys_laid p l.domain l.level ks out)) (a : r ≡ told (answer_of n)) where
  held : length (used l) ≤ 120
  held = omega (arith, used_length l (formed l f), (formed l f).held)

  counted : n ≡ length_of (spelled_of p l)
  counted = w.0 ∙ (keys_laid_lem p l.domain l.level ks (used l) out e held long).0

  left : out' ≡ laid (spelled_of p l) out
  left = w.1 ∙ (keys_laid_lem p l.domain l.level ks (used l) out e held long).1

  pub keys_spell : (r ≡ told (spelling_answer p l (length out))) × (out' ≡ spelling_out p l out)
  keys_spell = go (spelled_of p l) refl
    where
      go : (o : Option (List ℕ)) → spelled_of p l ≡ o → (r ≡ told (spelling_answer p l (length out))) × (out' ≡ spelling_out p l out)
      go none q =
          let k = refused p l out 18 (λ y. omega arith) (number_none p l (length out) long f q) in
          (a ∙ ap (λ (m : ℕ). told (answer_of m)) (counted ∙ ap length_of q) ∙ k.0, left ∙ ap (λ (o : Option (List ℕ)). laid o out) q ∙ k.1)
      go (some s) q =
          let m = number_done p l (length out) long f s q in
          let b = spelled_bounds p l.domain l.level (used l) s q in
          let done : answer_of (length s) ≡ record { number = 0; count = length s } = rw (ne_eqb (length s) 0 (λ y. omega (arith, b.0))) in
          (a ∙ ap (λ (m : ℕ). told (answer_of m)) (counted ∙ ap length_of q) ∙ ap told (done ∙ sym (answer_done p l (length out) s m q)), left ∙ ap (λ (o : Option (List ℕ)). laid o out) q ∙ sym (out_done p l out s m q))
