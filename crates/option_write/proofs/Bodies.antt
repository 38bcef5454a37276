-- What each writer writes is the categories of the spelling in its tag.
use Prim.Native.Nat.{ℕ, ◌*◌, ◌/◌, ◌≤◌, ◌<◌}
use mathlib.Core.Path.{◌≡◌, refl, ap, sym, ◌∙◌}
use mathlib.Core.List.{List}
use mathlib.Core.Logic.{◌⊎◌, inl, inr, ⊎_elim}
use lib.ListN.{length}
use native.Mathlib.Omega.{arith}
use Rattle.label.specs.declared.Run.{Run}
use Rattle.label.specs.Runs.{covers, count_of}
use Rattle.label_keys.specs.Keys.{key_runs}
use Rattle.option.specs.declared.Spellings.{Spellings}
use Rattle.option.specs.declared.Form.{Form}
use Rattle.option.specs.Index.{numbers_out, pair_number}
use Rattle.option.specs.Spelling.{size1, size2, size5, body_for, octets_of, octets_out, numbers_of}
use Rattle.option.proofs.Choice.{Taken, take0, take1, take_ten, take2, take5, choice, size5_even}
use Rattle.option.proofs.Spelled.{body2_length, body5_length, form_size}
use Rattle.option.proofs.Bridge.{pairs_out}
use Rattle.option_form.specs.Keys.{keys_form}
use Rattle.option_form.proofs.Keys.{form_chosen}
use Rattle.option_form.proofs.Lengths.{chosen_short}
use Rattle.option_write.specs.Stages.{Written}

-- the form that was chosen is written in its size, at most 30 octets
module _ (p : Spellings) (ks : List ℕ) (f : Form) (e : f ≡ keys_form p ks) (h : 0 < f.tag) where
  pub chosen_written : Written f.tag f.size (key_runs ks)
  chosen_written = go f (rw (form_chosen p ks f e h).1 (choice p (key_runs ks)).taken) h (chosen_short p ks f e h)
    where
      rs : List Run
      rs = key_runs ks

      known : (g : Form) → Taken p (size1 rs) (size2 rs) (size5 rs) g → 0 < g.tag → (g.tag ≡ 1) ⊎ (g.tag ≡ 2) ⊎ (g.tag ≡ 5)
      known g (take1 x y) q = inl refl
      known g (take_ten x y) q = inl refl
      known g (take2 x y) q = inr (inl refl)
      known g (take5 x y) q = inr (inr refl)
      known g take0 q = absurd (omega arith)

      go : (g : Form) → Taken p (size1 rs) (size2 rs) (size5 rs) g → 0 < g.tag → g.size ≤ 30 → Written g.tag g.size rs
      go g t q s = record { short = s; sized = form_size p rs g t q; known = known g t q }

module _ (t n : ℕ) (rs : List Run) (w : Written t n rs) where
  -- the last of the three tags
  pub five : (t ≡ 1 → ⊥) → (t ≡ 2 → ⊥) → t ≡ 5
  five a b = ⊎_elim (λ e. absurd (a e)) (λ q. ⊎_elim (λ e. absurd (b e)) (λ e. e) q) w.known

  pub body_one : t ≡ 1 → octets_of (covers rs) n ≡ body_for t n rs
  unfolding body_for
  body_one e = rw e

  pub body_two : t ≡ 2 → (octets_out (numbers_of rs) ≡ body_for t n rs) × (2 * count_of rs ≡ n)
  unfolding body_for
  body_two e =
      let l : n ≡ size2 rs = sym w.sized ∙ ap (λ (u : ℕ). length (body_for u n rs)) e ∙ body2_length n rs in
      (rw e, sym l)

  pub body_five : t ≡ 5 → (numbers_out (pair_number rs) (n / 2) ≡ body_for t n rs) × (2 * (n / 2) ≡ n) × (n / 2 ≤ 2 * length rs)
  unfolding body_for
  body_five e =
      let l : n ≡ size5 rs = sym w.sized ∙ ap (λ (u : ℕ). length (body_for u n rs)) e ∙ body5_length n rs in
      let v = size5_even rs in
      let h : 2 * (n / 2) ≡ size5 rs = omega arith in
      (pairs_out rs (n / 2) h ∙ sym (ap (λ (u : ℕ). body_for u n rs) e), omega arith, omega arith)
