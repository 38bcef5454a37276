-- Laws of how long a spelling is.
use Prim.Native.Nat.{ℕ, ◌+◌, ◌≤◌, ◌<◌}
use mathlib.Core.Path.{◌≡◌, refl, ap, sym, ◌∙◌}
use mathlib.Core.List.{List}
use mathlib.Core.Option.{some}
use lib.ListN.{length}
use native.Mathlib.Omega.{arith}
use Rattle.label.specs.declared.Run.{Run}
use Rattle.label_keys.specs.Keys.{key_runs}
use Rattle.option.specs.declared.Spellings.{Spellings}
use Rattle.option.specs.declared.Form.{Form}
use Rattle.option.specs.Spelling.{size1, size2, size5, form_for, spelled_by, spelling_of}
use Rattle.option.proofs.Choice.{Taken, take0, take1, take_ten, take2, take5, choice}
use Rattle.option.proofs.Spelled.{form_size}
use Rattle.option.proofs.Theorems.{spelled_is}
use Rattle.option_form.specs.Spelled.{length_of}
use Rattle.option_form.specs.Keys.{keys_form, keys_spelled}
use Rattle.option_form.proofs.Keys.{form_chosen, chosen_none, chosen_some}

-- a form that is taken has at most 30 octets of categories
pub taken_short : (p : Spellings) (rs : List Run) (f : Form) → Taken p (size1 rs) (size2 rs) (size5 rs) f → 0 < f.tag → f.size ≤ 30
taken_short p rs f (take1 e h) q = h
taken_short p rs f (take_ten e h) q = omega arith
taken_short p rs f (take2 e h) q = h
taken_short p rs f (take5 e h) q = omega arith
taken_short p rs f take0 q = absurd (omega arith)

-- the ten octets before the categories, and these
by_length : (p : Spellings) (d v : ℕ) (rs : List Run) (f : Form) → f ≡ form_for p rs → 0 < f.tag → 10 + f.size ≡ length (spelled_by f d v rs)
unfolding spelled_by
by_length p d v rs f e h = omega (arith, form_size p rs f (rw e (choice p rs).taken) h)

-- at least ten octets, and at most 40
pub spelled_bounds : (p : Spellings) (d v : ℕ) (rs : List Run) (s : List ℕ) → spelling_of p d v rs ≡ some s → (10 ≤ length s) × (length s ≤ 40)
spelled_bounds p d v rs s e =
    let q = spelled_is p d v rs s e in
    let h : (form_for p rs).size ≤ 30 = taken_short p rs (form_for p rs) (choice p rs).taken q.1 in
    let n : 10 + (form_for p rs).size ≡ length s = by_length p d v rs (form_for p rs) refl q.1 ∙ ap length (sym q.0) in
    (omega arith, omega arith)

-- By the form that was chosen.
module _ (p : Spellings) (ks : List ℕ) (f : Form) (e : f ≡ keys_form p ks) where
  pub chosen_short : 0 < f.tag → f.size ≤ 30
  chosen_short h = taken_short p (key_runs ks) f (rw (form_chosen p ks f e h).1 (choice p (key_runs ks)).taken) h

  pub chosen_size : (d v : ℕ) → 0 < f.tag → 10 + f.size ≡ length (spelled_by f d v (key_runs ks))
  chosen_size d v h = by_length p d v (key_runs ks) f (form_chosen p ks f e h).1 h

  pub chosen_length : (d v : ℕ) → 0 < f.tag → 10 + f.size ≡ length_of (keys_spelled p d v ks)
  chosen_length d v h = chosen_size d v h ∙ sym (ap length_of (chosen_some p d v ks f e h))

  pub unchosen_length : (d v : ℕ) → f.tag ≡ 0 → 0 ≡ length_of (keys_spelled p d v ks)
  unchosen_length d v z = sym (ap length_of (chosen_none p d v ks f e z))
