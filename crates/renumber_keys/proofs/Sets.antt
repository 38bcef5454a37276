-- Laws of the one list of runs of a set: it is spaced, it covers the set, and no other list does.
use mathlib.Core.Path.{◌≡◌, refl, sym, ◌∙◌, ap}
use mathlib.Core.Bool.{Bool, true, false, cond, ◌&&◌, ◌||◌, and-false, or-false}
use mathlib.Core.List.{List}
use mathlib.Core.Logic.{◌⊎◌, inl, inr}
use Prim.Native.Nat.{ℕ, zero, suc, ◌≤◌, ◌<◌}
use native.Mathlib.Omega.{arith}
use native.Mathlib.Nat.{le_refl}
use native.Mathlib.Numerals.{add-one}
use native.Mathlib.Decide.{dec_le}
use lib.Dec.{ltb}
use borrow.Author.Tests.{le-leb, lt-leb, lt-ltb, le-ltb}
use Rattle.label.specs.declared.Run.{Run}
use Rattle.label.specs.Runs.{run, in_run, covers, spaced, push_run, set_runs}
use Rattle.label.proofs.Bools.{and_right, less_or}
use Rattle.label.proofs.Runs.{covers_top, one_form}
use Rattle.label.proofs.Canon.{Canon, Below, canon_spaced, below_weaken}
use Rattle.label.proofs.Push.{push_canon, push_below, push_covers}
use Rattle.renumber_keys.specs.Sets.{runs_of}

module _ (f : ℕ → Bool) where
  -- the form, and that all lies below n
  set_form : (n : ℕ) → Canon 0 (set_runs f n) × Below n (set_runs f n)
  set_form zero = (tt, tt)
  set_form (suc n) = go (f n) (set_form n)
    where
      go : (b : Bool) → Canon 0 (set_runs f n) × Below n (set_runs f n)
          → Canon 0 (cond b (push_run (set_runs f n) n n) (set_runs f n)) × Below (suc n) (cond b (push_run (set_runs f n) n n) (set_runs f n))
      go true k = (push_canon n n (le_refl n) 0 (set_runs f n) k.0 k.1 (omega arith), rw (add-one n) at (push_below n n (le_refl n) (set_runs f n) k.1))
      go false k = (k.0, below_weaken n (suc n) (set_runs f n) (omega arith) k.1)

  set_has : (n c : ℕ) → covers (set_runs f n) c ≡ (ltb c n && f c)
  set_has zero c = sym (simp (le-ltb c 0 (omega arith)))
  set_has (suc n) c = go (f n) refl (set_has n c)
    where
      go : (b : Bool) → f n ≡ b → covers (set_runs f n) c ≡ (ltb c n && f c) → covers (cond b (push_run (set_runs f n) n n) (set_runs f n)) c ≡ (ltb c (suc n) && f c)
      go true q ih = push_covers n n (le_refl n) 0 (set_runs f n) c (set_form n).0 ∙ ap (λ (z : Bool). z || in_run (run n n) c) ih ∙ at_n (less_or c n)
        where
          at_n : (c < n) ⊎ (n ≤ c) → ((ltb c n && f c) || in_run (run n n) c) ≡ (ltb c (suc n) && f c)
          at_n (inl w) = simp (lt-ltb c n w, lt-ltb c (suc n) (omega arith), lt-leb n c w, or-false)
          at_n (inr w) = elim (dec_le c n) [ yes u ↦ same (omega arith) | no u ↦ simp (le-ltb c n w, le-ltb c (suc n) (omega arith), lt-leb c n (omega arith), and-false) ]
            where
              same : c ≡ n → ((ltb c n && f c) || in_run (run n n) c) ≡ (ltb c (suc n) && f c)
              same z = rw z (simp (le-ltb n n (omega arith), lt-ltb n (suc n) (omega arith), le-leb n n (omega arith), q))
      go false q ih = ih ∙ at_n (less_or c n)
        where
          at_n : (c < n) ⊎ (n ≤ c) → (ltb c n && f c) ≡ (ltb c (suc n) && f c)
          at_n (inl w) = simp (lt-ltb c n w, lt-ltb c (suc n) (omega arith))
          at_n (inr w) = elim (dec_le c n) [ yes u ↦ same (omega arith) | no u ↦ simp (le-ltb c n w, le-ltb c (suc n) (omega arith)) ]
            where
              same : c ≡ n → (ltb c n && f c) ≡ (ltb c (suc n) && f c)
              same z = rw z (simp (le-ltb n n (omega arith), q, and-false))

  pub set_spaced : spaced 0 (runs_of f) ≡ true
  unfolding runs_of
  set_spaced = let k = set_form 65535 in canon_spaced 0 (set_runs f 65535) k.0 k.1

  pub set_covers : (c : ℕ) → covers (runs_of f) c ≡ (ltb c 65535 && f c)
  unfolding runs_of
  set_covers c = set_has 65535 c

-- A spaced list of the categories of which `f` says yes is that list.
pub the_runs : (f : ℕ → Bool) (xs : List Run) → spaced 0 xs ≡ true → ((c : ℕ) → covers xs c ≡ f c) → xs ≡ runs_of f
the_runs f xs e h =
    one_form 0 0 xs (runs_of f) e (set_spaced f)
    (λ c m. set_covers f c ∙ simp (lt-ltb c 65535 (omega (arith, covers_top 0 xs c e m)), sym (h c) ∙ m))
    (λ c m. h c ∙ and_right (ltb c 65535) _ (sym (set_covers f c) ∙ m))
