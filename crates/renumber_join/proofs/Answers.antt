-- Laws of the answers: each way to one, and what led to one that is no refusal.
use mathlib.Core.Path.{◌≡◌, refl, sym, ap}
use mathlib.Core.Bool.{Bool, true, false, cond, ◌&&◌, true≢false}
use Prim.Native.Nat.{◌≤◌, max}
use lib.Dec.{leb, eqb}
use lib.ListN.{length}
use borrow.Author.Tests.{leb-true, eqb-true, eq-eqb, ne_eqb}
use Rattle.std.specs.Prelude.{None, Some, Ok, Err}
use Rattle.std.specs.Option.{ok_or}
use Rattle.std.specs.Result.{is_err}
use Rattle.label.specs.declared.Label.{Label}
use Rattle.label.specs.Label.{label_of, well_formed}
use Rattle.renumber.specs.Renumber.{fitted}
use Rattle.renumber_join.specs.declared.JoinError.{JoinError}
use Rattle.renumber_join.specs.declared.JoinError.TheVariants.{Unsound, TooMany}
use Rattle.renumber_join.specs.Join.{Joined, joined_as, either_runs, joined_of}

module _ (a b : Label) where
  pub joined_first_ill : well_formed a ≡ false → Err Unsound ≡ joined_of a b
  unfolding joined_of
  joined_first_ill e = sym (rw e)

  pub joined_second_ill : well_formed a ≡ true → well_formed b ≡ false → Err Unsound ≡ joined_of a b
  unfolding joined_of
  joined_second_ill e f = sym (rw (e, f))

  pub joined_foreign : well_formed a ≡ true → well_formed b ≡ true → (a.domain ≡ b.domain → ⊥) → Err Unsound ≡ joined_of a b
  unfolding joined_of
  joined_foreign e f h = sym (rw (e, f, ne_eqb a.domain b.domain h))

  pub joined_fitted : well_formed a ≡ true → well_formed b ≡ true → a.domain ≡ b.domain → fitted TooMany a.domain (max a.level b.level) (either_runs a b) ≡ joined_of a b
  unfolding joined_of
  joined_fitted e f h = sym (rw (e, f, eq-eqb a.domain b.domain h))

-- What led to an answer that is no refusal.
pub record Led (a b j : Label) : Type 0 where
  pub first : well_formed a ≡ true
  pub second : well_formed b ≡ true
  pub domain : a.domain ≡ b.domain
  pub fits : length (either_runs a b) ≤ 120
  pub label : j ≡ label_of a.domain (max a.level b.level) (either_runs a b)

not_done : {e : JoinError} {j : Label} → ◌≡◌ {A = Joined} (Err e) (Ok j) → ⊥
not_done k = true≢false (ap is_err k)

done_same : {i j : Label} → ◌≡◌ {A = Joined} (Ok i) (Ok j) → i ≡ j
done_same k = cc

pub led : (a b j : Label) → joined_of a b ≡ joined_as j → Led a b j
unfolding joined_of
led a b j e = go (well_formed a) (well_formed b) (eqb a.domain b.domain) (leb (length (either_runs a b)) 120) refl refl refl refl e
  where
    go : (x y z w : Bool) → well_formed a ≡ x → well_formed b ≡ y → eqb a.domain b.domain ≡ z → leb (length (either_runs a b)) 120 ≡ w
        → cond (x && (y && z)) (ok_or (cond w (Some (label_of a.domain (max a.level b.level) (either_runs a b))) None) TooMany) (Err Unsound) ≡ joined_as j → Led a b j
    go true true true true p q r s k =
        record { first = p; second = q; domain = eqb-true _ _ r; fits = leb-true _ _ s; label = sym (done_same k) }
    go true true true false p q r s k = absurd (not_done k)
    go true true false w p q r s k = absurd (not_done k)
    go true false z w p q r s k = absurd (not_done k)
    go false y z w p q r s k = absurd (not_done k)
