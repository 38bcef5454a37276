-- Any set of facts silences exactly when it is not empty.
use mathlib.Core.Path.{◌≡◌, refl, sym}
use mathlib.Core.Bool.{Bool, true, false, ◌||◌}
use mathlib.Core.Logic.{◌⊎◌, inl, inr, ⊎_elim}
use Rattle.label.proofs.Bools.{never, or_cases}
use Rattle.decision.specs.Decision.{silenced}
use Rattle.decision.specs.Theorems.{AnySilences}

either : (a b : Bool) → (a ≡ true) ⊎ (b ≡ true) → (a || b) ≡ true
either true b h = refl
either false b h = ⊎_elim (λ e. absurd (never (sym e))) (λ e. e) h

pub any_silences : AnySilences
unfolding silenced
any_silences f =
    let l : Bool = f.link || (f.fragment || f.source) in
    let g : Bool = f.group || l in (
      λ h.
          ⊎_elim inl
          (λ p. inr (⊎_elim inl (λ q. inr (⊎_elim inl (λ r. inr (or_cases f.fragment f.source r)) (or_cases f.link (f.fragment || f.source) q))) (or_cases f.group l p)))
          (or_cases f.error g h),
      λ h.
          either f.error g
          (⊎_elim inl (λ p. inr (either f.group l (⊎_elim inl (λ q. inr (either f.link (f.fragment || f.source) (⊎_elim inl (λ r. inr (either f.fragment f.source r)) q))) p))) h),
    )
