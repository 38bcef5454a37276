-- Laws of sets of permitted spellings.
use mathlib.Core.Path.{◌≡◌}
use mathlib.Core.Bool.{true, not}
use borrow.Author.Tests.{not-true}
use Rattle.label.proofs.Bools.{and_left, and_right}
use Rattle.option.specs.declared.Spellings.{Spellings}
use Rattle.option.specs.Permitted.{usual, is_usual}

-- the test of the usual set tells it
pub usual_is : (p : Spellings) → is_usual p ≡ true → p ≡ usual
usual_is p e =
    let a = and_left p.shortest _ e in
    let e1 = and_right p.shortest _ e in
    let b = not-true p.ten (and_left (not p.ten) _ e1) in
    let e2 = and_right (not p.ten) _ e1 in
    let c = and_left p.numbers _ e2 in
    let d = and_right p.numbers _ e2 in
    λ i. record { shortest = a i; ten = b i; numbers = c i; pairs = d i }
