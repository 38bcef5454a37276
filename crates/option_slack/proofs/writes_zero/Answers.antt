-- `option_slack::writes_zero` meets its contract.
use native.Mathlib.Omega.{arith}
use Prim.Native.Nat.{ℕ, ◌-◌, ◌/◌}
use mathlib.Core.Path.{◌≡◌, sym, ap, ◌∙◌}
use mathlib.Core.List.{List}
use lib.Dec.{eqb}
use lib.ListN.{length, get_or}
use Rattle.option.specs.Option.{numbers_in}
use Rattle.option.proofs.Meaning.{numbers_length}
use Rattle.option_slack.proofs.Pairs.{number_in, zero_odd, zero_even}
use Rattle.option_slack.proofs.writes_zero.Goals as goal

pub returns-then-n-ne0 : goal.returns-then-n-ne0
returns-then-n-ne0 c =
    let b = c.args.octets.now in
    sym (zero_odd (numbers_in b) (omega (arith, numbers_length b)))

pub returns : goal.returns
returns c =
    let b : List ℕ = c.args.octets.now in
    let e : length b / 2 - 1 ≡ length (numbers_in b) - 1 = omega (arith, numbers_length b) in
    let v : c.number_at-last.result ≡ get_or (numbers_in b) (length (numbers_in b) - 1) 0 =
    c.number_at-last.ensures ∙ sym (number_in b (length b / 2 - 1) (omega arith)) ∙ ap (λ (k : ℕ). get_or (numbers_in b) k 0) e in
    ap (λ (x : ℕ). eqb x 0) v ∙ sym (zero_even (numbers_in b) (omega (arith, numbers_length b)) (omega (arith, numbers_length b)))
