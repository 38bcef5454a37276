-- `option_write::write_head` meets its contract: the domain's four octets are the quotients of the definition.
use native.Mathlib.Omega.{arith}
use Prim.Native.Nat.{ℕ, ◌+◌, ◌/◌, ◌%◌}
use mathlib.Core.Path.{◌≡◌, ap, ◌∙◌}
use mathlib.Core.List.{List, ◌∷◌}
use lib.ListN.{get_or, drop}
use Rattle.option_write.proofs.Writing.{head_set}
use Rattle.option_write.proofs.write_head.Goals as goal

pub returns : goal.returns
returns c =
    let a = c.args in
    let e = c.to_be_bytes.ensures in
    let first : get_or c.to_be_bytes.result 0 0 ≡ a.domain / 256 / 256 / 256 = ap (λ (l : List ℕ). get_or l 0 0) e ∙ omega arith in
    let second : get_or c.to_be_bytes.result 1 0 ≡ a.domain / 256 / 256 % 256 = ap (λ (l : List ℕ). get_or l 1 0) e ∙ omega arith in
    let third : get_or c.to_be_bytes.result 2 0 ≡ a.domain / 256 % 256 = ap (λ (l : List ℕ). get_or l 2 0) e ∙ omega arith in
    let fourth : get_or c.to_be_bytes.result 3 0 ≡ a.domain % 256 = ap (λ (l : List ℕ). get_or l 3 0) e ∙ omega arith in
    head_set a.out.now _ _ _ _ _ _ _ _ _ _ c.requires.0
    ∙ (λ i. 134 ∷ (10 + a.size) ∷ first i ∷ second i ∷ third i ∷ fourth i ∷ a.tag ∷ (4 + a.size) ∷ 0 ∷ a.level ∷ drop 10 a.out.now)
