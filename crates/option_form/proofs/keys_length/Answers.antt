-- `option_form::keys_length` meets its contract.
use native.Mathlib.Omega.{arith}
use Prim.Native.Nat.{◌<◌}
use Rattle.option_form.proofs.Lengths.{chosen_short, chosen_length, unchosen_length}
use Rattle.option_form.proofs.keys_length.Goals as goal

pub returns-then-form-eq0 : goal.returns-then-form-eq0
returns-then-form-eq0 c d v =
    let a = c.args in
    unchosen_length a.permitted a.keys.now _ c.choose-form.ensures d v c.if-form-eq0.true

-- a form was chosen
pos : (c : goal.After-struct_known-2-1) → 0 < c.choose-form.result.tag
pos c = let q = c.if-form-eq0.false in omega arith

pub overflow_add-result : goal.overflow_add-result
overflow_add-result c =
    let a = c.args in
    record { fits = omega (arith, chosen_short a.permitted a.keys.now _ c.choose-form.ensures (pos c)) }

pub returns : goal.returns
returns c d v =
    let a = c.args in
    chosen_length a.permitted a.keys.now _ c.choose-form.ensures d v (pos c)
