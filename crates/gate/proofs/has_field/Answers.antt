-- `gate::has_field` meets its contract.
use native.Mathlib.Omega.{arith}
use mathlib.Core.Path.{refl, sym, ◌∙◌}
use mathlib.Core.Bool.{or-false}
use lib.ListN.{drop_of_length-le}
use Rattle.gate.proofs.Back.{among_next}
use Rattle.gate.proofs.has_field.Goals as goal

pub loop-field-preserved : goal.loop-field-preserved
loop-field-preserved c =
    c.loop-field.invariant ∙ among_next c.args.fields.now c.args.flags c.loop-field.field-index c.loop-field.found _ (omega arith) refl

pub returns : goal.returns
returns c =
    sym (c.loop-field.invariant ∙ rw (drop_of_length-le c.args.fields.now {i = c.loop-field.field-index} (omega arith)) (or-false _))
