-- `inspect_claim::compare::compare_octets` meets its contract.
use mathlib.Core.Path.{refl, sym, ◌∙◌}
use native.Mathlib.Omega.{arith}
use Rattle.std.proofs.lemmas.Iterator.Adapters.{position_from-zero}
use Rattle.std.proofs.lemmas.List.Quantifiers.{position-Some}
use Rattle.std.proofs.lemmas.Slice.Zip.{length-zip}
use Rattle.std.specs.List.{zip}
use Rattle.inspect_claim.proofs.Finds.{differs, find_met, find_same, find_shorter}
use Rattle.inspect_claim.proofs.compare.compare_octets.Goals as goal

pub overflow_add-result : goal.overflow_add-result
overflow_add-result c =
    let xs = c.args.leaving.now in
    let ys = c.args.area.now in
    omega (arith, (position-Some differs (zip xs ys) c.in-Some.i (0, 0) (sym c.find_unequal.ensures ∙ c.in-Some.is)).0, length-zip xs ys)

pub returns-in-Some : goal.returns-in-Some
returns-in-Some c =
    let xs = c.args.leaving.now in
    let ys = c.args.area.now in
    sym (find_met 5 0 5 c.in-Some.i xs ys refl (sym (position_from-zero differs (zip xs ys)) ∙ sym c.find_unequal.ensures ∙ c.in-Some.is))

pub returns-in-None : goal.returns-in-None
returns-in-None c =
    let xs = c.args.leaving.now in
    let ys = c.args.area.now in
    sym (find_same 5 0 xs ys (sym (position_from-zero differs (zip xs ys)) ∙ sym c.find_unequal.ensures ∙ c.in-None.is) c.if-leaving-area.true)

pub returns-in-None-2 : goal.returns-in-None-2
returns-in-None-2 c =
    let xs = c.args.leaving.now in
    let ys = c.args.area.now in
    sym (find_shorter 5 0 _ xs ys (sym (position_from-zero differs (zip xs ys)) ∙ sym c.find_unequal.ensures ∙ c.in-None.is) c.if-leaving-area.false (omega (arith, c.min.ensures)))
