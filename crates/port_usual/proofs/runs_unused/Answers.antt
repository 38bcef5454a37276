-- `port_usual::runs_unused` meets its contract. The loop's invariant: all places from the first that is looked at are zero exactly when the OR so far is and what is
-- left of both lists is.
use borrow.Author.Rules.{rules}
use native.Mathlib.Omega.{arith}
use mathlib.Core.Path.{◌≡◌, sym, ◌∙◌}
use mathlib.Core.Bool.{and-true}
use mathlib.Core.List.{[]}
use lib.ListN.{drop, length, drop_of_length-le}
use Rattle.label.proofs.Steps.{length_mapped}
use Rattle.port_usual.proofs.Usual.{runs_step}
use Rattle.port_usual.proofs.runs_unused.Goals as goal

pub loop-i-preserved : goal.loop-i-preserved
loop-i-preserved g c =
    let rs = c.args.x.now in
    let ss = c.args.y.now in
    let n : length rs ≡ 120 = search (length_mapped, rules) in
    let m : length ss ≡ 120 = search (length_mapped, rules) in
    c.loop-i.invariant ∙ rw (c.word.ensures, c.word-in-loop-i.ensures) (runs_step rs ss c.loop-i.rest c.loop-i.i (omega arith) (omega arith))

pub returns : goal.returns
returns g c =
    let rs = c.args.x.now in
    let ss = c.args.y.now in
    let n : length rs ≡ 120 = search (length_mapped, rules) in
    let m : length ss ≡ 120 = search (length_mapped, rules) in
    let p : drop c.loop-i.i rs ≡ [] = drop_of_length-le rs {i = c.loop-i.i} (omega arith) in
    let q : drop c.loop-i.i ss ≡ [] = drop_of_length-le ss {i = c.loop-i.i} (omega arith) in
    sym (c.loop-i.invariant ∙ rw (p, q) (and-true _))
