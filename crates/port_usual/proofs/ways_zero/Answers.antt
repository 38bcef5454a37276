-- `port_usual::ways_zero` meets its contract. The loop's invariant: all places are 0 exactly when those passed have no bit and what is left of both is 0.
use borrow.Author.Rules.{rules}
use native.Mathlib.Omega.{arith}
use mathlib.Core.Path.{◌≡◌, ◌∙◌}
use mathlib.Core.Bool.{and-true}
use mathlib.Core.List.{[]}
use lib.ListN.{drop, length, drop_of_length-le}
use Rattle.port_usual.proofs.Usual.{flags_step, ways_zero}
use Rattle.port_usual.proofs.ways_zero.Goals as goal

pub loop-i-preserved : goal.loop-i-preserved
loop-i-preserved c =
    let fs = c.args.receiving.flags in
    let gs = c.args.sending.flags in
    let n : length fs ≡ 256 = search rules in
    let m : length gs ≡ 256 = search rules in
    c.loop-i.invariant ∙ flags_step fs gs c.loop-i.any c.loop-i.i (omega arith) (omega arith)

pub returns : goal.returns
returns c =
    let fs = c.args.receiving.flags in
    let gs = c.args.sending.flags in
    let n : length fs ≡ 256 = search rules in
    let m : length gs ≡ 256 = search rules in
    let p : drop c.loop-i.i fs ≡ [] = drop_of_length-le fs {i = c.loop-i.i} (omega arith) in
    let q : drop c.loop-i.i gs ≡ [] = drop_of_length-le gs {i = c.loop-i.i} (omega arith) in
    ways_zero c.args.receiving c.args.sending c.loop-i.any (c.loop-i.invariant ∙ rw (p, q) (and-true _))
