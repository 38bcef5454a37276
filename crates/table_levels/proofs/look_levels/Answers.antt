-- `table_levels::look_levels` meets its contract.
use borrow.Author.Rules.{rules}
use borrow.Author.Tests.{le-leb, lt-leb, eq-eqb, ne_eqb}
use Prim.Native.Nat.{◌+◌, ◌-◌}
use mathlib.Core.Path.{◌∙◌}
use mathlib.Core.Bool.{and-true}
use mathlib.Core.List.{[]}
use lib.Dec.{eqb}
use lib.ListN.{take, drop, get_or, drop_of_length-le}
use Rattle.label.proofs.Steps.{next}
use Rattle.table_levels.specs.Levels.{unused_pairs}
use Rattle.table_levels.proofs.Levels.{fallen, looked_whole, looked_broken, pair_step}
use Rattle.table_levels.proofs.Partners.{first_end}
use Rattle.table_levels.proofs.look_levels.Goals as goal
use Rattle.table_levels.proofs.look_levels.Goals.{then-a-from-via-then-a-from, then-a-from-via-else-a-from+then-b-to}

pub returns-then-a-from : goal.returns-then-a-from
returns-then-a-from c =
    let ls = take c.min-n.result c.args.levels in
    fallen c.args.levels c.args.count c.min-n.result (search rules) c.min-n.ensures c.args.level
    (c.loop-pair.invariant.rise
    ∙ rw (next [] ls c.loop-pair.pair-index c.loop-pair-test.true, ← c.from-a.ensures, ← c.from-b.ensures)
    (elim c.then-a-from.branch [
      | then-a-from-via-then-a-from w ↦ simp (lt-leb _ _ w.if-a-from.true)
      | then-a-from-via-else-a-from+then-b-to w ↦ simp (le-leb _ _ w.if-a-from.false, lt-leb _ _ w.if-b-to.true)
    ]))

pub loop-pair-2-preserved : goal.loop-pair-2-preserved
loop-pair-2-preserved c =
    let v = c.loop-pair-2 in
    let ls = take (256 - c.min-n.result) (drop c.min-n.result c.args.levels) in
    let p = get_or ls v.pair-index [] in
    v.invariant ∙ rw (next [] ls v.pair-index c.loop-pair-2-test.true, c.pair_word-rest.ensures) (pair_step v.rest (get_or p 0 0) (get_or p 1 0) (unused_pairs (drop (v.pair-index + 1) ls)))

pub returns-then-rest-ne0 : goal.returns-then-rest-ne0
returns-then-rest-ne0 c =
    let u = c.loop-pair in
    let v = c.loop-pair-2 in
    let n = c.min-n.result in
    let done = drop_of_length-le (take n c.args.levels) {i = u.pair-index} c.loop-pair-test.false in
    let none = drop_of_length-le (take (256 - n) (drop n c.args.levels)) {i = v.pair-index} c.loop-pair-2-test.false in
    looked_broken c.args.levels c.args.count n (search rules) c.min-n.ensures v.rest c.args.level u.partner
    (u.invariant.rise ∙ rw done)
    (u.invariant.numbers ∙ rw done)
    (v.invariant ∙ rw none (and-true (eqb v.rest 0)))
    (u.invariant.found ∙ rw done (first_end u.partner))
    (ne_eqb _ _ c.if-rest-ne0.true)

pub returns : goal.returns
returns c =
    let u = c.loop-pair in
    let v = c.loop-pair-2 in
    let n = c.min-n.result in
    let done = drop_of_length-le (take n c.args.levels) {i = u.pair-index} c.loop-pair-test.false in
    let none = drop_of_length-le (take (256 - n) (drop n c.args.levels)) {i = v.pair-index} c.loop-pair-2-test.false in
    looked_whole c.args.levels c.args.count n (search rules) c.min-n.ensures v.rest c.args.level u.partner
    (u.invariant.rise ∙ rw done)
    (u.invariant.numbers ∙ rw done)
    (v.invariant ∙ rw none (and-true (eqb v.rest 0)))
    (u.invariant.found ∙ rw done (first_end u.partner))
    (eq-eqb _ _ c.if-rest-ne0.false)
