-- `label_keys::look_between` meets its contract.
use borrow.Author.Tests.{le-leb, lt-leb, ne_eqb}
use native.Mathlib.Omega.{arith}
use mathlib.Core.Path.{sym, ◌∙◌}
use mathlib.Core.Bool.{and-false}
use Prim.Native.Nat.{◌+◌, ◌-◌, ◌/◌, ◌%◌, ◌≤◌, ◌<◌}
use lib.ListN.{get_or}
use Rattle.label.specs.Label.{no_run}
use Rattle.label_keys.specs.Range.{look_of}
use Rattle.label_keys.proofs.Range.{look_none, look_many, look_one}
use Rattle.label_keys.proofs.look_between.Goals as goal

pub returns-then-level-lowest : goal.returns-then-level-lowest
unfolding look_of
returns-then-level-lowest c = simp (lt-leb _ _ c.if-level-lowest.true)

pub returns-then-highest-level : goal.returns-then-highest-level
unfolding look_of
returns-then-highest-level c = simp (lt-leb _ _ c.if-highest-level.true, and-false)

pub returns-then-lowest-ne0 : goal.returns-then-lowest-ne0
unfolding look_of
returns-then-lowest-ne0 c =
    simp (le-leb _ _ c.if-level-lowest.false, le-leb _ _ c.if-highest-level.false, ne_eqb _ _ c.if-lowest-ne0.true)

pub returns-then-m-eq0 : goal.returns-then-m-eq0
returns-then-m-eq0 c =
    let a = c.args in
    sym (look_none _ _ a.level a.keys.now a.n c.min-m.result c.min-m.ensures c.if-level-lowest.false c.if-highest-level.false c.if-lowest-ne0.false c.if-m-eq0.true)

pub returns-then-highest-ne1 : goal.returns-then-highest-ne1
returns-then-highest-ne1 c =
    let a = c.args in
    sym (look_many _ _ a.level a.keys.now a.n c.min-m.result c.min-m.ensures c.if-level-lowest.false c.if-highest-level.false c.if-lowest-ne0.false (omega (arith, c.if-m-eq0.false)) c.if-highest-ne1.true)

pub returns-then-low-over : goal.returns-then-low-over
returns-then-low-over c =
    let a = c.args in
    let h : get_or a.keys.now 0 0 / 65536 < (get_or a.highest.runs 0 no_run).low = omega (arith, c.low.ensures, c.if-low-over.true) in
    sym
    (look_one _ _ a.level a.keys.now a.n _ c.min-m.ensures c.if-level-lowest.false c.if-highest-level.false c.if-lowest-ne0.false (omega (arith, c.if-m-eq0.false)) c.if-highest-ne1.false
    ∙ simp (lt-leb _ _ h))

pub returns-then-over-high : goal.returns-then-over-high
returns-then-over-high c =
    let a = c.args in
    let h : (get_or a.highest.runs 0 no_run).high + 1 < get_or a.keys.now (c.min-m.result - 1) 0 % 65536 + 1 = omega (arith, c.high.ensures, c.if-over-high.true) in
    sym
    (look_one _ _ a.level a.keys.now a.n _ c.min-m.ensures c.if-level-lowest.false c.if-highest-level.false c.if-lowest-ne0.false (omega (arith, c.if-m-eq0.false)) c.if-highest-ne1.false
    ∙ simp (lt-leb _ _ h, and-false))

pub returns : goal.returns
returns c =
    let a = c.args in
    let g : (get_or a.highest.runs 0 no_run).low ≤ get_or a.keys.now 0 0 / 65536 = omega (arith, c.low.ensures, c.if-low-over.false) in
    let h : get_or a.keys.now (c.min-m.result - 1) 0 % 65536 + 1 ≤ (get_or a.highest.runs 0 no_run).high + 1 = omega (arith, c.high.ensures, c.if-over-high.false) in
    sym
    (look_one _ _ a.level a.keys.now a.n _ c.min-m.ensures c.if-level-lowest.false c.if-highest-level.false c.if-lowest-ne0.false (omega (arith, c.if-m-eq0.false)) c.if-highest-ne1.false
    ∙ simp (le-leb _ _ g, le-leb _ _ h))
