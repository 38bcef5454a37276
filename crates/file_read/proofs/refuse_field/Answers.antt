-- `file_read::refuse_field` meets its contract.
use borrow.Author.Tests.{not-true, not-false}
use mathlib.Core.Bool.{true, false, ◌&&◌}
use mathlib.Core.Path.{◌≡◌, refl, ◌∙◌}
use lib.Dec.{ltb, eqb}
use Rattle.file_read.specs.File.{file_answer}
use Rattle.file_read.proofs.refuse_field.Goals as goal

pub returns-then-not-named : goal.returns-then-not-named
unfolding file_answer
returns-then-not-named c =
    let a = c.args in
    let e : (eqb a.at 2 && ltb 2 a.total) ≡ false = not-true _ c.if-not-named.true-raw in
    c.refuse.ensures ∙ rw e refl

pub returns : goal.returns
unfolding file_answer
returns c =
    let a = c.args in
    let e : (eqb a.at 2 && ltb 2 a.total) ≡ true = not-false _ c.if-not-named.false-raw in
    rw (c.empty_set.ensures, e) refl
