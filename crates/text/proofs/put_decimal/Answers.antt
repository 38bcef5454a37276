-- `text::put_decimal` meets its contract.
use borrow.Author.Rules.{rules}
use Prim.Native.Nat.{◌-◌}
use mathlib.Core.Path.{◌≡◌, ◌∙◌}
use native.Mathlib.Omega.{arith}
use lib.ListN.{length, take, drop, length-drop}
use lib.Seq.{take_all}
use Rattle.text.specs.Text.{decimal}
use Rattle.text.proofs.put_decimal.Goals as goal

pub returns : goal.returns
returns c =
    let from = c.spell-from.result in
    let digits = c.spell-from.new.digits in
    let sized : length digits ≡ 20 = search rules in
    let all : take (20 - from) (drop from digits) ≡ decimal c.args.x =
    take_all (20 - from) (drop from digits) (simp length-drop (omega arith)) ∙ c.spell-from.ensures.1
    in
    rw all at c.put_word.ensures
