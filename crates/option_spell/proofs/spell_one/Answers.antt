-- `option_spell::spell_one` meets its contract: ill-formed, or what spelling its one key or none says.
-- Assumes nothing.
use borrow.Author.Rules.{rules}
use native.Mathlib.Omega.{arith}
use mathlib.Core.Path.{◌≡◌, sym, ◌∙◌}
use mathlib.Core.Bool.{true}
use lib.ListN.{length}
use Rattle.label.specs.Label.{well_formed}
use Rattle.label.proofs.Steps.{length_mapped}
use Rattle.option_spell.proofs.Keys.{keys_one}
use Rattle.option_spell.proofs.Answers.{number_ill, refused, keys_spell}
use Rattle.option_spell.proofs.spell_one.Goals as goal

pub returns-then-not-well_formed : goal.returns-then-not-well_formed
returns-then-not-well_formed c =
    refused c.args.permitted c.args.label c.args.out.now 2 (λ z. omega arith)
    (number_ill _ _ _ c.requires.1 (sym c.well_formed-2.ensures ∙ c.if-not-well_formed.true))

sized : (c : goal.After-answer) → length c.args.label.runs ≡ 120
sized c = search (length_mapped, rules)

pub returns : goal.returns
returns c =
    let l = c.args.label in
    let well : well_formed l ≡ true = sym c.well_formed-2.ensures ∙ c.if-not-well_formed.false in
    keys_spell c.args.permitted l c.args.out.now _ _ _ well c.requires.1 _
    (keys_one l well _ c.run_key-key.ensures.0 c.requires.0 (omega (arith, sized c)))
    c.spell_keys-count.ensures c.answer.ensures
