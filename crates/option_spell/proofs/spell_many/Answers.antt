-- `option_spell::spell_many` meets its contract: ill-formed, or what spelling its keys says.
-- Assumes nothing.
use borrow.Author.Rules.{rules}
use native.Mathlib.Omega.{arith}
use mathlib.Core.Path.{◌≡◌, sym, ◌∙◌}
use mathlib.Core.Bool.{true}
use lib.ListN.{length}
use Rattle.label.specs.Label.{label_typed, well_formed}
use Rattle.label.proofs.Steps.{length_mapped}
use Rattle.label.proofs.Labels.{typed_yes, well_formed_runs}
use Rattle.option_spell.proofs.Keys.{keys_front}
use Rattle.option_spell.proofs.Answers.{number_ill, refused, keys_spell}
use Rattle.option_spell.proofs.spell_many.Goals as goal

sized : (c : goal.Then-not-runs_formed) → length c.args.label.runs ≡ 120
sized c = search (length_mapped, rules)

-- the types of the fields
fields : (c : goal.Then-not-runs_formed) → label_typed c.args.label ≡ true
fields c = typed_yes c.args.label (search rules) (search rules) (sized c)

-- the form is that of the runs
form : (c : goal.Then-not-runs_formed) → c.runs_formed.result ≡ well_formed c.args.label
form c =
    c.runs_formed.ensures.0 ∙ sym (well_formed_runs c.args.label c.requires.0 c.requires.1 (fields c))

pub returns-then-not-runs_formed : goal.returns-then-not-runs_formed
returns-then-not-runs_formed c =
    refused c.args.permitted c.args.label c.args.out.now 2 (λ z. omega arith)
    (number_ill _ _ _ c.requires.2 (sym (form c) ∙ c.if-not-runs_formed.true))

sized-After-answer : (c : goal.After-answer) → length c.args.label.runs ≡ 120
sized-After-answer c = search (length_mapped, rules)

-- the types of the fields
fields-After-answer : (c : goal.After-answer) → label_typed c.args.label ≡ true
fields-After-answer c = typed_yes c.args.label (search rules) (search rules) (sized-After-answer c)

-- the form is that of the runs
form-After-answer : (c : goal.After-answer) → c.runs_formed.result ≡ well_formed c.args.label
form-After-answer c =
    c.runs_formed.ensures.0 ∙ sym (well_formed_runs c.args.label c.requires.0 c.requires.1 (fields-After-answer c))

pub returns : goal.returns
returns c =
    let l = c.args.label in
    let well : well_formed l ≡ true = sym (form-After-answer c) ∙ c.if-not-runs_formed.false in
    keys_spell c.args.permitted l c.args.out.now _ _ _ well c.requires.2 _ (keys_front l well _ _ c.runs_formed.ensures.1) c.spell_keys-count.ensures c.answer.ensures
