-- `option_spell::spell_few` meets its contract: ill-formed, or what spelling its keys says.
-- Assumes nothing.
use borrow.Author.Rules.{rules}
use native.Mathlib.Omega.{arith}
use mathlib.Core.Path.{◌≡◌, sym, ◌∙◌}
use mathlib.Core.Bool.{true, ◌&&◌}
use lib.ListN.{length}
use Rattle.label.specs.Label.{label_typed, well_formed}
use Rattle.label.proofs.Steps.{length_mapped}
use Rattle.label.proofs.Labels.{typed_yes, well_formed_runs}
use Rattle.option_spell.proofs.Few.{few_used, few_form}
use Rattle.option_spell.proofs.Answers.{number_ill, refused, keys_spell}
use Rattle.option_spell.proofs.spell_few.Goals as goal

sized : (c : goal.Then-not-formed) → length c.args.label.runs ≡ 120
sized c = search (length_mapped, rules)

-- the types of the fields
fields : (c : goal.Then-not-formed) → label_typed c.args.label ≡ true
fields c = typed_yes c.args.label (search rules) (search rules) (sized c)

-- the form is that of the first places and of those after them
form : (c : goal.Then-not-formed)
    → (c.few_formed.result && c.unused_after_few.result) ≡ well_formed c.args.label
form c =
    let l = c.args.label in
    (λ i. c.few_formed.ensures i && c.unused_after_few.ensures i)
    ∙ few_form l.runs c.front_keys.new.keys 16 l.count c.front_keys.ensures c.requires.1
    ∙ sym (well_formed_runs l c.requires.0 (omega (arith, c.requires.1)) (fields c))

pub returns-then-not-formed : goal.returns-then-not-formed
returns-then-not-formed c =
    refused c.args.permitted c.args.label c.args.out.now 2 (λ z. omega arith)
    (number_ill _ _ _ c.requires.2 (sym (form c) ∙ c.if-not-formed.true))

sized-After-answer : (c : goal.After-answer) → length c.args.label.runs ≡ 120
sized-After-answer c = search (length_mapped, rules)

-- the types of the fields
fields-After-answer : (c : goal.After-answer) → label_typed c.args.label ≡ true
fields-After-answer c = typed_yes c.args.label (search rules) (search rules) (sized-After-answer c)

-- the form is that of the first places and of those after them
form-After-answer : (c : goal.After-answer)
    → (c.few_formed.result && c.unused_after_few.result) ≡ well_formed c.args.label
form-After-answer c =
    let l = c.args.label in
    (λ i. c.few_formed.ensures i && c.unused_after_few.ensures i)
    ∙ few_form l.runs c.front_keys.new.keys 16 l.count c.front_keys.ensures c.requires.1
    ∙ sym (well_formed_runs l c.requires.0 (omega (arith, c.requires.1)) (fields-After-answer c))

pub returns : goal.returns
returns c =
    let l = c.args.label in
    let well : well_formed l ≡ true = sym (form-After-answer c) ∙ c.if-not-formed.false in
    keys_spell c.args.permitted l c.args.out.now _ _ _ well c.requires.2 _
    (few_used l.runs c.front_keys.new.keys 16 l.count c.front_keys.ensures c.requires.1)
    c.spell_keys-count.ensures c.answer.ensures
