-- `option_write::spell_keys` meets its contract: nothing, or the option over zeros.
-- Assumes nothing.
use borrow.Author.Rules.{rules}
use native.Mathlib.Omega.{arith}
use Prim.Native.Nat.{◌<◌}
use mathlib.Core.Path.{◌∙◌}
use Rattle.label_keys.specs.Keys.{key_runs}
use Rattle.option.specs.Spelling.{spelled_by}
use Rattle.option_form.proofs.Keys.{chosen_none, chosen_some}
use Rattle.option_form.proofs.Lengths.{chosen_short, chosen_size}
use Rattle.option_write.proofs.Bodies.{chosen_written}
use Rattle.option_write.proofs.Writing.{option_laid}
use Rattle.option_write.proofs.Keys.{keys_short, keys_none, keys_some}
use Rattle.option_write.proofs.spell_keys.Goals as goal

pub returns-then-out-lt-OPTION_OCTETS : goal.returns-then-out-lt-OPTION_OCTETS
returns-then-out-lt-OPTION_OCTETS c =
    let a = c.args in
    let q = keys_short a.permitted a.domain a.level a.keys.now a.out.now c.if-out-lt-OPTION_OCTETS.true in
    (q.0, q.2)

pub returns-then-tag-eq0 : goal.returns-then-tag-eq0
returns-then-tag-eq0 c =
    let a = c.args in
    let q = keys_none a.permitted a.domain a.level a.keys.now a.out.now c.if-out-lt-OPTION_OCTETS.false (chosen_none a.permitted a.domain a.level a.keys.now _ c.choose-form.ensures c.if-tag-eq0.true) in
    (q.0, q.2)

-- a form was chosen
pos : (c : goal.After-write_option-arg-1) → 0 < c.choose-form.result.tag
pos c = let q = c.if-tag-eq0.false in omega arith

pub write_option-requires : goal.write_option-requires
write_option-requires c =
    let a = c.args in
    (chosen_written a.permitted a.keys.now _ c.choose-form.ensures (pos c), search rules)

-- a form was chosen
pos-After-slice_known-3-1 : (c : goal.After-slice_known-3-1) → 0 < c.choose-form.result.tag
pos-After-slice_known-3-1 c = let q = c.if-tag-eq0.false in omega arith

pub returns : goal.returns
unfolding spelled_by
returns c =
    let a = c.args in
    let f = c.choose-form.result in
    let long = c.if-out-lt-OPTION_OCTETS.false in
    let n = chosen_size a.permitted a.keys.now f c.choose-form.ensures a.domain a.level (pos-After-slice_known-3-1 c) in
    let s = spelled_by f a.domain a.level (key_runs a.keys.now) in
    let q = keys_some a.permitted a.domain a.level a.keys.now a.out.now long s (chosen_some a.permitted a.domain a.level a.keys.now f c.choose-form.ensures (pos-After-slice_known-3-1 c)) in (
      c.write_option.ensures.0 ∙ n ∙ q.0,
      option_laid a.out.now _ long (c.fill.ensures.after (λ y e. e)) f.size (chosen_short a.permitted a.keys.now f c.choose-form.ensures (pos-After-slice_known-3-1 c)) s _ n c.write_option.ensures.1 ∙ q.2,
    )
