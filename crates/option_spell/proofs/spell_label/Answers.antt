-- `option_spell::spell_label` meets its contract: each refusal by the tests taken; else by how many runs the label has.
-- Assumes nothing.
use native.Mathlib.Omega.{arith}
use Rattle.option_spell.proofs.Answers.{number_short, number_ill, ill_domain, ill_count, refused}
use Rattle.option_spell.proofs.spell_label.Goals as goal

pub returns-then-out-lt-OPTION_OCTETS : goal.returns-then-out-lt-OPTION_OCTETS
returns-then-out-lt-OPTION_OCTETS c =
    let a = c.args in
    refused a.permitted a.label a.out.now 1 (λ z. omega arith) (number_short _ _ _ c.if-out-lt-OPTION_OCTETS.true)

pub returns-then-label-eq0 : goal.returns-then-label-eq0
returns-then-label-eq0 c =
    let a = c.args in
    refused a.permitted a.label a.out.now 2 (λ z. omega arith) (number_ill _ _ _ c.if-out-lt-OPTION_OCTETS.false (ill_domain a.label c.if-label-eq0.true))

pub returns-then-n-gt-MAX_RUNS : goal.returns-then-n-gt-MAX_RUNS
returns-then-n-gt-MAX_RUNS c =
    let a = c.args in
    refused a.permitted a.label a.out.now 2 (λ z. omega arith) (number_ill _ _ _ c.if-out-lt-OPTION_OCTETS.false (ill_count a.label c.if-n-gt-MAX_RUNS.true))
