-- `bench_exports::inglebreek_spell` meets its contract.
use native.Mathlib.Omega.{arith}
use Prim.Native.Nat.{ℕ}
use mathlib.Core.List.{List}
use mathlib.Core.Path.{◌≡◌, sym, ◌∙◌}
use Rattle.label.specs.declared.Label.{Label}
use Rattle.label_keys.specs.Keys.{key_runs, label_from}
use Rattle.option.specs.Permitted.{usual}
use Rattle.option_spell.specs.Spelling.{number_of}
use Rattle.option_spell.proofs.Told.{told_spelled, told_unspelled}
use lib.ListN.{length, take}
use lib.Seq.{take_all}
use Rattle.bench_exports.specs.Answers.{label_of_keys}
use Rattle.bench_exports.proofs.Laws.{spells_nothing, spells_whole}
use Rattle.bench_exports.proofs.inglebreek_spell.Goals as goal

pub returns-then-answer-lt-SPELLING_NUMBERS : goal.returns-then-answer-lt-SPELLING_NUMBERS
returns-then-answer-lt-SPELLING_NUMBERS c = spells_nothing _ _ _ c.if-answer-lt-SPELLING_NUMBERS.true

-- the label that is lent in numbers
same-label : (domain level : ℕ) (keys : List ℕ) (l : Label) → l ≡ label_from domain level (key_runs (take (length keys) keys)) → l ≡ label_of_keys domain level keys
same-label domain level keys l e = rw (take_all (length keys) keys (omega arith)) at e

pub returns-in-Ok : goal.returns-in-Ok
returns-in-Ok c =
    let a = c.args in
    let w = rw c.usual-permitted.ensures at c.spell_label.ensures in
    spells_whole
    c.to_label-label.result
    (label_of_keys a.domain a.level a.runs.now)
    a.out.now
    a.answer.now
    _
    _
    (record { number = 0; count = c.in-Ok.length })
    (same-label a.domain a.level a.runs.now _ c.to_label-label.ensures)
    c.if-answer-lt-SPELLING_NUMBERS.false
    (told_spelled usual c.to_label-label.result (length a.out.now) c.in-Ok.length (sym c.in-Ok.is ∙ w.0))
    w.1
    c.put_numbers.ensures

pub returns-in-Err : goal.returns-in-Err
returns-in-Err c =
    let a = c.args in
    let w = rw c.usual-permitted.ensures at c.spell_label.ensures in
    rw c.from-number.ensures
    (spells_whole
    c.to_label-label.result
    (label_of_keys a.domain a.level a.runs.now)
    a.out.now
    a.answer.now
    _
    _
    (record { number = number_of c.in-Err.error; count = 0 })
    (same-label a.domain a.level a.runs.now _ c.to_label-label.ensures)
    c.if-answer-lt-SPELLING_NUMBERS.false
    (told_unspelled usual c.to_label-label.result (length a.out.now) c.in-Err.error (sym c.in-Err.is ∙ w.0))
    w.1
    (rw c.from-number.ensures at c.put_numbers-in-Err.ensures))
