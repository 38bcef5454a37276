-- `bench_exports::inglebreek_read` meets its contract.
use mathlib.Core.Path.{sym, ◌∙◌}
use Rattle.option_read.specs.Reading.{found, not_read}
use Rattle.option_read.proofs.Told.{told_found, told_refused, zero_keys}
use Rattle.bench_exports.proofs.Laws.{short_answer, short_runs, both_roomy, reads_nothing, reads_whole}
use Rattle.bench_exports.proofs.inglebreek_read.Goals as goal

pub returns-then-answer-lt-READING_NUMBERS : goal.returns-then-answer-lt-READING_NUMBERS
returns-then-answer-lt-READING_NUMBERS c =
    reads_nothing c.args.octets.now c.args.answer.now c.args.runs.now (short_answer 5 c.args.answer.now c.args.runs.now c.if-answer-lt-READING_NUMBERS.true)

pub returns-then-runs-lt-MAX_RUNS : goal.returns-then-runs-lt-MAX_RUNS
returns-then-runs-lt-MAX_RUNS c =
    reads_nothing c.args.octets.now c.args.answer.now c.args.runs.now (short_runs 5 c.args.answer.now c.args.runs.now c.if-runs-lt-MAX_RUNS.true)

pub returns-in-Ok : goal.returns-in-Ok
returns-in-Ok c =
    reads_whole
    c.args.octets.now
    c.args.answer.now
    c.args.runs.now
    _
    _
    (found c.in-Ok.label)
    (both_roomy 5 c.args.answer.now c.args.runs.now c.if-answer-lt-READING_NUMBERS.false c.if-runs-lt-MAX_RUNS.false)
    (told_found c.args.octets.now c.in-Ok.label (sym c.in-Ok.is ∙ c.read_option.ensures))
    c.put_numbers.ensures
    c.label_keys.ensures.1

pub returns-in-Err : goal.returns-in-Err
returns-in-Err c =
    reads_whole
    c.args.octets.now
    c.args.answer.now
    c.args.runs.now
    _
    _
    (not_read c.in-Err.fault.number c.in-Err.fault.at)
    (both_roomy 5 c.args.answer.now c.args.runs.now c.if-answer-lt-READING_NUMBERS.false c.if-runs-lt-MAX_RUNS.false)
    (told_refused c.args.octets.now c.in-Err.fault (sym c.in-Err.is ∙ c.read_option.ensures))
    c.put_numbers-in-Err.ensures
    (zero_keys c.args.runs.now)
