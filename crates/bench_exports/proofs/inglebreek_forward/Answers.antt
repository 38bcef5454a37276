-- `bench_exports::inglebreek_forward` meets its contract.
use lib.ListN.{length}
use Rattle.table.specs.Table.{lent}
use Rattle.forward_rules.specs.Forward.{forwarding_of}
use Rattle.bench_exports.specs.Answers.{facts_of, sample_forwarding}
use Rattle.bench_exports.proofs.Laws.{short_answer, short_runs, both_roomy, sample_is, forwards_nothing, forwards_whole}
use Rattle.bench_exports.proofs.inglebreek_forward.Goals as goal

pub returns-then-answer-lt-DECISION_NUMBERS : goal.returns-then-answer-lt-DECISION_NUMBERS
returns-then-answer-lt-DECISION_NUMBERS c =
    forwards_nothing _ c.args.out.now c.args.answer.now c.args.runs.now (short_answer 8 c.args.answer.now c.args.runs.now c.if-answer-lt-DECISION_NUMBERS.true)

pub returns-then-runs-lt-MAX_RUNS : goal.returns-then-runs-lt-MAX_RUNS
returns-then-runs-lt-MAX_RUNS c =
    forwards_nothing _ c.args.out.now c.args.answer.now c.args.runs.now (short_runs 8 c.args.answer.now c.args.runs.now c.if-runs-lt-MAX_RUNS.true)

pub put_numbers-requires : goal.put_numbers-requires
put_numbers-requires c = c.if-answer-lt-DECISION_NUMBERS.false

pub returns : goal.returns
returns c =
    let n = length c.args.out.now in
    let facts = facts_of c.args.error c.args.group c.args.link c.args.fragment c.args.source in
    forwards_whole
    (forwarding_of c.arriving.result c.leaving.result (lent c.table.result c.rows-lent.result) c.levels.result facts c.args.area.now n)
    (sample_forwarding facts c.args.area.now n)
    c.args.out.now
    c.args.answer.now
    c.args.runs.now
    _
    _
    _
    c.forward-d.result
    (sample_is _ _ _ _ _ facts c.args.area.now n c.arriving.ensures c.leaving.ensures c.table.ensures c.rows-lent.ensures c.levels.ensures)
    (both_roomy 8 c.args.answer.now c.args.runs.now c.if-answer-lt-DECISION_NUMBERS.false c.if-runs-lt-MAX_RUNS.false)
    c.forward-d.ensures.value
    c.forward-d.ensures.out_after
    c.put_numbers.ensures
    c.label_keys.ensures.1
