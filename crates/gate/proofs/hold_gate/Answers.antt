-- `gate::hold_gate` meets its contract.
use Rattle.std.proofs.lemmas.Result.{err_from_is_err_and}
use mathlib.Core.Path.{sym, ◌∙◌}
use lib.ListN.{take}
use Rattle.label_keys.specs.Keys.{key_runs}
use Rattle.label_between.proofs.Bounds.{lies_any}
use Rattle.forward_leave.specs.Departure.{held_by_range}
use Rattle.gate.proofs.hold_gate.Goals as goal
use Rattle.gate.proofs.hold_gate.Goals.{then-gate, else-gate}

pub returns-in_err-passed : goal.returns-in_err-passed
unfolding held_by_range
returns-in_err-passed c =
    let p = err_from_is_err_and c.from_residual.result c.from_residual.ensures.1 in
    λ given receives sends. rw (p.1, p.2, c.in_err-passed.was)

pub returns-then-not-held : goal.returns-then-not-held
unfolding held_by_range
returns-then-not-held c =
    let a = c.args in
    let g = a.gate in
    let p = c.in_ok-passed.passed in
    let rs = key_runs (take p.count a.keys.now) in
    λ given receives sends.
    elim c.if-gate.branch [
      | then-gate w ↦
          rw (c.in_ok-passed.was, w.if-gate.true, sym (lies_any g.domain g.domain g.only g.only p.level a.only.now a.only.now rs) ∙ sym w.lies_between-held.ensures ∙ sym w.held-is ∙ c.if-not-held.true) c.barred.ensures
      | else-gate w ↦
          rw (c.in_ok-passed.was, w.if-gate.false, sym (lies_any g.domain g.domain g.low g.high p.level a.lows.now a.highs.now rs) ∙ sym w.lies_between-held-else-gate.ensures ∙ sym w.held-is ∙ c.if-not-held.true) c.barred.ensures
    ]

pub returns : goal.returns
unfolding held_by_range
returns c =
    let a = c.args in
    let g = a.gate in
    let p = c.in_ok-passed.passed in
    let rs = key_runs (take p.count a.keys.now) in
    λ given receives sends.
    elim c.if-gate.branch [
      | then-gate w ↦
          rw (c.in_ok-passed.was, w.if-gate.true, sym (lies_any g.domain g.domain g.only g.only p.level a.only.now a.only.now rs) ∙ sym w.lies_between-held.ensures ∙ sym w.held-is ∙ c.if-not-held.false)
      | else-gate w ↦
          rw (c.in_ok-passed.was, w.if-gate.false, sym (lies_any g.domain g.domain g.low g.high p.level a.lows.now a.highs.now rs) ∙ sym w.lies_between-held-else-gate.ensures ∙ sym w.held-is ∙ c.if-not-held.false)
    ]
