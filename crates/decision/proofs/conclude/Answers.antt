-- `decision::conclude` meets its contract.
use Rattle.decision.specs.Verdict.{concluded}
use Rattle.decision.proofs.Concluded.{none_from}
use Rattle.decision.proofs.conclude.Goals as goal
use Rattle.decision.proofs.conclude.Goals.{in-Ok, in-Err}

pub returns : goal.returns
unfolding concluded
returns c =
    elim c.match-verdict.branch [
      | in-Ok w ↦ rw (c.to_label-label.ensures, w.owner-is, w.in-Ok.is)
      | in-Err w ↦ rw (c.to_label-label.ensures, w.owner-is, w.report.ensures, w.in-Err.is, c.is_silenced-quiet.ensures, none_from)
    ]
