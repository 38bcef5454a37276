-- `renumber::fit_label` meets its contract.
use Rattle.renumber.proofs.Answers.{fit_done}
use Rattle.renumber.proofs.fit_label.Goals as goal

pub returns : goal.returns
returns c = fit_done c.args.domain c.args.level c.args.keys.now _ c.if-n-gt-MAX_RUNS.false c.to_label.ensures
