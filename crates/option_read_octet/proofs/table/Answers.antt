-- `option_read_octet::table` meets its contract: the test passes on the numbers of the source, computed once for all of them.
use mathlib.Core.Path.{refl}
use Rattle.label.specs.Runs.{all_below}
use Rattle.option_read_octet.proofs.Rule.{equal_runs, right, all_right, rule}
use Rattle.option_read_octet.proofs.table.Goals as goal

pub returns : goal.returns
unfolding all_below equal_runs right all_right
returns c = rule _ refl
