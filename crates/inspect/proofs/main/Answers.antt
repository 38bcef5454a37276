-- `inspect::main` meets its contract.
use borrow.Author.Rules.{rules}
use mathlib.Core.Path.{sym}
use lib.Seq.{length-take-le}
use Rattle.inspect.proofs.main.Goals as goal

pub slice_bounds-run_file-end : goal.slice_bounds-run_file-end
slice_bounds-run_file-end c = sym (length-take-le _ _ (search rules))
