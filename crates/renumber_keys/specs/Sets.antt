-- Document 01, "Labels" ("Thus one set has one form"): the one list of runs of a set of categories.
use Rattle.std.specs.Prelude.{Bool, List, ℕ}
use Rattle.label.specs.declared.Run.{Run}
use Rattle.label.specs.Runs.{set_runs}

-- the runs of all categories, 0 to 65534, of which the test says yes
unfoldable pub runs_of : (ℕ → Bool) → List Run
runs_of f = set_runs f 65535
