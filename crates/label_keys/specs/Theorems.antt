-- What is proved of runs as keys, for every label and list of runs.
use Rattle.std.specs.Prelude.{true, List, map, ◌≡◌, ℕ}
use Rattle.label.specs.declared.Run.{Run}
use Rattle.label.specs.declared.Label.{Label}
use Rattle.label.specs.Runs.{spaced}
use Rattle.label.specs.Label.{used, well_formed}
use Rattle.label_keys.specs.Keys.{key_runs, run_key}
use Rattle.label_keys.specs.Range.{answered, look_of, runs_between, set_in_range}

-- runs as keys: those of a well-formed label come back, and keys that are spaced are held against a range by a first look and, where that leaves
-- the answer open, by one pass over each two lists
pub record AsKeys : Type 0 where
  pub back : (l : Label) → well_formed l ≡ true → key_runs (map run_key (used l)) ≡ used l
  pub held : (lowest highest : Label) (v : ℕ) (rs : List Run)
      → well_formed lowest ≡ true
      → well_formed highest ≡ true
      → spaced 0 rs ≡ true
      → answered (look_of lowest highest v rs) (runs_between lowest highest rs) ≡ set_in_range lowest highest v rs
