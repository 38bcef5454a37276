-- `option_form::count_categories` meets its contract. Both loops' invariant: the categories of the runs that were gone through are counted.
-- Assumes nothing.
use Prim.Native.Nat.{◌+◌, ◌*◌, ◌≤◌}
use mathlib.Core.Path.{◌≡◌}
use lib.ListN.{take}
use Rattle.label.specs.Runs.{count_of}
use Rattle.label_keys.specs.Keys.{key_runs}
use Rattle.option_form.proofs.count_categories.Given as goal

abbrev pub invariant-loop-key : goal.invariant-loop-key
invariant-loop-key l = (l.n ≤ 65536 * l.key-index) × (l.n ≡ count_of (key_runs (take l.key-index l.key-items)))

abbrev pub invariant-loop-key-2 : goal.invariant-loop-key-2
invariant-loop-key-2 l = (l.n ≤ 1048576) × (l.n ≡ count_of (key_runs (take l.few l.keys)) + count_of (key_runs (take l.key-index l.key-items)))
