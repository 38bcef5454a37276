-- `option_spell::front_keys` meets its contract. The loop's invariant: the keys so far are those of the places so far.
-- Assumes nothing.
use mathlib.Core.Path.{◌≡◌}
use lib.ListN.{take, length}
use Rattle.label_keys.specs.Keys.{key_runs}
use Rattle.option_spell.proofs.front_keys.Given as goal

abbrev pub invariant-loop-i : goal.invariant-loop-i
invariant-loop-i l = (length l.keys ≡ length l.initial.keys) × (key_runs (take l.i l.keys) ≡ take l.i l.label.runs)
