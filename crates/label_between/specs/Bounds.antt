-- A range whose ends are a level and keys each: what is answered of any keys. An end of over 120 runs lets nothing pass where the runs are gone through.
use Rattle.std.specs.Prelude.{Bool, List, ℕ}
use Rattle.label.specs.declared.Run.{Run}
use Rattle.label.specs.declared.Label.{Label}
use Rattle.label.specs.Label.{label_of}
use Rattle.label_keys.specs.Keys.{key_runs}
use Rattle.label_keys.specs.Range.{answered, look_of, runs_between}

-- an end of the range, as a label; its domain is not asked
abbrev pub end : ℕ → List ℕ → Label
end v ks = label_of 1 v (key_runs ks)

-- the runs against those of both ends, in one pass over each two
unfoldable pub pass_between : List ℕ → List ℕ → List Run → Bool
pass_between lows highs rs = runs_between (end 0 lows) (end 0 highs) rs

-- the level and the runs lie between the two ends: what `label_keys` answers of labels
unfoldable pub lies_between : ℕ → List ℕ → ℕ → List ℕ → ℕ → List Run → Bool
lies_between low lows high highs v rs = answered (look_of (end low lows) (end high highs) v rs) (pass_between lows highs rs)
