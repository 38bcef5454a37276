-- A run of categories as one number: low · 65536 + high. Runs held so in a lent list of numbers are passed between stages without copies.
use Rattle.std.specs.Prelude.{Bool, cond, ◌&&◌, List, map, ◌++◌, ℕ, ◌+◌, ◌*◌, ◌/◌, ◌%◌, leb, length, drop}
use Rattle.label.specs.declared.Run.{Run}
use Rattle.label.specs.declared.Label.{Label}
use Rattle.label.specs.Runs.{run}
use Rattle.label.specs.Label.{used, label_of, zero_label}

-- the run that a number stands for
abbrev pub key_run : ℕ → Run
key_run k = run (k / 65536) (k % 65536)

abbrev pub key_runs : List ℕ → List Run
key_runs ks = map key_run ks

-- the number that stands for a run
abbrev pub run_key : Run → ℕ
run_key r = r.low * 65536 + r.high

-- the label with these runs; nothing is cut to fit: with more runs than it holds, the all-zero label
unfoldable pub label_from : ℕ → ℕ → List Run → Label
label_from d v rs = cond (leb (length rs) 120) (label_of d v rs) zero_label

-- the label has at most 120 runs, and the list has a place for each
unfoldable pub keys_fit : Label → List ℕ → Bool
keys_fit l ks = leb l.count 120 && leb l.count (length ks)

-- the list with the label's runs at its head, or as it was where they do not fit
unfoldable pub with_keys : Label → List ℕ → List ℕ
with_keys l ks = cond (keys_fit l ks) (map run_key (used l) ++ drop l.count ks) ks
