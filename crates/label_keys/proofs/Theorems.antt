-- The theorem of `specs/Theorems.antt`.
use Rattle.label.specs.Label.{used}
use Rattle.label.proofs.Labels.{formed}
use Rattle.label_keys.specs.Theorems.{AsKeys}
use Rattle.label_keys.proofs.Keys.{keys_runs}
use Rattle.label_keys.proofs.Range.{look_right}

pub as_keys : AsKeys
as_keys =
    record {
      back = λ l w. keys_runs 0 (used l) (formed l w).runs;
      held = λ lowest highest v rs wl wh s. look_right lowest highest v wl wh rs s;
    }
