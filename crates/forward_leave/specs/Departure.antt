-- What the leaving port's checks answer, each after what was decided before it.
use Rattle.std.specs.Prelude.{Bool, cond, not, ◌&&◌, List, ℕ, ltb, Ok, Err}
use Rattle.label.specs.declared.Label.{Label}
use Rattle.arrive.specs.Checks.{barred, when}
use Rattle.decision.specs.Verdict.{Verdict, stopped, stopped_by}
use Rattle.basic.specs.Alone.{BasicRead}
use Rattle.basic.specs.declared.Way.{Way}
use Rattle.basic.specs.Settings.{passes_read}
use Rattle.arrive.specs.Stages.{held_between, before_range}

-- 1 of the output, then 2 of the leaving port, before what else was found on arrival
unfoldable pub recorded_by : Verdict → ℕ → Bool → Verdict
recorded_by r room sound = cond (stopped_by 1 r) r (cond (ltb room 40) (stopped 1 0 0 0) (cond sound r (stopped 2 0 0 0)))

-- 21 of the leaving port, before 14: `from` and `on` say whether the arriving and the leaving port read option 130
unfoldable pub sent_by : Verdict → Bool → Bool → Way → BasicRead → Verdict
sent_by r from on way x = before_range r (when (not (cond from (on && passes_read way x) (not on))) (barred 21 9))

-- 17
unfoldable pub held_by_range : Verdict → Label → Label → List ℕ → Verdict
held_by_range (Ok p) lowest highest keys = cond (held_between lowest highest p keys) (Ok p) (stopped 17 3 9 0)
held_by_range (Err r) lowest highest keys = Err r
