-- `label::runs_within` meets its contract. The loop's invariant: what is left of the two lists passes exactly when the whole lists do, the rounds
-- gone and those left are all, and each round gone has passed a run.
use Rattle.std.proofs.Common.{map, length, ◌≡◌, ◌+◌, ◌≤◌}
use Rattle.label.specs.Runs.{passes, rounds}
use Rattle.label.proofs.runs_within.Given as goal

abbrev pub invariant-loop-left : goal.invariant-loop-left
invariant-loop-left g l =
    let f = map g.A.AsRun.as_run in
    let h = map g.B.AsRun.as_run in
    record {
      within : passes (f l.left) (h l.right) ≡ passes (f l.a) (h l.b);
      rounds : l.rounds + rounds (f l.left) (h l.right) ≡ rounds (f l.a) (h l.b);
      bounded : l.rounds + length l.left + length l.right ≤ length l.a + length l.b;
    }

abbrev pub decreases-loop-left : goal.decreases-loop-left
decreases-loop-left g l = length l.left + length l.right
