-- `file_port::fill_runs` meets its contract.
use native.Mathlib.Omega.{arith}
use Prim.Native.Nat.{◌+◌}
use mathlib.Core.Path.{◌≡◌, ap, ◌∙◌}
use mathlib.Core.List.{List, [], ◌∷◌, ◌++◌}
use lib.ListN.{take, set}
use Rattle.std.proofs.Common.{take_all}
use Rattle.label.specs.declared.Run.{Run}
use Rattle.file_format.specs.Format.{got, read_at}
use Rattle.file_format.proofs.Loops.{turns, refuses, ends, put_next}
use Rattle.file_port.specs.LabelFormat.{next_floor}
use Rattle.file_port.proofs.fill_runs.Invariants.{elements}
use Rattle.file_port.proofs.fill_runs.Goals as goal

pub returns-in-Err : goal.returns-in-Err
unfolding read_at
returns-in-Err c =
    let r = rw c.in-Err.is at c.read_run.ensures.read in
    refuses (elements c.args.octets.now) next_floor c.loop-run.invariant _ (omega arith) r

pub loop-run-preserved : goal.loop-run-preserved
loop-run-preserved c =
    let l = c.loop-run in
    let r : Run = c.in-Ok.read in
    let e : take (l.run-index + 1) (set l.runs l.run-index c.in-Ok.read) ≡ take l.run-index l.runs ++ (c.in-Ok.read ∷ []) = put_next l.runs l.run-index r (omega arith) in
    let f = rw c.in-Ok.is at c.read_run.ensures.read in
    rw (e, c.from-floor.ensures) (turns (elements c.args.octets.now) next_floor l.invariant r c.in-Ok.next (omega arith) f)

pub returns : goal.returns
unfolding read_at
returns c =
    let l = c.loop-run in
    ends (elements c.args.octets.now) next_floor l.invariant (omega arith) ∙ ap (λ (xs : List Run). got xs l.place) (take_all l.run-index l.runs (omega arith))
