-- `file_table::fill_pairs` meets its contract.
use native.Mathlib.Omega.{arith}
use Prim.Native.Nat.{◌+◌}
use mathlib.Core.Path.{◌≡◌, ap, ◌∙◌}
use mathlib.Core.List.{List, [], ◌∷◌, ◌++◌}
use lib.ListN.{take, set}
use Rattle.std.proofs.Common.{take_all}
use Rattle.std.proofs.lemmas.Result.{err_from_is_err_and}
use Rattle.file_format.specs.Format.{got, read_at}
use Rattle.file_format.proofs.Loops.{turns, refuses, ends, put_next}
use Rattle.table_levels.specs.declared.LevelPair.{LevelPair}
use Rattle.file_table.specs.TableFormat.{next_least}
use Rattle.file_table.proofs.fill_pairs.Invariants.{elements}
use Rattle.file_table.proofs.fill_pairs.Goals as goal

pub returns-in_err-read : goal.returns-in_err-read
unfolding read_at
returns-in_err-read c =
    let p = err_from_is_err_and c.from_residual.result c.from_residual.ensures.1 in
    rw (p.1, p.2) (refuses (elements c.args.octets.now) next_least c.loop-pair.invariant _ (omega arith) c.in_err-read.ensures)

pub loop-pair-preserved : goal.loop-pair-preserved
loop-pair-preserved c =
    let l = c.loop-pair in
    let r : LevelPair = c.in_ok-read.read in
    let e : take (l.pair-index + 1) (set l.pairs l.pair-index c.in_ok-read.read) ≡ take l.pair-index l.pairs ++ (c.in_ok-read.read ∷ []) = put_next l.pairs l.pair-index r (omega arith) in
    rw (e, c.from-first.ensures, c.from-second.ensures) (turns (elements c.args.octets.now) next_least l.invariant r c.in_ok-read.next (omega arith) c.in_ok-read.ensures)

pub returns : goal.returns
unfolding read_at
returns c =
    let l = c.loop-pair in
    ends (elements c.args.octets.now) next_least l.invariant (omega arith) ∙ ap (λ (xs : List LevelPair). got xs l.place) (take_all l.pair-index l.pairs (omega arith))
