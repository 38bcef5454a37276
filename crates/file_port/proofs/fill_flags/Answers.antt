-- `file_port::fill_flags` meets its contract.
use native.Mathlib.Omega.{arith}
use Prim.Native.Nat.{ℕ, ◌+◌}
use mathlib.Core.Path.{◌≡◌, ap, ◌∙◌}
use mathlib.Core.List.{List, [], ◌∷◌, ◌++◌}
use lib.ListN.{take, set}
use Rattle.std.proofs.Common.{take_all}
use Rattle.std.proofs.lemmas.Result.{err_from_is_err_and}
use Rattle.file_format.specs.Format.{got, read_at, same}
use Rattle.file_format.proofs.Loops.{turns, refuses, ends, put_next}
use Rattle.file_port.proofs.fill_flags.Invariants.{elements}
use Rattle.file_port.proofs.fill_flags.Goals as goal

pub returns-in_err-read : goal.returns-in_err-read
unfolding read_at
returns-in_err-read c =
    let p = err_from_is_err_and c.from_residual.result c.from_residual.ensures.1 in
    rw (p.1, p.2) (refuses (elements c.args.octets.now) same c.loop-flag.invariant _ (omega arith) c.in_err-read.ensures.read)

pub loop-flag-preserved : goal.loop-flag-preserved
loop-flag-preserved c =
    let l = c.loop-flag in
    let e : take (l.flag-index + 1) (set l.flags l.flag-index c.in_ok-read.read) ≡ take l.flag-index l.flags ++ (c.in_ok-read.read ∷ []) = put_next l.flags l.flag-index c.in_ok-read.read (omega arith) in
    rw e (turns (elements c.args.octets.now) same l.invariant c.in_ok-read.read c.in_ok-read.next (omega arith) c.in_ok-read.ensures.read)

pub returns : goal.returns
unfolding read_at
returns c =
    let l = c.loop-flag in
    ends (elements c.args.octets.now) same l.invariant (omega arith) ∙ ap (λ (xs : List ℕ). got xs l.place) (take_all l.flag-index l.flags (omega arith))
