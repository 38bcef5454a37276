-- `file_read::read_each_table` meets its contract.
use native.Mathlib.Omega.{arith}
use mathlib.Core.Path.{◌≡◌, ap}
use Rattle.std.proofs.lemmas.Result.{err_from_is_err_and}
use Rattle.table.specs.declared.Renumbering.{Renumbering}
use Rattle.file_read.proofs.Tables.{kept_begins, kept_turns, kept_refuses, kept_ends}
use Rattle.file_read.proofs.read_each_table.Goals as goal

pub loop-i-init : goal.loop-i-init
loop-i-init c = let a = c.args in (omega arith, rw c.requires.1 (kept_begins a.version a.octets.now a.count a.at a.work.now))

pub returns-in_err-renumbering : goal.returns-in_err-renumbering
returns-in_err-renumbering c =
    let p = err_from_is_err_and c.from_residual.result c.from_residual.ensures.1 in
    rw (p.1, p.2) (kept_refuses c.loop-i.invariant.1 _ (omega arith) c.in_err-renumbering.ensures.read)

pub overflow_mul-used : goal.overflow_mul-used
overflow_mul-used c = omega (arith, c.read_table.ensures.few, ap (λ (x : Renumbering). x.table.count) c.in_ok-renumbering.ensures.table)

pub overflow_add-used : goal.overflow_add-used
overflow_add-used c = omega (arith, c.read_table.ensures.few, ap (λ (x : Renumbering). x.table.count) c.in_ok-renumbering.ensures.table, c.loop-i.invariant.1.bound, c.requires.0)

pub loop-i-preserved : goal.loop-i-preserved
loop-i-preserved c =
    let l = c.loop-i in
    let e = c.in_ok-renumbering.ensures in (
      omega (arith, l.invariant.0),
      kept_turns l.invariant.1 _ c.in_ok-renumbering.next c.in_ok-renumbering.renumbering _ (omega arith) c.requires.0 (omega (arith, l.invariant.0)) e.read e.table c.read_table.ensures.rows_after c.read_table.ensures.few,
    )

pub returns : goal.returns
returns c =
    let l = c.loop-i in
    let e : l.i ≡ c.args.count = omega arith in
    rw e at (kept_ends l.invariant.1 (omega arith) (omega (arith, c.requires.0)))
