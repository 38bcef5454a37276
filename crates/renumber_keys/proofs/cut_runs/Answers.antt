-- `renumber_keys::cut_runs` meets its contract.
use native.Mathlib.Omega.{arith}
use Prim.Native.Nat.{ℕ, ◌%◌}
use native.Mathlib.Nat.{le_refl}
use mathlib.Core.Path.{◌∙◌, ap}
use lib.ListN.{get_or, length-set}
use Rattle.table.specs.Table.{rows_from}
use Rattle.table.proofs.Lent.{rows_length}
use Rattle.renumber_keys.specs.Stages.{piece_key}
use Rattle.renumber_keys.proofs.Cutting.{turning_start, turned_none, row_ends, run_ordered, turned_away, turned_over, turned_inside, turned_parted, turned_all}
use Rattle.renumber_keys.proofs.cut_runs.Goals as goal

pub loop-j-init : goal.loop-j-init
loop-j-init c =
    turning_start (rows_from c.args.rows.now) c.args.own.now c.args.cut.now c.args.start.now c.requires.5 c.requires.6 (omega arith)

pub loop-j-preserved-then-n-i : goal.loop-j-preserved-then-n-i
loop-j-preserved-then-n-i c =
    turned_none c.requires.5 c.requires.6 c.loop-j.invariant c.if-n-i.true (omega arith) (omega (arith, length-set {A = ℕ}))

pub read_row-row-requires : goal.read_row-row-requires
read_row-row-requires c = omega (arith, rows_length c.args.rows.now, c.requires.4, c.loop-j-test.true)

pub returns-then-low-base : goal.returns-then-low-base
returns-then-low-base c =
    turned_away c.requires.5 c.requires.6 c.loop-j.invariant c.if-n-i.false (omega arith) c.read_row-row.ensures _ _ (rw c.max-low.ensures at c.if-low-base.true)

pub piece_key-requires : goal.piece_key-requires
piece_key-requires c =
    let k = c.requires in (
      c.if-low-base.false,
      rw c.max-low.ensures (run_ordered k.5 k.6 c.loop-j.invariant c.if-n-i.false (omega arith) c.read_row-row.ensures),
      c.if-high-top.true,
      row_ends k.5 k.6 c.loop-j.invariant c.if-n-i.false (omega arith) c.read_row-row.ensures,
    )

pub loop-j-preserved-then-high-top : goal.loop-j-preserved-then-high-top
loop-j-preserved-then-high-top c =
    turned_inside c.requires.5 c.requires.6 c.loop-j.invariant c.if-n-i.false (omega arith) c.read_row-row.ensures _
    (c.piece_key.ensures ∙ ap (λ (z : ℕ). piece_key c.read_row-row.result z (get_or c.args.own.now c.loop-j.i 0 % 65536)) c.max-low.ensures)
    (rw c.max-low.ensures at c.if-low-base.false)
    c.if-high-top.true (omega arith)

pub loop-j-preserved-then-top-low : goal.loop-j-preserved-then-top-low
loop-j-preserved-then-top-low c =
    turned_over c.requires.5 c.requires.6 c.loop-j.invariant c.if-n-i.false (omega arith) c.read_row-row.ensures (rw c.max-low.ensures at c.if-top-low.true) (omega (arith, length-set {A = ℕ}))

pub returns-then-low-base-2 : goal.returns-then-low-base-2
returns-then-low-base-2 c =
    turned_away c.requires.5 c.requires.6 c.loop-j.invariant c.if-n-i.false (omega arith) c.read_row-row.ensures _ _ (rw c.max-low.ensures at c.if-low-base-2.true)

pub piece_key-requires-else-top-low : goal.piece_key-requires-else-top-low
piece_key-requires-else-top-low c =
    (c.if-low-base-2.false, c.if-top-low.false, le_refl _, row_ends c.requires.5 c.requires.6 c.loop-j.invariant c.if-n-i.false (omega arith) c.read_row-row.ensures)

pub loop-j-preserved : goal.loop-j-preserved
loop-j-preserved c =
    turned_parted c.requires.5 c.requires.6 c.loop-j.invariant c.if-n-i.false (omega arith) c.read_row-row.ensures _
    (c.piece_key-else-top-low.ensures ∙ ap (λ (z : ℕ). piece_key c.read_row-row.result z c.read_row-row.result.high) c.max-low.ensures)
    (rw c.max-low.ensures at c.if-low-base-2.false)
    (rw c.max-low.ensures at c.if-top-low.false)
    c.if-high-top.false (omega arith) (omega (arith, length-set {A = ℕ}))

pub returns : goal.returns
returns c =
    turned_all c.requires.5 c.requires.6 c.loop-j.invariant (omega arith) (omega arith)
