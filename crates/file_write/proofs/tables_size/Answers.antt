-- `file_write::tables_size` meets its contract.
use native.Mathlib.Omega.{arith}
use native.Mathlib.Nat.{zero-add}
use mathlib.Core.List.{List}
use mathlib.Core.Path.{◌≡◌, sym, ap}
use lib.ListN.{length, take, drop, length-take}
use Rattle.table_choose.specs.Tables.{tables_from}
use Rattle.file_format.specs.Laws.{flat}
use Rattle.file_write.specs.Stages.{table_octets}
use Rattle.table.specs.Renumbering.{LentTable}
use Rattle.file_write.proofs.Sizes.{size_turn, none_left}
use Rattle.file_write.proofs.tables_size.Goals as goal

pub loop-renumbering-init : goal.loop-renumbering-init
loop-renumbering-init c = (omega arith, sym (zero-add _), omega arith)

pub end_of-end-requires : goal.end_of-end-requires
end_of-end-requires c = c.loop-renumbering.invariant.0

pub overflow_add-size : goal.overflow_add-size
overflow_add-size c = omega (arith, length-take c.args.n c.args.tables, c.table_size-size.ensures.1, c.loop-renumbering.invariant.2)

pub loop-renumbering-preserved : goal.loop-renumbering-preserved
unfolding table_octets
loop-renumbering-preserved c =
    let l = c.loop-renumbering in
    let e = c.end_of-end in
    let q = c.table_size-size.ensures in
    (e.ensures.1, size_turn (take c.args.n c.args.tables) l.renumbering-index c.args.rows.now l.at e.result c.loop-renumbering-test.true l.invariant.0 e.ensures.2 _ l.size _ l.invariant.1 q.0, omega (arith, q.1, l.invariant.2))

pub returns : goal.returns
returns c =
    let l = c.loop-renumbering in
    let xs = take c.args.n c.args.tables in
    let z : length (flat table_octets (tables_from (drop l.renumbering-index xs) (drop l.at c.args.rows.now))) ≡ 0 =
    ap (λ (ts : List LentTable). length (flat table_octets ts)) (none_left xs l.renumbering-index (drop l.at c.args.rows.now) c.loop-renumbering-test.false) in
    (omega (arith, l.invariant.1, z), omega (arith, length-take c.args.n c.args.tables, l.invariant.2))
