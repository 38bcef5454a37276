-- `renumber_keys::gather` meets its contract.
use Rattle.std.specs.Prelude.{Some}
use native.Mathlib.Omega.{arith}
use Prim.Native.Nat.{◌≤◌, ◌+◌}
use mathlib.Core.Path.{refl, sym, ◌∙◌}
use lib.ListN.{length}
use Rattle.label_keys.specs.Keys.{key_runs}
use Rattle.table.specs.Table.{rows_from}
use Rattle.table.specs.Numbers.{numbered, in_image}
use Rattle.renumber_keys.specs.declared.CarryError.TheVariants.{NoNumber}
use Rattle.renumber_keys.specs.Sets.{runs_of}
use Rattle.renumber_keys.specs.Carry.{carried_as}
use Rattle.renumber_keys.proofs.Carrying.{carried_unnumbered, carried_found, carried_keys_lem, refused_same, parts_inside, parts_few, gathered_of, gathered_count, gathered_list}
use Rattle.renumber_keys.proofs.gather.Goals as goal

pub returns-then-not-cut_runs : goal.returns-then-not-cut_runs
returns-then-not-cut_runs c =
    let rows = rows_from c.args.rows.now in
    let runs = key_runs c.args.own.now in
    let image = runs_of (in_image rows runs) in (
      carried_unnumbered (Some c.args.level) (numbered rows runs) image (sym c.cut_runs.ensures.answer ∙ c.if-not-cut_runs.true),
      refused_same image c.args.far.now NoNumber,
    )

pub join_rows-count-requires : goal.join_rows-count-requires
join_rows-count-requires c =
    let r = c.requires.3 in
    let rows = rows_from c.args.rows.now in
    let runs = key_runs c.args.own.now in
    let cut = c.if-not-cut_runs.ensures in
    let few : length rows ≤ 1024 = omega (arith, r.counted, r.held) in (
      parts_inside rows runs _ _ few r.rise cut c.args.m c.args.order.now r.along (omega (arith, r.counted)),
      omega (arith, parts_few rows runs _ _ few r.rise cut c.args.m c.args.order.now r.along r.gaps r.few, r.counted),
    )

pub returns : goal.returns
returns c =
    let r = c.requires.3 in
    let rows = rows_from c.args.rows.now in
    let runs = key_runs c.args.own.now in
    let image = runs_of (in_image rows runs) in
    let count = c.join_rows-count.result in
    let few : length rows ≤ 1024 = omega (arith, r.counted, r.held) in
    let fits : length rows ≤ 65536 = omega arith in
    let room : 120 + length rows ≤ length c.join_rows-count.new.keys = omega (arith, r.counted) in
    let all = gathered_of rows runs _ _ few r.rise c.if-not-cut_runs.ensures c.args.m c.args.order.now r.along r.gaps r.few c.args.far.now count _ c.join_rows-count.ensures in (
      carried_found (Some c.args.level) (numbered rows runs) image c.args.level count refl (sym c.cut_runs.ensures.answer ∙ c.if-not-cut_runs.false) (gathered_count rows runs fits r.rise r.apart r.gaps c.args.far.now count _ all room),
      gathered_list rows runs fits r.rise r.apart r.gaps c.args.far.now count _ all room ∙ sym (carried_keys_lem image c.args.far.now (carried_as c.args.level count) (record { level = c.args.level; count = count }) refl),
    )
