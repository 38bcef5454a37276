-- `export_batch::forward_between` meets its contract.
use borrow.Author.Rules.{rules}
use native.Mathlib.Omega.{arith}
use mathlib.Core.Path.{◌∙◌, ap}
use Prim.Native.Nat.{◌*◌, ◌<◌}
use lib.ListN.{length}
use Rattle.table_choose.specs.Tables.{lent_found}
use Rattle.forward_batch.specs.Batch.{Gateway, slot_count, batch_of}
use Rattle.export_batch.proofs.Picked.{gateway_found}
use Rattle.export_batch.proofs.forward_between.Goals as goal

-- src/lib.rt:86:9
-- what the type of the rows says of their number
short : (c : goal.After-forward_batch-arg-1) → length c.args.rows.now * 2 < 18446744073709551616
short c = search rules

pub offset_bounds-rows-at : goal.offset_bounds-rows-at
offset_bounds-rows-at c =
    record { fits = omega (arith, short c, c.first_table-found.ensures.1, c.first_table-found.ensures.2) }

-- src/lib.rt:66:1
pub returns : goal.returns
returns c = record {
  value = c.forward_batch.ensures.value;
  output_after = c.forward_batch.ensures.output_after ∙ ap (λ (g : Gateway). batch_of g (slot_count (length c.args.input.now) (length c.args.output.now)) c.args.input.now c.args.output.now)
      (gateway_found c.args.from c.args.to c.args.tables c.args.rows.now (lent_found c.first_table-found.result c.args.rows.now) c.levels_of.result c.first_table-found.ensures.0 c.levels_of.ensures.0);
}
