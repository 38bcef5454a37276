-- `forward_batch::forward_batch` meets its contract.
use mathlib.Core.Path.{sym, ◌∙◌, ap}
use Prim.Native.Nat.{ℕ}
use Rattle.table.specs.Table.{lent}
use Rattle.forward_batch.specs.Batch.{batch_of}
use Rattle.forward_batch.proofs.forward_batch.Goals as goal

pub forward_sound-requires : goal.forward_sound-requires
forward_sound-requires c = record { from_value = (sym c.port_sound.ensures ∙ c.if-port_sound.true, sym c.port_sound-then-port_sound.ensures ∙ c.if-port_sound-2.true); n_in_bounds = (c.count_slots-n.ensures.1, c.count_slots-n.ensures.2) }

pub returns-then-port_sound-2 : goal.returns-then-port_sound-2
returns-then-port_sound-2 c = record {
  value = c.count_slots-n.ensures.0;
  output_after = c.forward_sound.ensures
      ∙ ap (λ (k : ℕ). batch_of (record { arriving = c.args.from; leaving = c.args.to; table = lent c.args.table c.args.rows.now; levels = c.args.levels }) k c.args.input.now c.args.output.now)
      c.count_slots-n.ensures.0;
}

pub returns : goal.returns
returns c = record {
  value = c.count_slots-n.ensures.0;
  output_after = c.forward_each.ensures
      ∙ ap (λ (k : ℕ). batch_of (record { arriving = c.args.from; leaving = c.args.to; table = lent c.args.table c.args.rows.now; levels = c.args.levels }) k c.args.input.now c.args.output.now)
      c.count_slots-n.ensures.0;
}
