-- `forward_batch::forward_slot` meets its contract.
use native.Mathlib.Omega.{arith}
use mathlib.Core.Path.{◌≡◌}
use mathlib.Core.Bool.{true}
use Prim.Native.Nat.{◌+◌, ◌≤◌}
use lib.ListN.{length}
use Rattle.table.specs.Table.{lent, table_sound}
use Rattle.table.proofs.Sound.{sound}
use Rattle.gate.specs.Gate.{port_in}
use Rattle.forward_batch.specs.Stages.{gateway_in}
use Rattle.forward_batch.proofs.Slots.{one}
use Rattle.forward_batch.proofs.forward_slot.Goals as goal

pub put_head-requires : goal.put_head-requires
put_head-requires c =
    omega (arith, c.requires.datagram_len.1, c.slot-1.given)

pub shape_of-own : goal.shape_of-own
shape_of-own c = omega (arith, c.own-1.given)

pub shape_of-far : goal.shape_of-far
shape_of-far c = omega (arith, c.far-1.given)

pub returns : goal.returns
returns c =
    let t = lent c.args.table c.args.rows.now in
    let few : table_sound t c.args.levels ≡ true → 120 + t.count ≤ length c.args.far.now = λ y. omega (arith, (sound t c.args.levels y).rows_held, c.requires.in_bounds.1) in
    let far : 120 ≤ length c.args.far.now = omega (arith, c.requires.in_bounds.1) in (
      λ o z g w from to.
          (let d = (c.forward_gates-d.ensures o z g w).forwards from to c.requires.in_bounds.0 far few in
          one
          (gateway_in (port_in c.args.near c.args.lows.now c.args.highs.now c.args.given.now o c.args.receives.now z)
          (port_in c.args.beyond c.args.least.now c.args.most.now g c.args.only.now w c.args.sends.now) t c.args.levels)
          c.args.datagram.now
          c.args.slot.now
          c.read_facts-facts.result
          c.capped-end.result
          c.forward_gates-d.result
          c.forward_gates-d.new.out
          _
          c.requires.datagram_len.0
          c.requires.datagram_len.1
          c.read_facts-facts.ensures
          c.capped-end.ensures.2
          c.capped-end.ensures.3
          d.0
          d.1
          c.put_head.ensures.0),
      c.put_head.ensures.1,
    )
