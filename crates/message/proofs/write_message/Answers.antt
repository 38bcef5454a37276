-- `message::write_message` meets its contract.
use mathlib.Core.Path.{◌≡◌, sym, ◌∙◌}
use native.Mathlib.Omega.{arith}
use Prim.Native.Nat.{◌+◌, ◌≤◌, ◌<◌}
use lib.ListN.{length, take}
use lib.Seq.{length-take-le}
use Rattle.message.specs.Message.{message_of}
use Rattle.message.proofs.Laws.{message_length, message_written, quoted_length, written_room, written_none, after_room, after_none}
use Rattle.message.proofs.write_message.Goals as goal

pub returns-then-out-size : goal.returns-then-out-size
returns-then-out-size c =
    let m = message_of c.args.kind c.args.code c.args.pointer c.args.header.now c.args.payload.now in
    let n = message_length c.args.kind c.args.code c.args.pointer c.args.header.now c.args.payload.now in
    let q = quoted_length c.args.payload.now c.min-quoted.result c.min-quoted.ensures in
    let h : length c.args.out.now < length m = omega (arith, c.if-out-size.true) in record { value = sym (written_none m (length c.args.out.now) h); out_after = sym (after_none m c.args.out.now h) }

pub slice_bounds-write_blank-end : goal.slice_bounds-write_blank-end
slice_bounds-write_blank-end c = sym (length-take-le c.min-quoted.result c.args.payload.now (omega (arith, c.min-quoted.ensures)))

pub write_blank-requires : goal.write_blank-requires
write_blank-requires c =
    let d = c.args.payload.now in
    let k : length (take c.min-quoted.result d) ≡ c.min-quoted.result = length-take-le c.min-quoted.result d (omega (arith, c.min-quoted.ensures)) in
    omega (arith, c.if-out-size.false)

pub returns : goal.returns
returns c =
    let m = message_of c.args.kind c.args.code c.args.pointer c.args.header.now c.args.payload.now in
    let n = message_length c.args.kind c.args.code c.args.pointer c.args.header.now c.args.payload.now in
    let q = quoted_length c.args.payload.now c.min-quoted.result c.min-quoted.ensures in
    let k : length m ≡ 8 + length c.args.header.now + c.min-quoted.result = omega arith in
    let h : length m ≤ length c.args.out.now = omega (arith, c.if-out-size.false) in record {
      value = sym (written_room m (length c.args.out.now) h ∙ k);
      out_after = message_written c.args.kind c.args.code c.args.pointer c.args.header.now c.args.payload.now c.min-quoted.result c.args.out.now
          c.write_blank.new.out c.fill_check.new.out c.min-quoted.ensures c.write_blank.ensures c.fill_check.ensures
          ∙ sym (after_room m c.args.out.now h);
    }
