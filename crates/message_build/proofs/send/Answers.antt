-- `message_build::send` meets its contract.
use mathlib.Core.Path.{◌≡◌, refl, sym, ap, ◌∙◌}
use native.Mathlib.Omega.{arith}
use Prim.Native.Nat.{ℕ, ◌≤◌, ◌<◌}
use mathlib.Core.List.{◌++◌}
use lib.ListN.{length, drop}
use Rattle.message.proofs.Laws.{written_room, after_room, after_none}
use Rattle.std.specs.Prelude.{Ok, Err, Some}
use Rattle.area_leaving.specs.Kept.{round_up}
use Rattle.message_reply.specs.Reply.{padded}
use Rattle.message_reply.proofs.Theorems.{padded_length}
use Rattle.message_build.specs.declared.BuildError.TheVariants.{Short}
use Rattle.message_build.specs.Build.{message_by, refused, goes, room_for}
use Rattle.message_build.proofs.Laws.{no_space, no_room, both_fit, count_zero, count_some, same_outcome}
use Rattle.message_build.proofs.send.Goals as goal

pub returns-then-options-size : goal.returns-then-options-size
returns-then-options-size c =
    let m = message_by c.args.report c.args.header.now c.args.payload.now in
    let o = padded c.args.option.now in
    let room = length c.args.message.now in
    let space = length c.args.options.now in
    let h : space < length o = omega (arith, padded_length c.args.option.now, c.if-options-size.true) in let whole = same_outcome (room_for m o room space) (refused Short) (Err Short) c.args.message.now c.args.options.now c.args.message.now c.args.options.now (no_space m o room space h)
    (refl, (refl, refl)) in record { value = whole.0; message_after = whole.1.0; options_after = whole.1.1 }

pub returns-then-count-eq0 : goal.returns-then-count-eq0
returns-then-count-eq0 c =
    let m = message_by c.args.report c.args.header.now c.args.payload.now in
    let o = padded c.args.option.now in
    let room = length c.args.message.now in
    let space = length c.args.options.now in
    let h : room < length m = count_zero c.args.report c.args.header.now c.args.payload.now room (sym c.write_message-count.ensures.value ∙ c.if-count-eq0.true) in let whole = same_outcome (room_for m o room space) (refused Short) (Err Short) c.args.message.now c.args.options.now c.write_message-count.new.out c.args.options.now (no_room m o room space h)
    (refl, (c.write_message-count.ensures.out_after ∙ after_none m c.args.message.now h, refl)) in record { value = whole.0; message_after = whole.1.0; options_after = whole.1.1 }

pub write_padded-requires : goal.write_padded-requires
write_padded-requires c = (refl, c.if-options-size.false)

pub returns : goal.returns
returns c =
    let m = message_by c.args.report c.args.header.now c.args.payload.now in
    let o = padded c.args.option.now in
    let room = length c.args.message.now in
    let space = length c.args.options.now in
    let n = sym (padded_length c.args.option.now) in
    let h : length m ≤ room = count_some c.args.report c.args.header.now c.args.payload.now room (λ e. c.if-count-eq0.false (c.write_message-count.ensures.value ∙ e)) in
    let k : length o ≤ space = omega (arith, c.if-options-size.false) in
    let count : c.write_message-count.result ≡ length m = c.write_message-count.ensures.value ∙ written_room m room h in let whole = same_outcome (room_for m o room space) (goes m o) (Ok (Some (record { message = c.write_message-count.result; options = round_up (length c.args.option.now) }))) c.args.message.now c.args.options.now c.write_message-count.new.out c.write_padded.new.out
    (both_fit m o room space h k) (
      (λ i. Ok (Some (record { message = count i; options = n i }))),
      (c.write_message-count.ensures.out_after ∙ after_room m c.args.message.now h, c.write_padded.ensures ∙ ap (λ (j : ℕ). o ++ drop j c.args.options.now) n),
    ) in record { value = whole.0; message_after = whole.1.0; options_after = whole.1.1 }
