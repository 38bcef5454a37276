-- `message_build::build_message` meets its contract.
use mathlib.Core.Path.{◌≡◌, refl, sym, ◌∙◌}
use native.Mathlib.Omega.{arith}
use Prim.Native.Nat.{ℕ, ◌+◌, ◌-◌, ◌≤◌}
use mathlib.Core.Bool.{false}
use mathlib.Core.List.{List, []}
use lib.ListN.{length, take, drop, length-drop}
use Rattle.lists.proofs.Laws.{tail_is}
use Rattle.std.specs.Prelude.{Some, None, Ok, Err}
use Rattle.message_reply.specs.Copied.{Reply, copy}
use Rattle.message_reply.specs.Reply.{reply_of, padded}
use Rattle.message.proofs.Theorems.{whole_least}
use Rattle.message_reply.proofs.Laws.{copied_inside}
use Rattle.message_build.specs.declared.BuildError.TheVariants.{Unsound}
use Rattle.message_build.specs.Build.{unsound, refused, quiet, outcome, room_for, message_by}
use Rattle.message_build.proofs.Laws.{sound_header, out_unsound, out_quiet, out_barred, out_copied, same_outcome}
use Rattle.message_build.proofs.build_message.Goals as goal

pub returns-then-is_unsound : goal.returns-then-is_unsound
returns-then-is_unsound c =
    let x = outcome c.args.report c.args.header.now c.args.payload.now (length c.args.message.now) (length c.args.options.now) in let whole = same_outcome x (refused Unsound) (Err Unsound) c.args.message.now c.args.options.now c.args.message.now c.args.options.now
    (out_unsound c.args.report c.args.header.now c.args.payload.now (length c.args.message.now) (length c.args.options.now) (sym c.is_unsound.ensures ∙ c.if-is_unsound.true))
    (refl, (refl, refl)) in record { value = whole.0; message_after = whole.1.0; options_after = whole.1.1 }

-- what is asked is sound
is-sound : (c : goal.Then-is_quiet) → unsound c.args.report c.args.header.now ≡ false
is-sound c = sym c.is_unsound.ensures ∙ c.if-is_unsound.false

pub returns-then-is_quiet : goal.returns-then-is_quiet
returns-then-is_quiet c =
    let x = outcome c.args.report c.args.header.now c.args.payload.now (length c.args.message.now) (length c.args.options.now) in let whole = same_outcome x quiet (Ok None) c.args.message.now c.args.options.now c.args.message.now c.args.options.now
    (out_quiet c.args.report c.args.header.now c.args.payload.now (length c.args.message.now) (length c.args.options.now) (is-sound c) (sym c.is_quiet.ensures ∙ c.if-is_quiet.true))
    (refl, (refl, refl)) in record { value = whole.0; message_after = whole.1.0; options_after = whole.1.1 }

-- what is asked is sound
is-sound-Else-is_quiet : (c : goal.Else-is_quiet) → unsound c.args.report c.args.header.now ≡ false
is-sound-Else-is_quiet c = sym c.is_unsound.ensures ∙ c.if-is_unsound.false

long : (c : goal.Else-is_quiet) → 20 ≤ length c.args.header.now
long c =
    whole_least c.args.header.now [] (sound_header c.args.report c.args.header.now (is-sound-Else-is_quiet c))

pub slice_bounds-area-count : goal.slice_bounds-area-count
slice_bounds-area-count c = omega (arith, long c)

pub slice_bounds-area-start : goal.slice_bounds-area-start
slice_bounds-area-start c = omega (arith, long c)

-- what is copied lies in the area
inside : (h : List ℕ) (r : Reply) (at n : ℕ) → r ≡ reply_of (take (length h - 20) (drop 20 h)) → r ≡ Some (copy at n) → at + n ≤ length h - 20
inside h r at n e q = let i = copied_inside (take (length h - 20) (drop 20 h)) at n (sym e ∙ q) in rw (tail_is, length-drop) at i

pub overflow_add-end : goal.overflow_add-end
overflow_add-end c =
    omega (arith, inside c.args.header.now c.find_reply.result c.in-Some.copied.at c.in-Some.copied.count c.find_reply.ensures c.in-Some.is)

pub slice_bounds-send-end : goal.slice_bounds-send-end
slice_bounds-send-end c =
    let h = c.args.header.now in
    let l : length (take (length h - 20) (drop 20 h)) ≡ length h - 20 = rw (tail_is, length-drop) in
    omega (arith, inside h c.find_reply.result c.in-Some.copied.at c.in-Some.copied.count c.find_reply.ensures c.in-Some.is)

-- what is asked is sound
is-sound-In-None : (c : goal.In-None) → unsound c.args.report c.args.header.now ≡ false
is-sound-In-None c = sym c.is_unsound.ensures ∙ c.if-is_unsound.false

pub returns-in-None : goal.returns-in-None
returns-in-None c =
    let x = outcome c.args.report c.args.header.now c.args.payload.now (length c.args.message.now) (length c.args.options.now) in let whole = same_outcome x quiet (Ok None) c.args.message.now c.args.options.now c.args.message.now c.args.options.now
    (out_barred c.args.report c.args.header.now c.args.payload.now (length c.args.message.now) (length c.args.options.now) (is-sound-In-None c) (sym c.is_quiet.ensures ∙ c.if-is_quiet.false)
    (sym c.find_reply.ensures ∙ c.in-None.is))
    (refl, (refl, refl)) in record { value = whole.0; message_after = whole.1.0; options_after = whole.1.1 }

-- what is asked is sound
is-sound-After-slice_known-in-Some-2-1 : (c : goal.After-slice_known-in-Some-2-1) → unsound c.args.report c.args.header.now ≡ false
is-sound-After-slice_known-in-Some-2-1 c = sym c.is_unsound.ensures ∙ c.if-is_unsound.false

pub returns-in-Some : goal.returns-in-Some
returns-in-Some c =
    let h = c.args.header.now in
    let at = c.in-Some.copied.at in
    let n = c.in-Some.copied.count in
    let m = message_by c.args.report h c.args.payload.now in
    let room = length c.args.message.now in
    let space = length c.args.options.now in let whole = same_outcome (outcome c.args.report h c.args.payload.now room space) (room_for m (padded (take (at + n - at) (drop at (take (length h - 20) (drop 20 h))))) room space) c.send.result
    c.args.message.now c.args.options.now c.send.new.message c.send.new.options
    (out_copied c.args.report h c.args.payload.now room space (is-sound-After-slice_known-in-Some-2-1 c) (sym c.is_quiet.ensures ∙ c.if-is_quiet.false) at n (sym c.find_reply.ensures ∙ c.in-Some.is))
    (c.send.ensures.value, (c.send.ensures.message_after, c.send.ensures.options_after)) in record { value = whole.0; message_after = whole.1.0; options_after = whole.1.1 }
