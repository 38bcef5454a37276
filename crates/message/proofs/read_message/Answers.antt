-- `message::read_message` meets its contract.
use mathlib.Core.Path.{◌≡◌, sym, ap, ◌∙◌}
use native.Mathlib.Omega.{arith}
use Prim.Native.Nat.{ℕ, ◌-◌, ◌%◌, ◌*◌, ◌≤◌}
use mathlib.Core.Bool.{true}
use borrow.Author.Tests.{not-true, not-false}
use lib.ListN.{length, drop, length-drop}
use lib.Seq.{get_or-drop}
use Rattle.std.specs.Prelude.{Some}
use Rattle.message.specs.Message.{header_length, is_message, kind_in, code_in, pointer_in}
use Rattle.message.proofs.Laws.{Quote, quote, accepted, parts_none, parts_some}
use Rattle.message.proofs.read_message.Goals as goal

pub returns-then-not-is_message : goal.returns-then-not-is_message
returns-then-not-is_message c = sym (parts_none c.args.octets.now (sym c.is_message.ensures ∙ not-true _ c.if-not-is_message.true-raw))

-- the octets are a message
is_read : (c : goal.After-shared_slice_known-2-1-unread) → is_message c.args.octets.now ≡ true
is_read c = sym c.is_message.ensures ∙ not-false _ c.if-not-is_message.false-raw

quoted : (c : goal.After-shared_slice_known-2-1-unread) → Quote (drop 8 c.args.octets.now)
quoted c = let o = c.args.octets.now in quote (drop 8 o) (accepted o (is_read c)).quoted

long : (c : goal.After-shared_slice_known-2-1-unread) → 28 ≤ length c.args.octets.now
long c = let q = quoted c in omega (arith, length-drop 8 c.args.octets.now)

pub bounds-octets-8 : goal.bounds-octets-8
bounds-octets-8 c = omega (arith, long c)

-- the octets are a message
is_read-After-shared_slice_known-3-1-unread : (c : goal.After-shared_slice_known-3-1-unread) → is_message c.args.octets.now ≡ true
is_read-After-shared_slice_known-3-1-unread c = sym c.is_message.ensures ∙ not-false _ c.if-not-is_message.false-raw

quoted-After-shared_slice_known-3-1-unread : (c : goal.After-shared_slice_known-3-1-unread) → Quote (drop 8 c.args.octets.now)
quoted-After-shared_slice_known-3-1-unread c = let o = c.args.octets.now in quote (drop 8 o) (accepted o (is_read-After-shared_slice_known-3-1-unread c)).quoted

long-After-shared_slice_known-3-1-unread : (c : goal.After-shared_slice_known-3-1-unread) → 28 ≤ length c.args.octets.now
long-After-shared_slice_known-3-1-unread c = let q = quoted-After-shared_slice_known-3-1-unread c in omega (arith, length-drop 8 c.args.octets.now)

pub bounds-octets-0 : goal.bounds-octets-0
bounds-octets-0 c = omega (arith, long-After-shared_slice_known-3-1-unread c)

-- the octets are a message
is_read-After-shared_slice_known-4-1 : (c : goal.After-shared_slice_known-4-1) → is_message c.args.octets.now ≡ true
is_read-After-shared_slice_known-4-1 c = sym c.is_message.ensures ∙ not-false _ c.if-not-is_message.false-raw

quoted-After-shared_slice_known-4-1 : (c : goal.After-shared_slice_known-4-1) → Quote (drop 8 c.args.octets.now)
quoted-After-shared_slice_known-4-1 c = let o = c.args.octets.now in quote (drop 8 o) (accepted o (is_read-After-shared_slice_known-4-1 c)).quoted

long-After-shared_slice_known-4-1 : (c : goal.After-shared_slice_known-4-1) → 28 ≤ length c.args.octets.now
long-After-shared_slice_known-4-1 c = let q = quoted-After-shared_slice_known-4-1 c in omega (arith, length-drop 8 c.args.octets.now)

pub bounds-octets-1 : goal.bounds-octets-1
bounds-octets-1 c = omega (arith, long-After-shared_slice_known-4-1 c)

-- the octets are a message
is_read-After-shared_slice_known-5-1 : (c : goal.After-shared_slice_known-5-1) → is_message c.args.octets.now ≡ true
is_read-After-shared_slice_known-5-1 c = sym c.is_message.ensures ∙ not-false _ c.if-not-is_message.false-raw

quoted-After-shared_slice_known-5-1 : (c : goal.After-shared_slice_known-5-1) → Quote (drop 8 c.args.octets.now)
quoted-After-shared_slice_known-5-1 c = let o = c.args.octets.now in quote (drop 8 o) (accepted o (is_read-After-shared_slice_known-5-1 c)).quoted

long-After-shared_slice_known-5-1 : (c : goal.After-shared_slice_known-5-1) → 28 ≤ length c.args.octets.now
long-After-shared_slice_known-5-1 c = let q = quoted-After-shared_slice_known-5-1 c in omega (arith, length-drop 8 c.args.octets.now)

pub bounds-octets-4 : goal.bounds-octets-4
bounds-octets-4 c = omega (arith, long-After-shared_slice_known-5-1 c)

pub overflow_sub-result : goal.overflow_sub-result
overflow_sub-result c = omega (arith, long-After-shared_slice_known-5-1 c)

-- the header's length field
counted : (c : goal.After-shared_slice_known-5-1) → c.length_by-header.result ≡ header_length (drop 8 c.args.octets.now)
counted c = c.length_by-header.ensures.0 ∙ ap (λ (x : ℕ). 4 * (x % 16)) (sym (get_or-drop 8 c.args.octets.now 0 0))

pub overflow_sub-result-2 : goal.overflow_sub-result-2
overflow_sub-result-2 c =
    let o = c.args.octets.now in
    let e = counted c in
    let q = quoted-After-shared_slice_known-5-1 c in
    omega (arith, length-drop 8 o)

pub returns : goal.returns
returns c =
    let o = c.args.octets.now in
    (λ i. Some (record { kind = kind_in o; code = code_in o; pointer = pointer_in o; header = counted c i; payload = length o - 8 - counted c i })) ∙ sym (parts_some o (is_read-After-shared_slice_known-5-1 c))
