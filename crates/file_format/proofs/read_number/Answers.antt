-- `file_format::read_number` meets its contract.
use native.Mathlib.Omega.{arith}
use native.Mathlib.Numerals.{add-one}
use borrow.Author.Tests.{leb-true, leb-false}
use Prim.Native.Nat.{◌+◌, ◌≤◌, ◌<◌}
use mathlib.Core.Path.{◌≡◌, refl, sym, ◌∙◌}
use lib.ListN.{length, get_or}
use Rattle.file_format.specs.Format.{value_at}
use Rattle.file_format.proofs.Numbers.{small_room, part_length, part_octet, part_value, number_cut, number_under, number_over, number_good}
use Rattle.file_format.proofs.read_number.Goals as goal
use Rattle.file_format.proofs.read_number.Goals.{then-value-least-via-then-value-least, then-value-least-via-else-value-least+then-most-value}

pub returns-then-not-has_room : goal.returns-then-not-has_room
returns-then-not-has_room c =
    let a = c.args in
    record { read = number_cut a.octets.now a.at a.width a.least a.most (leb-false _ _ (sym c.has_room.ensures ∙ c.if-not-has_room.true)); bound = tt }

pub overflow_mul-value : goal.overflow_mul-value
overflow_mul-value c =
    let a = c.args in
    let p = part_length a.octets.now a.at a.width c.has_room.result c.has_room.ensures c.if-not-has_room.false in
    omega (arith, p, small_room c.loop-octet.octet-index (omega (arith, p)))

-- the octet at which the loop stands
octet : (c : goal.After-from) → let i = c.loop-octet.octet-index in (i < c.args.width) × (c.from.result ≡ get_or c.args.octets.now (c.args.at + i) 0) × (c.from.result < 256)
octet c =
    let a = c.args in
    let i = c.loop-octet.octet-index in
    let turns : i < a.width = omega (arith, part_length a.octets.now a.at a.width c.has_room.result c.has_room.ensures c.if-not-has_room.false) in
    let e : c.from.result ≡ get_or a.octets.now (a.at + i) 0 = c.from.ensures ∙ part_octet a.octets.now a.at a.width i turns in
    (turns, e, omega (arith, e, c.type_inv.octets (a.at + i)))

pub overflow_add-value : goal.overflow_add-value
overflow_add-value c = omega (arith, octet c, small_room c.loop-octet.octet-index (omega (arith, octet c)))

pub loop-octet-preserved : goal.loop-octet-preserved
loop-octet-preserved c =
    let l = c.loop-octet in
    (rw (add-one, ← (octet c).1, l.invariant.0) refl, rw add-one (omega (arith, octet c, l.invariant.1)))

pub returns-then-value-least : goal.returns-then-value-least
returns-then-value-least c =
    let a = c.args in
    let l = c.loop-octet in
    let room : a.at + a.width ≤ length a.octets.now = leb-true _ _ (sym c.has_room.ensures ∙ c.if-not-has_room.false) in
    let e : value_at a.octets.now a.at a.width ≡ l.value =
    part_value a.octets.now a.at a.width l.octet-index l.value c.has_room.result c.has_room.ensures c.if-not-has_room.false l.invariant.0 c.loop-octet-test.false l.auto.octet-index-end in
    record {
      read =
          elim c.then-value-least.branch [
            | then-value-least-via-then-value-least w ↦ number_under a.octets.now a.at a.width a.least a.most room (omega arith)
            | then-value-least-via-else-value-least+then-most-value w ↦ number_over a.octets.now a.at a.width a.least a.most room (omega arith) (omega arith)
          ];
      bound = tt;
    }

pub returns : goal.returns
returns c =
    let a = c.args in
    let l = c.loop-octet in
    let room : a.at + a.width ≤ length a.octets.now = leb-true _ _ (sym c.has_room.ensures ∙ c.if-not-has_room.false) in
    let e : value_at a.octets.now a.at a.width ≡ l.value =
    part_value a.octets.now a.at a.width l.octet-index l.value c.has_room.result c.has_room.ensures c.if-not-has_room.false l.invariant.0 c.loop-octet-test.false l.auto.octet-index-end in
    record { read = rw (← e) (number_good a.octets.now a.at a.width a.least a.most room (omega arith) (omega arith)); bound = omega arith }
