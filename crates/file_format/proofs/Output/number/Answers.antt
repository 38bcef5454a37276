-- `file_format::Output::number` meets its contract.
use native.Mathlib.Omega.{arith}
use borrow.Author.Tests.{leb-true, leb-false}
use Prim.Native.Nat.{◌+◌, ◌≤◌, ◌<◌}
use mathlib.Core.Path.{◌≡◌, refl, sym, ◌∙◌}
use lib.ListN.{length, length-set}
use Rattle.lists.specs.Lists.{paint}
use Rattle.file_format.specs.Format.{digits}
use Rattle.file_format.proofs.Numbers.{digits_length}
use Rattle.lists.proofs.Laws.{paint_none}
use Rattle.file_format.proofs.Writing.{number_turn, wrote_all, wrote_nothing}
use Rattle.file_format.proofs.Output.number.Goals as goal

pub returns-then-not-has_room : goal.returns-then-not-has_room
returns-then-not-has_room c =
    let a = c.args in
    let h : length a.self.now.octets.now < a.self.now.end + a.width = leb-false _ _ (sym c.has_room.ensures ∙ c.if-not-has_room.true) in
    record { same = refl; adds = wrote_nothing (omega (arith, digits_length a.width a.value)) }

pub loop-i-preserved : goal.loop-i-preserved
loop-i-preserved c =
    let a = c.args in
    let l = c.loop-i in
    let room : a.self.now.end + a.width ≤ length a.self.now.octets.now = leb-true _ _ (sym c.has_room.ensures ∙ c.if-not-has_room.false) in
    let v = l.invariant in (
      omega arith,
      v.1,
      v.2,
      simp length-set v.3,
      v.4 ∙ rw v.2 (number_turn a.self.now.end l.i l.rest l.self.octets.now (omega arith) (omega (arith, v.0, v.3, room))),
    )

pub returns : goal.returns
returns c =
    let a = c.args in
    let l = c.loop-i in
    let v = l.invariant in
    let room : a.self.now.end + a.width ≤ length a.self.now.octets.now = leb-true _ _ (sym c.has_room.ensures ∙ c.if-not-has_room.false) in
    let e : l.i ≡ 0 = omega arith in
    let z : paint a.self.now.end (digits l.i l.rest) l.self.octets.now ≡ l.self.octets.now = rw e (paint_none a.self.now.end l.self.octets.now) in
    record {
      same = v.1;
      adds =
          wrote_all (omega (arith, room, digits_length a.width a.value))
          (record { wrote = λ h. (sym (v.4 ∙ z), omega (arith, v.2, digits_length a.width a.value)) });
    }
