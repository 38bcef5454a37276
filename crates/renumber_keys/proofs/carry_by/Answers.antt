-- `renumber_keys::carry_by` meets its contract.
use Prim.Native.Nat.{ℕ, ◌≤◌}
use mathlib.Core.Path.{◌≡◌, sym, ◌∙◌, ap}
use mathlib.Core.Bool.{Bool, true, ◌&&◌}
use mathlib.Core.List.{List}
use lib.Dec.{leb}
use lib.ListN.{length}
use Rattle.label.specs.declared.Run.{Run}
use Rattle.label_keys.specs.Keys.{key_runs}
use Rattle.table.specs.Table.{Lent, lent, used_rows, bare_sound}
use Rattle.table.proofs.Order.{bare_room, bare_held}
use Rattle.table.specs.Numbers.{numbered}
use Rattle.table_levels.specs.Levels.{Partner}
use Rattle.renumber_keys.specs.declared.CarryError.TheVariants.{Unsound, NoNumber}
use Rattle.renumber_keys.specs.Carry.{image_of, label_runs, carried_to}
use Rattle.renumber_keys.proofs.Carrying.{by_checked, by_short, by_refused, by_passed, carried_missing, refused_same}
use Rattle.renumber_keys.proofs.Ready.{ready_of}
use Rattle.renumber_keys.proofs.carry_by.Goals as goal

pub returns-then-not-bare-formed : goal.returns-then-not-bare-formed
returns-then-not-bare-formed c =
    let a = c.args in
    let t = lent a.table a.rows.now in
    let runs = key_runs a.own.now in (
      by_refused a.partner runs t (length a.far.now) _ _ (c.bare_order-bare.ensures.0 ∙ bare_room t _ c.requires) c.keys_formed-formed.ensures c.if-not-bare-formed.true,
      refused_same (image_of t runs) a.far.now Unsound,
    )

pub returns-then-far-count : goal.returns-then-far-count
returns-then-far-count c =
    let a = c.args in
    let t = lent a.table a.rows.now in
    let runs = key_runs a.own.now in (by_short a.partner runs t (length a.far.now) c.if-far-count.true, refused_same (image_of t runs) a.far.now Unsound)

-- the tests have passed
passed : (p : Partner) (bare formed : Bool) (runs : List Run) (t : Lent) (room held : ℕ) → (t.count ≤ 1024 → t.count ≤ room) → bare ≡ (bare_sound t && leb t.count room) → formed ≡ label_runs runs
    → (bare && formed) ≡ true → (bare_sound t ≡ true) × (label_runs runs ≡ true)
passed p bare formed runs t room held h b f e = by_passed p runs t held bare formed (b ∙ bare_room t room h) f e

pub returns-in_default : goal.returns-in_default
returns-in_default c =
    let a = c.args in
    let t = lent a.table a.rows.now in
    let runs = key_runs a.own.now in
    let q = passed a.partner _ _ runs t _ (length a.far.now) c.requires c.bare_order-bare.ensures.0 c.keys_formed-formed.ensures c.if-not-bare-formed.false in (
      carried_missing a.partner (numbered (used_rows t) runs) (image_of t runs) c.in_default.is ∙ sym (by_checked a.partner runs t (length a.far.now) q.0 q.1 c.if-far-count.false),
      refused_same (image_of t runs) a.far.now NoNumber,
    )

pub carry_checked-requires : goal.carry_checked-requires
carry_checked-requires c =
    let a = c.args in
    let t = lent a.table a.rows.now in
    let runs = key_runs a.own.now in
    let q = passed a.partner _ _ runs t _ (length a.far.now) c.requires c.bare_order-bare.ensures.0 c.keys_formed-formed.ensures c.if-not-bare-formed.false in
    (c.if-far-count.false, ready_of t a.order.now _ runs q.0 (c.requires (bare_held t q.0)) c.bare_order-bare.ensures.1 q.1)

pub returns : goal.returns
returns c =
    let a = c.args in
    let t = lent a.table a.rows.now in
    let runs = key_runs a.own.now in
    let q = passed a.partner _ _ runs t _ (length a.far.now) c.requires c.bare_order-bare.ensures.0 c.keys_formed-formed.ensures c.if-not-bare-formed.false in
    (c.carry_checked.ensures.0 ∙ ap (λ (p : Partner). carried_to p (numbered (used_rows t) runs) (image_of t runs)) (sym c.in-Some.is) ∙ sym (by_checked a.partner runs t (length a.far.now) q.0 q.1 c.if-far-count.false), c.carry_checked.ensures.1)
