-- `file_table::first_meeting` meets its contract.
use native.Mathlib.Omega.{arith}
use Prim.Native.Nat.{ℕ, ◌+◌, ◌*◌, ◌/◌, ◌≤◌}
use mathlib.Core.Path.{◌≡◌, refl, sym, ap, ◌∙◌}
use mathlib.Core.List.{List}
use mathlib.Core.Bool.{true, false}
use lib.ListN.{length, take}
use lib.Seq.{take_all, length-take-le}
use Rattle.table.specs.Table.{rows_from, rising, targets_apart, row_list_sound}
use Rattle.table.proofs.Lent.{rows_length}
use Rattle.file_table.proofs.Apart.{apart_some, rising_first}
use Rattle.file_table.proofs.Rows.{apart_list}
use Rattle.file_table.proofs.first_meeting.Goals as goal

-- a list of numbers has as many rows as threes
whole : (xs : List ℕ) → take (length xs / 3) (rows_from xs) ≡ rows_from xs
whole xs = take_all (length xs / 3) (rows_from xs) (omega (arith, rows_length xs))

-- the front of rows that rise
front : (m : ℕ) (xs : List ℕ) → length xs ≤ 3072 → rising 0 (rows_from xs) ≡ true → m ≤ length xs / 3 → row_list_sound (take (m * 3) xs) ≡ targets_apart (take m (rows_from xs))
front m xs h r l = apart_list m xs (omega arith) (omega arith) (rising_first m (length xs / 3) (rows_from xs) l (ap (rising 0) (whole xs) ∙ r))

pub loop-low-init : goal.loop-low-init
loop-low-init c =
    let xs = c.args.rows.now in
    let f : targets_apart (take (length xs / 3) (rows_from xs)) ≡ false = ap targets_apart (whole xs) ∙ c.requires.2 in
    (apart_some (length xs / 3) (rows_from xs) f, omega arith, refl, f)

pub slice_bounds-rows_sound-end : goal.slice_bounds-rows_sound-end
slice_bounds-rows_sound-end c =
    let l = c.loop-low in
    sym (length-take-le ((l.low + l.high) / 2 * 3) c.args.rows.now (omega arith))

pub loop-low-preserved-then-rows_sound : goal.loop-low-preserved-then-rows_sound
loop-low-preserved-then-rows_sound c =
    let l = c.loop-low in
    let e = front ((l.low + l.high) / 2) c.args.rows.now c.requires.0 c.requires.1 (omega arith) in
    (omega arith, l.invariant.1, sym (c.rows_sound.ensures ∙ e) ∙ c.if-rows_sound.true, l.invariant.3)

pub loop-low-preserved : goal.loop-low-preserved
loop-low-preserved c =
    let l = c.loop-low in
    let e = front ((l.low + l.high) / 2) c.args.rows.now c.requires.0 c.requires.1 (omega arith) in
    (omega arith, omega arith, l.invariant.2, sym (c.rows_sound.ensures ∙ e) ∙ c.if-rows_sound.false)

pub returns : goal.returns
returns c =
    let l = c.loop-low in
    let e : l.low + 1 ≡ l.high = omega arith in
    (omega arith, l.invariant.2, rw e l.invariant.3)
