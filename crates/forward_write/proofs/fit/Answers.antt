-- `forward_write::fit` meets its contract.
use native.Mathlib.Omega.{arith}
use borrow.Author.Tests.{le-leb, lt-leb}
use mathlib.Core.Path.{◌≡◌, sym, ◌∙◌, ap}
use mathlib.Core.Bool.{◌||◌}
use Prim.Native.Nat.{ℕ}
use lib.ListN.{take}
use lib.Seq.{length-take-le}
use mathlib.Core.List.{List}
use Rattle.std.proofs.lemmas.Result.{err_from_is_err_and}
use Rattle.label_keys.proofs.Keys.{take_min}
use Rattle.option_form.specs.Spelled.{length_of}
use Rattle.option_form.specs.Keys.{keys_spelled}
use Rattle.forward_write.specs.Sending.{has_room_for, fitted_by}
use Rattle.forward_write.proofs.fit.Goals as goal

pub returns-in_err-passed : goal.returns-in_err-passed
unfolding fitted_by
returns-in_err-passed c =
    λ d. let p = err_from_is_err_and c.from_residual.result c.from_residual.ensures.1 in rw (c.in_err-passed.was, p.1, p.2)

pub returns-then-n-gt-MAX_RUNS : goal.returns-then-n-gt-MAX_RUNS
unfolding fitted_by
returns-then-n-gt-MAX_RUNS c =
    λ d. rw (c.in_ok-passed.was, lt-leb _ 120 c.if-n-gt-MAX_RUNS.true) c.barred.ensures

-- toward unlabelled hosts
pub returns-then-unlabelled : goal.returns-then-unlabelled
unfolding fitted_by
returns-then-unlabelled c =
    λ d. rw (c.in_ok-passed.was, le-leb _ 120 c.if-n-gt-MAX_RUNS.false, c.if-unlabelled.true)

pub slice_bounds-keys_length-end : goal.slice_bounds-keys_length-end
slice_bounds-keys_length-end c =
    sym (length-take-le c.min-m.result c.args.keys.now (omega (arith, c.min-m.ensures)))

-- the room is tested as the definition does
roomed : (c : goal.After-barred-then-not-has_room) (d : ℕ) →
    (c.args.unlabelled || has_room_for (length_of (keys_spelled c.args.permitted d c.in_ok-passed.passed.level (take c.in_ok-passed.passed.count c.args.keys.now))) c.args.kept) ≡ c.has_room.result
roomed c d =
    let p = c.in_ok-passed.passed in
    let n : take c.min-m.result c.args.keys.now ≡ take p.count c.args.keys.now =
    ap (λ (i : ℕ). take i c.args.keys.now) c.min-m.ensures ∙ take_min p.count c.args.keys.now in
    rw c.if-unlabelled.false
    (ap (λ (ks : List ℕ). has_room_for (length_of (keys_spelled c.args.permitted d p.level ks)) c.args.kept) (sym n)
    ∙ ap (λ (i : ℕ). has_room_for i c.args.kept) (sym (c.keys_length-size.ensures d p.level))
    ∙ sym c.has_room.ensures)

pub returns-then-not-has_room : goal.returns-then-not-has_room
unfolding fitted_by
returns-then-not-has_room c =
    λ d. rw (c.in_ok-passed.was, le-leb _ 120 c.if-n-gt-MAX_RUNS.false, roomed c d ∙ c.if-not-has_room.true) c.barred-then-not-has_room.ensures

-- the room is tested as the definition does
roomed-Else-not-has_room : (c : goal.Else-not-has_room) (d : ℕ) →
    (c.args.unlabelled || has_room_for (length_of (keys_spelled c.args.permitted d c.in_ok-passed.passed.level (take c.in_ok-passed.passed.count c.args.keys.now))) c.args.kept) ≡ c.has_room.result
roomed-Else-not-has_room c d =
    let p = c.in_ok-passed.passed in
    let n : take c.min-m.result c.args.keys.now ≡ take p.count c.args.keys.now =
    ap (λ (i : ℕ). take i c.args.keys.now) c.min-m.ensures ∙ take_min p.count c.args.keys.now in
    rw c.if-unlabelled.false
    (ap (λ (ks : List ℕ). has_room_for (length_of (keys_spelled c.args.permitted d p.level ks)) c.args.kept) (sym n)
    ∙ ap (λ (i : ℕ). has_room_for i c.args.kept) (sym (c.keys_length-size.ensures d p.level))
    ∙ sym c.has_room.ensures)

pub returns : goal.returns
unfolding fitted_by
returns c =
    λ d. rw (c.in_ok-passed.was, le-leb _ 120 c.if-n-gt-MAX_RUNS.false, roomed-Else-not-has_room c d ∙ c.if-not-has_room.false)
