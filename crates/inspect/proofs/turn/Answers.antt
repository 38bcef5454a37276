-- `inspect::turn` meets its contract.
use borrow.Author.Rules.{rules}
use Prim.Native.Nat.{◌<◌}
use mathlib.Core.Path.{refl, sym}
use native.Mathlib.Omega.{arith}
use lib.Seq.{length-take-le}
use Rattle.inspect.proofs.Laws.{turn_unsent, same_window, turn_ended, turn_went}
use Rattle.inspect.proofs.turn.Goals as goal

pub returns-in_err-sent : goal.returns-in_err-sent
returns-in_err-sent c =
    rw c.from_residual.ensures
    (turn_unsent c.args.set c.args.rows.now c.args.input.now c.args.place c.args.out.now _ c.requires.input_len.0 c.requires.input_len.1 c.in_err-sent.ensures refl)

pub returns-then-end-piece : goal.returns-then-end-piece
returns-then-end-piece c =
    let w = same_window c.args.set c.args.rows.now c.args.input.now c.args.place c.in_ok-sent.sent _ c.flush.ensures c.in_ok-sent.was in
    turn_ended c.args.set c.args.rows.now c.args.input.now c.args.place c.in_ok-sent.sent.window c.hold_piece-piece.new.input c.end_input.new.out c.hold_piece-piece.result c.end_input.result c.requires.input_len.0 w
    c.hold_piece-piece.ensures c.if-end-piece.true c.end_input.ensures.0 c.end_input.ensures.1

pub slice_bounds-inspect_held-end-2 : goal.slice_bounds-inspect_held-end-2
slice_bounds-inspect_held-end-2 c =
    sym (length-take-le _ _ c.hold_piece-piece.ensures.inside.1)

pub returns : goal.returns
returns c =
    let w = same_window c.args.set c.args.rows.now c.args.input.now c.args.place c.in_ok-sent.sent _ c.flush.ensures c.in_ok-sent.was in
    let i = c.inspect_held-used.ensures in
    let k : c.hold_piece-piece.result.at < c.hold_piece-piece.result.end = omega (arith, c.if-end-piece.false) in
    rw c.go_on.ensures
    (turn_went c.args.set c.args.rows.now c.args.input.now c.args.place c.in_ok-sent.sent.window c.hold_piece-piece.new.input c.args.out.now _ c.hold_piece-piece.result
    c.inspect_held-used.result c.inspect_held-used.new.lines.end c.requires.input_len.0 c.requires.input_len.1 c.requires.window_value w c.hold_piece-piece.ensures k (λ x. omega (arith, c.slice_known-3-1.given x)) (search rules) i.within i.kept)
