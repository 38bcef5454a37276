-- `renumber_search::carry_rows` meets its contract.
use borrow.Author.Rules.{rules}
use mathlib.Core.Path.{◌≡◌, sym, ◌∙◌}
use lib.ListN.{length, take}
use Rattle.std.specs.Prelude.{None}
use Rattle.std.proofs.lemmas.Option.{MatchOption-at_none, MatchOption-at_some}
use Rattle.label_keys.specs.Keys.{key_runs}
use Rattle.table.specs.Table.{rows_from}
use Rattle.renumber_keys.proofs.Held.{first_same}
use Rattle.renumber_search.proofs.Whole.{room_is, room_left, no_room, not_whole, cut_room, sorted_room, carried_whole}
use Rattle.renumber_search.proofs.carry_rows.Goals as goal

pub returns-then-not-has_room : goal.returns-then-not-has_room
returns-then-not-has_room c =
    let a = c.args in
    let room = c.has_room.ensures ∙ room_is a.own.now a.n c.min-m.result c.min-m.ensures a.rows.now (length a.far.now) in
    no_room (rows_from a.rows.now) (key_runs (take a.n a.own.now)) a.far.now (sym room ∙ c.if-not-has_room.true)

pub cut_runs-requires : goal.cut_runs-requires
cut_runs-requires c =
    let a = c.args in
    room_left a.own.now a.n c.min-m.result c.min-m.ensures a.rows.now (length a.far.now) (sym c.has_room.ensures ∙ c.if-not-has_room.false)

pub returns-in_err-k : goal.returns-in_err-k
returns-in_err-k c =
    let a = c.args in
    let room = c.has_room.ensures ∙ room_is a.own.now a.n c.min-m.result c.min-m.ensures a.rows.now (length a.far.now) in
    let all = rw (first_same a.own.now a.n c.min-m.result c.min-m.ensures) at (MatchOption-at_none _ _ c.in_err-k.was c.cut_runs.ensures) in
    let none : c.from_residual.result ≡ None = search rules in
    rw none (not_whole (rows_from a.rows.now) (key_runs (take a.n a.own.now)) a.far.now (sym room ∙ c.if-not-has_room.false) c.cut_runs.new.far all)

pub returns : goal.returns
returns c =
    let a = c.args in
    let room = c.has_room.ensures ∙ room_is a.own.now a.n c.min-m.result c.min-m.ensures a.rows.now (length a.far.now) in
    let all = rw (first_same a.own.now a.n c.min-m.result c.min-m.ensures) at (MatchOption-at_some _ _ _ c.in_ok-k.was c.cut_runs.ensures) in
    carried_whole (rows_from a.rows.now) (key_runs (take a.n a.own.now)) a.far.now (sym room ∙ c.if-not-has_room.false) c.cut_runs.new.far c.in_ok-k.k all
    c.order_keys.new.keys c.order_keys.ensures c.join_keys.result c.join_keys.new.keys c.join_keys.ensures.0 c.join_keys.ensures.1

pub slice_bounds-order_keys-end : goal.slice_bounds-order_keys-end
slice_bounds-order_keys-end c =
    let a = c.args in
    let room = c.has_room.ensures ∙ room_is a.own.now a.n c.min-m.result c.min-m.ensures a.rows.now (length a.far.now) in
    let all = rw (first_same a.own.now a.n c.min-m.result c.min-m.ensures) at (MatchOption-at_some _ _ _ c.in_ok-k.was c.cut_runs.ensures) in
    cut_room (rows_from a.rows.now) (key_runs (take a.n a.own.now)) a.far.now (sym room ∙ c.if-not-has_room.false) c.cut_runs.new.far c.in_ok-k.k all

pub slice_bounds-join_keys-end : goal.slice_bounds-join_keys-end
slice_bounds-join_keys-end c =
    let a = c.args in
    let room = c.has_room.ensures ∙ room_is a.own.now a.n c.min-m.result c.min-m.ensures a.rows.now (length a.far.now) in
    let all = rw (first_same a.own.now a.n c.min-m.result c.min-m.ensures) at (MatchOption-at_some _ _ _ c.in_ok-k.was c.cut_runs.ensures) in
    sorted_room (rows_from a.rows.now) (key_runs (take a.n a.own.now)) a.far.now (sym room ∙ c.if-not-has_room.false) c.cut_runs.new.far c.in_ok-k.k all
    c.order_keys.new.keys c.order_keys.ensures
