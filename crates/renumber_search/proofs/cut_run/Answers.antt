-- `renumber_search::cut_run` meets its contract.
use native.Mathlib.Omega.{arith}
use Prim.Native.Nat.{◌+◌, ◌/◌, ◌%◌, ◌≤◌, ◌<◌, min}
use mathlib.Core.Path.{◌≡◌, sym, ◌∙◌, ap}
use lib.ListN.{length, drop}
use Rattle.table.specs.Table.{rows_from}
use Rattle.table.proofs.Lent.{rows_length}
use Rattle.renumber_keys.specs.Stages.{piece_key}
use Rattle.renumber_search.specs.Search.{gives_to, cut_last, cut_more, run_cut}
use Rattle.renumber_search.proofs.Cuts.{gives, cutting_start, row_at_hand, row_none, row_last, row_more, rows_up, cutting_room, cutting_stop, cutting_end, cutting_again}
use Rattle.renumber_search.proofs.cut_run.Goals as goal

pub loop-j-init : goal.loop-j-init
loop-j-init c =
    cutting_start (rows_from c.args.rows.now) c.args.row c.args.w (c.args.run / 65536) (c.args.run % 65536) c.args.far.now

pub returns-then-not-gives_to : goal.returns-then-not-gives_to
returns-then-not-gives_to c =
    let rs = rows_from c.args.rows.now in
    let v = c.loop-j in
    let high = c.args.run % 65536 in
    let r = c.row_at-r.result in
    let there = row_at_hand rs v.j r (omega (arith, c.loop-j-test.true, rows_length c.args.rows.now)) c.row_at-r.ensures in
    let top : c.min-top.result ≡ min high r.high = c.min-top.ensures ∙ ap (λ z. min high z) c.from-end.ensures in
    let none = ap (λ z. gives_to r v.low z) (sym top) ∙ sym c.gives_to.ensures ∙ c.if-not-gives_to.true in
    cutting_stop rs c.args.row c.args.w high _ c.args.far.now v.j v.k v.low v.far v.invariant c.requires (row_none rs v.j v.low high r there none)

pub piece_key-requires : goal.piece_key-requires
piece_key-requires c =
    let g = gives c.row_at-r.result c.loop-j.low c.min-top.result (sym c.gives_to.ensures ∙ c.if-not-gives_to.false) in
    (g.begun, g.ordered, g.end)

pub bounds-far-k : goal.bounds-far-k
bounds-far-k c =
    let v = c.loop-j in
    cutting_room (rows_from c.args.rows.now) c.args.row c.args.w (c.args.run % 65536) _ c.args.far.now v.j v.k v.low v.far v.invariant c.requires (omega (arith, c.loop-j-test.true, rows_length c.args.rows.now))

pub returns-then-high-end : goal.returns-then-high-end
returns-then-high-end c =
    let rs = rows_from c.args.rows.now in
    let v = c.loop-j in
    let high = c.args.run % 65536 in
    let r = c.row_at-r.result in
    let l : v.j < length rs = omega (arith, c.loop-j-test.true, rows_length c.args.rows.now) in
    let there = row_at_hand rs v.j r l c.row_at-r.ensures in
    let top : c.min-top.result ≡ min high r.high = c.min-top.ensures ∙ ap (λ z. min high z) c.from-end.ensures in
    let given = ap (λ z. gives_to r v.low z) (sym top) ∙ sym c.gives_to.ensures ∙ c.if-not-gives_to.false in
    let piece = c.piece_key.ensures ∙ ap (λ z. piece_key r v.low z) top in
    let h : high ≤ r.high = omega (arith, c.if-high-end.true, c.from-end.ensures) in
    cutting_end rs c.args.row c.args.w high _ c.args.far.now v.j v.k v.low v.far v.invariant c.requires c.piece_key.result l
    (row_last rs v.j v.low high r there given h ∙ ap cut_last (sym piece))

pub loop-j-preserved : goal.loop-j-preserved
loop-j-preserved c =
    let rs = rows_from c.args.rows.now in
    let v = c.loop-j in
    let high = c.args.run % 65536 in
    let r = c.row_at-r.result in
    let l : v.j < length rs = omega (arith, c.loop-j-test.true, rows_length c.args.rows.now) in
    let there = row_at_hand rs v.j r l c.row_at-r.ensures in
    let end : c.from-end.result ≡ r.high = c.from-end.ensures in
    let top : c.min-top.result ≡ min high r.high = c.min-top.ensures ∙ ap (λ z. min high z) end in
    let given = ap (λ z. gives_to r v.low z) (sym top) ∙ sym c.gives_to.ensures ∙ c.if-not-gives_to.false in
    let piece = c.piece_key.ensures ∙ ap (λ z. piece_key r v.low z) top in
    let h : r.high < high = omega (arith, c.if-high-end.false) in
    rw end
    (cutting_again rs c.args.row c.args.w high _ c.args.far.now v.j v.k v.low v.far v.invariant c.requires c.piece_key.result l (r.high + 1)
    (row_more rs v.j v.low high r there given h ∙ ap (λ z. cut_more z (run_cut (drop (v.j + 1) rs) (r.high + 1) high)) (sym piece)))

pub returns : goal.returns
returns c =
    let rs = rows_from c.args.rows.now in
    let v = c.loop-j in
    let high = c.args.run % 65536 in
    cutting_stop rs c.args.row c.args.w high _ c.args.far.now v.j v.k v.low v.far v.invariant c.requires
    (rows_up rs v.j v.low high (omega (arith, c.loop-j-test.false, rows_length c.args.rows.now)))
