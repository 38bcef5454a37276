-- `file_table::read_rows` meets its contract.
use borrow.Author.Rules.{rules}
use native.Mathlib.Omega.{arith}
use Prim.Native.Nat.{ℕ, ◌+◌, ◌*◌, ◌≤◌, ◌<◌}
use mathlib.Core.Path.{◌≡◌, sym, ap, ◌∙◌}
use mathlib.Core.Bool.{true, false}
use lib.ListN.{length, take}
use lib.Seq.{take-take, length-take-le}
use Rattle.table.specs.Table.{rows_from, rising, targets_apart}
use Rattle.file_table.proofs.Rows.{rows_take, rows_there, meets_answer, apart_answer, apart_list}
use Rattle.file_table.proofs.read_rows.Goals as goal

pub returns-then-rows_sound : goal.returns-then-rows_sound
returns-then-rows_sound c =
    let r = c.read_each_row-seen in
    let n : length r.new.rows ≡ length c.args.rows.now = search rules in
    let e = apart_list r.result.0 r.new.rows (omega (arith, r.ensures.count, c.requires.0)) (omega (arith, r.ensures.count, c.requires.1, n)) r.ensures.rows.rises in
    apart_answer c.args.octets.now c.args.at c.args.count r.result.0 r.result.1 (rows_from r.new.rows) (r.ensures.rows.apart (sym (c.rows_sound.ensures ∙ e) ∙ c.if-rows_sound.true)) r.ensures.whole

pub first_meeting-requires : goal.first_meeting-requires
first_meeting-requires c =
    let r = c.read_each_row-seen in
    let n : length r.new.rows ≡ length c.args.rows.now = search rules in
    let k : r.result.0 * 3 ≤ length r.new.rows = omega (arith, r.ensures.count, c.requires.1, n) in
    let e = apart_list r.result.0 r.new.rows (omega (arith, r.ensures.count, c.requires.0)) k r.ensures.rows.rises in
    let t = rows_take r.result.0 r.new.rows in (
      omega (arith, length-take-le (r.result.0 * 3) r.new.rows k, r.ensures.count, c.requires.0),
      ap (rising 0) t ∙ r.ensures.rows.rises,
      ap targets_apart t ∙ sym (c.rows_sound.ensures ∙ e) ∙ c.if-rows_sound.false,
    )

pub overflow_mul-result : goal.overflow_mul-result
overflow_mul-result c =
    let r = c.read_each_row-seen in
    let n : length r.new.rows ≡ length c.args.rows.now = search rules in
    omega (arith, c.first_meeting.ensures.0, length-take-le (r.result.0 * 3) r.new.rows (omega (arith, r.ensures.count, c.requires.1, n)), r.ensures.count, c.requires.0)

pub returns : goal.returns
returns c =
    let r = c.read_each_row-seen in
    let m = c.first_meeting.ensures in
    let j : ℕ = c.first_meeting.result in
    let xs = rows_from r.new.rows in
    let n : length r.new.rows ≡ length c.args.rows.now = search rules in
    let k : r.result.0 * 3 ≤ length r.new.rows = omega (arith, r.ensures.count, c.requires.1, n) in
    let l : c.first_meeting.result < r.result.0 = omega (arith, m.0, length-take-le (r.result.0 * 3) r.new.rows k) in
    let t = rows_take r.result.0 r.new.rows in
    let t0 : targets_apart (take c.first_meeting.result (rows_from r.new.rows)) ≡ true =
    sym (ap (λ z. targets_apart (take c.first_meeting.result z)) t ∙ ap targets_apart (take-take c.first_meeting.result r.result.0 xs (omega arith))) ∙ m.1 in
    let t1 : targets_apart (take (c.first_meeting.result + 1) (rows_from r.new.rows)) ≡ false =
    sym (ap (λ z. targets_apart (take (c.first_meeting.result + 1) z)) t ∙ ap targets_apart (take-take (c.first_meeting.result + 1) r.result.0 xs (omega arith))) ∙ m.2 in
    meets_answer r.result.0 c.first_meeting.result xs r.ensures.rows (rows_there r.result.0 r.new.rows k) l t0 t1
