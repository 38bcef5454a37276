-- `file_read::read_file` meets its contract.
use borrow.Author.Rules.{rules}
use native.Mathlib.Omega.{arith}
use mathlib.Core.Path.{◌≡◌, sym}
use lib.ListN.{length}
use lib.Seq.{length-take-le}
use Rattle.file_read.proofs.Files.{file_long, file_stops, file_goes_on, file_outgrows, file_ends, set_again}
use Rattle.file_read.proofs.read_file.Goals as goal

pub returns-then-n-gt65535 : goal.returns-then-n-gt65535
returns-then-n-gt65535 c =
    file_long c.args.octets.now c.args.rows.now _ (λ i. omega (arith, c.type_inv.octets i)) (omega arith) c.refuse.ensures

pub returns-in-Err : goal.returns-in-Err
returns-in-Err c =
    let r = rw c.in-Err.is at c.read_records.ensures in
    file_stops c.args.octets.now c.args.rows.now _ _ c.in-Err.at r c.refuse_field.ensures

pub returns-then-at-n : goal.returns-then-at-n
returns-then-at-n c =
    let r = rw c.in-Ok.is at c.read_records.ensures in
    file_goes_on c.args.octets.now c.args.rows.now _ _ c.in-Ok.at r.reads c.if-at-n.true c.refuse-then-at-n.ensures

pub returns-then-rows-used : goal.returns-then-rows-used
returns-then-rows-used c =
    let r = rw c.in-Ok.is at c.read_records.ensures in
    file_outgrows c.args.octets.now c.args.rows.now _ _ c.in-Ok.at r.reads c.if-at-n.false (omega (arith, r.numbers)) c.outgrow.ensures

pub slice_bounds-write_numbers-end : goal.slice_bounds-write_numbers-end
slice_bounds-write_numbers-end c =
    let r = rw c.in-Ok.is at c.read_records.ensures in
    let n : length c.read_records.new.work ≡ 24576 = search rules in
    sym (length-take-le _ _ (omega (arith, r.few, n)))

pub returns-else-rows-used : goal.returns-else-rows-used
returns-else-rows-used c =
    let r = rw c.in-Ok.is at c.read_records.ensures in
    file_ends c.args.octets.now c.args.rows.now _ _ c.in-Ok.at r.reads c.if-at-n.false (omega (arith, r.numbers)) (set_again _ r.said r.filled r.heads r.counted r.numbers) _ _ r.rows c.write_numbers.ensures.buffer
