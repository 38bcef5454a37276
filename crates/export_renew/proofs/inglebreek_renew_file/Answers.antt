-- `export_renew::inglebreek_renew_file` meets its contract.
use borrow.Author.Rules.{rules}
use native.Mathlib.Omega.{arith}
use mathlib.Core.Path.{◌≡◌, sym, ap}
use Prim.Native.Nat.{ℕ, ◌≤◌}
use lib.ListN.{length, replicate}
use lib.Seq.{length-take-le}
use Rattle.file_read.specs.declared.FileRead.{FileRead}
use Rattle.file_read.specs.File.{file_reading}
use Rattle.file_read.proofs.Answers.{used_fits}
use Rattle.export_file.proofs.Laws.{checked}
use Rattle.export_renew.proofs.Laws.{renewed_none, renewed_whole}
use Rattle.export_renew.proofs.inglebreek_renew_file.Goals as goal
use Rattle.export_renew.proofs.inglebreek_renew_file.Goals.{After-set-1}

pub returns-then-read-ne-ACCEPTED : goal.returns-then-read-ne-ACCEPTED
returns-then-read-ne-ACCEPTED c =
    let a = renewed_none c.args.file.now c.args.out.now c.read_file-read.result (checked _ _ c.read_file-read.ensures.0) c.if-read-ne-ACCEPTED.true in record { value = a.number; out_after = a.octets; count_after = a.count }

-- the rows that are lent lie in the room
fits : (c : goal.After-set-1) → c.read_file-read.result.used ≤ length c.read_file-read.new.rows
fits c =
    let o = c.args.file.now in
    let e : c.read_file-read.result.used ≡ (file_reading o (length (replicate {A = ℕ} 24576 0))).used = ap (λ (x : FileRead). x.used) c.read_file-read.ensures.0 in
    let u : (file_reading o (length (replicate {A = ℕ} 24576 0))).used ≤ length (replicate {A = ℕ} 24576 0) = used_fits o (length (replicate {A = ℕ} 24576 0)) in
    let l : length c.read_file-read.new.rows ≡ length (replicate {A = ℕ} 24576 0) = search rules in
    omega (arith, e, u, l)

pub slice_bounds-room-end : goal.slice_bounds-room-end
slice_bounds-room-end c = fits c

pub slice_bounds-write_file-end : goal.slice_bounds-write_file-end
slice_bounds-write_file-end c = sym (length-take-le _ _ (fits (goal.at.slice_bounds-write_file-end c).After-set-1))

pub returns : goal.returns
returns c =
    let a =
    renewed_whole c.args.file.now c.args.out.now _ c.read_file-read.new.rows c.read_file-read.result c.write_file-written.result _ _ (checked _ _ c.read_file-read.ensures.0)
    c.read_file-read.ensures.1 c.if-read-ne-ACCEPTED.false c.write_file-written.ensures.0 c.write_file-written.ensures.1 c.number_in.ensures c.count_in.ensures in record { value = a.number; out_after = a.octets; count_after = a.count }
