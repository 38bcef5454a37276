-- `bench_parts::time_write_file` meets its contract.
use borrow.Author.Rules.{rules}
use native.Mathlib.Omega.{arith}
use mathlib.Core.Path.{◌≡◌, sym}
use Prim.Native.Nat.{ℕ, ◌≤◌}
use lib.ListN.{length, replicate}
use lib.Seq.{length-take-le}
use Rattle.file_read.proofs.Answers.{used_fits}
use Rattle.bench_parts.proofs.time_write_file.Goals as goal
use Rattle.bench_parts.proofs.time_write_file.Goals.{After-read_file-read}

-- what is read fits the rows
there : (c : After-read_file-read) → c.read_file-read.result.used ≤ length c.read_file-read.new.rows
there c =
    let u : c.read_file-read.result.used ≤ length (replicate {A = ℕ} 24576 0) = rw c.read_file-read.ensures.0 (used_fits _ _) in
    let l : length c.read_file-read.new.rows ≡ length (replicate {A = ℕ} 24576 0) = search rules in
    omega (arith, u, l)

pub slice_bounds-rows-end : goal.slice_bounds-rows-end
slice_bounds-rows-end c = there (goal.at.slice_bounds-rows-end c).After-read_file-read

pub slice_bounds-write_again-end : goal.slice_bounds-write_again-end
slice_bounds-write_again-end c =
    sym (length-take-le _ _ (there (goal.at.slice_bounds-write_again-end c).After-read_file-read))
