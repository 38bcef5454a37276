-- `message::fill_check` meets its contract.
use mathlib.Core.Path.{◌≡◌, sym, ap, ◌∙◌}
use mathlib.Core.List.{List}
use native.Mathlib.Omega.{arith}
use Prim.Native.Nat.{ℕ, ◌/◌, ◌%◌}
use lib.ListN.{get_or, set, length-set}
use lib.Seq.{length-take-le}
use Rattle.message.specs.Stages.{check_set}
use Rattle.message.proofs.fill_check.Goals as goal

pub slice_bounds-make_checksum-end-2 : goal.slice_bounds-make_checksum-end-2
slice_bounds-make_checksum-end-2 c = sym (length-take-le c.args.size c.args.out.now c.requires.1)

pub bounds-out-3 : goal.bounds-out-3
bounds-out-3 c = simp length-set (omega (arith, c.requires))

pub returns : goal.returns
returns c =
    let o = c.args.out.now in
    let check = c.make_checksum-check in
    let e = c.to_be_bytes.ensures in
    let high : get_or c.to_be_bytes.result 0 0 ≡ check.result / 256 = ap (λ (l : List ℕ). get_or l 0 0) e ∙ omega arith in
    let low : get_or c.to_be_bytes.result 1 0 ≡ check.result % 256 = ap (λ (l : List ℕ). get_or l 1 0) e ∙ omega arith in
    (λ i. set (set o 2 (high i)) 3 (low i)) ∙ ap (λ (k : ℕ). check_set k o) check.ensures
