-- `inspect_claim::compare::compare_area` meets its contract.
use Prim.Native.Nat.{ℕ, ◌-◌, ◌≤◌}
use mathlib.Core.Path.{◌≡◌, sym, ap, ◌∙◌}
use mathlib.Core.List.{List}
use native.Mathlib.Omega.{arith}
use lib.ListN.{length, take, drop, length-drop}
use lib.Seq.{take_all, length-take-le}
use Rattle.inspect_claim.specs.Compare.{find_from}
use Rattle.inspect_claim.proofs.compare.compare_area.Goals as goal

-- the area as it is cut is all behind the head
tail : (l xs : List ℕ) → find_from 5 xs (take (length l - 5) (drop 5 l)) ≡ find_from 5 xs (drop 5 l)
tail l xs = ap (find_from 5 xs) (take_all (length l - 5) (drop 5 l) (omega (arith, length-drop 5 l)))

pub returns-then-leaving-count : goal.returns-then-leaving-count
returns-then-leaving-count c =
    let h : length c.args.leaving.now ≤ c.args.count = omega arith in
    c.compare_octets.ensures ∙ tail c.args.claimed.now c.args.leaving.now ∙ ap (λ (l : List ℕ). find_from 5 l (drop 5 c.args.claimed.now)) (sym (take_all c.args.count c.args.leaving.now h))

pub slice_bounds-compare_octets-end : goal.slice_bounds-compare_octets-end
slice_bounds-compare_octets-end c =
    let h : c.args.count ≤ length c.args.leaving.now = omega arith in
    sym (length-take-le c.args.count c.args.leaving.now h)

pub returns : goal.returns
returns c = c.compare_octets-2.ensures ∙ tail c.args.claimed.now (take c.args.count c.args.leaving.now)
