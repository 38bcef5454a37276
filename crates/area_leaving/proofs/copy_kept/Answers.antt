-- `area_leaving::copy_kept` meets its contract.
use Prim.Native.Nat.{ℕ, ◌≤◌, ◌-◌, ◌+◌, min}
use mathlib.Core.Path.{◌≡◌, refl, sym, ap, ◌∙◌}
use mathlib.Core.List.{List, [], ◌++◌}
use native.Mathlib.Omega.{arith}
use lib.ListN.{length, drop, take, length-drop, length-append}
use lib.Seq.{length-take-le}
use Rattle.area.specs.Area.{met_of}
use Rattle.lists.specs.Lists.{paint}
use Rattle.lists.proofs.Laws.{tail_is, Back}
use Rattle.area_leaving.specs.Kept.{kept_of}
use Rattle.area_leaving.proofs.Laws.{kept_from, kept_stop, kept_over, over_moves, kept_end, take_both, take_none, paint_nothing, turn_length, turn_paint}
use Rattle.area_leaving.proofs.copy_kept.Goals as goal

pub loop-at-init : goal.loop-at-init
unfolding kept_of met_of
loop-at-init c = (omega arith, refl, omega arith, refl, refl)

pub shape_of-out-then-left-eq0 : goal.shape_of-out-then-left-eq0
shape_of-out-then-left-eq0 c = c.loop-at.invariant.1

-- nothing is left to be written
pub returns-then-left-eq0 : goal.returns-then-left-eq0
returns-then-left-eq0 c =
    let area = c.args.area.now in
    let z : c.loop-at.left ≡ 0 = omega arith in
    let e : take c.loop-at.left (kept_from area c.loop-at.at) ≡ [] = rw z in record { value = omega (arith, ap length e, c.loop-at.invariant.3); out_after = paint_nothing c.loop-at.w c.loop-at.out _ e ∙ c.loop-at.invariant.4 }

pub shape_of-out-in-None : goal.shape_of-out-in-None
shape_of-out-in-None c = c.loop-at.invariant.1

pub returns-in-None : goal.returns-in-None
returns-in-None c =
    let area = c.args.area.now in
    let e = take_none c.loop-at.left (kept_from area c.loop-at.at) (kept_stop area c.loop-at.at c.next_option.result c.loop-at-test.true c.next_option.ensures c.in-None.is) in record { value = omega (arith, ap length e, c.loop-at.invariant.3); out_after = paint_nothing c.loop-at.w c.loop-at.out _ e ∙ c.loop-at.invariant.4 }

-- how many octets are copied, of those that are left
few : (area : List ℕ) (at kept n left m : ℕ) → m ≡ min kept left → at + n ≤ length area → kept ≤ n
    → (m ≤ kept) × (m ≤ left) × (m ≤ length (take (length area - at) (drop at area)))
few area at kept n left m e h k = (omega arith, omega arith, simp (tail_is, length-drop) (omega arith))

pub slice_bounds-copy_list-end : goal.slice_bounds-copy_list-end
slice_bounds-copy_list-end c =
    let v = over_moves c.args.area.now c.loop-at.at c.next_option.result c.loop-at-test.true c.next_option.ensures c.in-Some.over c.in-Some.is in
    sym (length-take-le _ _ (few c.args.area.now c.loop-at.at c.in-Some.over.kept c.in-Some.over.n c.loop-at.left c.min-m.result c.min-m.ensures v.1 v.2).2)

pub overflow_add-w : goal.overflow_add-w
overflow_add-w c = omega (arith, c.min-m.ensures, c.loop-at.invariant, over_moves c.args.area.now c.loop-at.at c.next_option.result c.loop-at-test.true c.next_option.ensures c.in-Some.over c.in-Some.is)

pub overflow_sub-left : goal.overflow_sub-left
overflow_sub-left c = omega (arith, c.min-m.ensures)

pub overflow_add-at : goal.overflow_add-at
overflow_add-at c = omega (arith, over_moves c.args.area.now c.loop-at.at c.next_option.result c.loop-at-test.true c.next_option.ensures c.in-Some.over c.in-Some.is)

pub loop-at-smaller : goal.loop-at-smaller
loop-at-smaller c = omega (arith, over_moves c.args.area.now c.loop-at.at c.next_option.result c.loop-at-test.true c.next_option.ensures c.in-Some.over c.in-Some.is)

pub loop-at-preserved : goal.loop-at-preserved
loop-at-preserved c =
    let area = c.args.area.now in
    let rest = take (length area - c.loop-at.at) (drop c.loop-at.at area) in
    let kept = c.in-Some.over.kept in
    let m = c.min-m.result in
    let v = over_moves c.args.area.now c.loop-at.at c.next_option.result c.loop-at-test.true c.next_option.ensures c.in-Some.over c.in-Some.is in
    let f = few area c.loop-at.at kept c.in-Some.over.n c.loop-at.left m c.min-m.ensures v.1 v.2 in
    let short : kept ≤ length rest = simp (tail_is, length-drop) (omega arith) in
    let xs : List ℕ = take m rest in
    let len : length xs ≡ m = length-take-le m rest (omega arith) in
    let room : c.loop-at.w + length xs ≤ length c.loop-at.out = omega (arith, c.loop-at.invariant) in
    let ks : List ℕ = take (c.loop-at.left - m) (kept_from area (c.loop-at.at + c.in-Some.over.n)) in
    let here : take c.loop-at.left (kept_from area c.loop-at.at) ≡ xs ++ ks =
    ap (take c.loop-at.left) (kept_over area c.loop-at.at c.next_option.result c.loop-at-test.true c.next_option.ensures c.in-Some.over c.in-Some.is)
    ∙ take_both kept c.loop-at.left m rest (kept_from area (c.loop-at.at + c.in-Some.over.n)) c.min-m.ensures short in
    let ys = c.copy_list.new.dst in
    let wrote = c.copy_list.ensures in
    let whole = turn_length c.loop-at.w xs ys c.loop-at.out room wrote in (
      v.1,
      whole ∙ c.loop-at.invariant.1,
      omega (arith, whole, c.loop-at.invariant.2),
      omega (arith, ap length here, length-append xs ks, c.loop-at.invariant.3),
      ap (λ (k : ℕ). paint (c.loop-at.w + k) ks (Back c.loop-at.w (length c.loop-at.out) c.loop-at.out ys)) (sym len)
          ∙ turn_paint c.loop-at.w xs ys c.loop-at.out room wrote ks
          ∙ ap (λ (y : List ℕ). paint c.loop-at.w y c.loop-at.out) (sym here)
          ∙ c.loop-at.invariant.4,
    )

pub shape_of-out : goal.shape_of-out
shape_of-out c = c.loop-at.invariant.1

pub returns : goal.returns
returns c =
    let area = c.args.area.now in
    let e = take_none c.loop-at.left (kept_from area c.loop-at.at) (kept_end area c.loop-at.at c.loop-at-test.false) in record { value = omega (arith, ap length e, c.loop-at.invariant.3); out_after = paint_nothing c.loop-at.w c.loop-at.out _ e ∙ c.loop-at.invariant.4 }
