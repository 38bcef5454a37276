-- `option_write_bitmap::add_long` meets its contract.
use native.Mathlib.Omega.{arith}
use Prim.Native.Nat.{ℕ, ◌+◌, ◌-◌, ◌*◌, ◌/◌, ◌%◌, ◌^◌}
use mathlib.Core.Path.{◌≡◌, sym, ◌∙◌, ap}
use Rattle.option_write_bitmap.proofs.Octets.{adding_start, adding_store, adding_done, adding_past, octet_inner, octet_last, less_at}
use Rattle.option_write_bitmap.proofs.add_long.Goals as goal

pub loop-o-init : goal.loop-o-init
loop-o-init c =
    let low = c.args.low in
    let e : low % 8 ≡ low - 8 * (low / 8) = omega arith in
    (omega arith, omega (arith, c.requires.0), c.ones_from-ones.ensures ∙ ap (λ (k : ℕ). 255 / 2 ^ k) e, adding_start low c.args.high c.args.out.now)

pub overflow_sub-out : goal.overflow_sub-out
overflow_sub-out c =
    let l = c.loop-o in
    omega (arith, l.invariant.2, less_at (c.args.low - 8 * l.o) (c.args.high % 8) (omega (arith, c.requires.0, l.invariant.0, c.if-o-last.true)) (omega arith))

pub returns-then-o-last : goal.returns-then-o-last
returns-then-o-last c =
    let l = c.loop-o in
    let low = c.args.low in
    let high = c.args.high in
    adding_past low high
    (adding_store l.invariant.3 c.loop-o-test.true _
    (ap (λ (z : ℕ). z - 127 / 2 ^ (high % 8)) l.invariant.2 ∙ octet_last low high l.o c.requires.0 l.invariant.0 c.if-o-last.true))
    (omega (arith, c.if-o-last.true))

pub loop-o-preserved : goal.loop-o-preserved
loop-o-preserved c =
    let l = c.loop-o in
    let low = c.args.low in
    let high = c.args.high in
    let z : (l.o ≡ high / 8 → ⊥) = c.if-o-last.false in
    let none : low - 8 * (l.o + 1) ≡ 0 = omega (arith, l.invariant.0) in (
      omega (arith, l.invariant.0),
      omega (arith, l.invariant.1),
      sym (ap (λ (n : ℕ). 255 / 2 ^ n) none),
      adding_store l.invariant.3 c.loop-o-test.true _ (l.invariant.2 ∙ octet_inner low high l.o l.invariant.0 (omega (arith, l.invariant.1))),
    )

pub returns : goal.returns
returns c = adding_done c.loop-o.invariant.3 c.loop-o-test.false
