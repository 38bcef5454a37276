-- `option_read_numbers::number_keys` meets its contract.
use native.Mathlib.Omega.{arith}
use borrow.Author.Count.{below_none, below_more}
use Prim.Native.Nat.{ℕ, ◌*◌, ◌/◌, ◌≤◌}
use mathlib.Core.Path.{◌≡◌, refl, sym, ◌∙◌, ap}
use lib.ListN.{length}
use lib.Dec.{eqb}
use Rattle.label.specs.Runs.{push_run}
use Rattle.option.specs.Index.{range_runs, number_at, bad_number, first_true}
use Rattle.option.proofs.Bad.{first_is}
use Rattle.option_read_numbers.specs.Numbers.{whole, first_bad_number, number_runs}
use Rattle.option_read_numbers.proofs.Building.{numbered_nil, stands_count, stands_next, last_key_most, number_push, number_length}
use Rattle.option_read_numbers.proofs.Loops.{range_most, range_next, range_none, range_room, bad_number_is, pass_made, pass_bad, whole_half, whole_length}
use Rattle.option_read_numbers.proofs.number_keys.Goals as goal

pub loop-k-init : goal.loop-k-init
loop-k-init c = (whole_half c.args.octets.now, refl, below_none _, numbered_nil _)

-- whether the turn's number is bad
bad-is : (c : goal.Then-bad_after) → c.bad_after.result ≡ bad_number (whole c.args.octets.now) c.loop-k.k
bad-is c =
    let l = c.loop-k in
    let b' = whole c.args.octets.now in
    rw c.number_at-x.ensures.0 at c.bad_after.ensures ∙ bad_number_is b' l.k l.next (stands_next l.invariant.3.stands)

pub returns-then-bad_after : goal.returns-then-bad_after
returns-then-bad_after c =
    let l = c.loop-k in
    let b' = whole c.args.octets.now in
    let e : first_true (bad_number b') (length b' / 2) ≡ l.k = first_is (bad_number b') (length b' / 2) l.k (omega arith) l.invariant.2 (λ h. sym (bad-is c) ∙ c.if-bad_after.true) in
    pass_bad l.invariant.3.stands (number_runs b') (ap (range_runs (number_at b') (number_at b')) (sym e)) (omega (arith, range_most (number_at b') (number_at b') l.k, c.requires.0)) (2 * first_bad_number b') (length b') (2 * l.k) (ap (λ (z : ℕ). 2 * z) (sym e)) (omega (arith, e))

pub add_number-count-requires : goal.add_number-count-requires
add_number-count-requires c =
    let l = c.loop-k in
    let b' = whole c.args.octets.now in (
      omega (arith, stands_count l.invariant.3.stands, range_most (number_at b') (number_at b') l.k, c.requires.0, c.requires.1, l.invariant.1),
      range_none (number_at b') (number_at b') l.k ∙ ap (λ (z : ℕ). eqb z 0) (sym (stands_count l.invariant.3.stands)),
      λ h e. last_key_most l.invariant.3 h (omega (arith, c.number_at-x.ensures.1)),
    )

-- whether the turn's number is bad
bad-is-After-slice_known-in-loop-k-1 : (c : goal.After-from-next) → c.bad_after.result ≡ bad_number (whole c.args.octets.now) c.loop-k.k
bad-is-After-slice_known-in-loop-k-1 c =
    let l = c.loop-k in
    let b' = whole c.args.octets.now in
    rw c.number_at-x.ensures.0 at c.bad_after.ensures ∙ bad_number_is b' l.k l.next (stands_next l.invariant.3.stands)

pub loop-k-preserved : goal.loop-k-preserved
loop-k-preserved c =
    let l = c.loop-k in
    let b' = whole c.args.octets.now in
    let a = c.add_number-count in
    let x : c.number_at-x.result ≡ number_at b' l.k = c.number_at-x.ensures.0 in
    let few : length (push_run (range_runs (number_at b') (number_at b') l.k) (number_at b' l.k) (number_at b' l.k)) ≤ length c.args.keys.now = omega (arith, range_room (number_at b') (number_at b') l.k, c.requires.0, c.requires.1) in (
      l.invariant.0,
      number_length l.keys _ l.count l.next c.number_at-x.result a.ensures.1 ∙ l.invariant.1,
      below_more _ _ l.invariant.2 (sym (bad-is-After-slice_known-in-loop-k-1 c) ∙ c.if-bad_after.false),
      rw (← range_next (number_at b') (number_at b') l.k, c.from-next.ensures, x) (number_push l.invariant.3 (number_at b' l.k) few (omega (arith, c.number_at-x.ensures)) _ (rw x at a.ensures.0) _ (rw x at a.ensures.1)),
    )

pub returns : goal.returns
returns c =
    let l = c.loop-k in
    let b' = whole c.args.octets.now in
    let e : first_true (bad_number b') (length b' / 2) ≡ l.k = first_is (bad_number b') (length b' / 2) l.k (omega arith) l.invariant.2 (λ h. absurd (omega arith)) in
    let z : l.k ≡ length c.args.octets.now / 2 = omega arith in
    pass_made l.invariant.3.stands (number_runs b') (ap (range_runs (number_at b') (number_at b')) (sym e)) (omega (arith, range_most (number_at b') (number_at b') l.k, c.requires.0)) (2 * first_bad_number b') (length b') (omega (arith, e, z, whole_length c.args.octets.now))
