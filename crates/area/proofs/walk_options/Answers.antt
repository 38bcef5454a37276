-- `area::walk_options` meets its contract.
use mathlib.Core.Path.{◌≡◌, refl, sym, ap, ◌∙◌}
use native.Mathlib.Omega.{arith}
use Prim.Native.Nat.{ℕ}
use Rattle.std.specs.Prelude.{Result, Ok, Err, Some, None}
use Rattle.std.specs.Option.{ok_or}
use Rattle.std.proofs.lemmas.Result.{err_from_is_err_and}
use Rattle.area.specs.declared.Fault.{Fault}
use Rattle.area.specs.Kinds.{Size, fault}
use Rattle.area.specs.Area.{met_of}
use Rattle.area.proofs.Laws.{walk_ended, no_operation, walk_short, walk_moves, walk_refused, walk_over, walk_end}
use Rattle.area.proofs.walk_options.Goals as goal

pub loop-at-init : goal.loop-at-init
unfolding met_of
loop-at-init c = (omega arith, refl)

pub returns-in-0 : goal.returns-in-0
returns-in-0 c =
    sym (c.loop-at.invariant.1 ∙ walk_ended _ _ c.args.area.now c.loop-at.at _ _ c.loop-at-test.true c.in-0.is)

pub loop-at-preserved-in-1 : goal.loop-at-preserved-in-1
loop-at-preserved-in-1 c =
    (omega arith, c.loop-at.invariant.1 ∙ no_operation _ _ c.args.area.now c.loop-at.at _ _ c.loop-at-test.true c.in-1.is)

-- an option with no length
missing : (z : Size) (e f : Fault) → ◌≡◌ {A = Result ℕ Fault} (ok_or z e) (Err f) → (z ≡ None) × (e ≡ f)
missing None e f p = (refl, cc)
missing (Some n) e f p = absurd cc

sized : (z : Size) (e : Fault) (n : ℕ) → ◌≡◌ {A = Result ℕ Fault} (ok_or z e) (Ok n) → z ≡ Some n
sized None e n p = absurd cc
sized (Some m) e n p = cc

pub returns-in_err-n-in_default : goal.returns-in_err-n-in_default
returns-in_err-n-in_default c =
    let p = err_from_is_err_and c.from_residual.result c.from_residual.ensures.1 in
    let q = missing c.read_size.result (fault 3 c.loop-at.at) c.in_err-n-in_default.field-0.0 (sym c.ok_or.ensures.value ∙ c.in_err-n-in_default.was) in
    rw (p.1, p.2)
    (ap Err (sym q.1)
    ∙ sym (c.loop-at.invariant.1 ∙ walk_short _ _ c.args.area.now c.loop-at.at _ _ c.loop-at-test.true (λ e. omega arith) (λ e. omega arith) (sym c.read_size.ensures ∙ q.0)))

pub returns-in_err-met-in_default : goal.returns-in_err-met-in_default
returns-in_err-met-in_default c =
    let p = err_from_is_err_and c.from_residual-in_err-met-in_default.result c.from_residual-in_err-met-in_default.ensures.1 in
    let n = c.in_ok-n-in_default.n in
    let z = sized c.read_size.result (fault 3 c.loop-at.at) n (sym c.ok_or.ensures.value ∙ c.in_ok-n-in_default.was) in
    rw (p.1, p.2)
    (sym (c.loop-at.invariant.1 ∙ walk_refused _ _ c.args.area.now c.loop-at.at _ _ c.loop-at-test.true (λ e. omega arith) (λ e. omega arith) n (sym c.read_size.ensures ∙ z) _
    (rw c.read_kind.ensures at (sym c.in_err-met-in_default.was ∙ c.judge.ensures n))))

pub loop-at-preserved : goal.loop-at-preserved
loop-at-preserved c =
    let n = c.in_ok-n-in_default.n in
    let z = sized c.read_size.result (fault 3 c.loop-at.at) n (sym c.ok_or.ensures.value ∙ c.in_ok-n-in_default.was) in
    let e = sym c.read_size.ensures ∙ z in (
      (walk_moves c.args.on c.args.lax c.args.area.now c.loop-at.at c.loop-at.met.label c.loop-at.met.basic c.loop-at-test.true (λ e. omega arith) (λ e. omega arith) n e).1,
      c.loop-at.invariant.1 ∙ walk_over _ _ c.args.area.now c.loop-at.at _ _ c.loop-at-test.true (λ e. omega arith) (λ e. omega arith) n e _
          (rw c.read_kind.ensures at (sym c.in_ok-met-in_default.was ∙ c.judge.ensures n)),
    )

pub returns : goal.returns
returns c = sym (c.loop-at.invariant.1 ∙ walk_end _ _ _ _ _ _ c.loop-at-test.false)
