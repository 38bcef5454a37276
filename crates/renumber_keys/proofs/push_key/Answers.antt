-- `renumber_keys::push_key` meets its contract.
use borrow.Author.Tests.{leb-true, leb-false}
use native.Mathlib.Omega.{arith}
use Prim.Native.Nat.{ℕ, ◌+◌, ◌-◌, ◌<◌}
use mathlib.Core.Path.{◌≡◌, sym, ◌∙◌}
use lib.Seq.{drop-set-lt}
use Rattle.renumber_keys.proofs.Turns.{push_first, push_joined, push_behind}
use Rattle.renumber_keys.proofs.push_key.Goals as goal

some : (w : ℕ) → (w ≡ 0 → ⊥) → 0 < w
some w h = omega arith

pub returns-then-w-eq0 : goal.returns-then-w-eq0
returns-then-w-eq0 c =
    (omega arith, omega arith, drop-set-lt 1 c.args.keys.now 0 c.args.x (omega arith), push_first c.args.keys.now c.args.w c.args.x c.requires c.if-w-eq0.true)

pub returns-then-reaches : goal.returns-then-reaches
returns-then-reaches c =
    let p : 0 < c.args.w = some c.args.w c.if-w-eq0.false in
    (omega arith, omega arith, drop-set-lt c.args.w c.args.keys.now (c.args.w - 1) c.stretch.result (omega arith), rw c.stretch.ensures (push_joined c.args.keys.now c.args.w c.args.x c.requires p (leb-true _ _ (sym c.reaches.ensures ∙ c.if-reaches.true))))

pub returns : goal.returns
returns c =
    let p : 0 < c.args.w = some c.args.w c.if-w-eq0.false in
    (omega arith, omega arith, drop-set-lt (c.args.w + 1) c.args.keys.now c.args.w c.args.x (omega arith), push_behind c.args.keys.now c.args.w c.args.x c.requires p (leb-false _ _ (sym c.reaches.ensures ∙ c.if-reaches.false)))
