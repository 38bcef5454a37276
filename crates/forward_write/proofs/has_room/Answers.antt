-- `forward_write::has_room` meets its contract.
use native.Mathlib.Omega.{arith}
use borrow.Author.Tests.{eq-eqb, ne_eqb, le-leb, lt-leb, leb-true, leb-false}
use mathlib.Core.Path.{◌≡◌, refl, sym}
use mathlib.Core.Bool.{Bool, true, false}
use Prim.Native.Nat.{ℕ, ◌+◌, ◌-◌, ◌≤◌}
use lib.Dec.{leb}
use Rattle.forward_write.proofs.has_room.Goals as goal

pub returns-then-size-eq0 : goal.returns-then-size-eq0
returns-then-size-eq0 c = rw (eq-eqb _ _ c.if-size-eq0.true)

pub returns-then-size-gt-AREA_OCTETS : goal.returns-then-size-gt-AREA_OCTETS
returns-then-size-gt-AREA_OCTETS c =
    rw (ne_eqb _ _ c.if-size-eq0.false, lt-leb (c.args.size + c.args.kept) 40 (omega (arith, c.if-size-gt-AREA_OCTETS.true)))

within : (n k : ℕ) → n ≤ 40 → leb k (40 - n) ≡ leb (n + k) 40
within n k h = go (leb k (40 - n)) refl
  where
    go : (b : Bool) → leb k (40 - n) ≡ b → b ≡ leb (n + k) 40
    go true q = sym (le-leb (n + k) 40 (omega (arith, leb-true k (40 - n) q)))
    go false q = sym (lt-leb (n + k) 40 (omega (arith, leb-false k (40 - n) q)))

pub returns : goal.returns
returns c =
    rw (ne_eqb _ _ c.if-size-eq0.false) (within c.args.size c.args.kept c.if-size-gt-AREA_OCTETS.false)
