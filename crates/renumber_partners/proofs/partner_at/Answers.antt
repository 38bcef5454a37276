-- `renumber_partners::partner_at` meets its contract.
use native.Mathlib.Omega.{arith}
use mathlib.Core.Path.{sym, ◌∙◌, ap}
use Prim.Native.Nat.{ℕ}
use lib.ListN.{get_or, get_or-eq_default}
use Rattle.renumber_partners.proofs.Tabled.{any_default}
use Rattle.renumber_partners.proofs.partner_at.Goals as goal

pub returns-then-partners-at : goal.returns-then-partners-at
returns-then-partners-at c =
    sym (get_or-eq_default c.args.partners.now 256 {n = c.args.level} (omega (arith, c.if-partners-at.true, c.from-at.ensures)))

pub returns : goal.returns
returns c =
    any_default c.args.partners.now c.from-at.result 0 256 (omega (arith, c.if-partners-at.false)) ∙ ap (λ (k : ℕ). get_or c.args.partners.now k 256) c.from-at.ensures
