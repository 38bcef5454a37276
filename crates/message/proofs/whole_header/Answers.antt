-- `message::whole_header` meets its contract.
use mathlib.Core.Path.{sym, ap, ◌∙◌}
use Prim.Native.Nat.{ℕ}
use mathlib.Core.Bool.{◌&&◌}
use lib.Dec.{leb, eqb}
use lib.ListN.{length}
use Rattle.message.proofs.Laws.{header_short, header_is}
use Rattle.message.proofs.whole_header.Goals as goal

pub returns-then-header-lt20 : goal.returns-then-header-lt20
returns-then-header-lt20 c = sym (header_short c.args.header.now c.if-header-lt20.true)

pub returns : goal.returns
returns c =
    let h = c.args.header.now in
    ap (λ (k : ℕ). leb 20 k && eqb (length h) k) c.length_by-size.ensures.0 ∙ sym (header_is h)
