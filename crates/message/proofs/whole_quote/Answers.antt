-- `message::whole_quote` meets its contract.
use mathlib.Core.Path.{◌≡◌, sym, ap, ◌∙◌}
use native.Mathlib.Omega.{arith}
use Prim.Native.Nat.{ℕ, ◌-◌}
use lib.Dec.{leb}
use lib.ListN.{length}
use Rattle.message.specs.Message.{header_length}
use Rattle.message.proofs.Laws.{quote_few, quote_small, quote_cut, quote_whole}
use Rattle.message.proofs.whole_quote.Goals as goal

pub returns-then-n-lt20 : goal.returns-then-n-lt20
returns-then-n-lt20 c = sym (quote_few c.args.quote.now c.if-n-lt20.true)

pub returns-then-header-lt20 : goal.returns-then-header-lt20
returns-then-header-lt20 c =
    let e : c.length_by-header.result ≡ header_length c.args.quote.now = c.length_by-header.ensures.0 in
    sym (quote_small c.args.quote.now (omega arith))

pub returns-then-n-header : goal.returns-then-n-header
returns-then-n-header c =
    let e : c.length_by-header.result ≡ header_length c.args.quote.now = c.length_by-header.ensures.0 in
    sym (quote_cut c.args.quote.now (omega arith) (omega arith))

pub returns : goal.returns
returns c =
    let e : c.length_by-header.result ≡ header_length c.args.quote.now = c.length_by-header.ensures.0 in
    ap (λ (k : ℕ). leb (length c.args.quote.now - k) 8) e ∙ sym (quote_whole c.args.quote.now (omega arith) (omega arith))
