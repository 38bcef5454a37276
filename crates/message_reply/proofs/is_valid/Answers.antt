-- `message_reply::is_valid` meets its contract.
use mathlib.Core.Path.{sym, ◌∙◌}
use native.Mathlib.Omega.{arith}
use Rattle.option.proofs.Octets.{octets_of_lem}
use Rattle.message_reply.proofs.Laws.{short_invalid, is_ok_row, read_valid}
use Rattle.option_read.specs.Keys.{row_of}
use Rattle.message_reply.proofs.is_valid.Goals as goal

pub returns-then-octets-lt10 : goal.returns-then-octets-lt10
returns-then-octets-lt10 c = sym (short_invalid c.args.octets.now c.if-octets-lt10.true)

pub returns : goal.returns
returns c =
    let g = c.shared_slice_known-1.given in
    let o = c.args.octets.now in
    let e = c.read_keys.ensures in
    c.is_ok.ensures.value ∙ is_ok_row c.read_keys.result e.refused
    ∙ read_valid c.domain_in.result o _ c.read_keys.new.keys (row_of c.read_keys.result) (octets_of_lem o (λ i. omega (arith, g i))) c.requires (omega arith) c.domain_in.ensures e.read
