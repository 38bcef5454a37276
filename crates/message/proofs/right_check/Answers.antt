-- `message::right_check` meets its contract.
use mathlib.Core.Path.{◌≡◌, sym, ap, ◌∙◌}
use native.Mathlib.Omega.{arith}
use Prim.Native.Nat.{◌-◌}
use lib.Dec.{eqb}
use lib.ListN.{take, drop}
use lib.Seq.{length-take-le}
use Rattle.lists.proofs.Laws.{tail_is}
use Rattle.message_checksum.specs.Checksum.{words_in, ones_from}
use Rattle.message.specs.Message.{check_in}
use Rattle.message.proofs.Laws.{blank_sum}
use Rattle.message.proofs.right_check.Goals as goal

pub slice_bounds-add_octets-end : goal.slice_bounds-add_octets-end
slice_bounds-add_octets-end c = sym (length-take-le 2 c.args.octets.now (omega (arith, c.requires)))

pub returns : goal.returns
returns c =
    let o = c.args.octets.now in
    let octet = c.type_inv.octets in
    let sum : c.add_octets-sum.result ≡ ones_from (ones_from 0 (words_in (take 2 o))) (words_in (drop 4 o)) =
    c.add_octets-sum.ensures ∙ (λ i. ones_from (c.add_octets.ensures i) (words_in (tail_is o 4 i))) in
    let check : c.from_be_bytes-check.result ≡ check_in o = omega (arith, c.from_be_bytes-check.ensures) in
    (λ i. eqb (check i) (65535 - sum i)) ∙ ap (eqb (check_in o)) (sym (blank_sum o (omega (arith, c.requires)) (omega (arith, octet 0)) (omega (arith, octet 1))))
