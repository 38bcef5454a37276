-- `message_reply::copy_at` meets its contract.
use mathlib.Core.Path.{◌≡◌, sym, ap, ◌∙◌}
use native.Mathlib.Omega.{arith}
use mathlib.Core.Bool.{true, false}
use Prim.Native.Nat.{◌+◌}
use lib.ListN.{length, get_or}
use Rattle.std.specs.Prelude.{Some}
use Rattle.option.specs.Option.{valid}
use Rattle.option_read.specs.Reading.{framed}
use Rattle.option_read.proofs.Checks.{parts_framed}
use Rattle.area.specs.declared.Kind.TheVariants.{Cipso}
use Rattle.area.specs.Area.{option_at}
use Rattle.area.proofs.KindLaws.{cipso_octet}
use Rattle.area.proofs.Laws.{whole_inside}
use Rattle.message_reply.specs.Copied.{copy}
use Rattle.message_reply.proofs.copy_at.Goals as goal

pub is_valid-requires : goal.is_valid-requires
is_valid-requires c =
    let i = whole_inside Cipso c.args.area.now c.args.at c.requires in
    let o = option_at c.args.at c.args.area.now in
    let f : framed o ≡ true = parts_framed o (record { long = omega (arith, i.least, i.size); kind = cipso_octet (get_or o 0 0) i.first; size = i.second }) in
    ap framed c.option_at-octets.ensures ∙ f

pub returns-then-is_valid : goal.returns-then-is_valid
returns-then-is_valid c =
    let v : valid (option_at c.args.at c.args.area.now) ≡ true = ap valid (sym c.option_at-octets.ensures) ∙ sym c.is_valid.ensures ∙ c.if-is_valid.true in
    let n : length c.option_at-octets.result.now ≡ get_or c.args.area.now (c.args.at + 1) 0 = ap length c.option_at-octets.ensures ∙ (whole_inside Cipso c.args.area.now c.args.at c.requires).size in
    rw v (λ k. Some (copy c.args.at (n k)))

pub returns : goal.returns
returns c =
    let v : valid (option_at c.args.at c.args.area.now) ≡ false = ap valid (sym c.option_at-octets.ensures) ∙ sym c.is_valid.ensures ∙ c.if-is_valid.false in
    rw v
