-- `option_slack::is_slack` meets its contract.
use native.Mathlib.Omega.{arith}
use Prim.Native.Nat.{ℕ, ◌-◌}
use mathlib.Core.List.{List}
use mathlib.Core.Path.{◌≡◌, sym, ap, ◌∙◌}
use lib.ListN.{take, drop}
use Rattle.option.specs.Option.{numbers_in}
use Rattle.option_read.specs.Reading.{categories_in}
use Rattle.option_slack.specs.Slack.{slack_bitmap, slack_pairs}
use Rattle.option_slack.proofs.Pairs.{short_fine, one_is, five_is, other_is, part_is}
use Rattle.option_slack.proofs.is_slack.Goals as goal

pub returns-then-n-lt-CATEGORIES_AT : goal.returns-then-n-lt-CATEGORIES_AT
returns-then-n-lt-CATEGORIES_AT c = sym (short_fine c.args.octets.now (omega arith))

-- the part is the tag's own categories
categories : (c : goal.After-is_slack_bitmap) →
    let o = c.args.octets.now in
    take (c.tag_end-end.result - 10) (drop 10 o) ≡ categories_in o
categories c = part_is c.args.octets.now c.widen-size.result c.tag_end-end.result c.widen-size.ensures.0 c.tag_end-end.ensures

pub returns-then-tag-eq-BITMAP : goal.returns-then-tag-eq-BITMAP
returns-then-tag-eq-BITMAP c =
    let o = c.args.octets.now in
    c.is_slack_bitmap.ensures ∙ ap slack_bitmap (categories c) ∙ sym (one_is o c.if-tag-eq-BITMAP.true)

-- the part is the tag's own categories
categories-After-are_slack_pairs : (c : goal.After-are_slack_pairs) →
    let o = c.args.octets.now in
    take (c.tag_end-end.result - 10) (drop 10 o) ≡ categories_in o
categories-After-are_slack_pairs c = part_is c.args.octets.now c.widen-size.result c.tag_end-end.result c.widen-size.ensures.0 c.tag_end-end.ensures

pub returns-then-tag-eq-PAIRS : goal.returns-then-tag-eq-PAIRS
returns-then-tag-eq-PAIRS c =
    let o = c.args.octets.now in
    c.are_slack_pairs.ensures ∙ ap (λ (b : List ℕ). slack_pairs (numbers_in b)) (categories-After-are_slack_pairs c) ∙ sym (five_is o c.if-tag-eq-PAIRS.true)

pub returns : goal.returns
returns c =
    let o = c.args.octets.now in
    sym (other_is o c.if-tag-eq-BITMAP.false c.if-tag-eq-PAIRS.false)
