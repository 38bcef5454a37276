-- `renumber_partners::fill_partners` meets its contract. The loop's invariant: the pairs that were seen, from the last on, are listed.
use borrow.Author.Rules.{rules}
use native.Mathlib.Omega.{arith}
use mathlib.Core.Path.{◌≡◌, ◌∙◌, ap}
use mathlib.Core.List.{List, map, reverse, ◌++◌}
use Prim.Native.Nat.{ℕ}
use lib.ListN.{length, take, drop, replicate}
use lib.Seq.{length-take-le}
use Rattle.std.proofs.lemmas.List.{reverse-reverse}
use Rattle.std.proofs.lemmas.Iterator.Adapters.{YieldsList-from_rev_slice}
use Rattle.std.proofs.lemmas.Iterator.Consumers.{YieldsList-end}
use Rattle.table_levels.proofs.Levels.{front_same}
use Rattle.renumber_partners.proofs.Tabled.{seen_more, listing_start, listing_next, listing_end, listing_short}
use Rattle.renumber_partners.proofs.fill_partners.Goals as goal

pub returns-then-partners-lt-LEVELS : goal.returns-then-partners-lt-LEVELS
returns-then-partners-lt-LEVELS c = listing_short (take c.args.pairs c.args.levels) c.args.partners.now c.if-partners-lt-LEVELS.true

pub loop-pair-init : goal.loop-pair-init
loop-pair-init c =
    let was = c.args.partners.now in
    let filled = c.fill.ensures.after (λ y h. h) ∙ ap (λ (k : ℕ). replicate k 256) (length-take-le 256 was c.if-partners-lt-LEVELS.false) in
    listing_start was _ c.if-partners-lt-LEVELS.false (ap (λ (z : List ℕ). z ++ drop 256 was) filled)

pub loop-pair-preserved : goal.loop-pair-preserved
loop-pair-preserved c =
    let v = c.loop-pair in
    let p = c.in-Some.pair.now in
    rw seen_more (listing_next p (reverse (map (λ y. y.now) v.yielded)) c.args.partners.now v.partners c.from-level.result c.from.result c.if-partners-lt-LEVELS.false v.invariant c.from-level.ensures c.from.ensures (omega arith))

pub returns : goal.returns
returns c =
    let v = c.loop-pair in
    let ls = c.args.levels in
    let pairs = take c.min-n.result ls in
    let sized : length ls ≡ 256 = search rules in
    let seen = YieldsList-end (YieldsList-from_rev_slice pairs cc) v.yielded _ v.yielded_by _ _ c.in-None.is c.next.ensures.steps in
    let all = ap reverse seen.0 ∙ reverse-reverse pairs ∙ front_same ls c.args.pairs c.min-n.result sized c.min-n.ensures in
    listing_end (take c.args.pairs ls) c.args.partners.now v.partners c.if-partners-lt-LEVELS.false (rw all at v.invariant)
