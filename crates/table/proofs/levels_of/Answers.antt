-- `table::levels_of` meets its contract.
use borrow.Author.Rules.{rules}
use native.Mathlib.Omega.{arith}
use mathlib.Core.Path.{◌≡◌, sym, ◌∙◌}
use lib.ListN.{length, take, length-set}
use lib.Seq.{take_all}
use Rattle.label.proofs.Steps.{length_mapped}
use Rattle.table.proofs.Renumberings.{out_pair, two_more, levels_more, typed_pairs_lem, put_next}
use Rattle.table.proofs.levels_of.Goals as goal

pub loop-i-preserved : goal.loop-i-preserved
loop-i-preserved c =
    let a = c.args in
    let l = c.loop-i in
    let n : length a.renumbering.levels ≡ 256 = search (length_mapped, rules) in
    let m : length l.levels ≡ 256 = l.invariant.long in
    let e = c.two_of.ensures in
    record {
      long = length-set l.levels l.i _ ∙ m;
      taken = put_next l.levels l.i _ (omega arith) ∙ rw (levels_more a.renumbering.levels l.i out_pair (omega arith), e.0, l.invariant.taken);
      typed = two_more a.renumbering.levels l.i out_pair (omega arith) e.1 l.invariant.typed;
    }

pub returns : goal.returns
returns c =
    let r = c.args.renumbering in
    let l = c.loop-i in
    let n : length r.levels ≡ 256 = search (length_mapped, rules) in
    let m : length l.levels ≡ 256 = l.invariant.long in
    let t : take l.i r.levels ≡ r.levels = take_all l.i r.levels (omega arith) in
    let u : take l.i l.levels ≡ l.levels = take_all l.i l.levels (omega arith) in
    (sym u ∙ rw t at l.invariant.taken, typed_pairs_lem r n (rw t at l.invariant.typed))
