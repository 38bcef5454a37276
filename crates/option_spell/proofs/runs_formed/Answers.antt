-- `option_spell::runs_formed` meets its contract. The first loop's invariant: the used runs are spaced exactly when all was good so far and what is left rises from the floor.
-- The keys of the runs so far stand at the front of the list. The second's: the form is settled, and all past the count is zero exactly when the OR so far is and what is left of the array is.
-- Assumes nothing.
use borrow.Author.Rules.{rules}
use native.Mathlib.Omega.{arith}
use Prim.Native.Nat.{◌+◌, ◌≤◌}
use mathlib.Core.Path.{◌≡◌, refl, sym, ◌∙◌, ap}
use mathlib.Core.Bool.{and-true}
use mathlib.Core.List.{[], ◌∷◌}
use lib.Dec.{eqb, leb}
use lib.ListN.{drop, get_or, length, length-set, drop_of_length-le}
use lib.Seq.{length-take-le, take_all, get_or-take}
use Rattle.label.specs.declared.Run.{Run}
use Rattle.label.specs.Runs.{unused}
use Rattle.label.specs.Label.{used, no_run}
use Rattle.label_keys.specs.Keys.{run_key}
use Rattle.label.proofs.Bools.{and_chain}
use Rattle.label.proofs.Steps.{next, next_used, used_up, length_mapped}
use Rattle.label_keys.proofs.Keys.{keys_next}
use Rattle.label.proofs.Places.{or_step, rises, rises_spaced}
use Rattle.option_spell.proofs.Few.{behind, behind_is}
use Rattle.option_spell.proofs.runs_formed.Goals as goal

pub loop-i-init : goal.loop-i-init
loop-i-init c = (rises_spaced 0 (used c.args.label) (omega arith), refl, refl)

pub loop-i-preserved : goal.loop-i-preserved
loop-i-preserved c =
    let l = c.args.label in
    let v = c.loop-i in
    let r : Run = get_or l.runs v.i no_run in
    let sized : length l.runs ≡ 120 = search (length_mapped, rules) in
    let room : length c.args.keys.now ≡ 120 = search rules in
    let seen : drop v.i (used l) ≡ r ∷ drop (v.i + 1) (used l) = next_used no_run l.runs l.count v.i c.loop-i-test.true (omega (arith, c.requires)) in
    let many : length (used l) ≡ l.count = length-take-le l.count l.runs (omega (arith, c.requires)) in (
      v.invariant.0
          ∙ rw seen
          (and_chain v.good (leb v.floor r.low) (leb r.low r.high) (rises (r.high + 2) (drop (v.i + 1) (used l)))),
      simp length-set v.invariant.1,
      rw (c.run_key.ensures.0, v.invariant.2, ← get_or-take l.count l.runs v.i no_run c.loop-i-test.true)
          (keys_next run_key (used l) c.args.keys.now v.i no_run (omega (arith, many)) (omega (arith, c.requires))),
    )

pub loop-run-init : goal.loop-run-init
loop-run-init c =
    let l = c.args.label in
    let i = c.loop-i.i in
    let done : l.count ≤ i = omega arith in
    (c.loop-i.invariant.0 ∙ rw (used_up l.runs l.count i done), ap unused (behind_is l.count l.runs))

pub loop-run-preserved : goal.loop-run-preserved
loop-run-preserved c =
    let v = c.loop-run in
    let rs = behind c.args.label.count c.args.label.runs in
    let r = get_or rs v.run-index no_run in (
      v.invariant.0,
      v.invariant.1
          ∙ rw (next no_run rs v.run-index c.loop-run-test.true, c.word-rest.ensures) (or_step v.rest r.low r.high (unused (drop (v.run-index + 1) rs))),
    )

pub returns : goal.returns
returns c =
    let l = c.args.label in
    let v = c.loop-run in
    let rs = behind l.count l.runs in
    let none : drop v.run-index rs ≡ [] = drop_of_length-le rs {i = v.run-index} (omega arith) in
    let e : c.loop-i.i ≡ l.count = omega arith in
    let sized : length l.runs ≡ 120 = search (length_mapped, rules) in
    let all : length (used l) ≡ l.count = length-take-le l.count l.runs (omega (arith, c.requires)) in (
      sym (rw (v.invariant.0, v.invariant.1, none, and-true (eqb v.rest 0))),
      rw (e, take_all l.count (used l) (omega (arith, all))) at c.loop-i.invariant.2,
    )
