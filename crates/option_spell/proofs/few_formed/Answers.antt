-- `option_spell::few_formed` meets its contract. The loops' invariants are those of `runs_formed`, over keys.
-- Assumes nothing.
use borrow.Author.Rules.{rules}
use native.Mathlib.Omega.{arith}
use Prim.Native.Nat.{ℕ, ◌+◌, ◌-◌, ◌/◌, ◌%◌}
use mathlib.Core.Path.{◌≡◌, sym, ◌∙◌, ap}
use mathlib.Core.Bool.{and-true}
use mathlib.Core.List.{List, []}
use lib.Dec.{eqb, leb}
use lib.ListN.{length, drop, get_or, take, drop_of_length-le}
use Rattle.label.specs.Runs.{unused}
use Rattle.label_keys.specs.Keys.{key_runs}
use Rattle.label.proofs.Bools.{and_chain}
use Rattle.label.proofs.Steps.{next}
use Rattle.label.proofs.Places.{rises, rises_spaced}
use Rattle.option_spell.proofs.Few.{key_or_step, behind_is}
use Rattle.option_spell.proofs.few_formed.Goals as goal

-- what is behind the first n of 16 places
abbrev rest_of : ℕ → List ℕ → List ℕ
rest_of n ks = take (16 - n) (drop n ks)

rest_is : (n : ℕ) (ks : List ℕ) → length ks ≡ 16 → drop n ks ≡ rest_of n ks
rest_is n ks e = behind_is n ks ∙ ap (λ (k : ℕ). take (k - n) (drop n ks)) e

pub loop-key-init : goal.loop-key-init
loop-key-init c = let a = c.args in rises_spaced 0 (key_runs (take a.n a.keys.now)) (omega arith)

pub loop-key-preserved : goal.loop-key-preserved
loop-key-preserved c =
    let v = c.loop-key in
    let ks = take c.args.n c.args.keys.now in
    let k = get_or ks v.key-index 0 in
    v.invariant
    ∙ rw (ap key_runs (next 0 ks v.key-index c.loop-key-test.true))
    (and_chain v.good (leb v.floor (k / 65536)) (leb (k / 65536) (k % 65536)) (rises (k % 65536 + 2) (key_runs (drop (v.key-index + 1) ks))))

pub loop-key-2-init : goal.loop-key-2-init
loop-key-2-init c =
    let v = c.loop-key in
    let ks = take c.args.n c.args.keys.now in
    let none : drop v.key-index ks ≡ [] = drop_of_length-le ks {i = v.key-index} (omega arith) in
    let sized : length c.args.keys.now ≡ 16 = search rules in
    (v.invariant ∙ rw none, ap (λ (z : List ℕ). unused (key_runs z)) (rest_is c.args.n c.args.keys.now sized))

pub loop-key-2-preserved : goal.loop-key-2-preserved
loop-key-2-preserved c =
    let v = c.loop-key-2 in
    let ks = rest_of c.args.n c.args.keys.now in (
      v.invariant.0,
      v.invariant.1
          ∙ rw (ap key_runs (next 0 ks v.key-index c.loop-key-2-test.true))
          (key_or_step v.rest (get_or ks v.key-index 0) (unused (key_runs (drop (v.key-index + 1) ks)))),
    )

pub returns : goal.returns
returns c =
    let v = c.loop-key-2 in
    let ks = rest_of c.args.n c.args.keys.now in
    let none : drop v.key-index ks ≡ [] = drop_of_length-le ks {i = v.key-index} (omega arith) in
    sym (rw (v.invariant.0, v.invariant.1, none, and-true (eqb v.rest 0)))
