-- `renumber_keys::keys_formed` meets its contract.
use native.Mathlib.Omega.{arith}
use Prim.Native.Nat.{◌+◌, ◌/◌, ◌%◌}
use mathlib.Core.Path.{sym, ◌∙◌}
use lib.Dec.{leb}
use lib.ListN.{drop, get_or}
use Rattle.label_keys.specs.Keys.{key_runs}
use Rattle.label.proofs.Bools.{and_chain}
use Rattle.label.proofs.Places.{rises, rises_spaced}
use Rattle.renumber_keys.proofs.Held.{key_at, no_key, formed_not, formed_is}
use Rattle.renumber_keys.proofs.keys_formed.Goals as goal

pub returns-then-own-gt-MAX_RUNS : goal.returns-then-own-gt-MAX_RUNS
returns-then-own-gt-MAX_RUNS c = formed_not c.args.own.now c.if-own-gt-MAX_RUNS.true

pub loop-key-init : goal.loop-key-init
loop-key-init c = rises_spaced 0 (key_runs c.args.own.now) (omega arith)

pub loop-key-preserved : goal.loop-key-preserved
loop-key-preserved c =
    let v = c.loop-key in
    let own = c.args.own.now in
    let x = get_or own v.key-index 0 in
    v.invariant
    ∙ rw (key_at own v.key-index (omega arith))
    (and_chain v.good (leb v.floor (x / 65536)) (leb (x / 65536) (x % 65536)) (rises (x % 65536 + 2) (drop (v.key-index + 1) (key_runs own))))

pub returns : goal.returns
returns c =
    let v = c.loop-key in
    let own = c.args.own.now in
    sym (v.invariant ∙ rw (no_key own v.key-index (omega arith))) ∙ formed_is own c.if-own-gt-MAX_RUNS.false
