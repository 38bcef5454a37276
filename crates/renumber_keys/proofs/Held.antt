-- Laws of a list of keys: one more range, as a loop meets it, and the list of a label's runs.
use mathlib.Core.Path.{◌≡◌, refl, sym, ◌∙◌, ap}
use mathlib.Core.Bool.{true, false}
use mathlib.Core.List.{List, [], ◌∷◌, map}
use Prim.Native.Nat.{ℕ, ◌+◌, ◌≤◌, ◌<◌, min}
use native.Mathlib.Omega.{arith}
use lib.ListN.{length, take, drop, get_or, length-map, drop_of_length-le, get_or-map}
use lib.Seq.{take_at}
use borrow.Author.Tests.{le-leb, lt-leb}
use Rattle.label.specs.declared.Run.{Run}
use Rattle.label.specs.declared.Label.{Label}
use Rattle.label.specs.Runs.{spaced}
use Rattle.label.specs.Label.{used, well_formed}
use Rattle.label_keys.specs.Keys.{key_run, key_runs, run_key, keys_fit, with_keys}
use Rattle.label.proofs.Labels.{formed, used_length}
use Rattle.label_keys.proofs.Keys.{keys_runs, take_min}
use Rattle.label.proofs.Steps.{next}
use Rattle.renumber_keys.specs.Carry.{label_runs}

-- One more range of a list of keys, as a loop meets it.
pub key_at : (ks : List ℕ) (i : ℕ) → i < length ks → drop i (key_runs ks) ≡ key_run (get_or ks i 0) ∷ drop (i + 1) (key_runs ks)
key_at ks i h =
    let m : i < length (key_runs ks) = rw length-map h in
    next (key_run 0) (key_runs ks) i m ∙ ap (λ (z : Run). z ∷ drop (i + 1) (key_runs ks)) (get_or-map key_run ks i 0)

pub no_key : (ks : List ℕ) (i : ℕ) → length ks ≤ i → drop i (key_runs ks) ≡ []
no_key ks i h =
    let m : length (key_runs ks) ≤ i = rw length-map h in
    drop_of_length-le (key_runs ks) {i = i} m

-- a label's runs, put at the head of a list with a place for each
pub held_runs : (l : Label) (ks : List ℕ) → well_formed l ≡ true → 120 ≤ length ks → key_runs (take l.count (with_keys l ks)) ≡ used l
unfolding keys_fit with_keys
held_runs l ks w h =
    let f = formed l w in
    let n : length (map run_key (used l)) ≡ l.count = length-map (used l) run_key ∙ used_length l f in
    let o : l.count ≤ length ks = omega (arith, f.held) in
    rw (le-leb l.count 120 f.held, le-leb l.count (length ks) o)
    (ap key_runs (take_at (map run_key (used l)) (drop l.count ks) l.count n) ∙ keys_runs 0 (used l) f.runs)

-- the first n keys, or as many as there are
pub first_same : (ks : List ℕ) (n m : ℕ) → m ≡ min n (length ks) → take m ks ≡ take n ks
first_same ks n m is = ap (λ (z : ℕ). take z ks) is ∙ take_min n ks

-- Keys that are a label's runs, and keys that are not.
pub formed_not : (ks : List ℕ) → 120 < length ks → false ≡ label_runs (key_runs ks)
unfolding label_runs
formed_not ks h = sym (simp (length-map, lt-leb (length ks) 120 h))

pub formed_is : (ks : List ℕ) → length ks ≤ 120 → spaced 0 (key_runs ks) ≡ label_runs (key_runs ks)
unfolding label_runs
formed_is ks h = sym (simp (length-map, le-leb (length ks) 120 h))

-- no key is no run
pub no_keys : (ks : List ℕ) → length ks ≡ 0 → key_runs ks ≡ []
no_keys [] e = refl
no_keys (k ∷ ks) e = absurd (omega arith)
