-- Laws of runs as keys: there and back, the first of them, and one turn of the loops that read and write them.
-- Assumes nothing.
use mathlib.Core.Path.{◌≡◌, refl, sym, ◌∙◌, ap}
use mathlib.Core.Bool.{true}
use mathlib.Core.List.{List, [], ◌∷◌, ◌++◌, map, map-append, append_assoc}
use mathlib.Core.Logic.{⊎_elim}
use Prim.Native.Nat.{ℕ, zero, suc, ◌+◌, ◌*◌, ◌/◌, ◌%◌, ◌≤◌, ◌<◌, min}
use native.Mathlib.Omega.{arith}
use native.Mathlib.Numerals.{add-one}
use lib.ListN.{length, take, drop, get_or, set, length-map, length-take, length-append}
use lib.Seq.{take-suc, take_all, take-length, length-take-le, set-append_seam, drop-cons, set_at}
use borrow.Author.Tests.{le-leb, lt-leb}
use Rattle.label.specs.declared.Run.{Run}
use Rattle.label.specs.declared.Label.{Label}
use Rattle.std.proofs.lemmas.List.{map-id}
use Rattle.label.specs.Runs.{spaced, top_of, passes}
use Rattle.label.specs.Label.{no_run, label_of}
use Rattle.label_keys.specs.Keys.{key_run, key_runs, run_key, label_from}
use Rattle.label.proofs.Bools.{less_or}
use Rattle.label.proofs.Canon.{Below, spaced_below, below_weaken}
use Rattle.label.proofs.Labels.{with_run_of}
use Rattle.label.proofs.Steps.{next}

-- runs below 65536, spaced or not, as keys are these runs
pub keys_back : (rs : List Run) → Below 65536 rs → key_runs (map run_key rs) ≡ rs
keys_back [] b = refl
keys_back (r ∷ rs) b =
    let l : (r.low * 65536 + r.high) / 65536 ≡ r.low = omega (arith, b.0) in
    let h : (r.low * 65536 + r.high) % 65536 ≡ r.high = omega (arith, b.0) in
    let t = keys_back rs b.1 in
    λ i. (record { low = l i; high = h i }) ∷ t i

-- so are spaced runs
pub keys_runs : (f : ℕ) (xs : List Run) → spaced f xs ≡ true → key_runs (map run_key xs) ≡ xs
keys_runs f xs e = keys_back xs (below_weaken 65535 65536 xs (omega arith) (spaced_below f xs e))

-- the first n, or all
pub take_min : {A : Type 0} (n : ℕ) (l : List A) → take (min n (length l)) l ≡ take n l
take_min n l =
    ⊎_elim
    (λ w. let e : min n (length l) ≡ n = omega arith in rw e)
    (λ w. let e : min n (length l) ≡ length l = omega arith in rw e (take-length l ∙ sym (take_all n l w)))
    (less_or n (length l))

-- one above the highest category: the last key's
pub top_last : (ks : List ℕ) (m : ℕ) → m < length ks → top_of (key_runs (take (suc m) ks)) ≡ get_or ks m 0 % 65536 + 1
top_last [] m h = absurd (omega arith)
top_last (k ∷ ks) zero h = refl
top_last (k ∷ []) (suc m) h = absurd (omega arith)
top_last (k ∷ j ∷ ks) (suc m) h = top_last (j ∷ ks) m (omega arith)

-- a list takes one key more
pub keys_next : (f : Run → ℕ) (xs : List Run) (ks : List ℕ) (i : ℕ) (d : Run) → i < length xs → i < length ks
    → set (map f (take i xs) ++ drop i ks) i (f (get_or xs i d)) ≡ map f (take (i + 1) xs) ++ drop (i + 1) ks
keys_next f xs ks i d h k =
    let ys : List ℕ = map f (take i xs) in
    let v : ℕ = f (get_or xs i d) in
    let n : length ys ≡ i = length-map (take i xs) f ∙ length-take-le i xs (omega arith) in
    let a : set (ys ++ drop i ks) i v ≡ ys ++ (v ∷ drop (i + 1) ks) =
    ap (λ (z : List ℕ). set (ys ++ z) i v) (next 0 ks i k)
    ∙ ap (λ (z : ℕ). set (ys ++ (get_or ks i 0 ∷ drop (i + 1) ks)) z v) (sym n)
    ∙ set-append_seam ys (get_or ks i 0) (drop (i + 1) ks) v in
    let b : map f (take (i + 1) xs) ≡ ys ++ (v ∷ []) = rw (add-one i, take-suc xs i d h) (map-append f (take i xs) (get_or xs i d ∷ [])) in
    a ∙ sym (ap (λ (z : List ℕ). z ++ drop (i + 1) ks) b ∙ append_assoc ys (v ∷ []) (drop (i + 1) ks))

-- a label of n runs, of which the first i are those of the keys and the others zero
abbrev pub filled : ℕ → ℕ → ℕ → List ℕ → ℕ → Label
filled d v n ks i = record { domain = d; level = v; count = n; runs = (label_of d v (key_runs (take i ks))).runs }

filled_next : (d v n : ℕ) (ks : List ℕ) (i : ℕ) → i < length ks → i < 120
    → set (filled d v n ks i).runs i (key_run (get_or ks i 0)) ≡ (filled d v n ks (i + 1)).runs
filled_next d v n ks i h l =
    let x : Run = key_run (get_or ks i 0) in
    let rs : List Run = key_runs (take i ks) in
    let m : length rs ≡ i = rw length-map (length-take-le i ks (omega arith)) in
    let grown : rs ++ (x ∷ []) ≡ key_runs (take (i + 1) ks) =
    rw (add-one i, take-suc ks i 0 h) (sym (map-append key_run (take i ks) (get_or ks i 0 ∷ []))) in
    let p : set (label_of d v rs).runs (length rs) x ≡ (label_of d v (rs ++ (x ∷ []))).runs = with_run_of rs x (omega arith) in
    ap (λ (z : ℕ). set (label_of d v rs).runs z x) (sym m) ∙ p ∙ ap (λ (z : List Run). (label_of d v z).runs) grown

pub filled_more : (d v n : ℕ) (ks : List ℕ) (out : Label) (i : ℕ) (r : Run) → length ks ≤ 120 → i < length ks → out ≡ filled d v n ks i → r ≡ key_run (get_or ks i 0)
    → ◌≡◌ {A = Label} (record { domain = out.domain; level = out.level; count = out.count; runs = set out.runs i r }) (filled d v n ks (i + 1))
filled_more d v n ks out i r h l e q =
    let t : set (filled d v n ks i).runs i (key_run (get_or ks i 0)) ≡ (filled d v n ks (i + 1)).runs = filled_next d v n ks i l (omega arith) in
    (λ j. record { domain = (e j).domain; level = (e j).level; count = (e j).count; runs = set (e j).runs i (q j) })
    ∙ (λ j. record { domain = d; level = v; count = n; runs = t j })

-- the label of m keys, or the all-zero one
module _ (d v : ℕ) (ks : List ℕ) (n m : ℕ) (is : m ≡ min n (length ks)) where
  runs_length : length (key_runs (take n ks)) ≡ m
  runs_length = rw (length-map, length-take) (sym is)

  pub label_over : 120 < m → label_of 0 0 [] ≡ label_from d v (key_runs (take n ks))
  unfolding label_from
  label_over h =
      let f : 120 < length (key_runs (take n ks)) = omega (arith, runs_length) in
      sym (rw (lt-leb (length (key_runs (take n ks))) 120 f))

  pub label_fits : m ≤ 120 → label_of d v (key_runs (take m ks)) ≡ label_from d v (key_runs (take n ks))
  unfolding label_from
  label_fits h =
      let e : take m ks ≡ take n ks = ap (λ (z : ℕ). take z ks) is ∙ take_min n ks in
      let f : length (key_runs (take n ks)) ≤ 120 = omega (arith, runs_length) in
      sym (rw (le-leb (length (key_runs (take n ks))) 120 f) (ap (λ (z : List ℕ). label_of d v (key_runs z)) (sym e)))

-- the run of a key by its place
pub key_at : (ks : List ℕ) (i : ℕ) → get_or (key_runs ks) i no_run ≡ key_run (get_or ks i 0)
key_at [] i = refl
key_at (k ∷ ks) zero = refl
key_at (k ∷ ks) (suc i) = key_at ks i

-- one element more is written at the front of a list
pub front_store : (xs was : List ℕ) (y : ℕ) → length xs < length was
    → set (xs ++ drop (length xs) was) (length xs) y ≡ (xs ++ y ∷ []) ++ drop (length (xs ++ y ∷ [])) was
front_store xs was y h =
    let n : length (xs ++ y ∷ []) ≡ length xs + 1 = length-append xs (y ∷ []) in
    rw (n, add-one (length xs), drop-cons was (length xs) 0 h)
    (set_at xs (get_or was (length xs) 0) (drop (suc (length xs)) was) y (length xs) refl ∙ sym (append_assoc xs (y ∷ []) (drop (suc (length xs)) was)))

-- a label's runs, which stand for themselves, and keys
pub passes_used_keys : (xs : List Run) (ks : List ℕ) → passes (map (λ r. r) xs) (key_runs ks) ≡ passes xs (key_runs ks)
passes_used_keys xs ks = rw map-id

pub passes_keys_used : (ks : List ℕ) (xs : List Run) → passes (key_runs ks) (map (λ r. r) xs) ≡ passes (key_runs ks) xs
passes_keys_used ks xs = rw map-id
