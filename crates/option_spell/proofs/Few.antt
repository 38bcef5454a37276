-- Laws of a label's first places as keys: how they are filled in, and the label's form by them and by the places after them.
use Prim.Native.Nat.{ℕ, zero, suc, ◌+◌, ◌-◌, ◌*◌, ◌/◌, ◌%◌, ◌≤◌}
use mathlib.Core.Path.{◌≡◌, refl, ap, sym, ◌∙◌}
use mathlib.Core.Bool.{Bool, true, false, ◌&&◌}
use mathlib.Core.List.{List, [], ◌∷◌, ◌++◌}
use native.Mathlib.Omega.{arith}
use lib.Bits.{bit_or}
use lib.Dec.{eqb}
use lib.ListN.{length, take, drop, take-append-drop, length-drop}
use lib.Seq.{take-take, take_all}
use Rattle.label.specs.declared.Run.{Run}
use Rattle.label.specs.Runs.{spaced, unused}
use Rattle.label_keys.specs.Keys.{key_run, key_runs}
use Rattle.label.proofs.Places.{or_step}

-- the places behind the first n, as a loop goes through them
abbrev pub behind : {A : Type 0} → ℕ → List A → List A
behind n xs = take (length xs - n) (drop n xs)

pub behind_is : {A : Type 0} (n : ℕ) (xs : List A) → drop n xs ≡ behind n xs
behind_is n xs = sym (take_all (length xs - n) (drop n xs) (omega (arith, length-drop n xs)))

-- one key more in the OR
pub key_or_step : (s k : ℕ) (u : Bool) → (eqb s 0 && (eqb (k / 65536) 0 && (eqb (k % 65536) 0 && u))) ≡ (eqb (bit_or s k) 0 && u)
key_or_step s k u =
    let e : k % 65536 + k / 65536 * 65536 ≡ k = omega arith in
    ap (λ (b : Bool). eqb s 0 && b) (swap (eqb (k / 65536) 0) (eqb (k % 65536) 0))
    ∙ or_step s (k % 65536) (k / 65536) u
    ∙ ap (λ (x : ℕ). eqb (bit_or s x) 0 && u) e
  where
    swap : (a b : Bool) → (a && (b && u)) ≡ (b && (a && u))
    swap true true = refl
    swap true false = refl
    swap false true = refl
    swap false false = refl

unused_append : (xs ys : List Run) → unused (xs ++ ys) ≡ (unused xs && unused ys)
unused_append [] ys = refl
unused_append (r ∷ xs) ys = rw (unused_append xs ys) (go (eqb r.low 0) (eqb r.high 0))
  where
    go : (a b : Bool) → (a && (b && (unused xs && unused ys))) ≡ ((a && (b && unused xs)) && unused ys)
    go true true = refl
    go true false = refl
    go false b = refl

runs_take : (n : ℕ) (ks : List ℕ) → key_runs (take n ks) ≡ take n (key_runs ks)
runs_take zero ks = refl
runs_take (suc n) [] = refl
runs_take (suc n) (k ∷ ks) = ap (λ (z : List Run). key_run k ∷ z) (runs_take n ks)

runs_drop : (n : ℕ) (ks : List ℕ) → key_runs (drop n ks) ≡ drop n (key_runs ks)
runs_drop zero ks = refl
runs_drop (suc n) [] = refl
runs_drop (suc n) (k ∷ ks) = runs_drop n ks

drop_parts : (n m : ℕ) (rs : List Run) → n ≤ m → drop n rs ≡ drop n (take m rs) ++ drop m rs
drop_parts zero m rs h = sym (take-append-drop m rs)
drop_parts (suc n) zero rs h = absurd (omega arith)
drop_parts (suc n) (suc m) [] h = refl
drop_parts (suc n) (suc m) (r ∷ rs) h = drop_parts n m rs (omega arith)

-- the first m places are the keys' runs, and at most so many are used
module _ (rs : List Run) (ks : List ℕ) (m n : ℕ) (e : key_runs ks ≡ take m rs) (h : n ≤ m) where
  pub few_used : key_runs (take n ks) ≡ take n rs
  few_used = runs_take n ks ∙ ap (take n) e ∙ take-take n m rs h

  pub few_form : ((spaced 0 (key_runs (take n ks)) && unused (key_runs (drop n ks))) && unused (drop m rs)) ≡ (spaced 0 (take n rs) && unused (drop n rs))
  few_form =
      let d : key_runs (drop n ks) ≡ drop n (take m rs) = runs_drop n ks ∙ ap (drop n) e in
      let u : unused (drop n rs) ≡ (unused (drop n (take m rs)) && unused (drop m rs)) = ap unused (drop_parts n m rs h) ∙ unused_append (drop n (take m rs)) (drop m rs) in
      (λ i. (spaced 0 (few_used i) && unused (d i)) && unused (drop m rs))
      ∙ assoc (spaced 0 (take n rs)) (unused (drop n (take m rs)))
      ∙ ap (λ (b : Bool). spaced 0 (take n rs) && b) (sym u)
    where
      assoc : (a b : Bool) → ((a && b) && unused (drop m rs)) ≡ (a && (b && unused (drop m rs)))
      assoc true b = refl
      assoc false b = refl
