-- The pass over a tag's categories: what it leaves, and that the runs which are written are those of the tag's pieces where none is bad.
use Prim.Native.Nat.{ℕ, zero, suc, ◌*◌, ◌/◌, ◌%◌, ◌≤◌, ◌<◌, zero-le}
use mathlib.Core.Path.{◌≡◌, refl, ap, sym, subst, ◌∙◌}
use mathlib.Core.List.{List, [], ◌++◌, map}
use mathlib.Core.Bool.{Bool, true, false, cond}
use lib.ListN.{length, drop, length-map}
use lib.Dec.{eqb, ltb}
use native.Mathlib.Omega.{arith}
use borrow.Author.Tests.{eqb-false, ltb-true, ltb-false, le-ltb}
use Rattle.label.specs.declared.Run.{Run}
use Rattle.label.specs.Runs.{joined}
use Rattle.label_keys.specs.Keys.{run_key}
use Rattle.label_keys.proofs.Keys.{keys_back}
use Rattle.option.specs.Bitmap.{bit_at}
use Rattle.option.specs.Option.{numbers_in, singles, pairs_in}
use Rattle.option.specs.Reading.{turned, bit_pieces, pieces}
use Rattle.option.specs.Index.{set_runs, range_runs, first_true, number_at, bad_number, bad_pair, pairs_of, low_pair, high_pair}
use Rattle.option.proofs.Bridge.{set_joined, numbers_joined, pairs_joined}
use Rattle.option_read_bitmap.specs.Bitmap.{bitmap_runs, bitmap_found, bitmap_keys}
use Rattle.option_read_bitmap.proofs.Theorems.{bitmap_below, bitmap_most, bitmap_found_lem, bitmap_keys_lem}
use Rattle.std.specs.Prelude.{Ok, Err}
use Rattle.option_read_numbers.specs.declared.BadNumber.{BadNumber}
use Rattle.option_read_numbers.specs.Numbers.{whole, fits, at_front, pair_runs, first_bad_pair, Pass, bad_number_at, Passes, ReadsPairs}
use Rattle.option_read_numbers.proofs.Loops.{whole_even, parts_fit}
use Rattle.option_read.specs.Reading.{bad_place}
use Rattle.option_read.specs.Keys.{runs_in}
use Rattle.option_read.specs.Stages.{PassOver}

pub first_most : (f : ℕ → Bool) (n : ℕ) → first_true f n ≤ n
first_most f zero = zero-le
first_most f (suc n) = go (f zero) (first_most (λ k. f (suc k)) n)
  where
    go : (t : Bool) → first_true (λ k. f (suc k)) n ≤ n → cond t zero (suc (first_true (λ k. f (suc k)) n)) ≤ suc n
    go true h = omega arith
    go false h = omega arith

-- Where no number or pair is bad, the runs that are written are those of the tag's pieces.
pub runs_joined : (t : ℕ) (b : List ℕ) → ((t ≡ 1 → ⊥) → length b % 2 ≡ 0) → length b ≤ bad_place t b → runs_in t b ≡ joined (pieces t b)
unfolding pieces
runs_joined t b even fine = go (eqb t 1) refl (eqb t 2) fine
  where
    go : (x : Bool) → eqb t 1 ≡ x → (y : Bool)
        → length b ≤ cond x (length b) (cond y 2 4 * first_true (λ k. cond y (bad_number b k) (bad_pair b k)) (cond y (length b / 2) (pairs_of b)))
        → cond x (set_runs (bit_at b) (8 * length b)) (cond y (range_runs (number_at b) (number_at b) (first_true (bad_number b) (length b / 2))) (range_runs (low_pair b) (high_pair b) (pairs_of b)))
        ≡ joined (cond x (bit_pieces (bit_at b) (8 * length b)) (cond y (turned [] (singles (numbers_in b))) (pairs_in (numbers_in b))))
    go true p y f = set_joined (bit_at b) (8 * length b)
    go false p true f =
        let ev = even (eqb-false t 1 p) in
        let all : first_true (bad_number b) (length b / 2) ≡ length b / 2 = omega (arith, first_most (bad_number b) (length b / 2)) in
        ap (range_runs (number_at b) (number_at b)) all ∙ numbers_joined b ev
    go false p false f = pairs_joined b (even (eqb-false t 1 p))

-- Tags 2 and 5: what their passes leave, of octets that fit.
module _ (b was : List ℕ) (short : length b ≤ 30) (even : length b % 2 ≡ 0) (room : 120 ≤ length was) where
  fitting : fits (length b) (length was) ≡ true
  fitting = parts_fit (length b) (length was) (record { most = short; room = omega arith })

  passed : (t : ℕ) {keys : List ℕ} {r : Pass} (runs : List ℕ → List Run) (bad : List ℕ → ℕ)
      → Passes (fits (length b) (length was)) (runs (whole b)) (bad (whole b)) (length (whole b)) was keys r → runs b ≡ runs_in t b → bad b ≡ bad_place t b → PassOver t b was keys r
  passed t {keys} {r} runs bad p e f =
      let q : Passes true (runs b) (bad b) (length b) was keys r = subst (λ (z : List ℕ). Passes true (runs z) (bad z) (length z) was keys r) (whole_even b even) (rw fitting at p) in
      record {
        answer = q.answer ∙ (λ i. cond (ltb (f i) (length b)) (bad_number_at (length (e i)) (f i)) (Ok (length (e i))));
        held = omega (arith, q.held);
        left = q.left ∙ ap (λ (z : List Run). at_front (map run_key z) was) e;
        stands = rw (← e) (q.stands refl);
      }

  pub pass_pairs : {keys : List ℕ} {r : Pass} → ReadsPairs b was keys r → PassOver 5 b was keys r
  pass_pairs p = passed 5 pair_runs (λ z. 4 * first_bad_pair z) p refl refl

-- Tag 1: what the table's engine leaves.
pub pass_bitmap : (b was keys : List ℕ) (n : ℕ) → length b ≤ 30 → 120 ≤ length was → (Ok n ≡ bitmap_found b (length was)) × (keys ≡ bitmap_keys b was)
    → PassOver 1 b was keys (Ok n)
pass_bitmap b was keys n h room e =
    let is : Ok n ≡ Ok (length (bitmap_runs b)) = e.0 ∙ bitmap_found_lem b h was room in
    let counted : n ≡ length (bitmap_runs b) = cc in
    record {
      answer = rw (le-ltb (length b) (length b) (omega arith)) (ap (λ (m : ℕ). Ok m) counted);
      held = omega (arith, counted, bitmap_most b h);
      left = e.1 ∙ bitmap_keys_lem b h was room ∙ ap (λ (n : ℕ). map run_key (bitmap_runs b) ++ drop n was) (sym (length-map (bitmap_runs b) run_key));
      stands = keys_back (bitmap_runs b) (bitmap_below b h);
    }

-- What a pass tells: where the first bad one begins, or that none is bad.
module _ {t : ℕ} {b keys keys' : List ℕ} where
  pub bad_of : (d : BadNumber) → PassOver t b keys keys' (Err d) → (d.at ≡ bad_place t b) × (d.at < length b)
  bad_of d q = go (ltb (bad_place t b) (length b)) refl q.answer
    where
      go : (x : Bool) → ltb (bad_place t b) (length b) ≡ x → Err d ≡ cond x (bad_number_at (length (runs_in t b)) (bad_place t b)) (Ok (length (runs_in t b))) → (d.at ≡ bad_place t b) × (d.at < length b)
      go true e a =
          let k : d.at ≡ bad_place t b = cc in
          (k, omega (arith, ltb-true (bad_place t b) (length b) e))
      go false e a = absurd (let z : ◌≡◌ {A = ℕ} 0 1 = cc in omega arith)

  pub good_of : (n : ℕ) → PassOver t b keys keys' (Ok n) → (n ≡ length (runs_in t b)) × (length b ≤ bad_place t b)
  good_of n q = go (ltb (bad_place t b) (length b)) refl q.answer
    where
      go : (x : Bool) → ltb (bad_place t b) (length b) ≡ x → Ok n ≡ cond x (bad_number_at (length (runs_in t b)) (bad_place t b)) (Ok (length (runs_in t b))) → (n ≡ length (runs_in t b)) × (length b ≤ bad_place t b)
      go true e a = absurd (let z : ◌≡◌ {A = ℕ} 0 1 = cc in omega arith)
      go false e a =
          let k : n ≡ length (runs_in t b) = cc in
          (k, omega (arith, ltb-false (bad_place t b) (length b) e))
