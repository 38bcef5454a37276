-- How many runs a reader's loop can have made, and its next piece; which number or pair is bad; what a pass leaves.
use Prim.Native.Nat.{ℕ, zero, suc, ◌+◌, ◌-◌, ◌*◌, ◌/◌, ◌%◌, ◌≤◌, ◌<◌, zero-le}
use mathlib.Core.Path.{◌≡◌, refl, ap, sym, ◌∙◌}
use mathlib.Core.List.{List, map}
use mathlib.Core.Bool.{Bool, true, false, cond, ◌||◌, or-true}
use mathlib.Core.Logic.{⊎_elim}
use lib.ListN.{length}
use lib.Seq.{take_all, length-take-le}
use lib.Dec.{leb, ltb, eqb}
use native.Mathlib.Omega.{arith}
use Rattle.std.specs.Prelude.{Ok}
use native.Mathlib.Numerals.{add-one}
use Rattle.label.specs.declared.Run.{Run}
use Rattle.label.specs.Runs.{push_run, top_of}
use Rattle.label.proofs.Bools.{less_or, same_leb}
use Rattle.label.proofs.Push.{push_length, push_some, push_top}
use borrow.Author.Tests.{eq-eqb, ne_eqb, le-leb, lt-leb, lt-ltb, le-ltb}
use Rattle.option.specs.Index.{range_runs, first_true, number_at, bad_number, bad_pair, pairs_of, top_at, bottom_at}
use Rattle.option.proofs.Bad.{first_is}
use Rattle.label_keys.specs.Keys.{key_runs, run_key}
use Rattle.label_keys.proofs.Keys.{keys_back}
use Rattle.option_read_numbers.specs.declared.Last.{Last}
use Rattle.option_read_numbers.specs.Numbers.{whole, fits, at_front, bad_number_at, Passes}
use Rattle.option_read_numbers.specs.Stages.{limit_at}
use Rattle.option_read_numbers.proofs.Building.{Stands, stands_count}

-- The octets of whole numbers.
pub whole_length : (b : List ℕ) → length (whole b) ≡ 2 * (length b / 2)
whole_length b = length-take-le (2 * (length b / 2)) b (omega arith)

pub whole_half : (b : List ℕ) → length b / 2 ≡ length (whole b) / 2
whole_half b = omega (arith, whole_length b)

pub whole_even : (b : List ℕ) → length b % 2 ≡ 0 → whole b ≡ b
whole_even b e = take_all (2 * (length b / 2)) b (omega arith)

pub whole_pairs : (b : List ℕ) → (length b + 2) / 4 ≡ pairs_of (whole b)
whole_pairs b = omega (arith, whole_length b)

-- at most one run a piece
pub range_most : (lo hi : ℕ → ℕ) (n : ℕ) → length (range_runs lo hi n) ≤ n
range_most lo hi zero = zero-le
range_most lo hi (suc n) = omega (arith, range_most lo hi n, push_length (lo n) (hi n) (range_runs lo hi n))

pub range_next : (lo hi : ℕ → ℕ) (n : ℕ) → push_run (range_runs lo hi n) (lo n) (hi n) ≡ range_runs lo hi (n + 1)
range_next lo hi n = rw (add-one n)

pub range_room : (lo hi : ℕ → ℕ) (n : ℕ) → length (push_run (range_runs lo hi n) (lo n) (hi n)) ≤ n + 1
range_room lo hi n = omega (arith, range_most lo hi (suc n))

-- Tag 2: below the category after the last run, or not above the number before.
pub bad_number_is : (b : List ℕ) (k next : ℕ) → next ≡ top_of (range_runs (number_at b) (number_at b) k) → (eqb (number_at b k) 65535 || leb (number_at b k + 1) next) ≡ bad_number b k
bad_number_is b zero next e = rw e (ap (λ (z : Bool). eqb (number_at b zero) 65535 || z) (lt-leb (number_at b zero + 1) 0 (omega arith)))
bad_number_is b (suc k) next e =
    let top : next ≡ number_at b k + 1 = e ∙ push_top (number_at b k) (number_at b k) (range_runs (number_at b) (number_at b) k) in
    let k_is : suc k - 1 ≡ k = omega arith in
    rw (top, k_is, lt-ltb 0 (suc k) (omega arith)) (ap (λ (z : Bool). eqb (number_at b (suc k)) 65535 || z) (same_leb (number_at b (suc k) + 1) (number_at b k + 1) (number_at b (suc k)) (number_at b k) (λ h. omega arith) (λ h. omega arith)))

-- Tag 5: the first bad pair of those from j on, met from the last to the first.
pub record FirstFrom (f : ℕ → Bool) (n j bad : ℕ) : Type 0 where
  pub from : j ≤ bad
  pub most : bad ≤ n
  pub before : (k : ℕ) → j ≤ k → k < bad → f k ≡ false
  pub here : bad < n → f bad ≡ true

pub first_start : (f : ℕ → Bool) (n : ℕ) → FirstFrom f n n n
first_start f n = record { from = omega arith; most = omega arith; before = λ k p q. absurd (omega arith); here = λ h. absurd (omega arith) }

pub first_next : {f : ℕ → Bool} {n j bad : ℕ} → FirstFrom f n j bad → (i : ℕ) → j ≡ i + 1 → (is : Bool) → is ≡ f i → (r : ℕ) → r ≡ cond is i bad → FirstFrom f n i r
first_next {f} {n} {j} {bad} t i e true p r q =
    rw q (record { from = omega arith; most = omega (arith, t.from, t.most); before = λ k a b. absurd (omega arith); here = λ h. sym p })
first_next {f} {n} {j} {bad} t i e false p r q =
    rw q
    (record {
      from = omega (arith, t.from);
      most = t.most;
      before = λ k a b. ⊎_elim (λ w. t.before k (omega arith) b) (λ w. (let z : k ≡ i = omega arith in ap f z ∙ sym p)) (less_or i k);
      here = t.here;
    })

pub first_found : {f : ℕ → Bool} {n bad : ℕ} → FirstFrom f n 0 bad → bad ≡ first_true f n
first_found {f} {n} {bad} t = sym (first_is f n bad t.most (λ k q. t.before k (omega arith) q) t.here)

-- What a pass leaves: all is read, or one is bad.
module _ {was keys : List ℕ} {rs : List Run} {last : Last} (s : Stands was rs keys last) (all : List Run) (e : rs ≡ all) (h : length rs ≤ 15) (bad end : ℕ) where
  left-is : keys ≡ at_front (map run_key all) was
  left-is = s.keys_are ∙ ap (λ (z : List Run). at_front (map run_key z) was) e

  stands-is : key_runs (map run_key all) ≡ all
  stands-is = rw (← e) (keys_back rs s.small)

  counted : last.count ≡ length all
  counted = stands_count s ∙ ap length e

  pub pass_made : end ≤ bad → Passes true all bad end was keys (Ok last.count)
  pass_made f =
      record {
        answer = rw (le-ltb bad end f) (ap (λ (n : ℕ). Ok n) counted);
        left = left-is;
        held = omega (arith, stands_count s);
        stands = λ q. stands-is;
      }

  pub pass_bad : (place : ℕ) → place ≡ bad → bad < end → Passes true all bad end was keys (bad_number_at last.count place)
  pass_bad place p f =
      record {
        answer = rw (lt-ltb bad end f) (λ i. bad_number_at (counted i) (p i));
        left = left-is;
        held = omega (arith, stands_count s);
        stands = λ q. stands-is;
      }

-- What fits: at most 30 octets, and room for 15 keys.
pub record Fits (n m : ℕ) : Type 0 where
  pub most : n ≤ 30
  pub room : 15 ≤ m

pub parts_fit : (n room : ℕ) → Fits n room → fits n room ≡ true
parts_fit n room f = rw (le-leb n 30 f.most, le-leb 15 room f.room)

-- below the next number is at most this one
pub below_next : (a b : ℕ) → ltb a (b + 1) ≡ leb a b
below_next a b = ⊎_elim (λ w. lt-ltb a (b + 1) (omega arith) ∙ sym (le-leb a b (omega arith))) (λ w. le-ltb a (b + 1) w ∙ sym (lt-leb a b (omega arith))) (less_or a (b + 1))

-- no runs only of no pieces
pub range_none : (lo hi : ℕ → ℕ) (n : ℕ) → eqb n 0 ≡ eqb (length (range_runs lo hi n)) 0
range_none lo hi zero = refl
range_none lo hi (suc n) = ne_eqb (suc n) 0 (λ e. omega arith) ∙ sym (ne_eqb (length (range_runs lo hi (suc n))) 0 (λ e. omega (arith, push_some (lo n) (hi n) (range_runs lo hi n))))

pub left_none : (j n : ℕ) → j ≤ n → eqb j n ≡ eqb (n - j) 0
left_none j n h = ⊎_elim (λ w. ne_eqb j n (λ e. omega arith) ∙ sym (ne_eqb (n - j) 0 (λ e. omega arith))) (λ w. eq-eqb j n (omega arith) ∙ sym (eq-eqb (n - j) 0 (omega arith))) (less_or j n)

pub limit_is : (b : List ℕ) (j : ℕ) → 0 < j → limit_at b j ≡ bottom_at b (j - 1)
limit_is b j h = rw (ne_eqb j 0 (λ e. omega arith))

-- Tag 5: a top that is not below the limit is 65535, or not below the bottom before it.
pub bad_pair_is : (b : List ℕ) (j : ℕ) → top_at b j < 65536 → limit_at b j < 65536 → (ltb (top_at b j) (bottom_at b j) || ltb (limit_at b j) (top_at b j + 1)) ≡ bad_pair b j
bad_pair_is b zero t l = rw (below_next 65535 (top_at b zero)) (⊎_elim
    (λ w. rw (ne_eqb (top_at b zero) 65535 (λ e. omega arith), lt-leb 65535 (top_at b zero) w))
    (λ w. rw (eq-eqb (top_at b zero) 65535 (omega arith), le-leb 65535 (top_at b zero) w) (or-true (ltb (top_at b zero) (bottom_at b zero))))
    (less_or (top_at b zero) 65535))
bad_pair_is b (suc j) t l = rw (limit_is b (suc j) (omega arith), below_next (bottom_at b (suc j - 1)) (top_at b (suc j)), lt-ltb 0 (suc j) (omega arith)) (⊎_elim
    (λ w. rw (ne_eqb (top_at b (suc j)) 65535 (λ e. omega arith)))
    (λ w. rw (eq-eqb (top_at b (suc j)) 65535 (omega arith), le-leb (bottom_at b (suc j - 1)) (top_at b (suc j)) (omega (arith, limit_is b (suc j) (omega arith), l))) (or-true (ltb (top_at b (suc j)) (bottom_at b (suc j)))))
    (less_or (top_at b (suc j)) 65535))
