-- One octet of the engine: the keys that it writes are those of the runs read so far.
use Prim.Native.Nat.{ℕ, suc, ◌+◌, ◌*◌, ◌/◌, ◌%◌, ◌≤◌, ◌<◌, zero-le}
use mathlib.Core.Path.{◌≡◌, refl, ap, sym, ◌∙◌}
use mathlib.Core.List.{List, [], ◌∷◌, ◌++◌, map, append-nil, append_assoc}
use mathlib.Core.Bool.{Bool}
use lib.ListN.{length, get_or, take, drop, length-append, length-map}
use lib.Seq.{sets, sets-eq, take_at, drop_at, length-take-le}
use lib.Dec.{eqb}
use native.Mathlib.Omega.{arith}
use borrow.Author.Tests.{eq-eqb, ne_eqb}
use Rattle.label.specs.declared.Run.{Run}
use Rattle.label.specs.Runs.{run, top_of, joined}
use Rattle.label.proofs.Canon.{Canon, canon_length}
use Rattle.label.proofs.Push.{push_top, push_some}
use Rattle.option.specs.Bitmap.{bit_at}
use Rattle.option.specs.Reading.{bit_pieces}
use Rattle.option.specs.Index.{set_runs}
use Rattle.option.proofs.Pieces.{joined_good, bits_falling}
use Rattle.option.proofs.Bridge.{set_joined}
use Rattle.label_keys.specs.Keys.{key_run, key_runs, run_key}
use Rattle.option_read_bitmap.specs.Stages.{headed, Ends}
use Rattle.option_read_octet.proofs.Rule.{first_low}
use Rattle.option_read_bitmap.proofs.Join.{shift_run, shifted, join_runs, push_apart, push_touch, set_top}

-- Keys of runs.

pub keys_append : (xs ys : List Run) → map run_key (xs ++ ys) ≡ map run_key xs ++ map run_key ys
keys_append [] ys = refl
keys_append (x ∷ xs) ys = ap (λ (z : List ℕ). run_key x ∷ z) (keys_append xs ys)

-- c categories further up is one sum
moved : (c p : ℕ) → run_key (shift_run c (key_run p)) ≡ c * 65537 + p
moved c p = omega arith

keys_moved : (c : ℕ) (ps : List ℕ) → map run_key (shifted c (key_runs ps)) ≡ map (λ q. c * 65537 + q) ps
keys_moved c [] = refl
keys_moved c (p ∷ ps) = λ i. moved c p i ∷ keys_moved c ps i

-- the first run of the octet does not touch the last one
pub apart_keys : (c : ℕ) (xs : List Run) (ps : List ℕ) → (0 < length xs → top_of xs ≡ c + first_low (key_runs ps) → ⊥)
    → map run_key (join_runs xs (shifted c (key_runs ps))) ≡ map run_key xs ++ headed (c * 65537) (c * 65537) ps
apart_keys c xs [] n = sym (append-nil (map run_key xs))
apart_keys c xs (p ∷ ps) n =
    let y : Run = shift_run c (key_run p) in
    let ys : List Run = shifted c (key_runs ps) in
    ap (λ (z : List Run). map run_key (z ++ ys)) (push_apart y.low y.high xs n)
    ∙ ap (λ (z : List Run). map run_key z) (append_assoc xs (y ∷ []) ys)
    ∙ keys_append xs (y ∷ ys)
    ∙ ap (λ (z : List ℕ). map run_key xs ++ z) (keys_moved c (p ∷ ps))

-- it goes on from the last one
pub touch_keys : (c : ℕ) (ys : List Run) (q : Run) (ps : List ℕ) → 0 < length ps → first_low (key_runs ps) ≡ 0 → q.high + 1 ≡ c
    → map run_key (join_runs (ys ++ q ∷ []) (shifted c (key_runs ps))) ≡ map run_key ys ++ headed (run_key q + 1) (c * 65537) ps
touch_keys c ys q [] n z t = absurd (omega arith)
touch_keys c ys q (p ∷ ps) n z t =
    let h : ℕ = c + p % 65536 in
    let zs : List Run = shifted c (key_runs ps) in
    let low : q.high + 1 ≡ c + p / 65536 = omega (arith, z) in
    let key : q.low * 65536 + h ≡ q.low * 65536 + q.high + 1 + p = omega (arith, z) in
    ap (λ (w : List Run). map run_key (w ++ zs)) (push_touch (c + p / 65536) h ys q low)
    ∙ ap (λ (w : List Run). map run_key w) (append_assoc ys (run q.low h ∷ []) zs)
    ∙ keys_append ys (run q.low h ∷ zs)
    ∙ (λ i. map run_key ys ++ key i ∷ keys_moved c ps i)

-- What stands in the list after the stores.
module _ (ks vs zs : List ℕ) (at n : ℕ) (room : at + n ≤ length ks) (long : length vs ≡ n) (e : zs ≡ take at ks ++ vs) where
  front : length (take at ks ++ vs) ≡ at + n
  front = omega (arith, length-append (take at ks) vs, length-take-le at ks (omega arith))

  stored : sets ks at vs ≡ take at ks ++ vs ++ drop (at + n) ks
  stored = rw (← long) (sets-eq vs ks at (omega arith))

  pub stored_count : at + n ≡ length zs
  stored_count = sym front ∙ ap length (sym e)

  pub stored_keys : take (at + n) (sets ks at vs) ≡ zs
  stored_keys = ap (take (at + n)) stored ∙ take_at (take at ks ++ vs) (drop (at + n) ks) (at + n) front ∙ sym e

  pub stored_rest : drop (at + n) (sets ks at vs) ≡ drop (at + n) ks
  stored_rest = ap (drop (at + n)) stored ∙ drop_at (take at ks ++ vs) (drop (at + n) ks) (at + n) front

pub headed_length : (h b : ℕ) (ps : List ℕ) → length (headed h b ps) ≡ length ps
headed_length h b [] = refl
headed_length h b (p ∷ ps) = ap suc (length-map ps (λ q. b + q))

-- Of the runs of a bitmap.

canon_bits : (f : ℕ → Bool) (n : ℕ) → Canon 0 (set_runs f n)
canon_bits f n = rw (set_joined f n) (joined_good n (bit_pieces f n) (bits_falling f n)).0

pub most_bits : (f : ℕ → Bool) (n : ℕ) → 2 * length (set_runs f n) ≤ n + 1
most_bits f n =
    let g = joined_good n (bit_pieces f n) (bits_falling f n) in
    omega (arith, ap length (set_joined f n), canon_length n 0 (joined (bit_pieces f n)) g.0 g.1 zero-le)

pub most_runs : (f : ℕ → Bool) (i : ℕ) → length (set_runs f (8 * i)) ≤ 4 * i
most_runs f i = omega (arith, most_bits f (8 * i))

-- the last run of a list
pub record Final (rs : List Run) : Type 0 where
  pub front : List Run
  pub last : Run
  pub is : rs ≡ front ++ last ∷ []
  pub count : length front + 1 ≡ length rs
  pub top : top_of rs ≡ last.high + 1

pub final : (rs : List Run) → 0 < length rs → Final rs
final [] h = absurd (omega arith)
final (r ∷ []) h = record { front = []; last = r; is = refl; count = refl; top = refl }
final (r ∷ s ∷ rs) h =
    let f = final (s ∷ rs) (omega arith) in
    record { front = r ∷ f.front; last = f.last; is = ap (λ (z : List Run). r ∷ z) f.is; count = omega (arith, f.count); top = f.top }

canon_final : (lo : ℕ) (xs : List Run) (q : Run) → Canon lo (xs ++ q ∷ []) → q.low ≤ q.high
canon_final lo [] q k = k.1
canon_final lo (x ∷ xs) q k = canon_final (x.high + 2) xs q k.2

pub final_low : (f : ℕ → Bool) (n : ℕ) (g : Final (set_runs f n)) → g.last.low ≤ g.last.high
final_low f n g = canon_final 0 g.front g.last (rw g.is at (canon_bits f n))

-- whether the last run ends with an octet is the octet's last bit
pub ends_next : (b : List ℕ) (i x : ℕ) → x ≡ get_or b i 0 → Ends (set_runs (bit_at b) (8 * i + 8)) (8 * i + 8) (x % 2)
ends_next b i x e =
    let n : ℕ = 8 * i + 7 in
    let p : n / 8 ≡ i = omega arith in
    let q : n % 8 ≡ 7 = omega arith in
    let d : x / 1 ≡ x = omega arith in
    let bit : bit_at b n ≡ eqb (x % 2) 1 = rw (p, q, ← e, d) in
    let last : 8 * i + 8 ≡ suc n = omega arith in
    rw last
    (record {
      small = omega arith;
      touches = λ t. rw (bit, eq-eqb (x % 2) 1 t) (push_some n n (set_runs (bit_at b) n), omega (arith, push_top n n (set_runs (bit_at b) n)));
      apart = λ t k. rw (bit, ne_eqb (x % 2) 1 t) (omega (arith, set_top (bit_at b) n));
    })
