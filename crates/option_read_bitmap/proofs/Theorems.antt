-- The theorem: both engines agree.
use Prim.Native.Nat.{ℕ, ◌*◌, ◌≤◌, ◌<◌}
use mathlib.Core.Path.{◌≡◌, refl, ap, sym, ◌∙◌}
use mathlib.Core.List.{List, map}
use lib.ListN.{length, take, drop, length-map}
use lib.Seq.{take_at}
use native.Mathlib.Omega.{arith}
use borrow.Author.Tests.{lt-ltb, le-ltb}
use Rattle.label.specs.declared.Run.{Run}
use Rattle.label.specs.Runs.{joined}
use Rattle.label.specs.Label.{label_of}
use Rattle.label.proofs.Canon.{Below, below_weaken}
use Rattle.label_keys.proofs.Keys.{keys_back}
use Rattle.option.specs.Bitmap.{bit_at}
use Rattle.option.specs.Reading.{bit_pieces, pieces}
use Rattle.option.proofs.Pieces.{joined_good, bits_falling}
use Rattle.option.proofs.Bridge.{set_joined}
use Rattle.label_keys.specs.Keys.{key_runs, run_key}
use Rattle.option_read_bitmap.specs.Bitmap.{row_of, bitmap_runs, bitmap_number, bitmap_found, in_place, bitmap_keys}
use Rattle.std.specs.Prelude.{Ok, Err}
use Rattle.option_read_bitmap.specs.declared.BitmapError.TheVariants.{Short, Long}
use Rattle.option_read_bitmap.specs.Theorems.{Answer, Agree}
use Rattle.option_read_bitmap.proofs.Step.{most_runs}

-- the runs of a bitmap lie below its length, and a list with room holds them
module _ (b : List ℕ) (h : length b ≤ 30) where
  pub bitmap_below : Below 65536 (bitmap_runs b)
  bitmap_below =
      let n : ℕ = 8 * length b in
      let g = joined_good n (bit_pieces (bit_at b) n) (bits_falling (bit_at b) n) in
      below_weaken n 65536 (bitmap_runs b) (omega arith) (rw (set_joined (bit_at b) n) g.1)

  pub bitmap_most : length (bitmap_runs b) ≤ 120
  bitmap_most = omega (arith, most_runs (bit_at b) (length b))

  module _ (ks : List ℕ) (room : 120 ≤ length ks) where
    done : bitmap_number b (length ks) ≡ 0
    done = rw (le-ltb (length ks) 120 room, le-ltb 30 (length b) h)

    pub bitmap_found_lem : bitmap_found b (length ks) ≡ Ok (length (bitmap_runs b))
    unfolding bitmap_found
    bitmap_found_lem = rw (le-ltb (length ks) 120 room, le-ltb 30 (length b) h)

    pub bitmap_keys_lem : bitmap_keys b ks ≡ in_place (bitmap_runs b) ks
    unfolding bitmap_keys
    bitmap_keys_lem = rw done

-- What each way out answers.

module _ (b ks : List ℕ) where
  pub found_short : length ks < 120 → Answer b ks (Err Short) ks
  unfolding bitmap_found bitmap_keys
  found_short h = (rw (lt-ltb (length ks) 120 h), rw (lt-ltb (length ks) 120 h))

  pub found_long : 120 ≤ length ks → 30 < length b → Answer b ks (Err Long) ks
  unfolding bitmap_found bitmap_keys
  found_long room h = (rw (le-ltb (length ks) 120 room, lt-ltb 30 (length b) h), rw (le-ltb (length ks) 120 room, lt-ltb 30 (length b) h))

read_means : (d v : ℕ) (b ks : List ℕ) → length b ≤ 30 → 120 ≤ length ks
    → label_of d v (key_runs (take (length (bitmap_runs b)) (bitmap_keys b ks))) ≡ label_of d v (joined (pieces 1 b))
unfolding pieces
read_means d v b ks h room =
    let n : ℕ = 8 * length b in
    let rs : List Run = bitmap_runs b in
    let keys : take (length rs) (in_place rs ks) ≡ map run_key rs = take_at (map run_key rs) (drop (length rs) ks) (length rs) (length-map rs run_key) in
    let same : key_runs (take (length rs) (bitmap_keys b ks)) ≡ rs =
    ap (λ (z : List ℕ). key_runs (take (length rs) z)) (bitmap_keys_lem b h ks room) ∙ ap key_runs keys ∙ keys_back rs (bitmap_below b h) in
    ap (label_of d v) (same ∙ set_joined (bit_at b) n)

pub agree : Agree
agree =
    record {
      same = λ b ks f g ks' ks'' p q. (p.0 ∙ sym q.0, p.1 ∙ sym q.1);
      means = λ d v b ks f ks' h room p.
          let e = ap (λ (z : List ℕ). label_of d v (key_runs (take (length (bitmap_runs b)) z))) p.1 ∙ read_means d v b ks h room in
          rw (p.0 ∙ bitmap_found_lem b h ks room) (e, refl, e);
      long = λ b ks f ks' h room p. let e = found_long b ks room h in (p.0 ∙ sym e.0, ap row_of (p.0 ∙ sym e.0), p.1 ∙ sym e.1);
      short = λ b ks f ks' h p. let e = found_short b ks h in (p.0 ∙ sym e.0, ap row_of (p.0 ∙ sym e.0), p.1 ∙ sym e.1);
    }
