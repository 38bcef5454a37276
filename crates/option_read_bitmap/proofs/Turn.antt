-- A turn of the engine: where it stands after an octet.
use Prim.Native.Nat.{ℕ, suc, ◌+◌, ◌-◌, ◌*◌, ◌/◌, ◌%◌, ◌≤◌, ◌<◌}
use mathlib.Core.Path.{◌≡◌, refl, ap, sym, ◌∙◌}
use mathlib.Core.List.{List, [], ◌∷◌, ◌++◌, map}
use mathlib.Core.Logic.{⊎_elim}
use lib.ListN.{length, get_or, take, set}
use lib.Seq.{get_or-set_same, length-take-le}
use native.Mathlib.Omega.{arith}
use Rattle.label.specs.declared.Run.{Run}
use Rattle.label.specs.Runs.{top_of}
use Rattle.label.proofs.Bools.{less_or}
use Rattle.option.specs.Bitmap.{bit_at}
use Rattle.option.specs.Index.{set_runs}
use Rattle.option_read_bitmap.specs.declared.Last.{Last}
use Rattle.label_keys.specs.Keys.{key_runs, run_key}
use Rattle.option_read_octet.specs.Entry.{part_of, count_in, parts_in, octet_runs, Right}
use Rattle.option_read_bitmap.specs.Stages.{headed, Ends, Stands, Turn}
use Rattle.option_read_octet.proofs.Rule.{first_low, first_high, octet_some, octet_first, octet_later}
use Rattle.option_read_bitmap.proofs.Join.{shifted, join_runs, octet_joined, set_top}
use Rattle.option_read_bitmap.proofs.Step.{apart_keys, touch_keys, headed_length, most_runs, ends_next}
use Rattle.option_read_bitmap.proofs.LastRun.{Put, written, last_there, fin, front_keys, touching, key_there, last_small}

module _ (b : List ℕ) (i e : ℕ) (ks : List ℕ) (s : Last) (inside : i < length b) (short : length b ≤ 30) (right : Right (get_or b i 0) e) (st : Stands b (8 * i) ks s) (places : 120 ≤ length ks) where
  abbrev xs : List Run
  xs = set_runs (bit_at b) (8 * i)

  next_place : 8 * (i + 1) ≡ 8 * i + 8
  next_place = omega arith

  next_runs : set_runs (bit_at b) (8 * (i + 1)) ≡ join_runs xs (shifted (8 * i) (key_runs (parts_in e)))
  next_runs =
      ap (set_runs (bit_at b)) next_place
      ∙ octet_joined b i
      ∙ ap (λ (z : List Run). join_runs xs (shifted (8 * i) z)) (sym right.runs)

  next_ends : (x : ℕ) → x ≡ get_or b i 0 → Ends (set_runs (bit_at b) (8 * (i + 1))) (8 * (i + 1)) (x % 2)
  next_ends x q = rw next_place (ends_next b i x q)

  pub few_keys : s.count ≤ 116
  few_keys = omega (arith, st.count_is, most_runs (bit_at b) i)

  parts_length : length (parts_in e) ≡ count_in e
  parts_length = length-take-le (count_in e) (part_of e ∷ part_of (e / 8) ∷ part_of (e / 64) ∷ part_of (e / 512) ∷ []) right.few

  -- an octet 0 changes nothing
  pub turn_zero : get_or b i 0 ≡ 0 → Turn b (8 * (i + 1)) ks s ks (record { count = s.count; key = s.key; bit = 0 })
  turn_zero z =
      let none : set_runs (bit_at b) (8 * (i + 1)) ≡ xs =
      ap (set_runs (bit_at b)) next_place ∙ octet_joined b i ∙ ap (λ (x : ℕ). join_runs xs (shifted (8 * i) (octet_runs x))) z in
      (record { count_is = rw none st.count_is; keys_are = rw none st.keys_are; ends = next_ends 0 (sym z); key_is = st.key_is }, omega arith, refl, refl)

  module _ (x : ℕ) (octet : x ≡ get_or b i 0) (small : x < 256) (full : x ≡ 0 → ⊥) where
    same_octet : key_runs (parts_in e) ≡ octet_runs x
    same_octet = right.runs ∙ ap octet_runs (sym octet)

    pub some_runs : 1 ≤ count_in e
    some_runs = omega (arith, octet_some x small full, ap length same_octet, parts_length, length_keys (parts_in e))
      where
        length_keys : (ps : List ℕ) → length (key_runs ps) ≡ length ps
        length_keys [] = refl
        length_keys (p ∷ ps) = ap suc (length_keys ps)

    -- the keys are written from a place on
    put : (at head base : ℕ) → at ≤ s.count → s.count ≤ at + 1
        → map run_key (set_runs (bit_at b) (8 * (i + 1))) ≡ take at ks ++ headed head base (parts_in e)
        → (ks' : List ℕ) (r : Last) → Put ks at (count_in e) (x % 2) (headed head base (parts_in e)) ks' r → Turn b (8 * (i + 1)) ks s ks' r
    put at head base lo hi w ks' r p =
        written b (8 * i) ks s st (8 * (i + 1)) at (count_in e) (x % 2) (headed head base (parts_in e)) (omega (arith, some_runs)) (omega (arith, few_keys, right.few))
        (headed_length head base (parts_in e) ∙ parts_length) (next_ends x octet) w ks' r p

    base_is : i * 524296 ≡ 8 * i * 65537
    base_is = omega arith

    -- the octet's first run does not touch the last one
    pub turn_apart : (s.bit + x / 128 ≡ 2 → ⊥)
        → (ks' : List ℕ) (r : Last) → Put ks s.count (count_in e) (x % 2) (headed (i * 524296) (i * 524296) (parts_in e)) ks' r → Turn b (8 * (i + 1)) ks s ks' r
    turn_apart t =
        put s.count (i * 524296) (i * 524296) (omega arith) (omega arith)
        (ap (λ (z : List Run). map run_key z) next_runs ∙ rw (base_is, st.keys_are) (apart_keys (8 * i) xs (parts_in e) away))
      where
        first : first_low (key_runs (parts_in e)) ≡ first_low (octet_runs x)
        first = ap first_low same_octet

        away : 0 < length xs → top_of xs ≡ 8 * i + first_low (key_runs (parts_in e)) → ⊥
        away n q = ⊎_elim (λ w. absurd (omega (arith, first, octet_later x small full w, set_top (bit_at b) (8 * i)))) (λ w. absurd (omega (arith, first, octet_first x small full w, st.ends.apart (λ y. t (omega arith)) n))) (less_or x 128)

    -- it goes on from the last one
    module _ (t : s.bit + x / 128 ≡ 2) where
      bit_one : s.bit ≡ 1
      bit_one = omega (arith, st.ends.small)

      pub some_keys : 0 < s.count
      some_keys = last_there b (8 * i) ks s st bit_one

      pub low_key : s.key ≤ 90000000
      low_key = last_small b (8 * i) ks s st bit_one (omega arith)

      pub turn_touch : (ks' : List ℕ) (r : Last) → Put ks (s.count - 1) (count_in e) (x % 2) (headed (s.key + 1) (i * 524296) (parts_in e)) ks' r → Turn b (8 * (i + 1)) ks s ks' r
      turn_touch =
          let f = fin b (8 * i) ks s st bit_one in
          let first : first_low (key_runs (parts_in e)) ≡ 0 = ap first_low same_octet ∙ octet_first x small full (omega (arith, st.ends.small)) in
          let runs : set_runs (bit_at b) (8 * (i + 1)) ≡ join_runs (f.front ++ f.last ∷ []) (shifted (8 * i) (key_runs (parts_in e))) =
          next_runs ∙ ap (λ (z : List Run). join_runs z (shifted (8 * i) (key_runs (parts_in e)))) f.is in
          let key : s.key + 1 ≡ run_key f.last + 1 = ap (λ (z : ℕ). z + 1) (key_there b (8 * i) ks s st bit_one) in
          put (s.count - 1) (s.key + 1) (i * 524296) (omega arith) (omega (arith, some_keys))
          (ap (λ (z : List Run). map run_key z) runs
          ∙ rw (key, front_keys b (8 * i) ks s st bit_one, base_is) (touch_keys (8 * i) f.front f.last (parts_in e) (omega (arith, parts_length, some_runs)) first (touching b (8 * i) ks s st bit_one)))

  -- an octet of ones goes on from the last run
  module _ (x : ℕ) (octet : x ≡ get_or b i 0) (small : x < 256) (ones : s.bit + x ≡ 256) where
    ones_is : x ≡ 255
    ones_is = omega (arith, st.ends.small)

    ones_full : x ≡ 0 → ⊥
    ones_full z = omega arith

    ones_touch : s.bit + x / 128 ≡ 2
    ones_touch = omega (arith, st.ends.small)

    pub ones_keys : 0 < s.count
    ones_keys = some_keys x octet small ones_full ones_touch

    pub ones_low : s.key ≤ 90000000
    ones_low = low_key x octet small ones_full ones_touch

    ones_parts : parts_in e ≡ 7 ∷ []
    ones_parts = single (parts_in e) (same_octet x octet small ones_full ∙ ap octet_runs ones_is)
      where
        single : (ps : List ℕ) → key_runs ps ≡ octet_runs 255 → ps ≡ 7 ∷ []
        single [] q = let n : ◌≡◌ {A = ℕ} 0 1 = ap length q in absurd (omega arith)
        single (p ∷ []) q =
            let low : p / 65536 ≡ 0 = ap first_low q in
            let high : p % 65536 ≡ 7 = ap first_high q in
            let v : p ≡ 7 = omega arith in
            ap (λ (k : ℕ). k ∷ []) v
        single (p ∷ o ∷ ps) q = let n : suc (suc (length (key_runs ps))) ≡ 1 = ap length q in absurd (omega arith)

    pub turn_ones : Turn b (8 * (i + 1)) ks s (set ks (s.count - 1) (s.key + 8)) (record { count = s.count; key = s.key + 8; bit = 1 })
    turn_ones =
        let one : count_in e ≡ 1 = sym parts_length ∙ ap length ones_parts in
        let moved : s.key + 8 ≡ s.key + 1 + 7 = omega arith in
        let bit : 1 ≡ x % 2 = omega (arith, ones_is) in
        turn_touch x octet small ones_full ones_touch _ _
        (omega (arith, one, ones_keys), bit, λ h. sym (get_or-set_same ks (s.count - 1) (s.key + 8) 0 (omega (arith, few_keys, places))), rw (ones_parts, moved))
