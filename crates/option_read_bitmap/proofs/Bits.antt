-- A turn of the first engine: where it stands after one bit.
use Prim.Native.Nat.{ℕ, ◌+◌, ◌-◌, ◌*◌, ◌/◌, ◌%◌, ◌≤◌, ◌<◌}
use mathlib.Core.Path.{◌≡◌, refl, ap, sym, ◌∙◌}
use mathlib.Core.List.{List, [], ◌∷◌, ◌++◌, map}
use mathlib.Core.Bool.{true, false}
use lib.ListN.{length, get_or, take, set, length-append}
use lib.Seq.{get_or-set_same}
use native.Mathlib.Omega.{arith}
use native.Mathlib.Numerals.{add-one}
use borrow.Author.Tests.{eq-eqb, ne_eqb}
use Rattle.label.specs.declared.Run.{Run}
use Rattle.label.specs.Runs.{run, push_run, top_of}
use Rattle.label.proofs.Push.{push_top, push_some}
use Rattle.option.specs.Bitmap.{weight, bit_at}
use Rattle.option.specs.Index.{set_runs}
use Rattle.option_read_bitmap.specs.declared.Last.{Last}
use Rattle.label_keys.specs.Keys.{run_key}
use Rattle.option_read_bitmap.specs.Stages.{Ends, Stands, Turn}
use Rattle.option_read_bitmap.proofs.Join.{push_apart, push_touch, set_top}
use Rattle.option_read_bitmap.proofs.Step.{keys_append, most_bits}
use Rattle.option_read_bitmap.proofs.LastRun.{written, last_there, fin, front_keys, touching, key_there, last_small}

module _ (b : List ℕ) (c : ℕ) (ks : List ℕ) (s : Last) (inside : c < 8 * length b) (short : length b ≤ 30) (st : Stands b c ks s) (places : 120 ≤ length ks) (bit : ℕ) (bit_is : bit ≡ get_or b (c / 8) 0 / weight (c % 8) % 2) where
  abbrev xs : List Run
  xs = set_runs (bit_at b) c

  pub few_bits : s.count ≤ 120
  few_bits = omega (arith, st.count_is, most_bits (bit_at b) c)

  -- a bit 0 changes nothing
  pub bit_clear : bit ≡ 0 → Turn b (c + 1) ks s ks (record { count = s.count; key = s.key; bit = 0 })
  bit_clear z =
      let clear : bit_at b c ≡ false = ne_eqb (get_or b (c / 8) 0 / weight (c % 8) % 2) 1 (λ e. let u : bit ≡ 1 = bit_is ∙ e in absurd (omega arith)) in
      let none : set_runs (bit_at b) (c + 1) ≡ xs = rw (add-one c, clear) in (
        record {
          count_is = rw none st.count_is;
          keys_are = rw none st.keys_are;
          ends = rw none (record { small = omega arith; touches = λ t. absurd (omega arith); apart = λ t n. omega (arith, set_top (bit_at b) c) });
          key_is = st.key_is;
        },
        omega arith,
        refl,
        refl,
      )

  module _ (full : bit ≡ 0 → ⊥) (small : bit < 2) where
    next_runs : set_runs (bit_at b) (c + 1) ≡ push_run xs c c
    next_runs =
        let u : bit ≡ 1 = omega arith in
        let one : bit_at b c ≡ true = eq-eqb (get_or b (c / 8) 0 / weight (c % 8) % 2) 1 (sym bit_is ∙ u) in
        rw (add-one c, one)

    next_ends : Ends (set_runs (bit_at b) (c + 1)) (c + 1) 1
    next_ends = rw next_runs (record { small = omega arith; touches = λ t. (push_some c c xs, push_top c c xs); apart = λ t n. absurd (t refl) })

    -- it goes on from the last run
    module _ (one : s.bit ≡ 1) where
      pub bit_there : 0 < s.count
      bit_there = last_there b c ks s st one

      pub bit_small : s.key ≤ 90000000
      bit_small = last_small b c ks s st one (omega arith)

      pub bit_goes_on : Turn b (c + 1) ks s (set ks (s.count - 1) (s.key + 1)) (record { count = s.count; key = s.key + 1; bit = 1 })
      bit_goes_on =
          let f = fin b c ks s st one in
          let t = touching b c ks s st one in
          let key : s.key + 1 ≡ run_key (run f.last.low c) = omega (arith, key_there b c ks s st one) in
          let runs : set_runs (bit_at b) (c + 1) ≡ f.front ++ run f.last.low c ∷ [] =
          next_runs ∙ ap (λ (z : List Run). push_run z c c) f.is ∙ push_touch c c f.front f.last t in
          let keys : map run_key (set_runs (bit_at b) (c + 1)) ≡ take (s.count - 1) ks ++ (s.key + 1) ∷ [] =
          ap (λ (z : List Run). map run_key z) runs
          ∙ keys_append f.front (run f.last.low c ∷ [])
          ∙ (λ i. sym (front_keys b c ks s st one) i ++ sym key i ∷ []) in
          written b c ks s st (c + 1) (s.count - 1) 1 1 ((s.key + 1) ∷ []) (omega arith) (omega (arith, few_bits, bit_there)) refl next_ends keys _ _
          (omega (arith, bit_there), refl, λ h. sym (get_or-set_same ks (s.count - 1) (s.key + 1) 0 (omega (arith, few_bits))), refl)

    -- it is a run of its own
    module _ (n : s.bit ≡ 1 → ⊥) where
      run_more : set_runs (bit_at b) (c + 1) ≡ xs ++ run c c ∷ []
      run_more =
          let away : 0 < length xs → top_of xs ≡ c → ⊥ = λ h e. absurd (omega (arith, st.ends.apart n h)) in
          next_runs ∙ push_apart c c xs away

      pub bit_room : s.count < 120
      bit_room = omega (arith, st.count_is, ap length run_more, length-append xs (run c c ∷ []), most_bits (bit_at b) (c + 1))

      pub bit_apart : Turn b (c + 1) ks s (set ks s.count (c * 65537)) (record { count = s.count + 1; key = c * 65537; bit = 1 })
      bit_apart =
          let key : c * 65537 ≡ run_key (run c c) = omega arith in
          let keys : map run_key (set_runs (bit_at b) (c + 1)) ≡ take s.count ks ++ (c * 65537) ∷ [] =
          ap (λ (z : List Run). map run_key z) run_more
          ∙ keys_append xs (run c c ∷ [])
          ∙ (λ i. sym st.keys_are i ++ sym key i ∷ []) in
          let place : s.count + 1 - 1 ≡ s.count = omega arith in
          written b c ks s st (c + 1) s.count 1 1 ((c * 65537) ∷ []) (omega arith) (omega (arith, bit_room)) refl next_ends keys _ _
          (refl, refl, λ h. rw place (sym (get_or-set_same ks s.count (c * 65537) 0 (omega (arith, bit_room)))), refl)
