-- Where an engine stands: the last run, what a store of keys makes of it, the start and the end.
use Prim.Native.Nat.{ℕ, ◌+◌, ◌-◌, ◌*◌, ◌≤◌, ◌<◌}
use mathlib.Core.Path.{◌≡◌, refl, ap, sym, ◌∙◌}
use mathlib.Core.List.{List, [], ◌∷◌, ◌++◌, map}
use lib.ListN.{length, get_or, take, drop, length-map, take-append-drop}
use lib.Seq.{sets, length-sets, take_at, get_or_at, get_or-take, take-take, drop-drop}
use native.Mathlib.Omega.{arith}
use Rattle.label.specs.declared.Run.{Run}
use Rattle.option.specs.Bitmap.{bit_at}
use Rattle.option.specs.Index.{set_runs}
use Rattle.option_read_bitmap.specs.declared.Last.{Last}
use Rattle.label_keys.specs.Keys.{run_key}
use Rattle.option_read_bitmap.specs.Bitmap.{bitmap_runs}
use Rattle.option_read_bitmap.specs.Stages.{Ends, LastKey, Stands, Turn, Filled}
use Rattle.option_read_bitmap.proofs.Step.{keys_append, stored_count, stored_keys, stored_rest, Final, final, final_low}

-- what writing keys from a place on leaves
abbrev pub Put : List ℕ → ℕ → ℕ → ℕ → List ℕ → List ℕ → Last → Type 0
Put ks at n bit vs ks' r = (r.count ≡ at + n) × (r.bit ≡ bit) × LastKey ks' r × (ks' ≡ sets ks at vs)

module _ (b : List ℕ) (c : ℕ) (ks : List ℕ) (s : Last) (st : Stands b c ks s) where
  -- the keys of the categories below m are written from a place on
  pub written : (m at n bit : ℕ) (vs : List ℕ) → s.count ≤ at + n → at + n ≤ length ks → length vs ≡ n → Ends (set_runs (bit_at b) m) m bit
      → map run_key (set_runs (bit_at b) m) ≡ take at ks ++ vs
      → (ks' : List ℕ) (r : Last) → Put ks at n bit vs ks' r → Turn b m ks s ks' r
  written m at n bit vs more room long ends w ks' r p =
      let zs : List ℕ = map run_key (set_runs (bit_at b) m) in (
        record {
          count_is = p.0 ∙ stored_count ks vs zs at n room long w ∙ length-map (set_runs (bit_at b) m) run_key;
          keys_are = (λ j. take (p.0 j) (p.3 j)) ∙ stored_keys ks vs zs at n room long w;
          ends = rw p.1 ends;
          key_is = p.2;
        },
        omega (arith, p.0),
        (λ j. drop (p.0 j) (p.3 j)) ∙ stored_rest ks vs zs at n room long w ∙ ap (λ (m : ℕ). drop m ks) (sym p.0),
        ap length p.3 ∙ length-sets ks at vs,
      )

  -- the last run ends before category c
  module _ (one : s.bit ≡ 1) where
    abbrev xs : List Run
    xs = set_runs (bit_at b) c

    pub last_there : 0 < s.count
    last_there = omega (arith, st.count_is, (st.ends.touches one).0)

    pub fin : Final xs
    fin = final xs (st.ends.touches one).0

    front_count : length (map run_key fin.front) ≡ s.count - 1
    front_count = omega (arith, length-map fin.front run_key, fin.count, st.count_is)

    keys_split : take s.count ks ≡ map run_key fin.front ++ run_key fin.last ∷ []
    keys_split = st.keys_are ∙ ap (λ (z : List Run). map run_key z) fin.is ∙ keys_append fin.front (fin.last ∷ [])

    last_key : get_or ks (s.count - 1) 0 ≡ run_key fin.last
    last_key =
        sym (get_or-take s.count ks (s.count - 1) 0 (omega (arith, last_there)))
        ∙ ap (λ (z : List ℕ). get_or z (s.count - 1) 0) keys_split
        ∙ get_or_at (map run_key fin.front) (run_key fin.last) [] 0 (s.count - 1) front_count

    pub front_keys : take (s.count - 1) ks ≡ map run_key fin.front
    front_keys =
        sym (take-take (s.count - 1) s.count ks (omega arith))
        ∙ ap (take (s.count - 1)) keys_split
        ∙ take_at (map run_key fin.front) (run_key fin.last ∷ []) (s.count - 1) front_count

    pub touching : fin.last.high + 1 ≡ c
    touching = omega (arith, fin.top, (st.ends.touches one).1)

    pub key_there : s.key ≡ run_key fin.last
    key_there = st.key_is last_there ∙ last_key

    pub last_small : c ≤ 240 → s.key ≤ 90000000
    last_small h = omega (arith, key_there, touching, final_low (bit_at b) c fin)

-- before the first bit
pub stands_start : (b ks : List ℕ) → Stands b 0 ks (record { count = 0; key = 0; bit = 0 })
stands_start b ks =
    record {
      count_is = refl;
      keys_are = refl;
      ends = record { small = omega arith; touches = λ t. absurd (omega arith); apart = λ t n. absurd (omega arith) };
      key_is = λ h. absurd (omega arith);
    }

-- what stays from one place on stays from a later one on
pub stays : (m n : ℕ) (xs ys zs : List ℕ) → m ≤ n → drop n xs ≡ drop n ys → drop m ys ≡ drop m zs → drop n xs ≡ drop n zs
stays m n xs ys zs h e f =
    let k : m + (n - m) ≡ n = omega arith in
    let more : (l : List ℕ) → drop (n - m) (drop m l) ≡ drop n l = λ l. drop-drop (n - m) m l ∙ ap (λ (j : ℕ). drop j l) k in
    e ∙ sym (more ys) ∙ ap (drop (n - m)) f ∙ more zs

-- after the last one
pub stands_end : (b ks rest : List ℕ) (c : ℕ) (s : Last) → c ≡ 8 * length b → Stands b c ks s → drop s.count ks ≡ drop s.count rest
    → Filled b rest ks s.count
stands_end b ks rest c s e st d =
    let runs : set_runs (bit_at b) c ≡ bitmap_runs b = ap (set_runs (bit_at b)) e in
    let count : s.count ≡ length (bitmap_runs b) = st.count_is ∙ ap length runs in
    let keys : ks ≡ map run_key (bitmap_runs b) ++ drop (length (bitmap_runs b)) rest =
    sym (take-append-drop s.count ks)
    ∙ ap (λ (z : List ℕ). z ++ drop s.count ks) (st.keys_are ∙ ap (λ (z : List Run). map run_key z) runs)
    ∙ ap (λ (z : List ℕ). map run_key (bitmap_runs b) ++ z) (d ∙ ap (λ (j : ℕ). drop j rest) count) in
    (count, keys)
