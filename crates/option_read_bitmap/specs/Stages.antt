-- How the engines go, bit by bit and octet by octet; no public contract names this.
use Rattle.std.specs.Prelude.{◌≡◌, List, [], ◌∷◌, map, ℕ, ◌+◌, ◌-◌, ◌≤◌, ◌<◌, length, get_or, take, drop}
use Rattle.label.specs.declared.Run.{Run}
use Rattle.label.specs.Runs.{top_of}
use Rattle.label_keys.specs.Keys.{run_key}
use Rattle.option.specs.Bitmap.{bit_at}
use Rattle.option.specs.Index.{set_runs}
use Rattle.option_read_bitmap.specs.declared.Last.{Last}
use Rattle.option_read_bitmap.specs.Bitmap.{bitmap_runs, in_place}

-- keys moved up: the first by one number, the others by another
abbrev pub headed : ℕ → ℕ → List ℕ → List ℕ
headed head base [] = []
headed head base (p ∷ ps) = (head + p) ∷ map (λ q. base + q) ps

-- the bit says whether the last run ends before category c
pub record Ends (rs : List Run) (c bit : ℕ) : Type 0 where
  pub small : bit ≤ 1
  pub touches : bit ≡ 1 → (0 < length rs) × (top_of rs ≡ c)
  pub apart : (bit ≡ 1 → ⊥) → 0 < length rs → top_of rs < c

-- the key that is remembered is the last one written
abbrev pub LastKey : List ℕ → Last → Type 0
LastKey ks s = 0 < s.count → s.key ≡ get_or ks (s.count - 1) 0

-- the categories below c are read: the keys of their runs are written
pub record Stands (b : List ℕ) (c : ℕ) (ks : List ℕ) (s : Last) : Type 0 where
  pub count_is : s.count ≡ length (set_runs (bit_at b) c)
  pub keys_are : take s.count ks ≡ map run_key (set_runs (bit_at b) c)
  pub ends : Ends (set_runs (bit_at b) c) c s.bit
  pub key_is : LastKey ks s

-- a turn of either engine: then the categories below c are read, and what stands after the keys stays
abbrev pub Turn : List ℕ → ℕ → List ℕ → Last → List ℕ → Last → Type 0
Turn b c ks s ks' s' = Stands b c ks' s' × (s.count ≤ s'.count) × (drop s'.count ks' ≡ drop s'.count ks) × (length ks' ≡ length ks)

-- all categories are read
abbrev pub Filled : List ℕ → List ℕ → List ℕ → ℕ → Type 0
Filled b ks ks' n = (n ≡ length (bitmap_runs b)) × (ks' ≡ in_place (bitmap_runs b) ks)
