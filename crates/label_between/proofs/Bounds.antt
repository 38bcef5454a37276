-- Laws of a range whose ends are keys: it is that of any two labels with these levels and runs.
use mathlib.Core.Path.{◌≡◌, refl, sym, ◌∙◌, ap}
use mathlib.Core.Bool.{Bool, true, false, cond, ◌&&◌, and-false}
use mathlib.Core.List.{List, [], ◌∷◌}
use Prim.Native.Nat.{ℕ, ◌+◌, ◌-◌, ◌/◌, ◌%◌, ◌≤◌, ◌<◌, min}
use native.Mathlib.Omega.{arith}
use lib.ListN.{length, take, get_or, length-map}
use lib.Dec.{leb}
use borrow.Author.Tests.{le-leb, lt-leb, ne_eqb}
use Rattle.label.specs.declared.Run.{Run}
use Rattle.label.specs.Label.{no_run, label_of}
use Rattle.label.specs.Runs.{passes}
use Rattle.label.proofs.Bools.{same_leb}
use Rattle.label.proofs.Labels.{used_of}
use Rattle.label_keys.specs.Keys.{key_run, key_runs}
use Rattle.label_keys.specs.declared.Look.{Look}
use Rattle.label_keys.specs.declared.Look.TheVariants.{Within, Outside, Open}
use Rattle.label_keys.proofs.Range.{look_none, look_many, look_one}
use Rattle.label_keys.specs.Range.{answered, look_of, runs_between}
use Rattle.label_between.specs.Bounds.{end, pass_between, lies_between}

-- neither the domain nor, of the runs, the level is asked
pub pass_any : (d e v w : ℕ) (lows highs : List ℕ) (rs : List Run)
    → pass_between lows highs rs ≡ runs_between (label_of d v (key_runs lows)) (label_of e w (key_runs highs)) rs
unfolding pass_between runs_between
pass_any d e v w lows highs rs = refl

pub lies_any : (d e low high v : ℕ) (lows highs : List ℕ) (rs : List Run)
    → lies_between low lows high highs v rs
    ≡ answered (look_of (label_of d low (key_runs lows)) (label_of e high (key_runs highs)) v rs) (runs_between (label_of d low (key_runs lows)) (label_of e high (key_runs highs)) rs)
unfolding lies_between pass_between look_of runs_between
lies_any d e low high v lows highs [] = refl
lies_any d e low high v lows highs (r ∷ rs) = refl

-- the pass, over the keys
pub pass_is : (lows highs : List ℕ) (rs : List Run)
    → pass_between lows highs rs ≡ (leb (length lows) 120 && (leb (length highs) 120 && (passes (key_runs lows) rs && passes rs (key_runs highs))))
unfolding pass_between runs_between
pass_is lows highs rs =
    rw (used_of 1 0 (key_runs lows), used_of 1 0 (key_runs highs), length-map lows key_run, length-map highs key_run)

-- the first run of an end with one key
pub end_first : (v : ℕ) (ks : List ℕ) → length ks ≡ 1 → get_or (end v ks).runs 0 no_run ≡ key_run (get_or ks 0 0)
end_first v [] e = absurd (omega arith)
end_first v (k ∷ ks) e = refl

pub end_count : (v : ℕ) (ks : List ℕ) → (end v ks).count ≡ length ks
end_count v ks = length-map ks key_run

-- the answer by a single run
told : (a : Bool) (x y : ℕ) (p : Bool) → answered (cond (a && leb (x + 1) (y + 1)) Within Outside) p ≡ (a && leb x y)
told a x y p = rw (same_leb (x + 1) (y + 1) x y (λ h. omega arith) (λ h. omega arith)) (go (a && leb x y))
  where
    go : (t : Bool) → answered (cond t Within Outside) p ≡ t
    go true = refl
    go false = refl

-- What a first look says, and what the answer is then.
module _ (low : ℕ) (lows : List ℕ) (high : ℕ) (highs : List ℕ) (v : ℕ) (ks : List ℕ) (n : ℕ) where
  abbrev rs : List Run
  rs = key_runs (take n ks)

  abbrev look : Look
  look = look_of (end low lows) (end high highs) v (key_runs (take n ks))

  pub lies_look : (x : Look) → look ≡ x → lies_between low lows high highs v rs ≡ answered x (pass_between lows highs rs)
  unfolding lies_between
  lies_look x e = ap (λ (y : Look). answered y (pass_between lows highs rs)) e

  pub look_low : v < low → look ≡ Outside
  unfolding look_of
  look_low h = simp (lt-leb _ _ h)

  pub look_high : high < v → look ≡ Outside
  unfolding look_of
  look_high h = simp (lt-leb _ _ h, and-false)

  pub look_open : low ≤ v → v ≤ high → (length lows ≡ 0 → ⊥) → look ≡ Open
  unfolding look_of
  look_open a b e =
      let q : (end low lows).count ≡ 0 → ⊥ = λ z. e (sym (end_count low lows) ∙ z) in
      simp (le-leb _ _ a, le-leb _ _ b, ne_eqb _ _ q)

  module _ (m : ℕ) (is : m ≡ min n (length ks)) (a : low ≤ v) (b : v ≤ high) (e : length lows ≡ 0) where
    pub look_empty : m ≡ 0 → look ≡ Within
    look_empty z = look_none (end low lows) (end high highs) v ks n m is a b (end_count low lows ∙ e) z

    pub look_several : 0 < m → (length highs ≡ 1 → ⊥) → look ≡ Open
    look_several h k = look_many (end low lows) (end high highs) v ks n m is a b (end_count low lows ∙ e) h (λ z. k (sym (end_count high highs) ∙ z))

    pub look_single : 0 < m → length highs ≡ 1
        → look ≡ cond (leb (get_or highs 0 0 / 65536) (get_or ks 0 0 / 65536) && leb (get_or ks (m - 1) 0 % 65536 + 1) (get_or highs 0 0 % 65536 + 1)) Within Outside
    look_single h k =
        look_one (end low lows) (end high highs) v ks n m is a b (end_count low lows ∙ e) h (end_count high highs ∙ k)
        ∙ ap (λ (o : Run). cond (leb o.low (get_or ks 0 0 / 65536) && leb (get_or ks (m - 1) 0 % 65536 + 1) (o.high + 1)) Within Outside) (end_first high highs k)

    -- one run above: the first low and the last high decide
    pub lies_single : 0 < m → length highs ≡ 1
        → lies_between low lows high highs v rs
        ≡ (leb (get_or highs 0 0 / 65536) (get_or ks 0 0 / 65536) && leb (get_or ks (m - 1) 0 % 65536) (get_or highs 0 0 % 65536))
    lies_single h k =
        lies_look _ (look_single h k)
        ∙ told (leb (get_or highs 0 0 / 65536) (get_or ks 0 0 / 65536)) (get_or ks (m - 1) 0 % 65536) (get_or highs 0 0 % 65536) (pass_between lows highs rs)
