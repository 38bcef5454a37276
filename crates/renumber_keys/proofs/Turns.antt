-- One turn of each loop that writes, over plain lists.
use mathlib.Core.Path.{◌≡◌, sym, ◌∙◌, ap}
use mathlib.Core.List.{List, [], ◌∷◌, ◌++◌, append_assoc}
use Prim.Native.Nat.{ℕ, suc, ◌+◌, ◌-◌, ◌/◌, ◌%◌, ◌≤◌, ◌<◌}
use native.Mathlib.Omega.{arith}
use lib.ListN.{length, take, drop, get_or, set}
use lib.Seq.{take-suc, drop-drop}
use borrow.Author.Tests.{le-leb, lt-leb}
use Rattle.lists_sort.proofs.Merge.{put}
use Rattle.label_ranges.specs.Ranges.{stretched}
use Rattle.renumber_keys.specs.Stages.{push_key}
use Rattle.renumber_keys.proofs.Join.{push_last}

-- A range is put behind the others, or joined to the last.
module _ (keys : List ℕ) (w x : ℕ) (h : w < length keys) where
  pub push_first : w ≡ 0 → take 1 (set keys 0 x) ≡ push_key (take w keys) x
  push_first e =
      let l : 0 < length keys = omega arith in
      rw e (put keys 0 x l)

  last_is : 0 < w → take w keys ≡ take (w - 1) keys ++ (get_or keys (w - 1) 0 ∷ [])
  last_is p = let z : suc (w - 1) ≡ w = omega arith in ap (λ (k : ℕ). take k keys) (sym z) ∙ take-suc keys (w - 1) 0 (omega arith)

  pub push_joined : 0 < w → x / 65536 ≤ get_or keys (w - 1) 0 % 65536 + 1 → take w (set keys (w - 1) (stretched (get_or keys (w - 1) 0) x)) ≡ push_key (take w keys) x
  push_joined p t =
      let z : w - 1 + 1 ≡ w = omega arith in
      let q : ℕ = get_or keys (w - 1) 0 in
      let a : take w (set keys (w - 1) (stretched q x)) ≡ take (w - 1) keys ++ (stretched q x ∷ []) = rw z at (put keys (w - 1) (stretched q x) (omega arith)) in
      a ∙ sym (ap (λ (l : List ℕ). push_key l x) (last_is p) ∙ push_last (take (w - 1) keys) q x ∙ simp (le-leb (x / 65536) (q % 65536 + 1) t))

  pub push_behind : 0 < w → get_or keys (w - 1) 0 % 65536 + 1 < x / 65536 → take (w + 1) (set keys w x) ≡ push_key (take w keys) x
  push_behind p t =
      let q : ℕ = get_or keys (w - 1) 0 in
      put keys w x h
      ∙ ap (λ (l : List ℕ). l ++ (x ∷ [])) (last_is p)
      ∙ append_assoc (take (w - 1) keys) (q ∷ []) (x ∷ [])
      ∙ sym (ap (λ (l : List ℕ). push_key l x) (last_is p) ∙ push_last (take (w - 1) keys) q x ∙ simp (lt-leb (x / 65536) (q % 65536 + 1) t))

-- What is not written stays: further on, what is the same from a place on is the same.
pub same_later : (a b : List ℕ) (w r : ℕ) → w ≤ r → drop w a ≡ drop w b → drop r a ≡ drop r b
same_later a b w r h e =
    let z : w + (r - w) ≡ r = omega arith in
    ap (λ (k : ℕ). drop k a) (sym z) ∙ sym (drop-drop (r - w) w a) ∙ ap (drop (r - w)) e ∙ drop-drop (r - w) w b ∙ ap (λ (k : ℕ). drop k b) z
