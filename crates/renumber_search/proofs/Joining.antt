-- Laws of the loop that joins keys in order where they lie.
use mathlib.Core.Path.{◌≡◌, refl, sym, ◌∙◌, ap}
use mathlib.Core.Bool.{true, false}
use mathlib.Core.List.{List, [], ◌∷◌, ◌++◌, append-nil}
use Prim.Native.Nat.{ℕ, suc, ◌+◌, ◌-◌, ◌≤◌, ◌<◌}
use native.Mathlib.Omega.{arith}
use lib.ListN.{length, take, drop, get_or, set, length-set, drop_of_length-le, take-append-drop}
use lib.Seq.{get_or-drop, drop-set-lt, length-take-le, append_snoc, take_all}
use Rattle.std.specs.List.Sorted.{IsNonDecreasing}
use Rattle.lists_sort.specs.Order.{Sorted, sort_keys}
use Rattle.lists_sort.proofs.Merge.{put, sorted_self}
use Rattle.label.proofs.Steps.{next_used, used_up}
use Rattle.label_ranges.specs.Ranges.{reached, stretched}
use Rattle.renumber_keys.specs.Stages.{join_from, join_all}
use Rattle.renumber_keys.proofs.Turns.{same_later}
use Rattle.renumber_search.specs.Search.{over}

-- The first w are joined; the one at hand and those from i on are left.
pub record Joining (was : List ℕ) (n : ℕ) (keys : List ℕ) (last w i : ℕ) : Type 0 where
  pub below : w < i
  pub inside : i ≤ n
  pub sized : length keys ≡ length was
  pub rest : drop w keys ≡ drop w was
  pub whole : join_all (take n was) ≡ take w keys ++ join_from last (drop i (take n was))

pub none_joined : (was : List ℕ) (n : ℕ) → n ≡ 0 → (0 ≡ length (join_all (take n was))) × (was ≡ over (join_all (take n was)) was)
none_joined was n e = rw e (refl, refl)

pub joining_start : (was : List ℕ) (n : ℕ) → 0 < n → n ≤ length was → Joining was n was (get_or was 0 0) 0 1
joining_start was n p h =
    record { below = omega arith; inside = p; sized = refl; rest = refl; whole = ap join_all (next_used 0 was n 0 p h) }

module _ (was : List ℕ) (n : ℕ) (h : n ≤ length was) (keys : List ℕ) (last w i : ℕ) (s : Joining was n keys last w i) where
  -- what is read is as it was
  at_hand : get_or keys i 0 ≡ get_or was i 0
  at_hand =
      let e : w + (i - w) ≡ i = omega (arith, s.below) in
      ap (λ (k : ℕ). get_or keys k 0) (sym e) ∙ sym (get_or-drop w keys (i - w) 0) ∙ ap (λ (z : List ℕ). get_or z (i - w) 0) s.rest ∙ get_or-drop w was (i - w) 0 ∙ ap (λ (k : ℕ). get_or was k 0) e

  module _ (l : i < n) where
    left : drop i (take n was) ≡ get_or keys i 0 ∷ drop (i + 1) (take n was)
    left = next_used 0 was n i l h ∙ ap (λ (k : ℕ). k ∷ drop (i + 1) (take n was)) (sym at_hand)

    pub joining_reach : reached last (get_or keys i 0) ≡ true → Joining was n keys (stretched last (get_or keys i 0)) w (i + 1)
    joining_reach e =
        record {
          below = omega (arith, s.below);
          inside = omega arith;
          sized = s.sized;
          rest = s.rest;
          whole = s.whole ∙ ap (λ (z : List ℕ). take w keys ++ join_from last z) left ∙ rw e;
        }

    pub joining_part : reached last (get_or keys i 0) ≡ false → Joining was n (set keys w last) (get_or keys i 0) (w + 1) (i + 1)
    joining_part e =
        let q : w < length keys = omega (arith, s.below, s.sized) in
        record {
          below = omega (arith, s.below);
          inside = omega arith;
          sized = length-set keys w last ∙ s.sized;
          rest = drop-set-lt (w + 1) keys w last (omega arith) ∙ same_later keys was w (w + 1) (omega arith) s.rest;
          whole = s.whole
              ∙ ap (λ (z : List ℕ). take w keys ++ join_from last z) left
              ∙ rw e (sym (append_snoc (take w keys) last (join_from (get_or keys i 0) (drop (i + 1) (take n was)))) ∙ ap (λ (z : List ℕ). z ++ join_from (get_or keys i 0) (drop (i + 1) (take n was))) (sym (put keys w last q)));
        }

  pub joining_end : n ≤ i → (w + 1 ≡ length (join_all (take n was))) × (set keys w last ≡ over (join_all (take n was)) was)
  joining_end l =
      let q : w < length keys = omega (arith, s.below, s.inside, s.sized) in
      let e : join_all (take n was) ≡ take (w + 1) (set keys w last) = s.whole ∙ ap (λ (z : List ℕ). take w keys ++ join_from last z) (used_up was n i l) ∙ sym (put keys w last q) in
      let m : w + 1 ≡ length (join_all (take n was)) = sym (length-take-le (w + 1) (set keys w last) (omega (arith, length-set keys w last))) ∙ ap length (sym e) in
      let d : drop (w + 1) (set keys w last) ≡ drop (length (join_all (take n was))) was = drop-set-lt (w + 1) keys w last (omega arith) ∙ same_later keys was w (w + 1) (omega arith) s.rest ∙ ap (λ (k : ℕ). drop k was) m in
      (m, sym (take-append-drop (w + 1) (set keys w last)) ∙ ap (λ (z : List ℕ). z ++ drop (w + 1) (set keys w last)) (sym e) ∙ ap (λ (z : List ℕ). join_all (take n was) ++ z) d)

-- Keys that stand in order.
in_order : (lo : ℕ) (ks : List ℕ) → ((k : ℕ) → k < length ks → lo ≤ get_or ks k 0) → IsNonDecreasing ks → Sorted lo ks
in_order lo [] a s = tt
in_order lo (k ∷ ks) a s =
    (a 0 (omega arith), in_order k ks (λ i h. s 0 (suc i) 0 (omega arith) (omega arith)) (λ i j d h l. s (suc i) (suc j) d (omega arith) (omega arith)))

pub stands_same : (keys : List ℕ) → IsNonDecreasing keys → keys ≡ sort_keys keys
stands_same keys s = sym (sorted_self 0 keys (in_order 0 keys (λ k h. omega arith) s))

-- the first of all of them are all of them
pub all_taken : (keys : List ℕ) → take (length keys) keys ≡ keys
all_taken keys = take_all (length keys) keys (omega arith)

pub all_sorted : (keys : List ℕ) → sort_keys (take (length keys) keys) ++ drop (length keys) keys ≡ sort_keys keys
all_sorted keys = rw (all_taken keys, drop_of_length-le keys {i = length keys} (omega arith)) (append-nil (sort_keys keys))
