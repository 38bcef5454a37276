-- Laws of a list with a number for each place, and of the loops that make the list of partners.
use mathlib.Core.Path.{◌≡◌, refl, sym, ◌∙◌, ap}
use mathlib.Core.List.{List, [], ◌∷◌, ◌++◌, map, reverse}
use Prim.Native.Nat.{ℕ, zero, suc, ◌≤◌, ◌<◌}
use native.Mathlib.Omega.{arith}
use native.Mathlib.Decide.{dec_le, ℕ_discrete}
use lib.ListN.{length, take, drop, get_or, set, replicate, length-append, length-set, length-replicate, length-drop, take-append-drop, get_or-append}
use lib.Seq.{drop_at, get_or_at, get_or-set_same, get_or-set_other, get_or-take, drop-set-lt, length-take-le, ext_get_or}
use borrow.Author.Tests.{le-leb, lt-leb, eq-eqb, ne_eqb}
use Rattle.std.proofs.lemmas.List.{map-append, reverse-append}
use Rattle.table_levels.specs.Levels.{partner_of, partner_number}
use Rattle.renumber_partners.specs.Partners.{tabled, partner_list, partners_in}

pub tabled_length : (n : ℕ) (f : ℕ → ℕ) → length (tabled n f) ≡ n
unfolding tabled
tabled_length zero f = refl
tabled_length (suc n) f = length-append (tabled n f) (f n ∷ []) ∙ omega (arith, tabled_length n f)

pub tabled_at : (n : ℕ) (f : ℕ → ℕ) (v d : ℕ) → v < n → get_or (tabled n f) v d ≡ f v
unfolding tabled
tabled_at zero f v d h = absurd (omega arith)
tabled_at (suc n) f v d h =
    elim (dec_le n v) [
      | yes u ↦ (let e : v ≡ n = omega arith in ap (λ (k : ℕ). get_or (tabled n f ++ (f n ∷ [])) k d) e ∙ get_or_at (tabled n f) (f n) [] d n (tabled_length n f) ∙ ap f (sym e))
      | no u ↦ get_or-append (tabled n f) (f n ∷ []) d v (omega (arith, tabled_length n f)) ∙ tabled_at n f v d (omega arith)
    ]

replicate_at : (n x v d : ℕ) → v < n → get_or (replicate n x) v d ≡ x
replicate_at zero x v d h = absurd (omega arith)
replicate_at (suc n) x zero d h = refl
replicate_at (suc n) x (suc v) d h = replicate_at n x v d (omega arith)

-- one more of those that were seen, the last first
pub seen_more : {A B : Type 0} (f : A → B) (ys : List A) (y : A) → reverse (map f (ys ++ (y ∷ []))) ≡ f y ∷ reverse (map f ys)
seen_more f ys y = ap reverse (map-append f ys (y ∷ [])) ∙ reverse-append (map f ys) (f y ∷ [])

-- The pairs from the last on are listed.
pub record Listing (ps : List (List ℕ)) (was partners : List ℕ) : Type 0 where
  pub sized : length partners ≡ length was
  pub rest : drop 256 partners ≡ drop 256 was
  pub each : (v : ℕ) → v < 256 → get_or partners v 256 ≡ partner_number (partner_of ps v)

pub listing_start : (was cleared : List ℕ) → 256 ≤ length was → cleared ≡ replicate 256 256 ++ drop 256 was → Listing [] was cleared
listing_start was cleared h e =
    let l : length (replicate {A = ℕ} 256 256) ≡ 256 = length-replicate {A = ℕ} 256 256 in
    record {
      sized = ap length e ∙ length-append (replicate 256 256) (drop 256 was) ∙ omega (arith, l, length-drop 256 was);
      rest = ap (drop 256) e ∙ drop_at (replicate 256 256) (drop 256 was) 256 l;
      each = λ v w. ap (λ (z : List ℕ). get_or z v 256) e ∙ get_or-append (replicate 256 256) (drop 256 was) 256 v (omega (arith, l)) ∙ replicate_at 256 256 v 256 w;
    }

-- one pair more, before the others
pub listing_next : (p : List ℕ) (ps : List (List ℕ)) (was partners : List ℕ) (a b : ℕ) → 256 ≤ length was → Listing ps was partners → a ≡ get_or p 0 0 → b ≡ get_or p 1 0 → a ≤ 255
    → Listing (p ∷ ps) was (set partners a b)
listing_next p ps was partners a b h s ea eb l =
    record {
      sized = length-set partners a b ∙ s.sized;
      rest = drop-set-lt 256 partners a b (omega arith) ∙ s.rest;
      each = λ v w. elim (ℕ_discrete a v) [
        | yes e ↦ (let q : get_or p 0 0 ≡ v = sym ea ∙ e in
            ap (λ (k : ℕ). get_or (set partners a b) k 256) (sym e) ∙ get_or-set_same partners a b 256 (omega (arith, s.sized)) ∙ eb ∙ sym (rw (eq-eqb (get_or p 0 0) v q)))
        | no e ↦ (let q : (get_or p 0 0 ≡ v → ⊥) = λ z. e (ea ∙ z) in
            get_or-set_other partners a v b 256 (λ z. e (sym z)) ∙ s.each v w ∙ sym (rw (ne_eqb (get_or p 0 0) v q)))
      ];
    }

pub listing_end : (ps : List (List ℕ)) (was partners : List ℕ) → 256 ≤ length was → Listing ps was partners → partners ≡ partners_in ps was
unfolding partners_in
listing_end ps was partners h s =
    let n : length (take 256 partners) ≡ 256 = length-take-le 256 partners (omega (arith, s.sized)) in
    let t : take 256 partners ≡ partner_list ps =
    ext_get_or 256 (take 256 partners) (partner_list ps) (n ∙ sym (tabled_length 256 (λ v. partner_number (partner_of ps v))))
    (λ v w. let u : v < 256 = omega (arith, n) in get_or-take 256 partners v 256 u ∙ s.each v u ∙ sym (tabled_at 256 (λ k. partner_number (partner_of ps k)) v 256 u)) in
    sym (take-append-drop 256 partners) ∙ ap (λ (z : List ℕ). z ++ drop 256 partners) t ∙ ap (λ (z : List ℕ). partner_list ps ++ z) s.rest ∙ sym (rw (le-leb 256 (length was) h))

pub listing_short : (ps : List (List ℕ)) (was : List ℕ) → length was < 256 → was ≡ partners_in ps was
unfolding partners_in
listing_short ps was h = sym (rw (lt-leb 256 (length was) h))

-- what is there does not depend on the number that stands for what is not
pub any_default : (l : List ℕ) (i c d : ℕ) → i < length l → get_or l i c ≡ get_or l i d
any_default [] i c d h = absurd (omega arith)
any_default (x ∷ l) zero c d h = refl
any_default (x ∷ l) (suc i) c d h = any_default l i c d (omega arith)
