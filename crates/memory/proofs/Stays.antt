-- What stays in the plain list: one that was noted, until it is forgotten, all is cleared, or 64 others were noted since.
use Prim.Native.Nat.{ℕ, zero, suc, ◌+◌, ◌-◌, ◌≤◌, ◌<◌}
use mathlib.Core.Path.{◌≡◌, refl, sym, ap, subst, ◌∙◌}
use mathlib.Core.List.{List, [], ◌∷◌, ◌++◌, append_assoc}
use mathlib.Core.Bool.{Bool, true, false, cond, not, ◌&&◌, ◌||◌}
use mathlib.Core.Logic.{◌⊎◌, inl, inr}
use native.Mathlib.Omega.{arith}
use borrow.Author.Tests.{eq-eqb, eqb-true, ltb-true}
use lib.Dec.{eqb}
use lib.ListN.{length, drop, length-append}
use lib.Seq.{drop-append-le}
use Rattle.memory.specs.Memory.{holds, without, newest, noted, forgotten, distinct}
use Rattle.memory.specs.Stages.{place_in}
use Rattle.memory.specs.Theorems.{Call, note, ask, forget, clear, list_end, notes, spares, others_behind}
use Rattle.memory.proofs.Laws.{true_or_false, without_none, without_place, closed_length, holds_place}
use Rattle.memory.proofs.Plain.{held_without, taken_out, once_without, held_behind, once_behind, turned}

-- q is what is left of s where some were taken out
abbrev Left : List ℕ → List ℕ → Type 0
Left q [] = q ≡ []
Left q (y ∷ s) = Left q s ⊎ ((r : List ℕ) × ((q ≡ y ∷ r) × Left r s))

left_none : (s : List ℕ) → Left [] s
left_none [] = refl
left_none (y ∷ s) = inl (left_none s)

left_length : (q s : List ℕ) → Left q s → length q ≤ length s
left_length q [] e = let z : length q ≡ 0 = ap length e in omega arith
left_length q (y ∷ s) (inl h) = omega (arith, left_length q s h)
left_length q (y ∷ s) (inr h) =
    let z : length q ≡ suc (length h.0) = ap length h.1.0 in
    omega (arith, left_length h.0 s h.1.1)

-- one is taken out of what is left
left_one : (q s : List ℕ) (a : ℕ) → Left q s → Left (without q a) s
left_one q [] a e = ap (λ (l : List ℕ). without l a) e
left_one q (y ∷ s) a (inl h) = inl (left_one q s a h)
left_one q (y ∷ s) a (inr h) = go (eqb y a) (ap (λ (l : List ℕ). without l a) h.1.0) (left_one h.0 s a h.1.1)
  where
    go : (t : Bool) → without q a ≡ cond t (without h.0 a) (y ∷ without h.0 a) → Left (without h.0 a) s → Left (without q a) (y ∷ s)
    go true e k = inl (subst (λ (l : List ℕ). Left l s) (sym e) k)
    go false e k = inr (without h.0 a, (e, k))

-- and of both
left_both : (q s : List ℕ) (a : ℕ) → Left q s → Left (without q a) (without s a)
left_both q [] a e = ap (λ (l : List ℕ). without l a) e
left_both q (y ∷ s) a (inl h) =
    true_or_false (λ (t : Bool). Left (without q a) (cond t (without s a) (y ∷ without s a))) (eqb y a) (λ e. left_both q s a h) (λ e. inl (left_both q s a h))
left_both q (y ∷ s) a (inr h) = go (eqb y a) (ap (λ (l : List ℕ). without l a) h.1.0) (left_both h.0 s a h.1.1)
  where
    go : (t : Bool) → without q a ≡ cond t (without h.0 a) (y ∷ without h.0 a) → Left (without h.0 a) (without s a)
        → Left (without q a) (cond t (without s a) (y ∷ without s a))
    go true e k = subst (λ (l : List ℕ). Left l (without s a)) (sym e) k
    go false e k = inr (without h.0 a, (e, k))

-- one comes behind both
left_behind : (q s : List ℕ) (a : ℕ) → Left q s → Left (q ++ (a ∷ [])) (s ++ (a ∷ []))
left_behind q [] a e = inr ([], (ap (λ (l : List ℕ). l ++ (a ∷ [])) e, refl))
left_behind q (y ∷ s) a (inl h) = inl (left_behind q s a h)
left_behind q (y ∷ s) a (inr h) = inr (h.0 ++ (a ∷ []), (ap (λ (l : List ℕ). l ++ (a ∷ [])) h.1.0, left_behind h.0 s a h.1.1))

-- The address is in the list, and what stands behind it is left of s.
record Held (a : ℕ) (xs s : List ℕ) : Type 0 where
  front : List ℕ
  behind : List ℕ
  is : xs ≡ front ++ (a ∷ behind)
  left : Left behind s

holds_there : (p q : List ℕ) (a : ℕ) → holds (p ++ (a ∷ q)) a ≡ true
holds_there [] q a = rw (eq-eqb a a refl)
holds_there (x ∷ p) q a = true_or_false (λ (t : Bool). (t || holds (p ++ (a ∷ q)) a) ≡ true) (eqb x a) (λ e. refl) (λ e. holds_there p q a)

held_holds : (a : ℕ) (xs s : List ℕ) → Held a xs s → holds xs a ≡ true
held_holds a xs s h = ap (λ (l : List ℕ). holds l a) h.is ∙ holds_there h.front h.behind a

without_append : (p q : List ℕ) (a : ℕ) → without (p ++ q) a ≡ without p a ++ without q a
without_append [] q a = refl
without_append (x ∷ p) q a =
    true_or_false (λ (t : Bool). cond t (without (p ++ q) a) (x ∷ without (p ++ q) a) ≡ cond t (without p a) (x ∷ without p a) ++ without q a) (eqb x a)
    (λ e. without_append p q a) (λ e. ap (λ (l : List ℕ). x ∷ l) (without_append p q a))

-- the newest 64 keep a part behind of at most 64
newest_behind : (p r : List ℕ) → length r ≤ 64 → newest (p ++ r) ≡ drop (length (p ++ r) - 64) p ++ r
newest_behind p r h = drop-append-le (length (p ++ r) - 64) p r (omega (arith, length-append p r))

-- another is taken out
others_taken : (a b : ℕ) (xs s : List ℕ) (h : Held a xs s) → eqb b a ≡ false → without xs b ≡ without h.front b ++ (a ∷ without h.behind b)
others_taken a b xs s h n =
    ap (λ (l : List ℕ). without l b) h.is ∙ without_append h.front (a ∷ h.behind) b
    ∙ ap (λ (t : Bool). without h.front b ++ cond t (without h.behind b) (a ∷ without h.behind b)) (turned b a n)

held_forget : (a b : ℕ) (xs s : List ℕ) → Held a xs s → eqb b a ≡ false → Held a (forgotten b xs) s
held_forget a b xs s h n =
    record { front = without h.front b; behind = without h.behind b; is = others_taken a b xs s h n; left = left_one h.behind s b h.left }

-- another is noted, and fewer than 64 were
held_note : (a b : ℕ) (xs s : List ℕ) → Held a xs s → eqb b a ≡ false → length (without s b ++ (b ∷ [])) < 64 → Held a (noted b xs) (without s b ++ (b ∷ []))
held_note a b xs s h n few =
    let p : List ℕ = without h.front b in
    let q : List ℕ = without h.behind b ++ (b ∷ []) in
    let k : Left q (without s b ++ (b ∷ [])) = left_behind (without h.behind b) (without s b) b (left_both h.behind s b h.left) in
    let e : without xs b ++ (b ∷ []) ≡ p ++ (a ∷ q) =
    ap (λ (l : List ℕ). l ++ (b ∷ [])) (others_taken a b xs s h n) ∙ append_assoc (without h.front b) (a ∷ without h.behind b) (b ∷ []) in
    let m : length q ≤ length (without s b ++ (b ∷ [])) = left_length q (without s b ++ (b ∷ [])) k in
    record {
      front = drop (length (p ++ (a ∷ q)) - 64) p;
      behind = q;
      is = ap newest e ∙ newest_behind p (a ∷ q) (omega arith);
      left = k;
    }

-- the address itself is noted
held_first : (a : ℕ) (xs s : List ℕ) → Held a (noted a xs) s
held_first a xs s =
    record { front = drop (length (without xs a ++ (a ∷ [])) - 64) (without xs a); behind = []; is = newest_behind (without xs a) (a ∷ []) (omega arith); left = left_none s }

-- The others that are noted are never fewer.
grows : (s : List ℕ) (b : ℕ) → distinct s ≡ true → length s ≤ length (without s b ++ (b ∷ []))
grows s b d =
    true_or_false (λ (t : Bool). holds s b ≡ t → length s ≤ length (without s b ++ (b ∷ []))) (holds s b) (λ u e. there e) (λ u e. new e) refl
  where
    l : length (without s b ++ (b ∷ [])) ≡ length (without s b) + 1
    l = length-append (without s b) (b ∷ [])

    there : holds s b ≡ true → length s ≤ length (without s b ++ (b ∷ []))
    there e =
        let p : place_in s b < length s = ltb-true _ _ (sym (holds_place s b) ∙ e) in
        omega (arith, l, closed_length (place_in s b) s p, ap length (without_place s b d p))

    new : holds s b ≡ false → length s ≤ length (without s b ++ (b ∷ []))
    new e = omega (arith, l, ap length (without_none s b e))

once_noted : (s : List ℕ) (b : ℕ) → distinct s ≡ true → distinct (without s b ++ (b ∷ [])) ≡ true
once_noted s b d = once_behind (without s b) b (once_without s b d) (taken_out s b)

others_grow : (a : ℕ) (s : List ℕ) (cs : List Call) → distinct s ≡ true → length s ≤ length (others_behind a s cs)
others_grow a s [] d = omega arith
others_grow a s (note b ∷ cs) d =
    true_or_false (λ (t : Bool). length s ≤ length (others_behind a (cond t s (without s b ++ (b ∷ []))) cs)) (eqb b a)
    (λ e. others_grow a s cs d) (λ e. omega (arith, grows s b d, others_grow a (without s b ++ (b ∷ [])) cs (once_noted s b d)))
others_grow a s (ask b ∷ cs) d = others_grow a s cs d
others_grow a s (forget b ∷ cs) d = others_grow a s cs d
others_grow a s (clear ∷ cs) d = others_grow a s cs d

stays_from : (a : ℕ) (cs : List Call) (xs s : List ℕ) → Held a xs s → distinct s ≡ true → spares a cs ≡ true → length (others_behind a s cs) < 64
    → holds (list_end cs xs) a ≡ true
stays_from a [] xs s h d k few = held_holds a xs s h
stays_from a (note b ∷ cs) xs s h d k few = go (eqb b a) refl few (λ ys r u v w. stays_from a cs ys r u v k w)
  where
    go : (t : Bool) → eqb b a ≡ t → length (others_behind a (cond t s (without s b ++ (b ∷ []))) cs) < 64
        → ((ys r : List ℕ) → Held a ys r → distinct r ≡ true → length (others_behind a r cs) < 64 → holds (list_end cs ys) a ≡ true)
        → holds (list_end cs (noted b xs)) a ≡ true
    go true e f g = g (noted b xs) s (subst (λ (x : ℕ). Held a (noted x xs) s) (sym (eqb-true b a e)) (held_first a xs s)) d f
    go false e f g =
        let m = others_grow a (without s b ++ (b ∷ [])) cs (once_noted s b d) in
        g (noted b xs) (without s b ++ (b ∷ [])) (held_note a b xs s h e (omega arith)) (once_noted s b d) f
stays_from a (ask b ∷ cs) xs s h d k few = stays_from a cs xs s h d k few
stays_from a (forget b ∷ cs) xs s h d k few = go (eqb b a) refl k (λ u q. stays_from a cs (forgotten b xs) s u d q few)
  where
    go : (t : Bool) → eqb b a ≡ t → (not t && spares a cs) ≡ true
        → (Held a (forgotten b xs) s → spares a cs ≡ true → holds (list_end cs (forgotten b xs)) a ≡ true) → holds (list_end cs (forgotten b xs)) a ≡ true
    go true e q g = absurd (let z : ◌≡◌ {A = ℕ} 0 1 = cc in omega arith)
    go false e q g = g (held_forget a b xs s h e) q
stays_from a (clear ∷ cs) xs s h d k few = absurd (let z : ◌≡◌ {A = ℕ} 0 1 = cc in omega arith)

pub stays : (xs : List ℕ) (a : ℕ) (cs : List Call) → spares a cs ≡ true → length (others_behind a [] cs) < 64 → holds (list_end (note a ∷ cs) xs) a ≡ true
stays xs a cs k few = stays_from a cs (noted a xs) [] (held_first a xs []) refl k few

-- Nothing is in the list that was not noted.
held_drop : (n : ℕ) (xs : List ℕ) (a : ℕ) → holds xs a ≡ false → holds (drop n xs) a ≡ false
held_drop zero xs a e = e
held_drop (suc n) [] a e = e
held_drop (suc n) (x ∷ xs) a e = held_drop n xs a (behind (eqb x a) e)
  where
    behind : (t : Bool) → (t || holds xs a) ≡ false → holds xs a ≡ false
    behind true q = absurd (let z : ◌≡◌ {A = ℕ} 0 1 = cc in omega arith)
    behind false q = q

unnoted : (cs : List Call) (xs : List ℕ) (a : ℕ) → holds xs a ≡ false → notes a cs ≡ false → holds (list_end cs xs) a ≡ false
unnoted [] xs a e n = e
unnoted (note b ∷ cs) xs a e n = go (eqb b a) refl n (λ u q. unnoted cs (noted b xs) a u q)
  where
    go : (t : Bool) → eqb b a ≡ t → (t || notes a cs) ≡ false
        → (holds (noted b xs) a ≡ false → notes a cs ≡ false → holds (list_end cs (noted b xs)) a ≡ false) → holds (list_end cs (noted b xs)) a ≡ false
    go true f q g = absurd (let z : ◌≡◌ {A = ℕ} 0 1 = cc in omega arith)
    go false f q g =
        g (held_drop (length (without xs b ++ (b ∷ [])) - 64) (without xs b ++ (b ∷ [])) a (held_behind (without xs b) b a (held_without xs b a e) f)) q
unnoted (ask b ∷ cs) xs a e n = unnoted cs xs a e n
unnoted (forget b ∷ cs) xs a e n = unnoted cs (forgotten b xs) a (held_without xs b a e) n
unnoted (clear ∷ cs) xs a e n = unnoted cs [] a refl n

pub only_noted : (cs : List Call) (a : ℕ) → holds (list_end cs []) a ≡ true → notes a cs ≡ true
only_noted cs a e =
    true_or_false (λ (t : Bool). notes a cs ≡ t → t ≡ true) (notes a cs) (λ u n. refl)
    (λ u n. absurd (let y : holds (list_end cs []) a ≡ false = unnoted cs [] a refl n in let z : ◌≡◌ {A = ℕ} 0 1 = cc in omega arith)) refl
