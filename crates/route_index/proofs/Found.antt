-- The theorem of `specs/Theorems.antt`: between two neighbours of the index no route begins or ends, so the port does not change.
use mathlib.Core.Path.{◌≡◌, refl, sym, ◌∙◌, ap}
use mathlib.Core.Bool.{Bool, true, false, cond, ◌&&◌, ◌||◌}
use mathlib.Core.List.{List, [], ◌∷◌, ◌++◌, map, append_assoc}
use mathlib.Core.Logic.{◌⊎◌, inl, inr, ⊎_elim}
use Prim.Native.Nat.{ℕ, zero, suc, ◌+◌, ◌-◌, ◌*◌, ◌/◌, ◌%◌, ◌^◌, ◌≤◌, ◌<◌}
use native.Mathlib.Omega.{arith}
use native.Mathlib.Decide.{dec_le}
use native.Mathlib.Nat.{div-mul-le_self, lt-div-mul-add, div-eq_of_lt-le, mod-eq_of_lt, add-mul, one-mul}
use lib.Dec.{leb, ltb, eqb}
use lib.ListN.{length, drop, get_or, length-append, length-map, get_or-append}
use lib.Seq.{get_or-append-add}
use borrow.Author.Tests.{le-leb, lt-leb, leb-true, leb-false, lt-ltb, le-ltb, ltb-true, eq-eqb, eqb-true, ne_eqb}
use Rattle.label.proofs.Bools.{never, and_left, and_right, or_true_right}
use Rattle.lists_search.specs.Halves.{halved}
use Rattle.lists_search.specs.Theorems.{Parts}
use Rattle.lists_search.proofs.Halves.{halved_same}
use Rattle.lists_search.proofs.Theorems.{parts}
use Rattle.lists_sort.specs.Order.{Sorted, all}
use Rattle.lists_sort.proofs.Laws.{sorted_first, sort_sorted, sort_all}
use Rattle.route.specs.declared.Route.{Route}
use Rattle.route.specs.Route.{Chosen}
use Rattle.std.specs.Prelude.{None}
use Rattle.route.specs.Route.{matches, preferred, chosen_from, longest, longer}
use Rattle.route.proofs.Laws.{power_pos}
use Rattle.route_index.specs.Index.{port_number, port_at, first_address, behind_address, edges_of, edges, index_of, held, edge_count, indexed, found_in}
use Rattle.route_index.specs.Theorems.{IndexLongest}
use Rattle.route_index.proofs.Put.{edges_many}

-- the addresses with the same first bits are those from the first on, as many as a block has
pub in_block : (p a b : ℕ) → 0 < b → eqb (p / b) (a / b) ≡ (leb (p / b * b) a && ltb a (p / b * b + b))
in_block p a b h = go (eqb (p / b) (a / b)) refl
  where
    go : (t : Bool) → eqb (p / b) (a / b) ≡ t → t ≡ (leb (p / b * b) a && ltb a (p / b * b + b))
    go true e =
        let q : p / b ≡ a / b = eqb-true (p / b) (a / b) e in
        let l : a / b * b ≤ a = div-mul-le_self a b in
        let u : a < a / b * b + b = lt-div-mul-add h in
        sym (rw q (rw (le-leb (a / b * b) a l, lt-ltb a (a / b * b + b) u)))
    go false e = elim (dec_le (p / b * b) a) [
      | yes l ↦ elim (dec_le (a + 1) (p / b * b + b)) [
        | yes u ↦ absurd (never (sym (eq-eqb (p / b) (a / b) (sym (div-eq_of_lt-le b l (up u)))) ∙ e))
        | no u ↦ sym (rw (le-leb (p / b * b) a l, le-ltb a (p / b * b + b) (omega arith)))
      ]
      | no l ↦ sym (rw (lt-leb (p / b * b) a (omega arith)))
    ]
      where
        up : a + 1 ≤ p / b * b + b → a < (p / b + 1) * b
        up u = let z : (p / b + 1) * b ≡ p / b * b + b = add-mul (p / b) 1 b ∙ ap (λ (k : ℕ). p / b * b + k) (one-mul b) in rw z (omega arith)

-- no edge lies behind b up to a
abbrev Clear : ℕ → ℕ → ℕ → Bool
Clear b a e = leb e b || ltb a e

clear_cases : (b a e : ℕ) → Clear b a e ≡ true → (e ≤ b) ⊎ (a < e)
clear_cases b a e h = go (leb e b) refl h
  where
    go : (t : Bool) → leb e b ≡ t → (t || ltb a e) ≡ true → (e ≤ b) ⊎ (a < e)
    go true q k = inl (leb-true e b q)
    go false q k = inr (ltb-true a e k)

module _ (b a : ℕ) (up : b ≤ a) (top : a < 4294967296) where
  -- so a route that matches one matches the other
  same_match : (r : Route) → Clear b a (first_address r.prefix r.length) ≡ true → Clear b a (behind_address r.prefix r.length) ≡ true → matches r a ≡ matches r b
  same_match r f g =
      let s : ℕ = 2 ^ (32 - r.length) in
      let p : 0 < s = power_pos (32 - r.length) in
      let x : ℕ = r.prefix / s * s in
      let from : leb x a ≡ leb x b = ⊎_elim (λ l. rw (le-leb x a (omega arith), le-leb x b l)) (λ l. rw (lt-leb x a l, lt-leb x b (omega arith))) (clear_cases b a x f) in
      let to : ltb a (x + s) ≡ ltb b (x + s) =
      elim (dec_le 4294967296 (x + s)) [
        | yes w ↦ rw (lt-ltb a (x + s) (omega arith), lt-ltb b (x + s) (omega arith))
        | no w ↦ ends (x + s) (omega arith) g
      ] in
      in_block r.prefix a s p ∙ rw (from, to) (sym (in_block r.prefix b s p))
    where
      ends : (y : ℕ) → y < 4294967296 → Clear b a (y % 4294967296) ≡ true → ltb a y ≡ ltb b y
      ends y w h =
          let z : y % 4294967296 ≡ y = mod-eq_of_lt w in
          ⊎_elim (λ l. rw (le-ltb a y (omega arith), le-ltb b y l)) (λ l. rw (lt-ltb a y l, lt-ltb b y (omega arith))) (clear_cases b a y (rw z at h))

  same_chosen : (best : Chosen) (rs : List Route) → all (Clear b a) (edges_of rs) ≡ true → chosen_from a best rs ≡ chosen_from b best rs
  same_chosen best [] e = refl
  same_chosen best (r ∷ rs) e =
      let f = and_left (Clear b a (first_address r.prefix r.length)) _ e in
      let e1 = and_right (Clear b a (first_address r.prefix r.length)) _ e in
      let g = and_left (Clear b a (behind_address r.prefix r.length)) _ e1 in
      let m : matches r a ≡ matches r b = same_match r f g in
      ap (λ (t : Bool). chosen_from a (cond t (longer best r) best) rs) m ∙ same_chosen (preferred b best r) rs (and_right (Clear b a (behind_address r.prefix r.length)) _ e1)

  same_port : (rs : List Route) → all (Clear b a) (edges_of rs) ≡ true → port_at rs b ≡ port_at rs a
  unfolding longest
  same_port rs e = ap port_number (sym (same_chosen None rs e))

-- Numbers in order.
pub sorted_up : (lo : ℕ) (xs : List ℕ) (i j : ℕ) → Sorted lo xs → i ≤ j → j < length xs → get_or xs i 0 ≤ get_or xs j 0
sorted_up lo [] i j s l h = absurd (omega arith)
sorted_up lo (x ∷ xs) zero zero s l h = omega arith
sorted_up lo (x ∷ xs) zero (suc j) s l h = sorted_first x xs j s.1 (omega arith)
sorted_up lo (x ∷ xs) (suc i) zero s l h = absurd (omega arith)
sorted_up lo (x ∷ xs) (suc i) (suc j) s l h = sorted_up x xs i j s.1 (omega arith) (omega arith)

all_at : (p : ℕ → Bool) (xs : List ℕ) → ((i : ℕ) → i < length xs → p (get_or xs i 0) ≡ true) → all p xs ≡ true
all_at p [] h = refl
all_at p (x ∷ xs) h = rw (h 0 (omega arith)) (all_at p xs (λ i l. h (suc i) (omega arith)))

map_at : (f : ℕ → ℕ) (xs : List ℕ) (i : ℕ) → i < length xs → get_or (map f xs) i 0 ≡ f (get_or xs i 0)
map_at f [] i h = absurd (omega arith)
map_at f (x ∷ xs) zero h = refl
map_at f (x ∷ xs) (suc i) h = map_at f xs i (omega arith)

-- The place that the search finds among the edges: at least one edge is not above the address, and none lies between the last such and the address.
module _ (rs : List Route) (a : ℕ) (top : a < 4294967296) where
  abbrev es : List ℕ
  es = edges rs

  in_order : Sorted 0 es
  in_order = sort_sorted [] (0 ∷ edges_of rs) tt

  abbrev past : ℕ → Bool
  past i = leb (get_or es i 0) a

  abbrev place : ℕ
  place = halved (length es) past 0 (length es)

  found : Parts past 0 (length es) place
  found = parts past 0 (length es) (λ i j l h t. le-leb (get_or es i 0) a (omega (arith, sorted_up 0 es i j in_order l h, leb-true (get_or es j 0) a t))) (length es) (omega arith)

  none_zero : place ≡ 0 → ⊥
  none_zero e =
      let n : 0 < length es = omega (arith, edges_many rs) in
      let f : past 0 ≡ false = rw e at (found.there (omega (arith, n))) in
      let g : a < get_or es 0 0 = leb-false (get_or es 0 0) a f in
      let h : all (ltb 0) es ≡ true = all_at (ltb 0) es (λ i l. lt-ltb 0 (get_or es i 0) (omega (arith, sorted_up 0 es 0 i in_order (omega arith) l))) in
      never (sym (sym (sort_all (ltb 0) [] (0 ∷ edges_of rs)) ∙ h))

  abbrev last : ℕ
  last = get_or es (place - 1) 0

  last_up : last ≤ a
  last_up = leb-true last a (found.before (place - 1) (omega arith) (omega (arith, some)))
    where
      some : (place ≡ 0 → ⊥)
      some = none_zero

  clear_all : all (Clear last a) es ≡ true
  clear_all = all_at (Clear last a) es each
    where
      each : (i : ℕ) → i < length es → Clear last a (get_or es i 0) ≡ true
      each i l =
          elim (dec_le place i) [
            | yes u ↦ or_true_right (leb (get_or es i 0) last) (lt-ltb a (get_or es i 0) (omega (arith, leb-false (get_or es place 0) a (found.there (omega arith)), sorted_up 0 es place i in_order u l)))
            | no u ↦ rw (le-leb (get_or es i 0) last (sorted_up 0 es i (place - 1) in_order (omega arith) (omega (arith, found.inside (omega arith)))))
          ]

  -- the port from there on is the address's
  last_port : port_at rs last ≡ port_at rs a
  last_port = same_port last a last_up top rs (and_right (Clear last a 0) _ (sym (sort_all (Clear last a) [] (0 ∷ edges_of rs)) ∙ clear_all))

module _ (rs : List Route) (was : List ℕ) (a : ℕ) (room : length rs * 2 + 1 ≤ length was / 2) (top : a < 4294967296) where
  abbrev n : ℕ
  n = length rs * 2 + 1

  abbrev ix : List ℕ
  ix = index_of rs ++ drop (length (index_of rs)) was

  many : length (edges rs) ≡ n
  many = edges_many rs

  index_many : length (index_of rs) ≡ n + n
  index_many = length-append (edges rs) (map (port_at rs) (edges rs)) ∙ omega (arith, many, length-map (edges rs) (port_at rs))

  long : n ≤ length ix / 2
  long = omega (arith, length-append (index_of rs) (drop (length (index_of rs)) was), index_many)

  parted : ix ≡ edges rs ++ (map (port_at rs) (edges rs) ++ drop (length (index_of rs)) was)
  parted = append_assoc (edges rs) (map (port_at rs) (edges rs)) (drop (length (index_of rs)) was)

  edge_at : (i : ℕ) → i < n → get_or ix i 0 ≡ get_or (edges rs) i 0
  edge_at i l = ap (λ (z : List ℕ). get_or z i 0) parted ∙ get_or-append (edges rs) (map (port_at rs) (edges rs) ++ drop (length (index_of rs)) was) 0 i (omega (arith, many))

  port_there : (i : ℕ) → i < n → get_or ix (n + i) 0 ≡ port_at rs (get_or (edges rs) i 0)
  port_there i l =
      ap (λ (z : List ℕ). get_or z (n + i) 0) parted
      ∙ ap (λ (k : ℕ). get_or (edges rs ++ (map (port_at rs) (edges rs) ++ drop (length (index_of rs)) was)) (k + i) 0) (sym many)
      ∙ get_or-append-add (edges rs) (map (port_at rs) (edges rs) ++ drop (length (index_of rs)) was) i 0
      ∙ get_or-append (map (port_at rs) (edges rs)) (drop (length (index_of rs)) was) 0 i (omega (arith, many, length-map (edges rs) (port_at rs)))
      ∙ map_at (port_at rs) (edges rs) i (omega (arith, many))

  same_place : halved n (λ i. leb (get_or ix i 0) a) 0 n ≡ place rs a top
  same_place = halved_same n (λ i. leb (get_or ix i 0) a) (λ i. leb (get_or (edges rs) i 0) a) 0 n (λ i l. ap (λ (k : ℕ). leb k a) (edge_at i l)) ∙ ap (λ (k : ℕ). halved k (λ i. leb (get_or (edges rs) i 0) a) 0 k) (sym many)

  index_longest : found_in (indexed rs was) (edge_count rs (length was)) a ≡ port_at rs a
  unfolding found_in indexed edge_count
  index_longest =
      let k : ℕ = place rs a top in
      let z : (k ≡ 0 → ⊥) = none_zero rs a top in
      let e : held rs (length was) ≡ true = le-leb n (length was / 2) room in
      let q : k ≤ length (edges rs) = (found rs a top).inside (omega arith) in
      rw (e, le-leb n (length ix / 2) long, same_place, ne_eqb k 0 z) (port_there (k - 1) (omega (arith, many)) ∙ last_port rs a top)

pub found_longest : IndexLongest
found_longest = record { found = index_longest }
