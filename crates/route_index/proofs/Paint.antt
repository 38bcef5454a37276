-- Laws of painting the routes over the addresses.
use mathlib.Core.Path.{◌≡◌, refl, sym, ◌∙◌, ap}
use mathlib.Core.Bool.{Bool, true, false, cond, ◌&&◌, and-false}
use mathlib.Core.List.{List, [], ◌∷◌, ◌++◌, map, map-append}
use Prim.Native.Nat.{ℕ, zero, suc, ◌+◌, ◌-◌, ◌*◌, ◌/◌, ◌^◌, ◌≤◌, ◌<◌}
use native.Mathlib.Omega.{arith}
use native.Mathlib.Decide.{dec_le}
use lib.Dec.{leb, ltb, eqb}
use lib.ListN.{length, take, drop, get_or, set, length-set, length-map, length-append, length-take, length-drop}
use lib.Seq.{take-suc, take_all, get_or-set_other, get_or-append-add, get_or-take, get_or-drop, length-take-le, ext_get_or}
use borrow.Author.Tests.{le-leb, lt-leb, lt-ltb, le-ltb, ltb-true, ltb-false, ne_eqb}
use native.Mathlib.Numerals.{add-one}
use lib.ListN.{get_or-append}
use Rattle.std.specs.List.Sorted.{IsPartitionedBy, IsPartitionPoint}
use Rattle.std.proofs.lemmas.List.{get_or_default, get_or-map}
use Rattle.lists_sort.proofs.Merge.{put}
use Rattle.lists_sort.specs.Order.{sort_keys}
use Rattle.lists_sort.proofs.Laws.{sort_sorted, sort_length}
use Rattle.std.specs.Prelude.{Some}
use Rattle.route.specs.Route.{routes_of, matches, longer, preferred, chosen_from, longest}
use Rattle.route.specs.Stages.{route_at}
use Rattle.route.proofs.Laws.{chosen_turn, at_end, power_pos}
use Rattle.route_index.specs.Index.{port_number, port_at, first_address}
use Rattle.route_index.specs.Stages.{code_chosen, code_port, better_code, Rising, Below, Within, Painted}
use Rattle.route_index.proofs.Found.{in_block, sorted_up}

-- A loop that puts f of each number of one list at its place in another.
pub record Mapped (f : ℕ → ℕ) (src now : List ℕ) (i : ℕ) : Type 0 where
  pub sized : length now ≡ length src
  pub done : take i now ≡ map f (take i src)

pub mapped_start : (f : ℕ → ℕ) (src now : List ℕ) → length now ≡ length src → Mapped f src now 0
mapped_start f src now e = record { sized = e; done = refl }

module _ (f : ℕ → ℕ) (src now : List ℕ) (i : ℕ) (s : Mapped f src now i) where
  pub mapped_next : i < length src → (x : ℕ) → x ≡ f (get_or src i 0) → Mapped f src (set now i x) (i + 1)
  mapped_next h x e =
      record {
        sized = length-set now i x ∙ s.sized;
        done = put now i x (omega (arith, s.sized)) ∙ ap (λ (z : List ℕ). z ++ (x ∷ [])) s.done ∙ ap (λ (y : ℕ). map f (take i src) ++ (y ∷ [])) e
            ∙ rw (add-one i, take-suc src i 0 h) (sym (map-append f (take i src) (get_or src i 0 ∷ [])));
      }

  pub mapped_end : length src ≤ i → now ≡ map f src
  mapped_end h = sym (take_all i now (omega (arith, s.sized))) ∙ s.done ∙ ap (map f) (take_all i src h)

-- the numbers not yet reached are as they were
abbrev pub Ahead : List ℕ → List ℕ → ℕ → Type 0
Ahead was now i = (j : ℕ) → i ≤ j → get_or now j 0 ≡ get_or was j 0

pub ahead_next : (was now : List ℕ) (i x : ℕ) → Ahead was now i → Ahead was (set now i x) (i + 1)
ahead_next was now i x a j h = get_or-set_other now i j x 0 (λ z. omega arith) ∙ a j (omega arith)

-- A part of a list, from low to high, that was changed number by number.
module _ (f : ℕ → ℕ) (xs : List ℕ) (low high : ℕ) (up : low ≤ high) (fits : high ≤ length xs) where
  abbrev pub spliced : List ℕ
  spliced = take low xs ++ (map f (take (high - low) (drop low xs)) ++ drop (high - low) (drop low xs))

  head_length : length (take low xs) ≡ low
  head_length = length-take-le low xs (omega arith)

  part_length : length (map f (take (high - low) (drop low xs))) ≡ high - low
  part_length = length-map (take (high - low) (drop low xs)) f ∙ length-take-le (high - low) (drop low xs) (omega (arith, length-drop low xs))

  pub spliced_length : length spliced ≡ length xs
  spliced_length =
      omega (
        arith,
        length-append (take low xs) (map f (take (high - low) (drop low xs)) ++ drop (high - low) (drop low xs)),
        head_length,
        part_length,
        length-append (map f (take (high - low) (drop low xs))) (drop (high - low) (drop low xs)),
        length-drop (high - low) (drop low xs),
        length-drop low xs,
      )

  pub spliced_before : (i : ℕ) → i < low → get_or spliced i 0 ≡ get_or xs i 0
  spliced_before i h = get_or-append (take low xs) (map f (take (high - low) (drop low xs)) ++ drop (high - low) (drop low xs)) 0 i (omega (arith, head_length)) ∙ get_or-take low xs i 0 h

  behind_head : (j : ℕ) → get_or spliced (low + j) 0 ≡ get_or (map f (take (high - low) (drop low xs)) ++ drop (high - low) (drop low xs)) j 0
  behind_head j =
      ap (λ (k : ℕ). get_or spliced (k + j) 0) (sym head_length) ∙ get_or-append-add (take low xs) (map f (take (high - low) (drop low xs)) ++ drop (high - low) (drop low xs)) j 0

  pub spliced_in : (i : ℕ) → low ≤ i → i < high → get_or spliced i 0 ≡ f (get_or xs i 0)
  spliced_in i a b =
      let e : low + (i - low) ≡ i = omega arith in
      let l : i - low < length (take (high - low) (drop low xs)) = omega (arith, length-take-le (high - low) (drop low xs) (omega (arith, length-drop low xs))) in
      ap (λ (k : ℕ). get_or spliced k 0) (sym e)
      ∙ behind_head (i - low)
      ∙ get_or-append (map f (take (high - low) (drop low xs))) (drop (high - low) (drop low xs)) 0 (i - low) (omega (arith, part_length))
      ∙ get_or-map f (take (high - low) (drop low xs)) (i - low) 0 0 l
      ∙ ap f (get_or-take (high - low) (drop low xs) (i - low) 0 (omega arith) ∙ get_or-drop low xs (i - low) 0 ∙ ap (λ (k : ℕ). get_or xs k 0) e)

  pub spliced_behind : (i : ℕ) → high ≤ i → get_or spliced i 0 ≡ get_or xs i 0
  spliced_behind i h =
      let e : low + ((high - low) + (i - high)) ≡ i = omega arith in
      ap (λ (k : ℕ). get_or spliced k 0) (sym e)
      ∙ behind_head ((high - low) + (i - high))
      ∙ ap (λ (k : ℕ). get_or (map f (take (high - low) (drop low xs)) ++ drop (high - low) (drop low xs)) (k + (i - high)) 0) (sym part_length)
      ∙ get_or-append-add (map f (take (high - low) (drop low xs))) (drop (high - low) (drop low xs)) (i - high) 0
      ∙ get_or-drop (high - low) (drop low xs) (i - high) 0
      ∙ get_or-drop low xs ((high - low) + (i - high)) 0
      ∙ ap (λ (k : ℕ). get_or xs k 0) e

-- Numbers that were put in order rise.
pub sorted_rising : (n : ℕ) (a b : List ℕ) → n ≤ length a → b ≡ sort_keys (take n a) ++ drop n a → Rising b n
sorted_rising n a b h e i j l k =
    let m : length (sort_keys (take n a)) ≡ n = sort_length [] (take n a) ∙ omega (arith, length-take-le n a h) in
    let at : (x : ℕ) → x < n → get_or b x 0 ≡ get_or (sort_keys (take n a)) x 0 = λ x u. ap (λ (z : List ℕ). get_or z x 0) e ∙ get_or-append (sort_keys (take n a)) (drop n a) 0 x (omega arith) in
    omega (arith, at i (omega arith), at j k, sorted_up 0 (sort_keys (take n a)) i j (sort_sorted [] (take n a) tt) l (omega arith))

pub rising_front : (b : List ℕ) (n : ℕ) → n ≤ length b → Rising b n → Rising (take n b) (length (take n b))
rising_front b n h up i j l k =
    let m : length (take n b) ≡ n = length-take-le n b h in
    omega (arith, get_or-take n b i 0 (omega arith), get_or-take n b j 0 (omega arith), up i j l (omega arith))

-- The place of a number among those that rise.
pub rising_parted : (xs : List ℕ) (x : ℕ) → Rising xs (length xs) → IsPartitionedBy (λ y. ltb y x) xs
rising_parted xs x up i j d l k t =
    let a : get_or xs i d ≡ get_or xs i 0 = get_or_default xs i d 0 (omega arith) in
    let b : get_or xs j d ≡ get_or xs j 0 = get_or_default xs j d 0 (omega arith) in
    lt-ltb _ x (omega (arith, a, b, up i j l (omega arith), ltb-true _ x t))

pub below_place : (xs : List ℕ) (x k : ℕ) → k ≤ length xs → IsPartitionPoint (λ y. ltb y x ≡ true) (λ y. ltb y x ≡ false) xs k → Below xs (length xs) x k
below_place xs x k b p =
    record { inside = b; under = λ j u v. ltb-true (get_or xs j 0) x (p.0 j 0 (omega arith) v); above = λ j u v. ltb-false (get_or xs j 0) x (p.1 j 0 v (omega arith)) }

-- The longer of two routes, as numbers.
better_longer : (routes : List ℕ) (at c : ℕ) → at ≡ at / 4 * 4 → code_chosen routes (better_code routes at c) ≡ longer (code_chosen routes c) (route_at routes at)
better_longer routes at zero e = ap (code_chosen routes) (add-one (at / 4)) ∙ ap (λ (k : ℕ). Some (route_at routes k)) (sym e)
better_longer routes at (suc m) e = go (ltb (get_or routes (m * 4 + 1) 0) (get_or routes (at + 1) 0)) refl
  where
    z : (suc m - 1) * 4 + 1 ≡ m * 4 + 1
    z = omega arith

    own : code_chosen routes (at / 4 + 1) ≡ Some (route_at routes at)
    own = ap (code_chosen routes) (add-one (at / 4)) ∙ ap (λ (k : ℕ). Some (route_at routes k)) (sym e)

    code : (b : Bool) → ltb (get_or routes (m * 4 + 1) 0) (get_or routes (at + 1) 0) ≡ b → better_code routes at (suc m) ≡ cond b (at / 4 + 1) (suc m)
    code b q = rw (ne_eqb (suc m) 0 (λ y. omega arith), z, q)

    go : (b : Bool) → ltb (get_or routes (m * 4 + 1) 0) (get_or routes (at + 1) 0) ≡ b → code_chosen routes (better_code routes at (suc m)) ≡ cond b (Some (route_at routes at)) (Some (route_at routes (m * 4)))
    go true q = ap (code_chosen routes) (code true q) ∙ own
    go false q = ap (code_chosen routes) (code false q)

better_inside : (routes : List ℕ) (at c : ℕ) → c * 4 ≤ at → better_code routes at c * 4 ≤ at + 4
better_inside routes at c h = go (eqb c 0) (ltb (get_or routes ((c - 1) * 4 + 1) 0) (get_or routes (at + 1) 0))
  where
    go : (a b : Bool) → cond a (at / 4 + 1) (cond b (at / 4 + 1) c) * 4 ≤ at + 4
    go true b = omega arith
    go false true = omega arith
    go false false = omega arith

-- One route more.
module _ (routes addresses codes : List ℕ) (at low high first size : ℕ) (up : Rising addresses (length addresses)) (s : Painted routes addresses codes at) (whole : at + 4 ≤ length routes) (fours : at ≡ at / 4 * 4)
    (ef : first ≡ first_address (get_or routes at 0) (get_or routes (at + 1) 0)) (es : size ≡ 2 ^ (32 - get_or routes (at + 1) 0))
    (lo : Below addresses (length addresses) first low) (hi : Below addresses (length addresses) (first + size) high) where
  pub in_order : low ≤ high
  in_order = elim (dec_le low high) [ yes p ↦ p | no q ↦ absurd (let a = lo.under high (omega (arith, lo.inside)) (omega arith) in let b = hi.above high (omega (arith, lo.inside)) (omega arith) in omega arith) ]

  pub part_within : Within at (take (high - low) (drop low codes))
  part_within i l =
      let k : i < high - low = omega (arith, length-take (high - low) (drop low codes)) in
      omega (arith, get_or-take (high - low) (drop low codes) i 0 k, get_or-drop low codes i 0, s.inside (low + i) (omega (arith, in_order, hi.inside, s.sized)))

  abbrev codes' : List ℕ
  codes' = spliced (better_code routes at) codes low high in_order (omega (arith, hi.inside, s.sized))

  block_is : (a : ℕ) → matches (route_at routes at) a ≡ (leb first a && ltb a (first + size))
  block_is a = in_block (get_or routes at 0) a (2 ^ (32 - get_or routes (at + 1) 0)) (power_pos (32 - get_or routes (at + 1) 0)) ∙ rw (ef, es)

  step : (i : ℕ) → i < length addresses → (get_or codes' i 0 * 4 ≤ at + 4) × (code_chosen routes (get_or codes' i 0) ≡ preferred (get_or addresses i 0) (code_chosen routes (get_or codes i 0)) (route_at routes at))
  step i l =
      let a : ℕ = get_or addresses i 0 in
      let c : ℕ = get_or codes i 0 in
      let g = better_code routes at in
      let f : high ≤ length codes = omega (arith, hi.inside, s.sized) in
      elim (dec_le low i) [
        | yes p ↦ elim (dec_le high i) [
          | yes q ↦ kept i l (spliced_behind g codes low high in_order f i q) (block_is a ∙ rw (le-ltb a (first + size) (hi.above i l q)) (and-false (leb first a)))
          | no q ↦ (let e : get_or codes' i 0 ≡ better_code routes at c = spliced_in g codes low high in_order f i p (omega arith) in
              let m : matches (route_at routes at) a ≡ true = block_is a ∙ rw (le-leb first a (lo.above i l p), lt-ltb a (first + size) (hi.under i l (omega arith))) in
              (rw e (better_inside routes at c (s.inside i (omega (arith, s.sized)))), ap (code_chosen routes) e ∙ better_longer routes at c fours ∙ sym (rw m)))
        ]
        | no p ↦ kept i l (spliced_before g codes low high in_order f i (omega arith)) (block_is a ∙ rw (lt-leb first a (lo.under i l (omega arith))))
      ]
    where
      kept : (i : ℕ) → i < length addresses → get_or codes' i 0 ≡ get_or codes i 0 → matches (route_at routes at) (get_or addresses i 0) ≡ false
          → (get_or codes' i 0 * 4 ≤ at + 4) × (code_chosen routes (get_or codes' i 0) ≡ preferred (get_or addresses i 0) (code_chosen routes (get_or codes i 0)) (route_at routes at))
      kept i l e m = (omega (arith, e, s.inside i (omega (arith, s.sized))), ap (code_chosen routes) e ∙ sym (rw m))

  pub painted_next : Painted routes addresses codes' (at + 4)
  painted_next =
      let z : length codes' ≡ length codes = spliced_length (better_code routes at) codes low high in_order (omega (arith, hi.inside, s.sized)) in
      record {
        sized = z ∙ s.sized;
        inside = λ i l. (step i (omega (arith, z, s.sized))).0;
        chosen = λ i l. chosen_turn routes at (get_or addresses i 0) (code_chosen routes (get_or codes i 0)) (longest (get_or addresses i 0) (routes_of routes)) (s.chosen i l) whole (route_at routes at) refl (code_chosen routes (get_or codes' i 0)) (step i l).1;
      }

-- No route so far.
pub painted_start : (routes addresses codes : List ℕ) → length codes ≡ length addresses → ((i : ℕ) → i < length codes → get_or codes i 0 ≡ 0) → Painted routes addresses codes 0
unfolding longest
painted_start routes addresses codes e z =
    record {
      sized = e;
      inside = λ i l. omega (arith, z i l);
      chosen = λ i l. sym (ap (λ (c : ℕ). chosen_from (get_or addresses i 0) (code_chosen routes c) (routes_of routes)) (z i (omega arith)));
    }

-- all routes painted, and their ports named
pub painted_all : (routes addresses codes : List ℕ) → Painted routes addresses codes (length routes / 4 * 4) → map (code_port routes) codes ≡ map (port_at (routes_of routes)) addresses
painted_all routes addresses codes s =
    let f = code_port routes in
    let g = port_at (routes_of routes) in
    ext_get_or 0 (map f codes) (map g addresses) (length-map codes f ∙ s.sized ∙ sym (length-map addresses g))
    (λ i l.
    let h : i < length codes = omega (arith, length-map codes f) in
    let k : i < length addresses = omega (arith, s.sized) in
    let q : longest (get_or addresses i 0) (routes_of routes) ≡ code_chosen routes (get_or codes i 0) =
    s.chosen i k ∙ ap (chosen_from (get_or addresses i 0) (code_chosen routes (get_or codes i 0))) (at_end routes (length routes / 4 * 4) (omega arith)) in
    get_or-map f codes i 0 0 h ∙ ap port_number (sym q) ∙ sym (get_or-map g addresses i 0 0 k))
