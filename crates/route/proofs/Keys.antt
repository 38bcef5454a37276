-- Prefix and length as one number: equal numbers are equal prefixes of one length, and in order equal numbers are neighbours.
use mathlib.Core.Path.{◌≡◌, refl, sym, ◌∙◌, ap}
use mathlib.Core.Bool.{Bool, true, false, cond, not, ◌&&◌}
use mathlib.Core.Logic.{◌⊎◌, inl, inr}
use mathlib.Core.List.{List, [], ◌∷◌, ◌++◌, append_assoc, append-nil}
use Prim.Native.Nat.{ℕ, zero, suc, ◌+◌, ◌-◌, ◌*◌, ◌/◌, ◌%◌, ◌^◌, ◌<◌, ◌≤◌}
use native.Mathlib.Omega.{arith}
use native.Mathlib.Numerals.{add-one}
use native.Mathlib.Nat.{mul-add, add-mul, pow-suc, pow-succ', div-add-mod', mul_comm, mul-le-mul_right, lt_of_mul-lt-mul_right, one-mul, mul_assoc}
use lib.Dec.{leb, ltb, eqb}
use borrow.Author.Tests.{ltb-true, ltb-false, le-leb, lt-leb, leb-true, eqb-true, eq-eqb, ne_eqb}
use lib.ListN.{length, take, drop, set, get_or}
use lib.Seq.{length-take-le, take_at}
use Rattle.label.proofs.Bools.{never, and_left, and_right, same_yes, less_or}
use Rattle.std.specs.List.{IsAllAdjacentAnswer}
use Rattle.lists_sort.specs.Order.{Sorted, all, sort_keys}
use Rattle.lists_sort.proofs.Laws.{sort_sorted, sort_length}
use Rattle.lists_sort.proofs.Merge.{put}
use Rattle.table.proofs.Rows.{pairs, sorted_pairs}
use Rattle.route.specs.declared.Route.{Route}
use Rattle.route.specs.Route.{routes_of, clear_past, route_sound, every, same_prefix, prefixes_differ}
use Rattle.route.specs.Stages.{route_at, prefix_sound, is_host, prefix_key, among, keys_of, climbs, Gathered}
use Rattle.route.proofs.Laws.{route_at_lem, at_end, power_pos, prefix_of}

and_true : (a : Bool) → (a && true) ≡ a
and_true true = refl
and_true false = refl

and_false : (a : Bool) → (a && false) ≡ false
and_false true = refl
and_false false = refl

-- Powers of two.
pow_sum : (k a : ℕ) → 2 ^ (k + a) ≡ 2 ^ k * 2 ^ a
pow_sum zero a = let z : 0 + a ≡ a = omega arith in ap (λ (m : ℕ). 2 ^ m) z ∙ sym (one-mul (2 ^ a))
pow_sum (suc k) a = let z : suc k + a ≡ suc (k + a) = omega arith in ap (λ (m : ℕ). 2 ^ m) z ∙ pow-succ' 2 (k + a) ∙ ap (λ (z : ℕ). 2 * z) (pow_sum k a) ∙ sym (mul_assoc 2 (2 ^ k) (2 ^ a)) ∙ ap (λ (z : ℕ). z * 2 ^ a) (sym (pow-succ' 2 k))

twice : (a : ℕ) → 2 ^ suc a ≡ 2 ^ a + 2 ^ a
twice a = pow-succ' 2 a ∙ omega arith

-- a multiple of a power of two below a greater one has that much room above it
room : (k a q : ℕ) → q * 2 ^ a < 2 ^ (k + a) → q * 2 ^ a + 2 ^ a ≤ 2 ^ (k + a)
room k a q h =
    let e : 2 ^ (k + a) ≡ 2 ^ k * 2 ^ a = pow_sum k a in
    let l : q * 2 ^ a < 2 ^ k * 2 ^ a = rw (← e) h in
    let m : q < 2 ^ k = lt_of_mul-lt-mul_right (2 ^ a) l in
    let b : suc q * 2 ^ a ≤ 2 ^ k * 2 ^ a = mul-le-mul_right (2 ^ a) m in
    rw e (let z : suc q * 2 ^ a ≡ q * 2 ^ a + 2 ^ a = omega arith in rw (← z) b)

halves : (m a : ℕ) → m * 2 ^ suc a ≡ (m * 2 ^ a) * 2
halves m a = ap (λ (z : ℕ). m * z) (pow-suc 2 a) ∙ sym (mul_assoc m (2 ^ a) 2)

spread : (q p : ℕ) → q * (p + p) + p ≡ (q * 2 + 1) * p
spread q p =
    let a : q * (p + p) ≡ q * p + q * p = mul-add q p p in
    let b : (q * 2 + 1) * p ≡ q * 2 * p + 1 * p = add-mul (q * 2) 1 p in
    let c : q * 2 * p ≡ q * p * 2 = mul_assoc q 2 p ∙ ap (λ (z : ℕ). q * z) (mul_comm 2 p) ∙ sym (mul_assoc q p 2) in
    omega arith

-- A number is one odd number times one power of two.
odd_part : (a b q s : ℕ) → (q * 2 + 1) * 2 ^ a ≡ (s * 2 + 1) * 2 ^ b → (a ≡ b) × (q ≡ s)
odd_part zero zero q s e = (refl, omega arith)
odd_part zero (suc b) q s e =
    let z : (s * 2 + 1) * 2 ^ suc b ≡ ((s * 2 + 1) * 2 ^ b) * 2 = halves (s * 2 + 1) b in
    absurd (omega arith)
odd_part (suc a) zero q s e =
    let z : (q * 2 + 1) * 2 ^ suc a ≡ ((q * 2 + 1) * 2 ^ a) * 2 = halves (q * 2 + 1) a in
    absurd (omega arith)
odd_part (suc a) (suc b) q s e =
    let y : (q * 2 + 1) * 2 ^ suc a ≡ ((q * 2 + 1) * 2 ^ a) * 2 = halves (q * 2 + 1) a in
    let z : (s * 2 + 1) * 2 ^ suc b ≡ ((s * 2 + 1) * 2 ^ b) * 2 = halves (s * 2 + 1) b in
    let i = odd_part a b q s (omega arith) in
    (ap suc i.0, i.1)

sound_length : (r : Route) → prefix_sound r ≡ true → r.length ≤ 32
sound_length r e = leb-true r.length 32 (and_left (leb r.length 32) (clear_past r) e)

pub sound_clear : (r : Route) → prefix_sound r ≡ true → r.prefix % 2 ^ (32 - r.length) ≡ 0
sound_clear r e = eqb-true (r.prefix % 2 ^ (32 - r.length)) 0 (and_right (leb r.length 32) (clear_past r) e)

-- of a shorter route: the last bit that counts, the one behind it, and the rest
module _ (r : Route) (sound : prefix_sound r ≡ true) (short : r.length < 32) where
  abbrev quotient : ℕ
  quotient = r.prefix / 2 ^ (32 - r.length)

  in_parts : r.prefix ≡ quotient * 2 ^ suc (31 - r.length)
  in_parts =
      let z : 32 - r.length ≡ suc (31 - r.length) = omega arith in
      let c : r.prefix % 2 ^ (32 - r.length) ≡ 0 = sound_clear r sound in
      let d : quotient * 2 ^ (32 - r.length) + r.prefix % 2 ^ (32 - r.length) ≡ r.prefix = div-add-mod' r.prefix (2 ^ (32 - r.length)) in
      let f : r.prefix ≡ quotient * 2 ^ (32 - r.length) = omega arith in
      f ∙ ap (λ (m : ℕ). quotient * 2 ^ m) z

  key_is : r.prefix + 2 ^ (31 - r.length) ≡ (quotient * 2 + 1) * 2 ^ (31 - r.length)
  key_is =
      ap (λ (x : ℕ). x + 2 ^ (31 - r.length)) (in_parts ∙ ap (λ (z : ℕ). quotient * z) (twice (31 - r.length))) ∙ spread quotient (2 ^ (31 - r.length))

-- it fits 32 bits where the prefix does
pub key_fits : (r : Route) → prefix_sound r ≡ true → r.length < 32 → r.prefix < 4294967296 → r.prefix + 2 ^ (31 - r.length) < 4294967296
key_fits r sound short fits =
    let q : ℕ = r.prefix / 2 ^ (32 - r.length) in
    let e : r.prefix ≡ q * 2 ^ suc (31 - r.length) = in_parts r sound short in
    let z : r.length + suc (31 - r.length) ≡ 32 = omega arith in
    let y : 2 ^ (r.length + suc (31 - r.length)) ≡ 4294967296 = ap (λ (m : ℕ). 2 ^ m) z in
    let g : q * 2 ^ suc (31 - r.length) + 2 ^ suc (31 - r.length) ≤ 2 ^ (r.length + suc (31 - r.length)) = room r.length (suc (31 - r.length)) q (omega arith) in
    let t : 2 ^ suc (31 - r.length) ≡ 2 ^ (31 - r.length) + 2 ^ (31 - r.length) = twice (31 - r.length) in
    let p : 0 < 2 ^ (31 - r.length) = power_pos (31 - r.length) in
    omega arith

-- Equal numbers are equal prefixes of one length.
pub long : (r : Route) → prefix_sound r ≡ true → is_host r ≡ false → r.length < 32
long r sound e =
    let h : r.length ≤ 32 = sound_length r sound in
    let d : (r.length ≡ 32 → ⊥) = λ x. never (sym (eq-eqb _ _ x) ∙ e) in
    omega arith

same_hosts : (r s : Route) → is_host r ≡ true → is_host s ≡ true → same_prefix r s ≡ eqb (prefix_key r) (prefix_key s)
same_hosts r s er es =
    let e : r.length ≡ s.length = eqb-true _ _ er ∙ sym (eqb-true _ _ es) in
    rw (er, es, eq-eqb r.length s.length e) (and_true (eqb r.prefix s.prefix))

same_short : (r s : Route) → prefix_sound r ≡ true → prefix_sound s ≡ true → is_host r ≡ false → is_host s ≡ false → same_prefix r s ≡ eqb (prefix_key r) (prefix_key s)
same_short r s sr ss er es = rw (er, es) (same_yes (eqb r.prefix s.prefix && eqb r.length s.length) (eqb (r.prefix + 2 ^ (31 - r.length)) (s.prefix + 2 ^ (31 - s.length))) there back)
  where
    lr : r.length < 32
    lr = long r sr er

    ls : s.length < 32
    ls = long s ss es

    there : (eqb r.prefix s.prefix && eqb r.length s.length) ≡ true → eqb (r.prefix + 2 ^ (31 - r.length)) (s.prefix + 2 ^ (31 - s.length)) ≡ true
    there t =
        let p : r.prefix ≡ s.prefix = eqb-true r.prefix s.prefix (and_left (eqb r.prefix s.prefix) (eqb r.length s.length) t) in
        let l : r.length ≡ s.length = eqb-true r.length s.length (and_right (eqb r.prefix s.prefix) (eqb r.length s.length) t) in
        eq-eqb _ _ (ap (λ (x : ℕ). x + 2 ^ (31 - r.length)) p ∙ ap (λ (x : ℕ). s.prefix + 2 ^ (31 - x)) l)

    back : eqb (r.prefix + 2 ^ (31 - r.length)) (s.prefix + 2 ^ (31 - s.length)) ≡ true → (eqb r.prefix s.prefix && eqb r.length s.length) ≡ true
    back t =
        let k : r.prefix + 2 ^ (31 - r.length) ≡ s.prefix + 2 ^ (31 - s.length) = eqb-true _ _ t in
        let o = odd_part (31 - r.length) (31 - s.length) (quotient r sr lr) (quotient s ss ls) (sym (key_is r sr lr) ∙ k ∙ key_is s ss ls) in
        let a : 31 - r.length ≡ 31 - s.length = o.0 in
        let l : r.length ≡ s.length = omega (arith, lr, ls) in
        let m : 2 ^ (31 - r.length) ≡ 2 ^ (31 - s.length) = ap (λ (x : ℕ). 2 ^ x) a in
        let p : r.prefix ≡ s.prefix = omega arith in
        rw (eq-eqb _ _ p, eq-eqb _ _ l) refl

-- routes of which one alone is a host's differ in length
not_same : (r s : Route) (a b : Bool) → is_host r ≡ a → is_host s ≡ b → (a ≡ b → ⊥) → same_prefix r s ≡ false
not_same r s a b er es d =
    let n : (r.length ≡ s.length → ⊥) = λ e. d (sym er ∙ ap (λ (x : ℕ). eqb x 32) e ∙ es) in
    rw (ne_eqb r.length s.length n) (and_false (eqb r.prefix s.prefix))

abbrev pub differ : ℕ → ℕ → Bool
differ a b = not (eqb a b)

-- one route against the rest
new_by_key : (r : Route) (h : Bool) → is_host r ≡ h → prefix_sound r ≡ true → (rs : List Route) → every prefix_sound rs ≡ true
    → every (λ s. not (same_prefix r s)) rs ≡ all (differ (prefix_key r)) (keys_of h rs)
new_by_key r h er sr [] ss = refl
new_by_key r h er sr (s ∷ rs) ss = go h (is_host s) er refl (new_by_key r h er sr rs (and_right (prefix_sound s) (every prefix_sound rs) ss))
  where
    sound : prefix_sound s ≡ true
    sound = and_left (prefix_sound s) (every prefix_sound rs) ss

    go : (h b : Bool) → is_host r ≡ h → is_host s ≡ b → every (λ s. not (same_prefix r s)) rs ≡ all (differ (prefix_key r)) (keys_of h rs)
        → (not (same_prefix r s) && every (λ s. not (same_prefix r s)) rs) ≡ all (differ (prefix_key r)) (cond (cond h (is_host s) (not (is_host s))) (prefix_key s ∷ keys_of h rs) (keys_of h rs))
    go true true e f ih = rw (ih, same_hosts r s e f, f)
    go true false e f ih = rw (ih, not_same r s true false e f never, f)
    go false true e f ih = rw (ih, not_same r s false true e f (λ x. never (sym x)), f)
    go false false e f ih = rw (ih, same_short r s sr sound e f, f)

-- all routes against each other: the hosts' among themselves, and the others
pub differ_by_keys : (rs : List Route) → every prefix_sound rs ≡ true → prefixes_differ rs ≡ (pairs differ (keys_of true rs) && pairs differ (keys_of false rs))
differ_by_keys [] ss = refl
differ_by_keys (r ∷ rs) ss = step (is_host r) _ (prefix_key r) (new_by_key r (is_host r) refl sound rs rest) (differ_by_keys rs (and_right (prefix_sound r) (every prefix_sound rs) ss))
  where
    sound : prefix_sound r ≡ true
    sound = and_left (prefix_sound r) (every prefix_sound rs) ss

    rest : every prefix_sound rs ≡ true
    rest = and_right (prefix_sound r) (every prefix_sound rs) ss

    front : (a b c : Bool) → (a && (b && c)) ≡ ((a && b) && c)
    front true b c = refl
    front false b c = refl

    back : (a b c : Bool) → (a && (b && c)) ≡ (b && (a && c))
    back true true c = refl
    back true false c = refl
    back false true c = refl
    back false false c = refl

    step : (h n : Bool) (k : ℕ) → n ≡ all (differ k) (keys_of h rs) → prefixes_differ rs ≡ (pairs differ (keys_of true rs) && pairs differ (keys_of false rs))
        → (n && prefixes_differ rs) ≡ (pairs differ (cond h (k ∷ keys_of true rs) (keys_of true rs)) && pairs differ (cond (not h) (k ∷ keys_of false rs) (keys_of false rs)))
    step true n k e ih = rw (e, ih) (front (all (differ k) (keys_of true rs)) (pairs differ (keys_of true rs)) (pairs differ (keys_of false rs)))
    step false n k e ih = rw (e, ih) (back (all (differ k) (keys_of false rs)) (pairs differ (keys_of true rs)) (pairs differ (keys_of false rs)))

-- In order, numbers differ exactly when each is above the one before it.
above : (x y : ℕ) (ys : List ℕ) → x < y → Sorted y ys → all (differ x) ys ≡ true
above x y [] h s = refl
above x y (z ∷ zs) h s =
    let d : (x ≡ z → ⊥) = λ e. omega (arith, s.0) in
    rw (ne_eqb x z d) (above x z zs (omega (arith, s.0)) s.1)

climbs_after : (x : ℕ) (xs : List ℕ) → Sorted x xs → climbs (x + 1) xs ≡ (all (differ x) xs && pairs differ xs)
climbs_after x [] s = refl
climbs_after x (y ∷ ys) s = go (less_or x y) (climbs_after y ys s.1)
  where
    go : (x < y) ⊎ (y ≤ x) → climbs (y + 1) ys ≡ (all (differ y) ys && pairs differ ys) → (leb (x + 1) y && climbs (y + 1) ys) ≡ ((differ x y && all (differ x) ys) && (all (differ y) ys && pairs differ ys))
    go (inl l) ih = rw (ih, le-leb (x + 1) y (omega arith), ne_eqb x y (λ e. omega arith), above x y ys l s.1)
    go (inr g) ih = rw (lt-leb (x + 1) y (omega arith), eq-eqb x y (omega (arith, s.0)))

pub climbs_differ : (ks : List ℕ) → climbs 0 (sort_keys ks) ≡ pairs differ ks
climbs_differ ks = first (sort_keys ks) (sort_sorted [] ks tt) ∙ sorted_pairs differ either ks
  where
    first : (xs : List ℕ) → Sorted 0 xs → climbs 0 xs ≡ pairs differ xs
    first [] s = refl
    first (x ∷ xs) s = rw (le-leb 0 x (omega arith)) (climbs_after x xs s.1)

    either : (a b : ℕ) → differ a b ≡ differ b a
    either a b = ap not (same_yes (eqb a b) (eqb b a) (λ e. eq-eqb b a (sym (eqb-true a b e))) (λ e. eq-eqb a b (sym (eqb-true b a e))))

-- Gathering: a turn that takes the route's number, and one that does not.
module _ (hosts : Bool) (ns keys : List ℕ) (at n : ℕ) (w : List ℕ) (inv : w ≡ take n keys ++ keys_of hosts (routes_of (drop at ns))) (h : at + 4 ≤ length ns)
    (r : Route) (er : r ≡ route_at ns at) (t : Bool) (et : t ≡ among hosts r) where
  one : w ≡ take n keys ++ cond t (prefix_key r ∷ keys_of hosts (routes_of (drop (at + 4) ns))) (keys_of hosts (routes_of (drop (at + 4) ns)))
  one = inv ∙ ap (λ (z : List Route). take n keys ++ keys_of hosts z) (route_at_lem ns at h)
      ∙ ap (λ (x : Route). take n keys ++ keys_of hosts (x ∷ routes_of (drop (at + 4) ns))) (sym er) ∙ rw (← et)

  pub gathers : t ≡ true → n < length keys → (k : ℕ) → k ≡ prefix_key r → w ≡ take (n + 1) (set keys n k) ++ keys_of hosts (routes_of (drop (at + 4) ns))
  gathers e l k ek =
      one ∙ rw (e, put keys n k l, ek) (sym (append_assoc (take n keys) (prefix_key r ∷ []) (keys_of hosts (routes_of (drop (at + 4) ns)))))

  pub passes_by : t ≡ false → w ≡ take n keys ++ keys_of hosts (routes_of (drop (at + 4) ns))
  passes_by e = one ∙ rw e

-- soundness of the route at a place, and of those behind it
pub sound_at : (ns : List ℕ) (at : ℕ) → at + 4 ≤ length ns → every prefix_sound (routes_of (drop at ns)) ≡ true
    → (prefix_sound (route_at ns at) ≡ true) × (every prefix_sound (routes_of (drop (at + 4) ns)) ≡ true)
sound_at ns at h e =
    let f : (prefix_sound (route_at ns at) && every prefix_sound (routes_of (drop (at + 4) ns))) ≡ true = sym (ap (every prefix_sound) (route_at_lem ns at h)) ∙ e in
    (and_left (prefix_sound (route_at ns at)) (every prefix_sound (routes_of (drop (at + 4) ns))) f, and_right (prefix_sound (route_at ns at)) (every prefix_sound (routes_of (drop (at + 4) ns))) f)

-- the end: nothing is left to gather
pub gathered : (hosts : Bool) (ns keys : List ℕ) (at n : ℕ) (w : List ℕ) → w ≡ take n keys ++ keys_of hosts (routes_of (drop at ns)) → length ns - at < 4 → n ≤ length keys → Gathered w keys n
gathered hosts ns keys at n w inv h l =
    let e : w ≡ take n keys = inv ∙ ap (λ (z : List Route). take n keys ++ keys_of hosts z) (at_end ns at h) ∙ append-nil (take n keys) in
    record { many = sym (ap length e ∙ length-take-le n keys l); written = sym e }

-- the numbers gathered and put in order climb exactly when they climb in order
pub climbs_gathered : {ks keys sorted : List ℕ} {n : ℕ} {t : Bool} → Gathered ks keys n → sorted ≡ sort_keys (take n keys) ++ drop n keys → t ≡ climbs 0 (take n sorted) → t ≡ climbs 0 (sort_keys ks)
climbs_gathered {ks} {keys} {sorted} {n} {t} g e c =
    let a : sorted ≡ sort_keys ks ++ drop n keys = e ∙ ap (λ (z : List ℕ). sort_keys z ++ drop n keys) g.written in
    let l : length (sort_keys ks) ≡ n = let y : length (sort_keys ks) ≡ 0 + length ks = sort_length [] ks in let m : n ≡ length ks = g.many in omega arith in
    c ∙ ap (λ (z : List ℕ). climbs 0 (take n z)) a ∙ ap (climbs 0) (take_at (sort_keys ks) (drop n keys) n l)

-- both looks together: the hosts' routes first
module _ (rs : List Route) (sound : every prefix_sound rs ≡ true) where
  by_climbing : prefixes_differ rs ≡ (climbs 0 (sort_keys (keys_of true rs)) && climbs 0 (sort_keys (keys_of false rs)))
  by_climbing = differ_by_keys rs sound ∙ rw (climbs_differ (keys_of true rs), climbs_differ (keys_of false rs))

  pub hosts_repeat : climbs 0 (sort_keys (keys_of true rs)) ≡ false → false ≡ prefixes_differ rs
  hosts_repeat e = sym (by_climbing ∙ ap (λ (t : Bool). t && climbs 0 (sort_keys (keys_of false rs))) e)

  pub by_others : {t : Bool} → climbs 0 (sort_keys (keys_of true rs)) ≡ true → t ≡ climbs 0 (sort_keys (keys_of false rs)) → t ≡ prefixes_differ rs
  by_others e f = f ∙ sym (by_climbing ∙ ap (λ (t : Bool). t && climbs 0 (sort_keys (keys_of false rs))) e)

-- sound routes have sound prefixes
pub every_prefix : (domains : List ℕ) (rs : List Route) → every (route_sound domains) rs ≡ true → every prefix_sound rs ≡ true
every_prefix domains [] e = refl
every_prefix domains (r ∷ rs) e =
    rw (prefix_of domains r (and_left (route_sound domains r) (every (route_sound domains) rs) e)) (every_prefix domains rs (and_right (route_sound domains r) (every (route_sound domains) rs) e))

-- Numbers climb where each is above the one before it.
climbs_all : (f : ℕ) (xs : List ℕ) → (0 < length xs → f ≤ get_or xs 0 0) → ((k : ℕ) → suc k < length xs → get_or xs k 0 < get_or xs (suc k) 0) → climbs f xs ≡ true
climbs_all f [] h r = refl
climbs_all f (x ∷ xs) h r =
    rw (le-leb f x (h (omega arith))) (climbs_all (x + 1) xs (λ w. let l : x < get_or xs 0 0 = r 0 (omega arith) in omega arith) (λ k w. r (suc k) (omega arith)))

climbs_not : (f k : ℕ) (xs : List ℕ) → suc k < length xs → get_or xs (suc k) 0 ≤ get_or xs k 0 → climbs f xs ≡ false
climbs_not f k [] h l = absurd (omega arith)
climbs_not f k (x ∷ []) h l = absurd (omega arith)
climbs_not f zero (x ∷ y ∷ xs) h l = rw (lt-leb (x + 1) y (omega arith)) (and_false (leb f x))
climbs_not f (suc k) (x ∷ y ∷ xs) h l = ap (λ (b : Bool). leb f x && b) (climbs_not (x + 1) k (y ∷ xs) (omega arith) l) ∙ and_false (leb f x)

pub climbs_adjacent : (xs : List ℕ) (r : Bool) → IsAllAdjacentAnswer (λ x y b. b ≡ ltb x y) xs r → r ≡ climbs 0 xs
climbs_adjacent xs true h = sym (climbs_all 0 xs (λ w. omega arith) (λ k w. ltb-true _ _ (sym (rw add-one at (h k 0 (omega arith))))))
climbs_adjacent xs false h =
    let k = h.0 in
    let e = ltb-false (get_or xs k 0) (get_or xs (k + 1) 0) (sym (h.2 0)) in
    sym (climbs_not 0 k xs (omega (arith, h.1)) (rw add-one at e))
