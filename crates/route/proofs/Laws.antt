-- A list of numbers as routes: the route at a place, the end, and a turn of each loop.
use mathlib.Core.Path.{◌≡◌, refl, sym, ◌∙◌, ap}
use mathlib.Core.Bool.{Bool, true, false, ◌&&◌}
use mathlib.Core.List.{List, [], ◌∷◌}
use Prim.Native.Nat.{ℕ, suc, ◌+◌, ◌-◌, ◌*◌, ◌/◌, ◌%◌, ◌^◌, ◌<◌, ◌≤◌}
use native.Mathlib.Omega.{arith}
use native.Mathlib.Nat.{add-zero, div-one, one-mul, mod-eq_of_lt, lt_of_le_of_lt, pow-le-pow_right, one-le-pow}
use lib.Dec.{lit<}
use Rattle.lists.proofs.Laws.{chunk_in}
use Rattle.label.proofs.Bools.{and_left, and_right}
use borrow.Author.Tests.{ltb-true, lt-ltb, le-ltb}
use lib.ListN.{length, get_or, take, drop, length-drop}
use lib.Seq.{drop-cons, get_or-drop, get_or-take}
use Rattle.std.specs.Simd.{first_chunks}
use Rattle.std.specs.List.{list_all}
use Rattle.route.specs.declared.Route.{Route}
use Rattle.route.specs.Route.{Chosen}
use Rattle.route.specs.Route.{routes_of, preferred, chosen_from, length_sound, clear_past, port_listed, domain_agrees, route_sound, every}
use Rattle.route.specs.Stages.{route_at, prefix_sound}

-- one number more is taken off, at k past the place
next : (ns : List ℕ) (at k j : ℕ) → j ≡ at + k → j < length ns → drop j ns ≡ get_or ns (at + k) 0 ∷ drop (suc j) ns
next ns at k j e h = drop-cons ns j 0 h ∙ ap (λ (m : ℕ). get_or ns m 0 ∷ drop (suc j) ns) e

pub route_at_lem : (ns : List ℕ) (at : ℕ) → at + 4 ≤ length ns → routes_of (drop at ns) ≡ route_at ns at ∷ routes_of (drop (at + 4) ns)
route_at_lem ns at h =
    let e : suc (suc (suc (suc at))) ≡ at + 4 = omega arith in
    ap routes_of (drop-cons ns at 0 (omega arith)
    ∙ ap (λ (zs : List ℕ). get_or ns at 0 ∷ zs) (next ns at 1 (suc at) (omega arith) (omega arith)
    ∙ ap (λ (zs : List ℕ). get_or ns (at + 1) 0 ∷ zs) (next ns at 2 (suc (suc at)) (omega arith) (omega arith)
    ∙ ap (λ (zs : List ℕ). get_or ns (at + 2) 0 ∷ zs) (next ns at 3 (suc (suc (suc at))) (omega arith) (omega arith)))))
    ∙ ap (λ (m : ℕ). route_at ns at ∷ routes_of (drop m ns)) e

few : (ns : List ℕ) → length ns < 4 → routes_of ns ≡ []
few [] h = refl
few (a ∷ []) h = refl
few (a ∷ b ∷ []) h = refl
few (a ∷ b ∷ c ∷ []) h = refl
few (a ∷ b ∷ c ∷ d ∷ ns) h = absurd (omega arith)

pub at_end : (ns : List ℕ) (at : ℕ) → length ns - at < 4 → routes_of (drop at ns) ≡ []
at_end ns at h = few (drop at ns) (let z : length (drop at ns) ≡ length ns - at = length-drop at ns in omega arith)

-- Four numbers at a time: the chunk at a place, the route that it says, and a test of all.
in_chunk : (l : List ℕ) (at j : ℕ) → j < 4 → get_or (take 4 (drop at l)) j 0 ≡ get_or l (at + j) 0
in_chunk l at j h = get_or-take 4 (drop at l) j 0 h ∙ get_or-drop at l j 0

chunk_route : (l : List ℕ) (at : ℕ) → route_at (take 4 (drop at l)) 0 ≡ route_at l at
chunk_route l at = rw (in_chunk l at 0 (omega arith), in_chunk l at 1 (omega arith), in_chunk l at 2 (omega arith), in_chunk l at 3 (omega arith), add-zero at)

pub route_of_chunk : (ns : List ℕ) (cs : List (List ℕ)) (i : ℕ) (d : List ℕ) (r : Route) → cs ≡ first_chunks 4 (length ns / 4) ns → length cs ≡ length ns / 4 → i < length cs
    → r ≡ route_at (get_or cs i d) 0 → r ≡ route_at ns (4 * i)
route_of_chunk ns cs i d r e m h f =
    let at : i * 4 ≡ 4 * i = omega arith in
    f ∙ ap (λ (c : List ℕ). route_at c 0) (chunk_in 4 (length ns / 4) ns cs i d e m h ∙ ap (λ (j : ℕ). take 4 (drop j ns)) at) ∙ chunk_route ns (4 * i)

pub every_chunk : (p : Route → Bool) (ns : List ℕ) → list_all (λ (c : List ℕ). p (route_at c 0)) (first_chunks 4 (length ns / 4) ns) ≡ every p (routes_of ns)
every_chunk p [] = refl
every_chunk p (a ∷ []) = refl
every_chunk p (a ∷ b ∷ []) = refl
every_chunk p (a ∷ b ∷ c ∷ []) = refl
every_chunk p (a ∷ b ∷ c ∷ d ∷ ns) =
    let e : suc (suc (suc (suc (length ns)))) / 4 ≡ suc (length ns / 4) = omega arith in
    rw e (ap (λ (t : Bool). p (record { prefix = a; length = b; port = c; domain = d }) && t) (every_chunk p ns))

-- the longest match: a turn, and the end
pub chosen_turn : (ns : List ℕ) (at a : ℕ) (best w : Chosen) → w ≡ chosen_from a best (routes_of (drop at ns)) → at + 4 ≤ length ns
    → (r : Route) → r ≡ route_at ns at → (b : Chosen) → b ≡ preferred a best r → w ≡ chosen_from a b (routes_of (drop (at + 4) ns))
chosen_turn ns at a best w inv h r er b eb =
    inv ∙ ap (chosen_from a best) (route_at_lem ns at h) ∙ ap (λ (c : Chosen). chosen_from a c (routes_of (drop (at + 4) ns))) (sym (eb ∙ ap (preferred a best) er))

pub chosen_end : (ns : List ℕ) (at a : ℕ) (best w : Chosen) → w ≡ chosen_from a best (routes_of (drop at ns)) → length ns - at < 4 → best ≡ w
chosen_end ns at a best w inv h = sym (inv ∙ ap (chosen_from a best) (at_end ns at h))

-- a test of every route: a turn that fails, one that passes, and the end
module _ (p : Route → Bool) (ns : List ℕ) (at : ℕ) (w : Bool) (inv : w ≡ every p (routes_of (drop at ns))) where
  module _ (h : at + 4 ≤ length ns) (r : Route) (er : r ≡ route_at ns at) (t : Bool) (test : t ≡ p r) where
    one : w ≡ (t && every p (routes_of (drop (at + 4) ns)))
    one = inv ∙ ap (every p) (route_at_lem ns at h) ∙ rw (← er, ← test)

    pub fails : t ≡ false → false ≡ w
    fails e = sym (one ∙ rw e)

    pub passes : t ≡ true → w ≡ every p (routes_of (drop (at + 4) ns))
    passes e = one ∙ rw e

  pub every_end : length ns - at < 4 → true ≡ w
  every_end h = sym (inv ∙ ap (every p) (at_end ns at h))

-- where all 32 bits count, nothing is cut off
pub uncut : (p l : ℕ) → 32 ≤ l → p / 2 ^ (32 - l) ≡ p
uncut p l h = let z : 32 - l ≡ 0 = omega arith in rw z (div-one p)

-- a power of two up to the 32nd fits 64 bits
pub power : (k : ℕ) → k ≤ 32 → (1 * 2 ^ k) % 18446744073709551616 ≡ 2 ^ k
power k h = rw (one-mul (2 ^ k)) (mod-eq_of_lt (lt_of_le_of_lt (pow-le-pow_right (lit< tt) h) (lit< tt)))

pub power_pos : (k : ℕ) → 0 < 2 ^ k
power_pos k = one-le-pow k 2 (lit< tt)

pub power_32 : (k : ℕ) → k ≤ 31 → (1 * 2 ^ k) % 4294967296 ≡ 2 ^ k
power_32 k h = rw (one-mul (2 ^ k)) (mod-eq_of_lt (lt_of_le_of_lt (pow-le-pow_right (lit< tt) h) (lit< tt)))

-- soundness of a route: of its prefix, then of where it leads to
module _ (domains : List ℕ) (r : Route) where
  sound_parts : route_sound domains r ≡ (prefix_sound r && (port_listed domains r && domain_agrees domains r))
  sound_parts = go (length_sound r) (clear_past r) (port_listed domains r && domain_agrees domains r)
    where
      go : (a b c : Bool) → (a && (b && c)) ≡ ((a && b) && c)
      go true b c = refl
      go false b c = refl

  pub bad_prefix : prefix_sound r ≡ false → false ≡ route_sound domains r
  bad_prefix e = sym (sound_parts ∙ ap (λ (t : Bool). t && (port_listed domains r && domain_agrees domains r)) e)

  pub port_missing : prefix_sound r ≡ true → length domains ≤ r.port → false ≡ route_sound domains r
  port_missing e h =
      sym (sound_parts ∙ ap (λ (t : Bool). t && (port_listed domains r && domain_agrees domains r)) e ∙ ap (λ (t : Bool). t && domain_agrees domains r) (le-ltb r.port (length domains) h))

  pub by_domain : prefix_sound r ≡ true → r.port < length domains → domain_agrees domains r ≡ route_sound domains r
  by_domain e h =
      sym (sound_parts ∙ ap (λ (t : Bool). t && (port_listed domains r && domain_agrees domains r)) e ∙ ap (λ (t : Bool). t && domain_agrees domains r) (lt-ltb r.port (length domains) h))

  pub prefix_of : route_sound domains r ≡ true → prefix_sound r ≡ true
  prefix_of e = and_left (prefix_sound r) (port_listed domains r && domain_agrees domains r) (sym sound_parts ∙ e)

  pub leads_to : route_sound domains r ≡ true → r.port < length domains
  leads_to e =
      ltb-true r.port (length domains)
      (and_left (port_listed domains r) (domain_agrees domains r) (and_right (prefix_sound r) (port_listed domains r && domain_agrees domains r) (sym sound_parts ∙ e)))
