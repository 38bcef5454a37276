-- The theorems of the longest matching prefix, by one induction over the routes.
use mathlib.Core.Path.{◌≡◌, refl, sym, ◌∙◌, ap, subst}
use mathlib.Core.Bool.{Bool, true, false, cond, not, ◌&&◌}
use mathlib.Core.List.{List, [], ◌∷◌}
use mathlib.Core.Logic.{◌⊎◌, inl, inr}
use Prim.Native.Nat.{ℕ, ◌+◌, ◌-◌, ◌*◌, ◌%◌, ◌^◌, ◌<◌, ◌≤◌}
use native.Mathlib.Omega.{arith}
use native.Mathlib.Nat.{div-add-mod'}
use lib.Dec.{leb, ltb}
use borrow.Author.Tests.{ltb-true, ltb-false, eqb-true, eq-eqb}
use Rattle.label.proofs.Bools.{never, and_left, and_right, not_yes}
use Rattle.route.specs.declared.Route.{Route}
use Rattle.route.specs.Route.{Chosen}
use Rattle.std.specs.Prelude.{None, Some}
use Rattle.route.specs.Route.{routes_of, first_bits, matches, longer, preferred, chosen_from, longest, clear_past, route_sound, every, same_prefix, prefixes_differ, few_routes, whole_routes, routes_sound}
use Rattle.route.specs.Theorems.{Listed, Decides, LongestMatch}
use lib.ListN.{length}
use Rattle.route.proofs.Laws.{prefix_of, leads_to}

-- a route of that length or a longer one is chosen
abbrev Reached : ℕ → Chosen → Type 0
Reached l None = ⊥
Reached l (Some r) = l ≤ r.length

-- what was chosen before is reached
abbrev Kept : Chosen → Chosen → Type 0
Kept None c = Unit {0}
Kept (Some b) c = Reached b.length c

reach : (l : ℕ) (b c : Chosen) → Reached l b → Kept b c → Reached l c
reach l None c h k = absurd h
reach l (Some b) None h k = k
reach l (Some b) (Some r) h k = omega arith

keep : (a b c : Chosen) → Kept a b → Kept b c → Kept a c
keep None b c h k = tt
keep (Some a) b c h k = reach a.length b c h k

kept_self : (b : Chosen) → Kept b b
kept_self None = tt
kept_self (Some b) = omega arith

-- one route more
record Step (a : ℕ) (best : Chosen) (r : Route) (b : Chosen) : Type 0 where
  reaches : matches r a ≡ true → Reached r.length b
  keeps : Kept best b
  source : (b ≡ best) ⊎ ((b ≡ Some r) × (matches r a ≡ true))

step : (a : ℕ) (best : Chosen) (r : Route) → Step a best r (preferred a best r)
step a best r = go (matches r a) refl
  where
    longest_of : (best : Chosen) → matches r a ≡ true → Step a best r (longer best r)
    longest_of None m = record { reaches = λ _. omega arith; keeps = tt; source = inr (refl, m) }
    longest_of (Some b) m = by_length (ltb b.length r.length) refl
      where
        by_length : (t : Bool) → ltb b.length r.length ≡ t → Step a (Some b) r (cond t (Some r) (Some b))
        by_length true e = let l : b.length < r.length = ltb-true _ _ e in record { reaches = λ _. omega arith; keeps = omega arith; source = inr (refl, m) }
        by_length false e = let l : r.length ≤ b.length = ltb-false _ _ e in record { reaches = λ _. l; keeps = omega arith; source = inl refl }

    go : (m : Bool) → matches r a ≡ m → Step a best r (cond m (longer best r) best)
    go true e = longest_of best e
    go false e = record { reaches = λ t. absurd (never (sym t ∙ e)); keeps = kept_self best; source = inl refl }

-- all routes
record Outcome (a : ℕ) (best : Chosen) (rs : List Route) (c : Chosen) : Type 0 where
  reaches : (s : Route) → Listed s rs → matches s a ≡ true → Reached s.length c
  keeps : Kept best c
  source : (c ≡ best) ⊎ ((r : Route) × (c ≡ Some r) × Listed r rs × (matches r a ≡ true))

outcome : (a : ℕ) (best : Chosen) (rs : List Route) → Outcome a best rs (chosen_from a best rs)
outcome a best [] = record { reaches = λ s h _. absurd h; keeps = kept_self best; source = inl refl }
outcome a best (r ∷ rs) = after (step a best r) (outcome a (preferred a best r) rs)
  where
    after : {b c : Chosen} → Step a best r b → Outcome a b rs c → Outcome a best (r ∷ rs) c
    after {b} {c} one rest = record { reaches = all; keeps = keep best b c one.keeps rest.keeps; source = from rest.source }
      where
        all : (s : Route) → Listed s (r ∷ rs) → matches s a ≡ true → Reached s.length c
        all s (inl e) m = reach s.length b c (rw e (one.reaches (rw (← e) m))) rest.keeps
        all s (inr h) m = rest.reaches s h m

        first : c ≡ b → (b ≡ best) ⊎ ((b ≡ Some r) × (matches r a ≡ true)) → (c ≡ best) ⊎ ((s : Route) × (c ≡ Some s) × Listed s (r ∷ rs) × (matches s a ≡ true))
        first e (inl f) = inl (e ∙ f)
        first e (inr (f, m)) = inr (r, e ∙ f, inl refl, m)

        from : (c ≡ b) ⊎ ((s : Route) × (c ≡ Some s) × Listed s rs × (matches s a ≡ true)) → (c ≡ best) ⊎ ((s : Route) × (c ≡ Some s) × Listed s (r ∷ rs) × (matches s a ≡ true))
        from (inl e) = first e one.source
        from (inr (s, e, h, m)) = inr (s, e, inr h, m)

none_by : {X : Type 0} (r : Route) → ◌≡◌ {A = Chosen} None (Some r) → X
none_by r e = absurd (let z : ◌≡◌ {A = ℕ} 0 1 = cc in omega arith)

chosen_by : {r s : Route} → ◌≡◌ {A = Chosen} (Some r) (Some s) → r ≡ s
chosen_by e = cc

chosen_of : (a : ℕ) (rs : List Route) (r : Route) (c : Chosen) → c ≡ Some r → Outcome a None rs c → Decides a rs r
chosen_of a rs r c e o = from o.source
  where
    most : (s : Route) → Listed s rs → matches s a ≡ true → s.length ≤ r.length
    most s h m = subst (λ (d : Chosen). Reached s.length d) e (o.reaches s h m)

    from : (c ≡ None) ⊎ ((s : Route) × (c ≡ Some s) × Listed s rs × (matches s a ≡ true)) → Decides a rs r
    from (inl f) = none_by r (sym f ∙ e)
    from (inr (s, f, h, m)) =
        let z : s ≡ r = chosen_by (sym f ∙ e) in
        record { listed = rw (← z) h; hits = rw (← z) m; most = most }

unmatched_of : (a : ℕ) (rs : List Route) (c : Chosen) → c ≡ None → Outcome a None rs c → (s : Route) → Listed s rs → matches s a ≡ false
unmatched_of a rs c e o s h = not_yes (matches s a) (λ m. subst (λ (d : Chosen). Reached s.length d) e (o.reaches s h m))

unchosen_of : (a : ℕ) (rs : List Route) (c : Chosen) → ((s : Route) → Listed s rs → matches s a ≡ false) → Outcome a None rs c → c ≡ None
unchosen_of a rs c none o = from o.source
  where
    from : (c ≡ None) ⊎ ((s : Route) × (c ≡ Some s) × Listed s rs × (matches s a ≡ true)) → c ≡ None
    from (inl f) = f
    from (inr (s, f, h, m)) = absurd (never (sym m ∙ none s h))

-- Two routes that match one address with as many bits have one prefix, since the bits past them are 0.
whole_prefix : (r : Route) → clear_past r ≡ true → r.prefix ≡ first_bits r.length r.prefix * 2 ^ (32 - r.length)
whole_prefix r e =
    let c : r.prefix % 2 ^ (32 - r.length) ≡ 0 = eqb-true (r.prefix % 2 ^ (32 - r.length)) 0 e in
    let d : first_bits r.length r.prefix * 2 ^ (32 - r.length) + r.prefix % 2 ^ (32 - r.length) ≡ r.prefix = div-add-mod' r.prefix (2 ^ (32 - r.length)) in
    omega arith

one_prefix : (a : ℕ) (r s : Route) → clear_past r ≡ true → clear_past s ≡ true → matches r a ≡ true → matches s a ≡ true → r.length ≡ s.length → r.prefix ≡ s.prefix
one_prefix a r s cr cs mr ms l =
    let x : first_bits r.length r.prefix ≡ first_bits r.length a = eqb-true _ _ mr in
    let y : first_bits s.length s.prefix ≡ first_bits s.length a = eqb-true _ _ ms in
    whole_prefix r cr
    ∙ ap (λ (z : ℕ). z * 2 ^ (32 - r.length)) x
    ∙ ap (λ (m : ℕ). first_bits m a * 2 ^ (32 - m)) l
    ∙ ap (λ (z : ℕ). z * 2 ^ (32 - s.length)) (sym y)
    ∙ sym (whole_prefix s cs)

-- no two routes of the list have one prefix of one length
every_listed : (p : Route → Bool) (rs : List Route) (s : Route) → every p rs ≡ true → Listed s rs → p s ≡ true
every_listed p [] s e h = absurd h
every_listed p (r ∷ rs) s e (inl f) = rw f (and_left (p r) (every p rs) e)
every_listed p (r ∷ rs) s e (inr h) = every_listed p rs s (and_right (p r) (every p rs) e) h

differs : (r s : Route) → same_prefix r s ≡ true → not (same_prefix r s) ≡ true → ⊥
differs r s e f = never (sym f ∙ ap not e)

one_route : (rs : List Route) (r s : Route) → prefixes_differ rs ≡ true → Listed r rs → Listed s rs → same_prefix r s ≡ true → same_prefix s r ≡ true → r ≡ s
one_route [] r s d h k e f = absurd h
one_route (t ∷ ts) r s d (inl x) (inl y) e f = x ∙ sym y
one_route (t ∷ ts) r s d (inl x) (inr k) e f =
    absurd (differs r s e (rw x (every_listed (λ u. not (same_prefix t u)) ts s (and_left (every (λ u. not (same_prefix t u)) ts) (prefixes_differ ts) d) k)))
one_route (t ∷ ts) r s d (inr h) (inl y) e f =
    absurd (differs s r f (rw y (every_listed (λ u. not (same_prefix t u)) ts r (and_left (every (λ u. not (same_prefix t u)) ts) (prefixes_differ ts) d) h)))
one_route (t ∷ ts) r s d (inr h) (inr k) e f = one_route ts r s (and_right (every (λ u. not (same_prefix t u)) ts) (prefixes_differ ts) d) h k e f

same_yes_of : (r s : Route) → r.prefix ≡ s.prefix → r.length ≡ s.length → same_prefix r s ≡ true
same_yes_of r s p l = rw (eq-eqb r.prefix s.prefix p, eq-eqb r.length s.length l) refl

only_of : (a : ℕ) (domains : List ℕ) (rs : List Route) (r s : Route) → every (route_sound domains) rs ≡ true → prefixes_differ rs ≡ true → Decides a rs r → Decides a rs s → r ≡ s
only_of a domains rs r s sound differ dr ds =
    let x : s.length ≤ r.length = dr.most s ds.listed ds.hits in
    let y : r.length ≤ s.length = ds.most r dr.listed dr.hits in
    let l : r.length ≡ s.length = omega arith in
    let p : r.prefix ≡ s.prefix = one_prefix a r s (clear r dr.listed) (clear s ds.listed) dr.hits ds.hits l in
    one_route rs r s differ dr.listed ds.listed (same_yes_of r s p l) (same_yes_of s r (sym p) (sym l))
  where
    clear : (t : Route) → Listed t rs → clear_past t ≡ true
    clear t h = and_right (leb t.length 32) (clear_past t) (prefix_of domains t (every_listed (route_sound domains) rs t sound h))

only_sound : (a : ℕ) (domains ns : List ℕ) (r s : Route) → routes_sound domains ns ≡ true → Decides a (routes_of ns) r → Decides a (routes_of ns) s → r ≡ s
unfolding routes_sound
only_sound a domains ns r s e =
    let each = and_right (whole_routes ns) (every (route_sound domains) (routes_of ns) && prefixes_differ (routes_of ns))
    (and_right (few_routes ns) (whole_routes ns && (every (route_sound domains) (routes_of ns) && prefixes_differ (routes_of ns))) e) in
    only_of a domains (routes_of ns) r s (and_left (every (route_sound domains) (routes_of ns)) (prefixes_differ (routes_of ns)) each) (and_right (every (route_sound domains) (routes_of ns)) (prefixes_differ (routes_of ns)) each)

pub longest_match : LongestMatch
unfolding longest
longest_match =
    record {
      chosen = λ a rs r e. chosen_of a rs r _ e (outcome a None rs);
      only = only_sound;
      unmatched = λ a rs e. unmatched_of a rs _ e (outcome a None rs);
      unchosen = λ a rs none. unchosen_of a rs _ none (outcome a None rs);
    }

-- the route chosen leads to a port of the list
pub chosen_leads : (a : ℕ) (domains ns : List ℕ) (r : Route) → routes_sound domains ns ≡ true → longest a (routes_of ns) ≡ Some r → r.port < length domains
unfolding routes_sound
chosen_leads a domains ns r e c =
    let each = and_right (whole_routes ns) (every (route_sound domains) (routes_of ns) && prefixes_differ (routes_of ns))
    (and_right (few_routes ns) (whole_routes ns && (every (route_sound domains) (routes_of ns) && prefixes_differ (routes_of ns))) e) in
    let sound = every_listed (route_sound domains) (routes_of ns) r (and_left (every (route_sound domains) (routes_of ns)) (prefixes_differ (routes_of ns)) each) (longest_match.chosen a (routes_of ns) r c).listed in
    leads_to domains r sound
