-- The number given is the first of the order whose line applies.
use mathlib.Core.Path.{◌≡◌, refl, sym, ◌∙◌, ap, subst}
use mathlib.Core.Bool.{Bool, true, false, not, cond, ◌&&◌, ◌||◌}
use mathlib.Core.List.{List, [], ◌∷◌, ◌++◌, map}
use mathlib.Core.Logic.{◌⊎◌, inl, inr, ◌↔◌}
use mathlib.Core.Option.{Option, none, some}
use Prim.Native.Nat.{ℕ, zero, suc, ◌+◌, ◌*◌, ◌/◌, ◌%◌, ◌<◌}
use native.Mathlib.Omega.{arith}
use lib.Dec.{eqb}
use lib.ListN.{length, get_or, drop}
use lib.Seq.{get_or-take, get_or-drop}
use borrow.Author.Tests.{eqb-true}
use Rattle.label.specs.declared.Label.{Label}
use Rattle.option.specs.Option.{is_even}
use Rattle.option.specs.Index.{first_true, pairs_of}
use Rattle.option_read.specs.Reading.{Check, not_read, bad_in, count_in, bad_place, label_in}
use Rattle.option_read.specs.Reading as reading
use Rattle.option_read.specs.Reading.{Reading}
use Rattle.option_slack.specs.Strict.{strict_checks, strict_reading}
use Rattle.area.specs.declared.Kind.{Kind}
use Rattle.area.specs.declared.Kind.TheVariants.{End, NoOperation, Basic, Extended, Cipso, Other}
use Rattle.std.specs.Prelude.{Some, None, is_some}
use Rattle.area.specs.Kinds.{Place, Size}
use Rattle.area.specs.Kinds.{kind_of}
use Rattle.area.specs.Area.{Met, met_of, judged, walk_of, octets_at, WholeAt}
use Rattle.area.proofs.KindLaws.{cipso_octet, basic_octet}
use Rattle.area.proofs.Laws.{sound_placed, whole_inside}
use Rattle.basic.specs.Option.{basic_level, basic_flags, basic_valid}
use Rattle.basic.specs.Alone.{basic_found, basic_reading}
use Rattle.area_leaving.specs.Kept.{kept_of}
use Rattle.port.specs.declared.Port.{Port}
use Rattle.decision.specs.declared.Refusal.{Refusal}
use Rattle.decision.specs.Decision.{silenced, decided}
use Rattle.arrive.specs.Checks.{faulty, when, first_of, walk_at, walk_refusal, walk_check, place_in, basic_in, option_at, read_at, required_by, required_check, option_by, option_check, bad_basic_by, bad_basic_check, arriving_basic, missing_basic_by, missing_basic_check, basic_range_check, range_check}
use Rattle.deliver.specs.Delivery.{Delivery, delivery_sizes, delivery_records, host_check, deliver_checks, deliver_of}
use Rattle.arrive.proofs.First.{or_else, first_append}
use Rattle.forward_rules.specs.Crossing.{Forwarding, sizes, records, leaving_basic_check, crossing, number_check, leaving_check, spelling_check}
use Rattle.forward_rules.specs.Forward.{forward_checks, forward_of}
use Rattle.demands.specs.Rules.{Rule, rule, is_at, octet_at, label_rules, range_rule, arriving_basic_rule, forward_inputs, deliver_inputs, leaving_basic_rule, crossing_rules, host_rules, by_option, forward_tests, deliver_tests, NoRule, FirstRule, report_of, Follows, passes, stops, StandsAt, BadAt, OrderOfChecks}
use Rattle.demands.proofs.Second.{forwarded_passes, delivered_passes}

-- A line as a check.
abbrev pub as_check : Rule → Option Refusal
as_check r = when r.applies (report_of r)

abbrev pub checks : List Rule → List (Option Refusal)
checks rs = map as_check rs

pub first_cons : (c : Option Refusal) (cs : List (Option Refusal)) → first_of (c ∷ cs) ≡ or_else c (first_of cs)
first_cons none cs = refl
first_cons (some r) cs = refl

first_alike : (c d : Option Refusal) (cs ds : List (Option Refusal)) → c ≡ d → first_of cs ≡ first_of ds → first_of (c ∷ cs) ≡ first_of (d ∷ ds)
first_alike c d cs ds e f = first_cons c cs ∙ (λ i. or_else (e i) (f i)) ∙ sym (first_cons d ds)

checks_append : (xs ys : List Rule) → first_of (checks (xs ++ ys)) ≡ or_else (first_of (checks xs)) (first_of (checks ys))
checks_append [] ys = refl
checks_append (r ∷ xs) ys = go r.applies (checks_append xs ys)
  where
    go : (b : Bool) → first_of (checks (xs ++ ys)) ≡ or_else (first_of (checks xs)) (first_of (checks ys))
        → first_of (when b (report_of r) ∷ checks (xs ++ ys)) ≡ or_else (first_of (when b (report_of r) ∷ checks xs)) (first_of (checks ys))
    go true h = refl
    go false h = h

-- a stretch of lines that says what one check says
first_stretch : (xs ys : List Rule) (d : Option Refusal) (ds : List (Option Refusal)) → first_of (checks xs) ≡ d → first_of (checks ys) ≡ first_of ds
    → first_of (checks (xs ++ ys)) ≡ first_of (d ∷ ds)
first_stretch xs ys d ds e f = checks_append xs ys ∙ (λ i. or_else (e i) (f i)) ∙ sym (first_cons d ds)

-- 3, 4 and 5.
abbrev pub three_to_five : List ℕ
three_to_five = 3 ∷ 4 ∷ 5 ∷ []

-- what was met before an option that is neither
none_before : (on : Bool) (ms : List Met) (label basic : Place)
    → ((l b : Place) → first_of (checks (by_option three_to_five on (is_at l) (is_at b) ms)) ≡ walk_refusal (judged on false ms l b))
    → first_of (checks (by_option three_to_five on (is_at label || false) (is_at basic || false) ms)) ≡ walk_refusal (judged on false ms label basic)
none_before on ms None None g = g None None
none_before on ms None (Some q) g = g None (Some q)
none_before on ms (Some p) None g = g (Some p) None
none_before on ms (Some p) (Some q) g = g (Some p) (Some q)

walk_by : (on : Bool) (k : Kind) (z : Size) (at : ℕ) (ms : List Met) (label basic : Place)
    → ((l b : Place) → first_of (checks (by_option three_to_five on (is_at l) (is_at b) ms)) ≡ walk_refusal (judged on false ms l b))
    → first_of (checks (by_option three_to_five on (is_at label) (is_at basic) (record { kind = k; at = at; size = z } ∷ ms)))
    ≡ walk_refusal (judged on false (record { kind = k; at = at; size = z } ∷ ms) label basic)
walk_by on k None at ms label basic g = refl
walk_by on End (Some n) at ms label basic g = none_before on ms label basic g
walk_by on NoOperation (Some n) at ms label basic g = none_before on ms label basic g
walk_by false Basic (Some n) at ms label basic g = refl
walk_by true Basic (Some n) at ms None None g = g None (Some at)
walk_by true Basic (Some n) at ms (Some p) None g = g (Some p) (Some at)
walk_by true Basic (Some n) at ms label (Some q) g = refl
walk_by on Extended (Some n) at ms label basic g = refl
walk_by on Cipso (Some n) at ms None None g = g (Some at) None
walk_by on Cipso (Some n) at ms None (Some q) g = g (Some at) (Some q)
walk_by on Cipso (Some n) at ms (Some p) basic g = refl
walk_by on Other (Some n) at ms label basic g = none_before on ms label basic g

walk_rules : (on : Bool) (ms : List Met) (label basic : Place) → first_of (checks (by_option three_to_five on (is_at label) (is_at basic) ms)) ≡ walk_refusal (judged on false ms label basic)
walk_rules on [] label basic = refl
walk_rules on (m ∷ ms) label basic = walk_by on m.kind m.size m.at ms label basic (λ l b. walk_rules on ms l b)

area_rules : (port : Port) (area : List ℕ) → first_of (checks (by_option three_to_five port.basic.on false false (met_of area))) ≡ walk_check port area
unfolding walk_check walk_of
area_rules port area = walk_rules port.basic.on (met_of area) None None

-- 7 to 12, 23 and 13.
abbrev rule_at : ℕ → Check → Rule
rule_at p c = rule c.number c.applies 12 0 (20 + (p + c.pointer))

abbrev Numbers : List Check → Type 0
Numbers [] = Unit {0}
Numbers (c ∷ cs) = (eqb c.number 0 ≡ false) × Numbers cs

abbrev blamed : ℕ → Reading → Option Refusal
blamed p x = when (not (eqb x.number 0)) (faulty x.number (p + x.pointer))

read_rules : (p : ℕ) (cs : List Check) (l : Label) → Numbers cs → first_of (checks (map (rule_at p) cs)) ≡ blamed p (reading.checked_reading cs l)
read_rules p [] l n = refl
read_rules p (c ∷ cs) l n = go c.applies (read_rules p cs l n.1)
  where
    go : (b : Bool) → first_of (checks (map (rule_at p) cs)) ≡ blamed p (reading.checked_reading cs l)
        → first_of (when b (report_of (rule_at p c)) ∷ checks (map (rule_at p) cs)) ≡ blamed p (cond b (not_read c.number c.pointer) (reading.checked_reading cs l))
    go true h = rw n.0
    go false h = h

label_rules_lem : (o : List ℕ) (p : ℕ) (port : Port) → first_of (checks (label_rules true o p port)) ≡ blamed p (read_at port o)
unfolding strict_reading
label_rules_lem o p port =
    read_rules p (strict_checks port.strict port.domain o) (label_in o) (refl, (refl, (refl, (refl, (refl, (refl, (refl, (refl, tt))))))))

-- 6 to 13 with 23, and what follows
shared_rules : (q : Place) (port : Port) (area : List ℕ) (rest : List Rule) (ds : List (Option Refusal)) → first_of (checks rest) ≡ first_of ds
    → first_of (checks (rule 6 (not (is_at q) && port.required) 12 1 134 ∷ (label_rules (is_at q) (option_at (octet_at q) area) (octet_at q) port ++ rest)))
    ≡ first_of (required_by q port ∷ option_by q port area ∷ ds)
shared_rules None port area rest ds e =
    first_alike (required_by None port) (required_by None port) (checks (label_rules false (option_at (octet_at None) area) (octet_at None) port ++ rest)) (none ∷ ds) refl e
shared_rules (Some p) port area rest ds e =
    first_stretch (label_rules true (option_at p area) p port) rest (option_by (Some p) port area) ds (label_rules_lem (option_at p area) p port) e

-- 19 and 20, and what follows
read_valid : (o : List ℕ) → is_some (basic_reading o) ≡ basic_valid o
unfolding basic_reading
read_valid o = go (basic_valid o)
  where
    go : (b : Bool) → is_some (cond b (basic_found (basic_level o) (basic_flags o)) None) ≡ b
    go true = refl
    go false = refl

basic_rules_lem : (q : Place) (on : Bool) (area : List ℕ) (rest : List Rule) (ds : List (Option Refusal)) → first_of (checks rest) ≡ first_of ds
    → first_of (checks (rule 19 (is_at q && not (basic_valid (option_at (octet_at q) area))) 12 0 (20 + octet_at q) ∷ rule 20 (not (is_at q) && on) 12 1 130 ∷ rest))
    ≡ first_of (bad_basic_by q area ∷ missing_basic_by (octets_at q area) on ∷ ds)
basic_rules_lem None on area rest ds e = first_alike (missing_basic_by none on) (missing_basic_by none on) (checks rest) ds refl e
basic_rules_lem (Some p) on area rest ds e =
    first_alike (when (not (basic_valid (option_at p area))) (faulty 19 p)) (bad_basic_by (Some p) area) (none ∷ checks rest) (none ∷ ds)
    (ap (λ (b : Bool). when (not b) (faulty 19 p)) (sym (read_valid (option_at p area)))) e

-- every line that is tested, after the first two
pub all_rules : (ts : List Rule) (area : List ℕ) (port : Port) (rest : List Rule) (ds : List (Option Refusal)) → first_of (checks rest) ≡ first_of ds
    → let q = place_in (walk_at port area) in
    let b = basic_in (walk_at port area) in
    first_of (checks (ts ++ (by_option three_to_five port.basic.on false false (met_of area)
    ++ (rule 6 (not (is_at q) && port.required) 12 1 134
    ∷ (label_rules (is_at q) (option_at (octet_at q) area) (octet_at q) port
    ++ (rule 19 (is_at b && not (basic_valid (option_at (octet_at b) area))) 12 0 (20 + octet_at b) ∷ rule 20 (not (is_at b) && port.basic.on) 12 1 130 ∷ rest))))))
    ≡ or_else (first_of (checks ts)) (first_of (walk_check port area ∷ required_check port area ∷ option_check port area ∷ bad_basic_check port area ∷ missing_basic_check port area ∷ ds))
unfolding required_check option_check bad_basic_check missing_basic_check arriving_basic
all_rules ts area port rest ds e =
    let q = place_in (walk_at port area) in
    let b = basic_in (walk_at port area) in
    let last : List Rule = rule 19 (is_at b && not (basic_valid (option_at (octet_at b) area))) 12 0 (20 + octet_at b) ∷ rule 20 (not (is_at b) && port.basic.on) 12 1 130 ∷ rest in
    let ends : List (Option Refusal) = bad_basic_by b area ∷ missing_basic_by (octets_at b area) port.basic.on ∷ ds in
    checks_append ts _
    ∙ ap (or_else (first_of (checks ts)))
    (first_stretch (by_option three_to_five port.basic.on false false (met_of area))
    (rule 6 (not (is_at q) && port.required) 12 1 134 ∷ (label_rules (is_at q) (option_at (octet_at q) area) (octet_at q) port ++ last))
    (walk_check port area) (required_check port area ∷ option_check port area ∷ ends) (area_rules port area)
    (shared_rules q port area last ends (basic_rules_lem b port.basic.on area rest ds e)))

forward_rules : (f : Forwarding) → first_of (checks (forward_tests f)) ≡ first_of (forward_checks f)
unfolding sizes records basic_range_check leaving_basic_check range_check number_check leaving_check spelling_check
forward_rules f =
    let ds : List (Option Refusal) = basic_range_check f.arriving f.area 9 ∷ leaving_basic_check f ∷ range_check f.arriving f.area 9 ∷ number_check (crossing f) ∷ leaving_check (crossing f) ∷ spelling_check (crossing f) (kept_of f.area) ∷ [] in
    all_rules (forward_inputs f) f.area f.arriving (arriving_basic_rule f.arriving f.area 9 ∷ leaving_basic_rule f ∷ range_rule f.arriving f.area 9 ∷ crossing_rules f) ds refl
    ∙ sym (first_append (sizes f ∷ records f ∷ []) (walk_check f.arriving f.area ∷ required_check f.arriving f.area ∷ option_check f.arriving f.area ∷ bad_basic_check f.arriving f.area ∷ missing_basic_check f.arriving f.area ∷ ds))

deliver_rules : (d : Delivery) → first_of (checks (deliver_tests d)) ≡ first_of (deliver_checks d)
unfolding delivery_sizes delivery_records basic_range_check range_check host_check
deliver_rules d =
    let ds : List (Option Refusal) = basic_range_check d.port d.area 10 ∷ range_check d.port d.area 10 ∷ host_check d ∷ [] in
    all_rules (deliver_inputs d) d.area d.port (arriving_basic_rule d.port d.area 10 ∷ range_rule d.port d.area 10 ∷ host_rules d) ds refl
    ∙ sym (first_append (delivery_sizes d ∷ delivery_records d ∷ []) (walk_check d.port d.area ∷ required_check d.port d.area ∷ option_check d.port d.area ∷ bad_basic_check d.port d.area ∷ missing_basic_check d.port d.area ∷ ds))

-- The first line that applies, or none.
abbrev pub Found : List Rule → Option Refusal → Type 0
Found rules o = (NoRule rules × (o ≡ none)) ⊎ ((r : Rule) × FirstRule rules r × (o ≡ some (report_of r)))

pub found : (rules : List Rule) → Found rules (first_of (checks rules))
found [] = inl (tt, refl)
found (r ∷ rules) = go r.applies refl (found rules)
  where
    go : (b : Bool) → r.applies ≡ b → Found rules (first_of (checks rules)) → Found (r ∷ rules) (first_of (when b (report_of r) ∷ checks rules))
    go true e h = inr (r, record { before = []; after = rules; order = refl; passed = tt; applies = e }, refl)
    go false e (inl h) = inl ((e, h.0), h.1)
    go false e (inr h) =
        inr (h.0, record { before = r ∷ h.1.before; after = h.1.after; order = ap (λ (x : List Rule). r ∷ x) h.1.order; passed = (e, h.1.passed); applies = h.1.applies }, h.2)

pub follows : (rules : List Rule) (quiet : Bool) (o : Option Refusal) (l : Label) (n : ℕ) → Found rules o → Follows rules quiet (decided quiet o l n)
follows rules quiet o l n (inl h) = passes h.0 (ap (λ (x : Option Refusal). (decided quiet x l n).number) h.1)
follows rules quiet o l n (inr h) = stops h.0 h.1 (ap (λ (x : Option Refusal). decided quiet x l n) h.2)

none_rules : (rules : List Rule) → NoRule rules → first_of (checks rules) ≡ none
none_rules [] h = refl
none_rules (r ∷ rules) h = rw h.0 (none_rules rules h.1)

no_rules : (rules : List Rule) → first_of (checks rules) ≡ none → NoRule rules
no_rules rules e = go (found rules)
  where
    go : Found rules (first_of (checks rules)) → NoRule rules
    go (inl h) = h.0
    go (inr h) = let z : ◌≡◌ {A = ℕ} 0 1 = cc h.2 in absurd (omega arith)

forward_follows : (f : Forwarding) → Follows (forward_tests f) (silenced f.facts) (forward_of f)
unfolding forward_of
forward_follows f = follows (forward_tests f) (silenced f.facts) (first_of (forward_checks f)) _ _ (subst (Found (forward_tests f)) (forward_rules f) (found (forward_tests f)))

deliver_follows : (d : Delivery) → Follows (deliver_tests d) (silenced d.facts) (deliver_of d)
unfolding deliver_of
deliver_follows d = follows (deliver_tests d) (silenced d.facts) (first_of (deliver_checks d)) _ _ (subst (Found (deliver_tests d)) (deliver_rules d) (found (deliver_tests d)))

none_zero : (quiet : Bool) (o : Option Refusal) (l : Label) (n : ℕ) → o ≡ none → (decided quiet o l n).number ≡ 0
none_zero quiet o l n e = rw e

forward_none : (f : Forwarding) → ((forward_of f).number ≡ 0) ↔ NoRule (forward_tests f)
unfolding forward_of
forward_none f = (
  λ e. no_rules (forward_tests f) (forward_rules f ∙ forwarded_passes f e),
  λ h. none_zero (silenced f.facts) (first_of (forward_checks f)) _ _ (sym (forward_rules f) ∙ none_rules (forward_tests f) h),
)

deliver_none : (d : Delivery) → ((deliver_of d).number ≡ 0) ↔ NoRule (deliver_tests d)
unfolding deliver_of
deliver_none d = (
  λ e. no_rules (deliver_tests d) (deliver_rules d ∙ delivered_passes d e),
  λ h. none_zero (silenced d.facts) (first_of (deliver_checks d)) _ _ (sym (deliver_rules d) ∙ none_rules (deliver_tests d) h),
)

-- The octets that are blamed.
stands_at : (t : ℕ) (k : Kind) (area : List ℕ) (p : ℕ) → ((x : ℕ) → kind_of x ≡ k → x ≡ t) → WholeAt k area p → StandsAt t area p
stands_at t k area p n o =
    let f = whole_inside k area p o in
    record {
      type = sym (get_or-drop p area 0 0 ∙ ap (λ (i : ℕ). get_or area i 0) (omega arith)) ∙ n (get_or (drop p area) 0 0) o.kind;
      size = f.size;
      octet = λ i h. get_or-take (get_or area (p + 1) 0) (drop p area) i 0 (omega (arith, f.size)) ∙ get_or-drop p area i 0;
    }

first_true_lem : (f : ℕ → Bool) (n : ℕ) → first_true f n < n → (f (first_true f n) ≡ true) × ((k : ℕ) → k < first_true f n → f k ≡ false)
first_true_lem f zero h = absurd (omega arith)
first_true_lem f (suc n) h = go (f zero) refl h (λ g. first_true_lem (λ k. f (suc k)) n g)
  where
    rest : ℕ
    rest = first_true (λ k. f (suc k)) n

    go : (b : Bool) → f zero ≡ b → cond b zero (suc (first_true (λ k. f (suc k)) n)) < suc n
        → (first_true (λ k. f (suc k)) n < n → (f (suc (first_true (λ k. f (suc k)) n)) ≡ true) × ((k : ℕ) → k < first_true (λ k. f (suc k)) n → f (suc k) ≡ false))
        → (f (cond b zero (suc (first_true (λ k. f (suc k)) n))) ≡ true) × ((k : ℕ) → k < cond b zero (suc (first_true (λ k. f (suc k)) n)) → f k ≡ false)
    go true e q g = (e, λ k l. absurd (omega arith))
    go false e q g = ((g (omega arith)).0, under)
      where
        under : (k : ℕ) → k < suc (first_true (λ k. f (suc k)) n) → f k ≡ false
        under zero l = e
        under (suc k) l = (g (omega arith)).1 k (omega arith)

few_numbers : (n i : ℕ) → n % 2 ≡ 0 → 2 * i < n → i < n / 2
few_numbers n i e h = omega arith

few_pairs : (n i : ℕ) → n % 2 ≡ 0 → 4 * i < n → i < (n + 2) / 4
few_pairs n i e h = omega arith

bad_at : (t : ℕ) (b : List ℕ) → is_even (length b) ≡ true → bad_place t b < length b → BadAt t b
bad_at t b ev h = go (eqb t 1) (eqb t 2) refl refl
  where
    even : length b % 2 ≡ 0
    even = eqb-true (length b % 2) 0 ev

    first : ℕ
    first = first_true (bad_in t b) (count_in t b)

    at : (x y : Bool) → eqb t 1 ≡ x → eqb t 2 ≡ y → first_true (bad_in t b) (count_in t b) < count_in t b → bad_place t b ≡ cond y 2 4 * first_true (bad_in t b) (count_in t b) → BadAt t b
    at x y ex ey l e =
        let q = first_true_lem (bad_in t b) (count_in t b) l in
        record { index = first_true (bad_in t b) (count_in t b); place = e ∙ ap (λ (z : Bool). cond z 2 4 * first_true (bad_in t b) (count_in t b)) (sym ey); bad = q.0; first = q.1 }

    go : (x y : Bool) → eqb t 1 ≡ x → eqb t 2 ≡ y → BadAt t b
    go true y ex ey = absurd (let z : length b < length b = rw ex at h in omega arith)
    go false true ex ey =
        at false true ex ey (rw ey (few_numbers (length b) (first_true (bad_in t b) (length b / 2)) even (rw (ex, ey) at h))) (rw (ex, ey))
    go false false ex ey =
        at false false ex ey (rw ey (few_pairs (length b) (first_true (bad_in t b) (pairs_of b)) even (rw (ex, ey) at h))) (rw (ex, ey))

pub order_of_checks : OrderOfChecks
order_of_checks =
    record {
      forward = forward_follows;
      deliver = deliver_follows;
      forwarded = forward_none;
      delivered = deliver_none;
      stands = λ on area p b e. stands_at 134 Cipso area p cipso_octet (sound_placed on area (Some p) b e).0;
      basic = λ on area l p e. stands_at 130 Basic area p basic_octet (sound_placed on area l (Some p) e).1;
      bad_ones = bad_at;
    }
