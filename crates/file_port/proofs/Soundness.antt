-- The format of a label says exactly the well-formed labels of its domain, that of a port exactly the sound ports that its version can say.
use mathlib.Core.Bool.{Bool, true, false, cond, not, ◌&&◌, ◌||◌, and-true, true≢false}
use mathlib.Core.List.{List, [], ◌∷◌, ◌++◌}
use mathlib.Core.Path.{◌≡◌, refl, sym, ap, subst, ◌∙◌}
use Prim.Native.Nat.{ℕ, zero, suc, ◌+◌, ◌-◌, ◌≤◌, ◌<◌}
use native.Mathlib.Omega.{arith}
use lib.Dec.{leb, eqb}
use lib.ListN.{length, take, drop, replicate, length-append, length-replicate, length-drop}
use lib.Seq.{length-take-le, drop_at}
use borrow.Author.Tests.{le-leb, leb-true, eq-eqb, ne_eqb, eqb-true, not-true}
use Rattle.label.specs.declared.Run.{Run}
use Rattle.label.specs.declared.Label.{Label}
use Rattle.label.specs.Runs.{spaced}
use Rattle.label.specs.Label.{no_run, used, label_of, zero_label, well_formed, leq, in_range, is_zero}
use Rattle.label.proofs.Bools.{and_left, and_right, and_both}
use Rattle.label.proofs.Runs.{first}
use Rattle.label.proofs.Labels.{Formed, formed, well_formed_lem, formed_of, used_length, of_used, leq_says}
use Rattle.port.specs.declared.Port.{Port}
pub use Rattle.port.proofs.Zero.{is_zero_lem}
use Rattle.port.specs.Port.{plain_port, is_plain, port_sound, range_sound, assigned_sound, default_sound}
use Rattle.option.specs.Permitted.{some_of}
use Rattle.basic.specs.declared.Way.{Way}
use Rattle.basic.specs.Levels.{is_level, at_most}
use Rattle.basic.specs.Settings.{is_off, basic_sound, way_sound, way_zero, unused}
use Rattle.basic.proofs.Settings.{unused_zeros}
use Rattle.port.proofs.Laws as port
use Rattle.file_format.specs.Format.{Sound, Each, alike, same, number, two}
use Rattle.file_format.specs.Places.{padded}
use Rattle.file_format.proofs.Places.{padded_again, padded_length}
use Rattle.file_port.specs.LabelFormat.{run_format, next_floor, unless0, label_format}
use Rattle.file_port.specs.PortFormat.{given_format, way_of, way_format, spellings_format, plain_format, later_format, plain_of, later_of, plain_made, port_made, first_port, second_port, third_port, port_format}
use Rattle.file_port.specs.Theorems.{LabelsSaid, small, typed_way, typed_port, port_sayable, PortsSaid}

-- Runs.

spaced_each : (f : ℕ) (rs : List Run) → spaced f rs ≡ true → Each (λ st a. Sound (run_format st) a) next_floor f rs
unfolding Sound run_format
spaced_each f [] e = tt
spaced_each f (r ∷ rs) e =
    let s = first f r rs e in
    ((((s.from, omega (arith, s.ordered, s.top), omega (arith, s.ordered, s.top)), (s.ordered, s.top, omega (arith, s.top))), refl), spaced_each (r.high + 2) rs s.rest)

each_spaced : (f : ℕ) (rs : List Run) → Each (λ st a. Sound (run_format st) a) next_floor f rs → spaced f rs ≡ true
unfolding Sound run_format
each_spaced f [] h = refl
each_spaced f (r ∷ rs) h =
    simp (le-leb _ _ h.0.0.0.0, le-leb _ _ h.0.0.1.0, le-leb _ _ h.0.0.1.1) (each_spaced (r.high + 2) rs h.1)

-- Labels.

unless_some : (d m : ℕ) → (d ≡ 0 → ⊥) → unless0 d m ≡ m
unless_some d m h = rw (ne_eqb d 0 h)

unless_small : (d m : ℕ) → unless0 d m ≤ m
unless_small d m = go (eqb d 0)
  where
    go : (t : Bool) → cond t 0 m ≤ m
    go true = omega arith
    go false = omega arith

label_says : (l : Label) → well_formed l ≡ true → Sound (label_format l.domain) l
unfolding Sound label_format
label_says l e =
    let f = formed l e in
    let n : length (used l) ≡ l.count = used_length l f in
    let v : unless0 l.domain 255 ≡ 255 = unless_some l.domain 255 f.owned in
    let c : unless0 l.domain 120 ≡ 120 = unless_some l.domain 120 f.owned in
    (((omega arith, omega arith, omega (arith, f.domain)), ((omega arith, omega (arith, f.level), omega (arith, f.level)), (spaced_each 0 (used l) f.runs, omega (arith, f.held), omega (arith, f.held)))), sym (of_used l f))

says_in : (d : ℕ) (l : Label) → l.domain ≡ d → well_formed l ≡ true → Sound (label_format d) l
says_in d l e w = subst (λ (k : ℕ). Sound (label_format k) l) e (label_says l w)

-- the parts of a label that the format says
record Parts (d : ℕ) (l : Label) : Type 0 where
  is : label_of d l.level (used l) ≡ l
  domain : l.domain ≡ d
  small : d ≤ 4294967295
  level : l.level ≤ unless0 d 255
  count : length (used l) ≤ unless0 d 120
  runs : spaced 0 (used l) ≡ true

label_parts : (d : ℕ) (l : Label) → Sound (label_format d) l → Parts d l
unfolding Sound label_format
label_parts d l h =
    let e : l.domain ≡ d = omega (arith, h.0.0.0, h.0.0.1) in
    record {
      is = ap (λ (k : ℕ). label_of k l.level (used l)) (sym e) ∙ h.1;
      domain = e;
      small = omega (arith, h.0.0.2);
      level = h.0.1.0.1;
      count = h.0.1.1.1;
      runs = each_spaced 0 (used l) h.0.1.1.0;
    }

label_said : (d : ℕ) (l : Label) → 0 < d → Sound (label_format d) l → (well_formed l ≡ true) × (l.domain ≡ d)
label_said d l o h =
    let p = label_parts d l h in
    let f : Formed (label_of d l.level (used l)) =
    formed_of d l.level (used l) o p.small (omega (arith, p.level, unless_small d 255)) (omega (arith, p.count, unless_small d 120)) p.runs in
    (rw (← p.is) (well_formed_lem (label_of d l.level (used l)) f), p.domain)

pub labels_said : LabelsSaid
labels_said = record { says = label_says; said = label_said }

-- The all-zero label.

zero_says : (l : Label) → length l.runs ≡ 120 → is_zero l ≡ true → Sound (label_format 0) l
unfolding Sound label_format
zero_says l n e =
    rw (is_zero_lem l n e)
    (((omega arith, omega arith, omega arith), ((omega arith, omega arith, omega arith), (tt, omega arith, omega arith))), refl)

zero_said : (l : Label) → Sound (label_format 0) l → is_zero l ≡ true
unfolding is_zero
zero_said l h =
    let p = label_parts 0 l h in
    let v : l.level ≡ 0 = omega (arith, p.level) in
    let u : used l ≡ [] = none (used l) (omega (arith, p.count)) in
    let z : l ≡ zero_label = sym p.is ∙ (λ i. label_of 0 (v i) (u i)) in
    rw z
  where
    none : (rs : List Run) → length rs ≤ 0 → rs ≡ []
    none [] h = refl
    none (r ∷ rs) h = absurd (omega arith)

-- a label that a format says has its 120 places
label_places : (d : ℕ) (l : Label) → Sound (label_format d) l → length l.runs ≡ 120
label_places d l h =
    let p = label_parts d l h in
    let e : (label_of d l.level (used l)).runs ≡ l.runs = λ i. (p.is i).runs in
    sym (ap length e) ∙ omega (arith, length-append (used l) (replicate (120 - length (used l)) no_run), length-replicate (120 - length (used l)) no_run, p.count, unless_small d 120)

-- The settings of option 130 for one way.

small_each : (xs : List ℕ) → small xs ≡ true → Each (λ st x. Sound (alike (number two 0 65535) st) x) same 0 xs
unfolding Sound
small_each [] e = tt
small_each (x ∷ xs) e =
    let h : x ≤ 65535 = leb-true _ _ (and_left (leb x 65535) _ e) in
    ((omega arith, h, omega arith), small_each xs (and_right (leb x 65535) _ e))

each_small : (xs : List ℕ) → Each (λ st x. Sound (alike (number two 0 65535) st) x) same 0 xs → small xs ≡ true
unfolding Sound
each_small [] h = refl
each_small (x ∷ xs) h = rw (le-leb x 65535 h.0.1) (each_small xs h.1)

small_take : (n : ℕ) (xs : List ℕ) → small xs ≡ true → small (take n xs) ≡ true
small_take zero xs e = refl
small_take (suc n) [] e = refl
small_take (suc n) (x ∷ xs) e = rw (and_left (leb x 65535) _ e) (small_take n xs (and_right (leb x 65535) _ e))

small_zeros : (xs : List ℕ) (k : ℕ) → small xs ≡ true → small (xs ++ replicate k 0) ≡ true
small_zeros [] zero e = refl
small_zeros [] (suc k) e = small_zeros [] k e
small_zeros (x ∷ xs) k e = rw (and_left (leb x 65535) _ e) (small_zeros xs k (and_right (leb x 65535) _ e))

-- each of the four levels is an octet
level_small : (v : ℕ) → is_level v ≡ true → v ≤ 255
unfolding is_level
level_small v e = go (eqb 171 v) refl (eqb 150 v) refl (eqb 90 v) refl (eqb 61 v) refl e
  where
    go : (a : Bool) → eqb 171 v ≡ a → (b : Bool) → eqb 150 v ≡ b → (c : Bool) → eqb 90 v ≡ c → (d : Bool) → eqb 61 v ≡ d → (a || (b || (c || (d || false)))) ≡ true → v ≤ 255
    go true p b q c r d s h = let k : 171 ≡ v = eqb-true _ _ p in omega arith
    go false p true q c r d s h = let k : 150 ≡ v = eqb-true _ _ q in omega arith
    go false p false q true r d s h = let k : 90 ≡ v = eqb-true _ _ r in omega arith
    go false p false q false r true s h = let k : 61 ≡ v = eqb-true _ _ s in omega arith
    go false p false q false r false s h = absurd (true≢false (sym h))

-- the parts of sound settings, switched on or off
record WayParts (on : Bool) (w : Way) : Type 0 where
  lowest : cond on (is_level w.lowest) (eqb w.lowest 0) ≡ true
  highest : cond on (at_most w.lowest w.highest) (eqb w.highest 0) ≡ true
  low_small : w.lowest ≤ 255
  high_small : w.highest ≤ 255
  held : w.count ≤ cond on 256 0
  rest : unused (drop w.count w.flags) ≡ true

way_parts : (on : Bool) (w : Way) → cond on (way_sound w) (way_zero w) ≡ true → WayParts on w
unfolding way_sound way_zero at_most
way_parts true w e =
    let a = and_left (at_most w.lowest w.highest) _ e in
    let b = and_right (at_most w.lowest w.highest) _ e in
    let l = and_left (is_level w.lowest) _ a in
    let h = and_left (is_level w.highest) _ (and_right (is_level w.lowest) _ a) in
    record {
      lowest = l;
      highest = a;
      low_small = level_small w.lowest l;
      high_small = level_small w.highest h;
      held = leb-true _ _ (and_left (leb w.count 256) _ b);
      rest = and_right (leb w.count 256) _ b;
    }
way_parts false w e =
    let e1 = and_right (eqb w.lowest 0) _ e in
    let e2 = and_right (eqb w.highest 0) _ e1 in
    let l = and_left (eqb w.lowest 0) _ e in
    let h = and_left (eqb w.highest 0) _ e1 in
    let a : w.lowest ≡ 0 = eqb-true _ _ l in
    let b : w.highest ≡ 0 = eqb-true _ _ h in
    let c : w.count ≡ 0 = eqb-true _ _ (and_left (eqb w.count 0) _ e2) in
    record {
      lowest = l;
      highest = h;
      low_small = omega arith;
      high_small = omega arith;
      held = omega arith;
      rest = subst (λ (k : ℕ). unused (drop k w.flags) ≡ true) (sym c) (and_right (eqb w.count 0) _ e2);
    }

most_flags : (on : Bool) → cond on 256 0 ≤ 256
most_flags true = omega arith
most_flags false = omega arith

way_says : (on : Bool) (w : Way) → typed_way w ≡ true → cond on (way_sound w) (way_zero w) ≡ true → Sound (way_format on) w
unfolding Sound way_format typed_way
way_says on w t e =
    let p = way_parts on w e in
    let n : length w.flags ≡ 256 = eqb-true _ _ (and_left (eqb (length w.flags) 256) _ t) in
    let k : w.count ≤ 256 = omega (arith, p.held, most_flags on) in
    let l : length (take w.count w.flags) ≡ w.count = length-take-le w.count w.flags (omega arith) in
    let z : drop w.count w.flags ≡ replicate (length w.flags - w.count) 0 =
    unused_zeros (drop w.count w.flags) p.rest ∙ ap (λ (j : ℕ). replicate j 0) (length-drop w.count w.flags) in
    let f : padded 256 0 (take w.count w.flags) ≡ w.flags = padded_again 256 w.count 0 w.flags n k z in (
      (
        ((omega arith, p.low_small, omega (arith, p.low_small)), p.lowest),
        (
          ((omega arith, p.high_small, omega (arith, p.high_small)), p.highest),
          (small_each (take w.count w.flags) (small_take w.count w.flags (and_right (eqb (length w.flags) 256) _ t)), omega (arith, p.held, l), omega (arith, l, k)),
        ),
      ),
      λ i. record { lowest = w.lowest; highest = w.highest; count = l i; flags = f i },
    )

zero_flags : (k : ℕ) → unused (replicate k 0) ≡ true
zero_flags zero = refl
zero_flags (suc k) = zero_flags k

way_of_sound : (on : Bool) (l h : ℕ) (fs : List ℕ) → cond on (is_level l) (eqb l 0) ≡ true → cond on (at_most l h) (eqb h 0) ≡ true → length fs ≤ cond on 256 0
    → cond on (way_sound (way_of l h fs)) (way_zero (way_of l h fs)) ≡ true
unfolding way_sound way_zero
way_of_sound true l h fs a b k =
    let d : drop (length fs) (padded 256 0 fs) ≡ replicate (256 - length fs) 0 = drop_at fs (replicate (256 - length fs) 0) (length fs) refl in
    rw (b, le-leb (length fs) 256 k, d) (zero_flags (256 - length fs))
way_of_sound false l h [] a b k = rw (a, b) (zero_flags 256)
way_of_sound false l h (x ∷ fs) a b k = absurd (omega arith)

way_said : (on : Bool) (w : Way) → Sound (way_format on) w → (cond on (way_sound w) (way_zero w) ≡ true) × (typed_way w ≡ true)
unfolding Sound way_format typed_way
way_said on w h =
    let fs : List ℕ = take w.count w.flags in
    let k : length (take w.count w.flags) ≤ 256 = omega (arith, h.0.1.1.1, most_flags on) in
    let t : typed_way (way_of w.lowest w.highest fs) ≡ true =
    rw (eq-eqb _ _ (padded_length 256 0 (take w.count w.flags) k)) (small_zeros (take w.count w.flags) (256 - length fs) (each_small fs h.0.1.1.0)) in (
      subst (λ (x : Way). cond on (way_sound x) (way_zero x) ≡ true) h.1 (way_of_sound on w.lowest w.highest fs h.0.0.1 h.0.1.0.1 h.0.1.1.1),
      subst (λ (x : Way). typed_way x ≡ true) h.1 t,
    )

-- Ports.

-- an assigned or default label that is all zero, or else lies in the range
given_says : (none : Bool) (p : Port) (g : Label) → length g.runs ≡ 120 → p.lowest.domain ≡ p.domain → cond none (is_zero g) (in_range p.lowest p.highest g) ≡ true
    → Sound (given_format none p.domain p.lowest p.highest) g
unfolding Sound given_format in_range
given_says true p g n d e = (zero_says g n e, refl)
given_says false p g n d e =
    let a = and_left (leq p.lowest g) _ e in
    let l = leq_says p.lowest g a in
    let k : g.domain ≡ p.domain = sym l.domain ∙ d in
    (says_in p.domain g k l.second, e)

given_said : (none : Bool) (p : Port) (g : Label) → Sound (given_format none p.domain p.lowest p.highest) g → (cond none (is_zero g) (in_range p.lowest p.highest g) ≡ true) × (length g.runs ≡ 120)
unfolding Sound given_format
given_said true p g h = (zero_said g h.0, label_places 0 g h.0)
given_said false p g h = (h.1, label_places p.domain g h.0)

-- the places of a port, part by part
pub record Places (p : Port) : Type 0 where
  pub lowest : length p.lowest.runs ≡ 120
  pub highest : length p.highest.runs ≡ 120
  pub assigned : length p.assigned.runs ≡ 120
  pub receiving : typed_way p.basic.receiving ≡ true
  pub sending : typed_way p.basic.sending ≡ true
  pub default : length p.default.runs ≡ 120

pub places : (p : Port) → typed_port p ≡ true → Places p
unfolding typed_port
places p e =
    let e1 = and_right (eqb (length p.lowest.runs) 120) _ e in
    let e2 = and_right (eqb (length p.highest.runs) 120) _ e1 in
    let e3 = and_right (eqb (length p.assigned.runs) 120) _ e2 in
    let e4 = and_right (typed_way p.basic.receiving) _ e3 in
    record {
      lowest = eqb-true _ _ (and_left (eqb (length p.lowest.runs) 120) _ e);
      highest = eqb-true _ _ (and_left (eqb (length p.highest.runs) 120) _ e1);
      assigned = eqb-true _ _ (and_left (eqb (length p.assigned.runs) 120) _ e2);
      receiving = and_left (typed_way p.basic.receiving) _ e3;
      sending = and_left (typed_way p.basic.sending) _ e4;
      default = eqb-true _ _ (and_right (typed_way p.basic.sending) _ e4);
    }

pub way_places : (w : Way) → typed_way w ≡ true → length w.flags ≡ 256
unfolding typed_way
way_places w t = eqb-true _ _ (and_left (eqb (length w.flags) 256) _ t)

pub typed_port_lem : (p : Port) → Places p → typed_port p ≡ true
unfolding typed_port
typed_port_lem p n = rw (eq-eqb _ _ n.lowest, eq-eqb _ _ n.highest, eq-eqb _ _ n.assigned, n.receiving, n.sending, eq-eqb _ _ n.default)

-- the fields of version 1, each way
plain_says : (p : Port) → Places p → port_sound p ≡ true → Sound plain_format (plain_of p)
unfolding Sound plain_format assigned_sound port_sound
plain_says p n e =
    let s = port.sound p e in
    let r = s.range in
    let f = formed p.lowest r.low_formed in
    let e1 = and_right (not (eqb p.domain 0)) _ e in
    let e2 = and_right (range_sound p.lowest p.highest p.domain) _ e1 in
    let a = and_left (assigned_sound p) _ e2 in (
      (omega (arith, s.owned), omega (arith, f.domain, r.low_domain), omega (arith, f.domain, r.low_domain)),
      (
        says_in p.domain p.lowest r.low_domain r.low_formed,
        (
          (says_in p.domain p.highest r.high_domain r.high_formed, r.ordered),
          (tt, given_says p.required p p.assigned n.assigned r.low_domain a),
        ),
      ),
    )

-- those that version 2 adds
default_none : (u : Bool) (lo hi g : Label) → cond u (in_range lo hi g) (is_zero g) ≡ cond (not u) (is_zero g) (in_range lo hi g)
default_none true lo hi g = refl
default_none false lo hi g = refl

basic_way : (on : Bool) (r s : Way) → cond on (way_sound r && way_sound s) (way_zero r && way_zero s) ≡ true → (cond on (way_sound r) (way_zero r) ≡ true) × (cond on (way_sound s) (way_zero s) ≡ true)
basic_way true r s e = (and_left (way_sound r) _ e, and_right (way_sound r) _ e)
basic_way false r s e = (and_left (way_zero r) _ e, and_right (way_zero r) _ e)

way_basic : (on : Bool) (r s : Way) → cond on (way_sound r) (way_zero r) ≡ true → cond on (way_sound s) (way_zero s) ≡ true → cond on (way_sound r && way_sound s) (way_zero r && way_zero s) ≡ true
way_basic true r s a b = and_both a b
way_basic false r s a b = and_both a b

later_says : (p : Port) → Places p → port_sound p ≡ true → Sound (later_format p.domain p.lowest p.highest) (later_of p)
unfolding Sound later_format spellings_format port_sound basic_sound default_sound
later_says p n e =
    let s = port.sound p e in
    let e1 = and_right (not (eqb p.domain 0)) _ e in
    let e2 = and_right (range_sound p.lowest p.highest p.domain) _ e1 in
    let e3 = and_right (assigned_sound p) _ e2 in
    let e4 = and_right (basic_sound p.basic) _ e3 in
    let b = basic_way p.basic.on p.basic.receiving p.basic.sending (and_left (basic_sound p.basic) _ e3) in
    let d = and_right (some_of p.spellings) _ e4 in (
      tt,
      (
        way_says p.basic.on p.basic.receiving n.receiving b.0,
        (
          way_says p.basic.on p.basic.sending n.sending b.1,
          (
            ((tt, refl), and_left (some_of p.spellings) _ e4),
            (tt, given_says (not p.unlabelled) p p.default n.default s.range.low_domain (sym (default_none p.unlabelled p.lowest p.highest p.default) ∙ d)),
          ),
        ),
      ),
    )

-- a port that is sound in its fields of version 1, and of whose later fields this holds
port_both : (p : Port) → Sound plain_format (plain_of p) → basic_sound p.basic ≡ true → some_of p.spellings ≡ true → default_sound p ≡ true → port_sound p ≡ true
unfolding Sound plain_format port_sound range_sound assigned_sound
port_both p h b s f =
    let d : 0 < p.domain = omega (arith, h.0.0) in
    let lo = label_said p.domain p.lowest d h.1.0 in
    let hi = label_said p.domain p.highest d h.1.1.0.0 in
    let g = given_said p.required p p.assigned h.1.1.1.1 in
    rw (ne_eqb p.domain 0 (λ z. omega arith), eq-eqb _ _ lo.1, eq-eqb _ _ hi.1, h.1.1.0.1, b, s, f, and-true) g.0

plain_places : (p : Port) → Sound plain_format (plain_of p) → (length p.lowest.runs ≡ 120) × (length p.highest.runs ≡ 120) × (length p.assigned.runs ≡ 120)
unfolding Sound plain_format
plain_places p h =
    (label_places p.domain p.lowest h.1.0, label_places p.domain p.highest h.1.1.0.0, (given_said p.required p p.assigned h.1.1.1.1).1)

-- Version 1.

made : (p : Port) → Sound first_port p → plain_made (plain_of p) ≡ p
unfolding Sound first_port
made p h = h.1

-- what holds of the later fields that every such port has holds of its own
later : (P : Port → Type 0) → ((d : ℕ) (lo hi : Label) (r : Bool) (a : Label) → P (plain_port d lo hi r a)) → (p : Port) → Sound first_port p → P p
later P q p h = subst P (made p h) (q p.domain p.lowest p.highest p.required p.assigned)

plain_plain : (d : ℕ) (lo hi : Label) (r : Bool) (a : Label) → is_plain (plain_port d lo hi r a) ≡ true
unfolding is_plain is_off basic_sound way_zero is_zero
plain_plain d lo hi r a = refl

plain_basic : (d : ℕ) (lo hi : Label) (r : Bool) (a : Label) → basic_sound (plain_port d lo hi r a).basic ≡ true
unfolding basic_sound way_zero
plain_basic d lo hi r a = refl

plain_default : (d : ℕ) (lo hi : Label) (r : Bool) (a : Label) → default_sound (plain_port d lo hi r a) ≡ true
unfolding default_sound is_zero
plain_default d lo hi r a = refl

plain_receiving : (d : ℕ) (lo hi : Label) (r : Bool) (a : Label) → typed_way (plain_port d lo hi r a).basic.receiving ≡ true
unfolding typed_way
plain_receiving d lo hi r a = refl

plain_sending : (d : ℕ) (lo hi : Label) (r : Bool) (a : Label) → typed_way (plain_port d lo hi r a).basic.sending ≡ true
unfolding typed_way
plain_sending d lo hi r a = refl

first_says : (p : Port) → typed_port p ≡ true → port_sound p ≡ true → is_plain p ≡ true → Sound first_port p
unfolding Sound first_port
first_says p t e plain =
    let n = places p t in
    (plain_says p n e, sym (port.plain_is p (way_places p.basic.receiving n.receiving) (way_places p.basic.sending n.sending) n.default plain))

-- what a format of a port says of it
record Told (version : ℕ) (p : Port) : Type 0 where
  sound : port_sound p ≡ true
  sayable : port_sayable version p ≡ true
  typed : typed_port p ≡ true

or_right : (a b : Bool) → b ≡ true → (a || b) ≡ true
or_right true b e = refl
or_right false b e = e

either_sayable : (a b x y : Bool) → x ≡ true → y ≡ true → (a || cond b x y) ≡ true
either_sayable a true x y e f = or_right a x e
either_sayable a false x y e f = or_right a y f

first_said : (version : ℕ) (p : Port) → Sound first_port p → Told version p
unfolding Sound first_port port_sayable
first_said version p h =
    let k = plain_places p h.0 in
    record {
      sound =
          port_both p h.0 (later (λ q. basic_sound q.basic ≡ true) plain_basic p h) (later (λ q. some_of q.spellings ≡ true) (λ d lo hi r a. refl) p h)
          (later (λ q. default_sound q ≡ true) plain_default p h);
      sayable =
          either_sayable (leb 3 version) (leb 2 version) (not p.strict) (is_plain p) (later (λ q. not q.strict ≡ true) (λ d lo hi r a. refl) p h)
          (later (λ q. is_plain q ≡ true) plain_plain p h);
      typed =
          typed_port_lem p
          (record {
            lowest = k.0;
            highest = k.1;
            assigned = k.2;
            receiving = later (λ q. typed_way q.basic.receiving ≡ true) plain_receiving p h;
            sending = later (λ q. typed_way q.basic.sending ≡ true) plain_sending p h;
            default = later (λ q. length q.default.runs ≡ 120) (λ d lo hi r a. refl) p h;
          });
    }

-- Versions 2 and 3.

both_said : (p : Port) → Sound plain_format (plain_of p) → Sound (later_format p.domain p.lowest p.highest) (later_of p) → (port_sound p ≡ true) × (typed_port p ≡ true)
unfolding Sound later_format spellings_format basic_sound default_sound
both_said p h l =
    let k = plain_places p h in
    let a = way_said p.basic.on p.basic.receiving l.1.0 in
    let b = way_said p.basic.on p.basic.sending l.1.1.0 in
    let g = given_said (not p.unlabelled) p p.default l.1.1.1.1.1 in (
      port_both p h (way_basic p.basic.on p.basic.receiving p.basic.sending a.0 b.0) l.1.1.1.0.1
          (default_none p.unlabelled p.lowest p.highest p.default ∙ g.0),
      typed_port_lem p (record { lowest = k.0; highest = k.1; assigned = k.2; receiving = a.1; sending = b.1; default = g.1 }),
    )

second_says : (p : Port) → typed_port p ≡ true → port_sound p ≡ true → p.strict ≡ false → Sound second_port p
unfolding Sound second_port
second_says p t e u = let n = places p t in ((plain_says p n e, later_says p n e), λ i. port_made (plain_of p) (later_of p) (sym u i))

second_said : (version : ℕ) (p : Port) → 2 ≤ version → Sound second_port p → Told version p
unfolding Sound second_port port_sayable
second_said version p v h =
    let b = both_said p h.0.0 h.0.1 in
    let u : p.strict ≡ false = ap (λ (q : Port). q.strict) (sym h.1) in
    record { sound = b.0; sayable = rw (le-leb 2 version v, u) (or_right (leb 3 version) true refl); typed = b.1 }

third_says : (p : Port) → typed_port p ≡ true → port_sound p ≡ true → Sound third_port p
unfolding Sound third_port
third_says p t e = let n = places p t in ((plain_says p n e, (later_says p n e, tt)), refl)

third_said : (version : ℕ) (p : Port) → 3 ≤ version → Sound third_port p → Told version p
unfolding Sound third_port port_sayable
third_said version p v h =
    let b = both_said p h.0.0 h.0.1.0 in
    record { sound = b.0; sayable = rw (le-leb 3 version v); typed = b.1 }

-- All three.

port_says : (version : ℕ) (p : Port) → typed_port p ≡ true → port_sound p ≡ true → port_sayable version p ≡ true → Sound (port_format version) p
unfolding port_format port_sayable
port_says version p t e s = go (leb 3 version) (leb 2 version) refl refl s
  where
    go : (a b : Bool) → leb 3 version ≡ a → leb 2 version ≡ b → (a || cond b (not p.strict) (is_plain p)) ≡ true → Sound (port_format version) p
    go true b q w s = rw q (third_says p t e)
    go false true q w s = rw (q, w) (second_says p t e (not-true p.strict s))
    go false false q w s = rw (q, w) (first_says p t e s)

port_told : (version : ℕ) (p : Port) → Sound (port_format version) p → Told version p
unfolding port_format
port_told version p h = go (leb 3 version) (leb 2 version) refl refl
  where
    go : (a b : Bool) → leb 3 version ≡ a → leb 2 version ≡ b → Told version p
    go true b q w = third_said version p (leb-true _ _ q) (rw q at h)
    go false true q w = second_said version p (leb-true _ _ w) (rw (q, w) at h)
    go false false q w = first_said version p (rw (q, w) at h)

pub ports_said : PortsSaid
ports_said = record { says = port_says; said = λ version p h. let t = port_told version p h in (t.sound, t.sayable) }

pub port_typed : (version : ℕ) (p : Port) → Sound (port_format version) p → typed_port p ≡ true
port_typed version p h = (port_told version p h).typed
