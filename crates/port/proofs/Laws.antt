-- Laws of sound ports and ranges, for whoever calls with one.
use mathlib.Core.Path.{◌≡◌, refl, sym, ◌∙◌, ap}
use mathlib.Core.Bool.{Bool, true, false, cond, not, ◌&&◌, ◌||◌, and-true, and-false}
use Prim.Native.Nat.{ℕ}
use lib.Dec.{eqb}
use native.Mathlib.Nat.{le_refl}
use borrow.Author.Tests.{eqb-true, eqb-false, not-true, eq-eqb, ne_eqb}
use Rattle.label.specs.declared.Label.{Label}
use Rattle.label.specs.Label.{well_formed, at_most, leq, in_range, is_zero}
use Rattle.label.proofs.Bools.{and_left, and_right, or_none}
use Rattle.label.proofs.Labels.{leq_at_most, leq_says, leq_said}
use lib.ListN.{length}
use Rattle.basic.specs.Settings.{is_off, basic_sound}
use Rattle.basic.proofs.Settings.{off_is}
use Rattle.option.specs.Permitted.{is_usual, some_of}
use Rattle.option.proofs.Sets.{usual_is}
use Rattle.port.specs.declared.Port.{Port}
use Rattle.port.proofs.Zero.{is_zero_lem}
use Rattle.port.specs.declared.Host.{Host}
use Rattle.port.specs.Port.{plain_port, is_plain, range_sound, assigned_sound, default_lies, default_sound, port_sound, host_sound, lowest_out, highest_out}

leq_second : (a b : Label) → leq a b ≡ true → well_formed b ≡ true
unfolding leq
leq_second a b e = and_left (well_formed b) _ (and_right (well_formed a) _ e)

leq_first : (a b : Label) → leq a b ≡ true → well_formed a ≡ true
unfolding leq
leq_first a b e = and_left (well_formed a) _ e

-- A sound range, part by part.
pub record Range (lowest highest : Label) (domain : ℕ) : Type 0 where
  pub low_domain : lowest.domain ≡ domain
  pub high_domain : highest.domain ≡ domain
  pub low_formed : well_formed lowest ≡ true
  pub high_formed : well_formed highest ≡ true
  pub ordered : leq lowest highest ≡ true

pub sound_range : (lowest highest : Label) (domain : ℕ) → range_sound lowest highest domain ≡ true → Range lowest highest domain
unfolding range_sound
sound_range l h d e =
    let e1 = and_right (eqb l.domain d) _ e in
    let e2 = and_right (eqb h.domain d) _ e1 in
    record {
      low_domain = eqb-true _ _ (and_left (eqb l.domain d) _ e);
      high_domain = eqb-true _ _ (and_left (eqb h.domain d) _ e1);
      low_formed = leq_first l h e2;
      high_formed = leq_second l h e2;
      ordered = e2;
    }

pub host_range : (h : Host) (domain : ℕ) → host_sound h domain ≡ true → Range h.lowest h.highest domain
unfolding host_sound
host_range h d e = sound_range h.lowest h.highest d e

-- A sound port, part by part: its range, the assigned label where none is required, the settings of option 130, and the permitted
-- spellings.
pub record Sound (p : Port) : Type 0 where
  pub owned : p.domain ≡ 0 → ⊥
  pub range : Range p.lowest p.highest p.domain
  pub assigned : p.required ≡ false → in_range p.lowest p.highest p.assigned ≡ true
  pub assigned_formed : p.required ≡ false → well_formed p.assigned ≡ true
  pub assigned_zero : p.required ≡ true → is_zero p.assigned ≡ true
  pub basic : basic_sound p.basic ≡ true
  pub permitted : some_of p.spellings ≡ true
  -- the range of what may leave, and what the default label is
  pub out : Range (lowest_out p) (highest_out p) p.domain
  pub unlabelled : p.unlabelled ≡ true → in_range p.lowest p.highest p.default ≡ true
  pub labelled : p.unlabelled ≡ false → is_zero p.default ≡ true

pub range_formed : (l h a : Label) → in_range l h a ≡ true → well_formed a ≡ true
unfolding in_range
range_formed l h a e = leq_second l a (and_left (leq l a) _ e)

-- a label in the range is a range of itself
leq_self : (a : Label) → well_formed a ≡ true → leq a a ≡ true
leq_self a w = leq_said a a (record { first = w; second = w; domain = refl; level = le_refl a.level; categories = λ c m. m })

range_domain : (l h a : Label) → in_range l h a ≡ true → l.domain ≡ a.domain
unfolding in_range
range_domain l h a e = (leq_says l a (and_left (leq l a) _ e)).domain

-- and in it, as what may leave toward unlabelled hosts
pub default_in : (p : Port) (m : Label) → in_range p.lowest p.highest p.default ≡ true → m ≡ p.default → in_range p.default p.default m ≡ true
unfolding in_range
default_in p m e q =
    let w = range_formed p.lowest p.highest p.default e in
    rw (q, leq_self p.default w)

pub range_alone : (l h a : Label) (d : ℕ) → Range l h d → in_range l h a ≡ true → Range a a d
range_alone l h a d r e =
    let w = range_formed l h a e in
    let o = sym (range_domain l h a e) ∙ r.low_domain in
    record { low_domain = o; high_domain = o; low_formed = w; high_formed = w; ordered = leq_self a w }

pub sound : (p : Port) → port_sound p ≡ true → Sound p
unfolding port_sound assigned_sound default_sound
sound p e =
    let e1 = and_right (not (eqb p.domain 0)) _ e in
    let e2 = and_right (range_sound p.lowest p.highest p.domain) _ e1 in
    let e3 = and_left (assigned_sound p) _ e2 in
    let e4 = and_right (assigned_sound p) _ e2 in
    let e5 = and_right (basic_sound p.basic) _ e4 in
    let e6 : default_lies p.unlabelled p.lowest p.highest p.default ≡ true = and_right (some_of p.spellings) _ e5 in
    let free : p.required ≡ false → in_range p.lowest p.highest p.assigned ≡ true = λ f. rw f at e3 in
    let r = sound_range p.lowest p.highest p.domain (and_left (range_sound p.lowest p.highest p.domain) _ e1) in
    record {
      owned = eqb-false _ _ (not-true _ (and_left (not (eqb p.domain 0)) _ e));
      range = r;
      assigned = free;
      assigned_formed = λ f. range_formed p.lowest p.highest p.assigned (free f);
      assigned_zero = λ f. rw f at e3;
      basic = and_left (basic_sound p.basic) _ e4;
      permitted = and_left (some_of p.spellings) _ e5;
      out = out_range p r p.unlabelled e6;
      unlabelled = λ f. rw f at e6;
      labelled = λ f. rw f at e6;
    }
  where
    out_range : (p : Port) → Range p.lowest p.highest p.domain → (u : Bool) → default_lies u p.lowest p.highest p.default ≡ true
        → Range (cond u p.default p.lowest) (cond u p.default p.highest) p.domain
    out_range p r true q = range_alone p.lowest p.highest p.default p.domain r q
    out_range p r false q = r

-- An unsound default label.
last_no : (a b c d f z : Bool) → z ≡ false → false ≡ (a && (b && (c && (d && (f && z)))))
last_no a b c d f z e = sym (rw (e, and-false f, and-false d, and-false c, and-false b, and-false a))

pub default_ill : (p : Port) → default_lies p.unlabelled p.lowest p.highest p.default ≡ false → false ≡ port_sound p
unfolding port_sound default_sound
default_ill p e =
    last_no (not (eqb p.domain 0)) (range_sound p.lowest p.highest p.domain) (assigned_sound p) (basic_sound p.basic) (some_of p.spellings)
    (default_lies p.unlabelled p.lowest p.highest p.default) e

-- A later field that is not as document 01 has it.
third_no : (a b c z : Bool) → (c && z) ≡ false → false ≡ (a && (b && (c && z)))
third_no a b c z e = sym (rw (e, and-false b, and-false a))

pub later_flag : (p : Port) → (p.unlabelled || p.strict) ≡ true → false ≡ is_plain p
unfolding is_plain
later_flag p e = third_no (is_off p.basic) (is_usual p.spellings) (not (p.unlabelled || p.strict)) (is_zero p.default) (rw e)

pub default_given : (p : Port) → is_zero p.default ≡ false → false ≡ is_plain p
unfolding is_plain
default_given p e = third_no (is_off p.basic) (is_usual p.spellings) (not (p.unlabelled || p.strict)) (is_zero p.default) (rw (e, and-false (not (p.unlabelled || p.strict))))

-- The assigned label is the last to be looked at.

pub assigned_last : (p : Port) → (p.domain ≡ 0 → ⊥) → range_sound p.lowest p.highest p.domain ≡ true → basic_sound p.basic ≡ true
    → some_of p.spellings ≡ true → default_lies p.unlabelled p.lowest p.highest p.default ≡ true → assigned_sound p ≡ port_sound p
unfolding port_sound default_sound
assigned_last p d r b s l = sym (rw (ne_eqb p.domain 0 d, r, b, s, l) (and-true (assigned_sound p)))

pub assigned_required : (p : Port) (b : Bool) → p.required ≡ b → assigned_sound p ≡ cond b (is_zero p.assigned) (in_range p.lowest p.highest p.assigned)
unfolding assigned_sound
assigned_required p b e = ap (λ (q : Bool). cond q (is_zero p.assigned) (in_range p.lowest p.highest p.assigned)) e

-- A port that is as document 01 has it is said by that document's fields.
pub plain_is : (p : Port) → length p.basic.receiving.flags ≡ 256 → length p.basic.sending.flags ≡ 256 → length p.default.runs ≡ 120 → is_plain p ≡ true
    → p ≡ plain_port p.domain p.lowest p.highest p.required p.assigned
unfolding is_plain
plain_is p m n k e =
    let e1 = and_right (is_off p.basic) _ e in
    let e2 = and_right (is_usual p.spellings) _ e1 in
    let b = off_is p.basic m n (and_left (is_off p.basic) _ e) in
    let s = usual_is p.spellings (and_left (is_usual p.spellings) _ e1) in
    let f = or_none p.unlabelled p.strict (not-true (p.unlabelled || p.strict) (and_left (not (p.unlabelled || p.strict)) _ e2)) in
    let u = f.0 in
    let t = f.1 in
    let l = is_zero_lem p.default k (and_right (not (p.unlabelled || p.strict)) _ e2) in
    λ i. record {
      domain = p.domain;
      lowest = p.lowest;
      highest = p.highest;
      required = p.required;
      assigned = p.assigned;
      basic = b i;
      spellings = s i;
      unlabelled = u i;
      default = l i;
      strict = t i;
    }

-- The tests of a range, in the order in which they are made.

pub range_at_most : (l h : Label) (d : ℕ) → l.domain ≡ d → h.domain ≡ d → well_formed l ≡ true → well_formed h ≡ true → at_most l h ≡ range_sound l h d
unfolding range_sound
range_at_most l h d p q wl wh = sym (rw (eq-eqb _ _ p, eq-eqb _ _ q) (leq_at_most l h wl wh))

pub range_ill_low : (l h : Label) (d : ℕ) → well_formed l ≡ false → false ≡ range_sound l h d
unfolding range_sound leq
range_ill_low l h d w = rw (w, and-false, and-false)

pub range_ill_high : (l h : Label) (d : ℕ) → well_formed h ≡ false → false ≡ range_sound l h d
unfolding range_sound leq
range_ill_high l h d w = rw (w, and-false, and-false, and-false)

-- The tests of an assigned label.

pub assigned_ill : (l h a : Label) → well_formed a ≡ false → false ≡ in_range l h a
unfolding in_range leq
assigned_ill l h a w = simp (w, and-false)

pub assigned_is : (l h a : Label) → well_formed l ≡ true → well_formed h ≡ true → well_formed a ≡ true → (at_most l a && at_most a h) ≡ in_range l h a
unfolding in_range
assigned_is l h a wl wh wa = sym (rw (leq_at_most l a wl wa, leq_at_most a h wa wh))
