-- Laws of the usual kind of port: its parts, and the fixed places that decide it.
-- Assumes nothing.
use mathlib.Core.Path.{◌≡◌, refl, sym, ◌∙◌}
use mathlib.Core.Bool.{Bool, true, false, cond, not, ◌&&◌, and-true, and-false}
use mathlib.Core.List.{List, ◌∷◌}
use Prim.Native.Nat.{ℕ, ◌+◌, ◌*◌, ◌≤◌, ◌<◌}
use native.Mathlib.Omega.{arith}
use lib.Bits.{bit_or, or_add_and}
use lib.Dec.{eqb, leb}
use lib.ListN.{length, get_or, drop}
use borrow.Author.Tests.{eqb-true, eqb-false, leb-true, not-true, eq-eqb, le-leb}
use Rattle.label.specs.declared.Run.{Run}
use Rattle.label.specs.declared.Label.{Label}
use Rattle.label.specs.Runs.{unused, subset}
use Rattle.label.specs.Label.{no_run, label_typed, well_formed, at_most, leq, in_range, is_zero}
use Rattle.label.proofs.Bools.{and_left, and_right, and_both, same_yes}
use Rattle.label.proofs.Steps.{next}
use Rattle.label.proofs.Places.{zero_or, or_step, first_alone}
use Rattle.label.proofs.Labels.{well_formed_runs, leq_says}
use Rattle.basic.specs.declared.Way.{Way}
use Rattle.basic.specs.Settings.{unused as no_flags, way_sound, way_zero, basic_sound}
use Rattle.option.specs.Permitted.{some_of}
use Rattle.port.specs.declared.Port.{Port}
use Rattle.port.specs.Port.{range_sound, assigned_sound, default_sound, port_sound}
use Rattle.port_usual.specs.Usual.{looks_usual, usual_port}
use Rattle.port_usual.specs.Stages.{range_usual}
use Rattle.port.proofs.Laws.{sound_range}

pub usual_looks : (p : Port) → usual_port p ≡ true → looks_usual p ≡ true
unfolding usual_port
usual_looks p e = and_left (looks_usual p) _ e

pub usual_sound : (p : Port) → usual_port p ≡ true → port_sound p ≡ true
unfolding usual_port
usual_sound p e = and_right (looks_usual p) _ e

-- A usual port, part by part.
pub record Usual (p : Port) : Type 0 where
  pub required : p.required ≡ true
  pub labelled : p.unlabelled ≡ false
  pub loose : p.strict ≡ false
  pub off : p.basic.on ≡ false
  pub low : p.lowest.count ≡ 0
  pub high : p.highest.count ≤ 1

pub looks : (p : Port) → looks_usual p ≡ true → Usual p
unfolding looks_usual
looks p e =
    let e1 = and_right p.required _ e in
    let e2 = and_right (not p.unlabelled) _ e1 in
    let e3 = and_right (not p.strict) _ e2 in
    let e4 = and_right (not p.basic.on) _ e3 in
    record {
      required = and_left p.required _ e;
      labelled = not-true _ (and_left (not p.unlabelled) _ e1);
      loose = not-true _ (and_left (not p.strict) _ e2);
      off = not-true _ (and_left (not p.basic.on) _ e3);
      low = eqb-true _ _ (and_left (eqb p.lowest.count 0) _ e4);
      high = leb-true _ _ (and_right (eqb p.lowest.count 0) _ e4);
    }

pub usual : (p : Port) → usual_port p ≡ true → Usual p
usual p e = looks p (usual_looks p e)

-- Places looked at by an OR over all of them.

-- an OR is zero exactly when both are
or_zero : (a b : ℕ) → eqb (bit_or a b) 0 ≡ (eqb a 0 && eqb b 0)
or_zero a b =
    same_yes (eqb (bit_or a b) 0) (eqb a 0 && eqb b 0)
    (λ e.
    let z = zero_or a b (eqb-true _ _ e) in
    and_both (eq-eqb a 0 z.0) (eq-eqb b 0 z.1))
    (λ e.
    let p : a ≡ 0 = eqb-true a 0 (and_left (eqb a 0) _ e) in
    let q : b ≡ 0 = eqb-true b 0 (and_right (eqb a 0) _ e) in
    eq-eqb (bit_or a b) 0 (omega (arith, or_add_and a b)))

second_first : (a b c : Bool) → (a && (b && c)) ≡ (b && (a && c))
second_first true b c = refl
second_first false true c = refl
second_first false false c = refl

-- one place more of two lists of runs
pub runs_step : (xs ys : List Run) (s i : ℕ) → i < length xs → i < length ys →
    let a = get_or xs i no_run in
    let b = get_or ys i no_run in
    (eqb s 0 && (unused (drop i xs) && unused (drop i ys)))
    ≡ (eqb (bit_or (bit_or s (a.low + a.high * 65536)) (b.low + b.high * 65536)) 0 && (unused (drop (i + 1) xs) && unused (drop (i + 1) ys)))
runs_step xs ys s i h k =
    let a = get_or xs i no_run in
    let b = get_or ys i no_run in
    let x = unused (drop (i + 1) xs) in
    let y = unused (drop (i + 1) ys) in
    let t = bit_or s (a.low + a.high * 65536) in
    rw (next no_run xs i h, next no_run ys i k)
    (told (eqb s 0) (eqb a.low 0) (eqb a.high 0) x (unused (b ∷ drop (i + 1) ys))
    ∙ rw (or_step s a.low a.high (x && unused (b ∷ drop (i + 1) ys)))
    (rw (second_first x (eqb b.low 0) (eqb b.high 0 && y), second_first x (eqb b.high 0) y) (or_step t b.low b.high (x && y))))
  where
    told : (s l h x u : Bool) → (s && ((l && (h && x)) && u)) ≡ (s && (l && (h && (x && u))))
    told false l h x u = refl
    told true false h x u = refl
    told true true false x u = refl
    told true true true x u = refl

-- two records of which every field and place is zero, field by field
both_zero : (a b n u a' b' n' u' : Bool)
    → (((((a && b) && a') && b') && (n && n')) && (u && u')) ≡ ((a && (b && (n && u))) && (a' && (b' && (n' && u'))))
both_zero false b n u a' b' n' u' = refl
both_zero true false n u a' b' n' u' = refl
both_zero true true n u false b' n' u' = sym (and-false (n && u))
both_zero true true n u true false n' u' = sym (and-false (n && u))
both_zero true true false u true true n' u' = refl
both_zero true true true u true true false u' = sym (and-false u)
both_zero true true true u true true true u' = refl

-- every flag field from a place on is 0
abbrev pub none_from : List ℕ → ℕ → Bool
none_from fs i = no_flags (drop i fs)

-- one place more of two lists of flag fields
pub flags_step : (xs ys : List ℕ) (s i : ℕ) → i < length xs → i < length ys
    → (eqb s 0 && (none_from xs i && none_from ys i)) ≡ (eqb (bit_or (bit_or s (get_or xs i 0)) (get_or ys i 0)) 0 && (none_from xs (i + 1) && none_from ys (i + 1)))
flags_step xs ys s i h k =
    rw (next 0 xs i h, next 0 ys i k, or_zero (bit_or s (get_or xs i 0)) (get_or ys i 0), or_zero s (get_or xs i 0))
    (told (eqb s 0) (eqb (get_or xs i 0) 0) (none_from xs (i + 1)) (eqb (get_or ys i 0) 0) (none_from ys (i + 1)))
  where
    told : (s a x b y : Bool) → (s && ((a && x) && (b && y))) ≡ (((s && a) && b) && (x && y))
    told false a x b y = refl
    told true false x b y = refl
    told true true x false y = and-false x
    told true true x true y = refl

-- two labels, and the settings of two ways
pub labels_zero : (x y : Label)
    → ((eqb (bit_or (bit_or (bit_or x.domain x.level) y.domain) y.level) 0 && eqb (bit_or x.count y.count) 0) && (unused x.runs && unused y.runs))
    ≡ (is_zero x && is_zero y)
unfolding is_zero
labels_zero x y =
    rw (or_zero (bit_or (bit_or x.domain x.level) y.domain) y.level, or_zero (bit_or x.domain x.level) y.domain, or_zero x.domain x.level, or_zero x.count y.count)
    (both_zero (eqb x.domain 0) (eqb x.level 0) (eqb x.count 0) (unused x.runs) (eqb y.domain 0) (eqb y.level 0) (eqb y.count 0) (unused y.runs))

pub ways_zero : (x y : Way) (rest : ℕ) → (no_flags x.flags && no_flags y.flags) ≡ eqb rest 0
    → ((eqb (bit_or (bit_or (bit_or x.lowest x.highest) y.lowest) y.highest) 0 && eqb (bit_or x.count y.count) 0) && eqb rest 0)
    ≡ (way_zero x && way_zero y)
unfolding way_zero
ways_zero x y rest e =
    rw (sym e, or_zero (bit_or (bit_or x.lowest x.highest) y.lowest) y.highest, or_zero (bit_or x.lowest x.highest) y.lowest, or_zero x.lowest x.highest, or_zero x.count y.count)
    (both_zero (eqb x.lowest 0) (eqb x.highest 0) (eqb x.count 0) (no_flags x.flags) (eqb y.lowest 0) (eqb y.highest 0) (eqb y.count 0) (no_flags y.flags))

-- The range.

word_zero : (low high : ℕ) → eqb (low + high * 65536) 0 ≡ (eqb low 0 && eqb high 0)
word_zero low high =
    same_yes (eqb (low + high * 65536) 0) (eqb low 0 && eqb high 0)
    (λ e.
    let z : low + high * 65536 ≡ 0 = eqb-true _ _ e in
    and_both (eq-eqb low 0 (omega arith)) (eq-eqb high 0 (omega arith)))
    (λ e.
    let p : low ≡ 0 = eqb-true low 0 (and_left (eqb low 0) _ e) in
    let q : high ≡ 0 = eqb-true high 0 (and_right (eqb low 0) _ e) in
    eq-eqb (low + high * 65536) 0 (omega arith))

places : (l : Label) → label_typed l ≡ true → length l.runs ≡ 120
unfolding label_typed
places l t = eqb-true _ _ (and_right (leb l.level 255) _ (and_right (leb l.domain 4294967295) _ t))

-- what the first place says of a label of at most one run
abbrev pub one_formed : Label → Bool
one_formed l =
    let r = get_or l.runs 0 no_run in
    cond (eqb l.count 0) (eqb r.low 0 && eqb r.high 0) (leb r.low r.high && leb r.high 65534)

-- and of one without
abbrev pub none_formed : Label → Bool
none_formed l =
    let r = get_or l.runs 0 no_run in
    eqb (r.low + r.high * 65536) 0

-- the other places then decide
one_run : (l : Label) → label_typed l ≡ true → (l.domain ≡ 0 → ⊥) → l.count ≤ 1 → well_formed l ≡ (one_formed l && unused (drop 1 l.runs))
one_run l t o h = well_formed_runs l o (omega arith) t ∙ first_alone l.count l.runs h (omega (arith, places l t))

no_run_lem : (l : Label) → label_typed l ≡ true → (l.domain ≡ 0 → ⊥) → l.count ≡ 0 → well_formed l ≡ (none_formed l && unused (drop 1 l.runs))
no_run_lem l t o h =
    let r = get_or l.runs 0 no_run in
    one_run l t o (omega arith) ∙ rw (eq-eqb l.count 0 h, word_zero r.low r.high)

-- no categories are at most any
empty_at_most : (l h : Label) → l.domain ≡ h.domain → l.level ≤ h.level → l.count ≡ 0 → at_most l h ≡ true
unfolding at_most subset
empty_at_most l h d v n = rw (eq-eqb _ _ d, le-leb _ _ v, n)

five : (a b c d e : Bool) → ((((a && b) && c) && d) && e) ≡ true → (a ≡ true) × (b ≡ true) × (c ≡ true) × (d ≡ true) × (e ≡ true)
five a b c d e q =
    let q1 = and_left (((a && b) && c) && d) e q in
    let q2 = and_left ((a && b) && c) d q1 in
    let q3 = and_left (a && b) c q2 in
    (and_left a b q3, and_right a b q3, and_right (a && b) c q2, and_right ((a && b) && c) d q1, and_right (((a && b) && c) && d) e q)

-- what the code looks at, in its order
abbrev pub looked_at : Label → Label → ℕ → Bool
looked_at l h d =
    ((((unused (drop 1 l.runs) && unused (drop 1 h.runs)) && (not (eqb d 0) && (eqb l.domain d && eqb h.domain d))) && leb l.level h.level)
    && (eqb l.count 0 && none_formed l))
    && (leb h.count 1 && one_formed h)

looked_range : (l h : Label) (d : ℕ) → label_typed l ≡ true → label_typed h ≡ true → looked_at l h d ≡ true → range_usual l h d ≡ true
unfolding range_usual range_sound leq
looked_range l h d t u e =
    let q =
    five (unused (drop 1 l.runs) && unused (drop 1 h.runs)) (not (eqb d 0) && (eqb l.domain d && eqb h.domain d)) (leb l.level h.level)
    (eqb l.count 0 && none_formed l)
    (leb h.count 1 && one_formed h)
    e in
    let o = and_left (not (eqb d 0)) _ q.1 in
    let own = and_right (not (eqb d 0)) _ q.1 in
    let ld : l.domain ≡ d = eqb-true _ _ (and_left (eqb l.domain d) _ own) in
    let hd : h.domain ≡ d = eqb-true _ _ (and_right (eqb l.domain d) _ own) in
    let given : d ≡ 0 → ⊥ = eqb-false _ _ (not-true _ o) in
    let none : l.count ≡ 0 = eqb-true _ _ (and_left (eqb l.count 0) _ q.3) in
    let one : h.count ≤ 1 = leb-true _ _ (and_left (leb h.count 1) _ q.4) in
    let wl : well_formed l ≡ true =
    no_run_lem l t (λ z. given (sym ld ∙ z)) none
    ∙ and_both (and_right (eqb l.count 0) _ q.3) (and_left (unused (drop 1 l.runs)) _ q.0) in
    let wh : well_formed h ≡ true =
    one_run h u (λ z. given (sym hd ∙ z)) one
    ∙ and_both (and_right (leb h.count 1) _ q.4) (and_right (unused (drop 1 l.runs)) _ q.0) in
    simp (o, eq-eqb _ _ none, le-leb _ _ one, eq-eqb _ _ ld, eq-eqb _ _ hd, wl, wh, empty_at_most l h (ld ∙ sym hd) (leb-true _ _ q.2) none)

range_looked : (l h : Label) (d : ℕ) → label_typed l ≡ true → label_typed h ≡ true → range_usual l h d ≡ true → looked_at l h d ≡ true
unfolding range_usual
range_looked l h d t u e =
    let o = and_left (not (eqb d 0)) _ e in
    let e1 = and_right (not (eqb d 0)) _ e in
    let e2 = and_right (eqb l.count 0) _ e1 in
    let r = sound_range l h d (and_right (leb h.count 1) _ e2) in
    let none = and_left (eqb l.count 0) _ e1 in
    let one = and_left (leb h.count 1) _ e2 in
    let given : d ≡ 0 → ⊥ = eqb-false _ _ (not-true _ o) in
    let wl : (none_formed l && unused (drop 1 l.runs)) ≡ true = sym (no_run_lem l t (λ z. given (sym r.low_domain ∙ z)) (eqb-true _ _ none)) ∙ r.low_formed in
    let wh : (one_formed h && unused (drop 1 h.runs)) ≡ true = sym (one_run h u (λ z. given (sym r.high_domain ∙ z)) (leb-true _ _ one)) ∙ r.high_formed in
    and_both
    (and_both
    (and_both
    (and_both
    (and_both (and_right (none_formed l) _ wl) (and_right (one_formed h) _ wh))
    (and_both o (and_both (eq-eqb _ _ r.low_domain) (eq-eqb _ _ r.high_domain))))
    (le-leb _ _ (leq_says l h r.ordered).level))
    (and_both none (and_left (none_formed l) _ wl)))
    (and_both one (and_left (one_formed h) _ wh))

pub range_usual_lem : (l h : Label) (d : ℕ) → label_typed l ≡ true → label_typed h ≡ true → looked_at l h d ≡ range_usual l h d
range_usual_lem l h d t u = same_yes (looked_at l h d) (range_usual l h d) (looked_range l h d t u) (range_looked l h d t u)

-- The whole port.

in_turn : (d n o r a z w s : Bool) → ((((d && (n && (o && r))) && (a && z)) && w) && s) ≡ ((n && o) && (d && (r && (a && (w && (s && z))))))
in_turn d false o r a z w s = simp and-false
in_turn d true false r a z w s = simp and-false
in_turn false true true r a z w s = refl
in_turn true true true false a z w s = refl
in_turn true true true true false z w s = refl
in_turn true true true true true z false s = simp and-false
in_turn true true true true true z true false = simp and-false
in_turn true true true true true true true true = refl
in_turn true true true true true false true true = refl

-- the assigned and the default label and the settings of option 130 as the first three tests leave them
settled : (q u t b : Bool) (d n o r a z w s ia iz ww : Bool)
    → ((((((((d && (n && (o && r))) && (a && z)) && w) && q) && not u) && not t) && not b) && s)
    ≡ ((q && (not u && (not t && (not b && (n && o))))) && (d && (r && (cond q a ia && (cond b ww w && (s && cond u iz z))))))
settled false u t b d n o r a z w s ia iz ww = simp and-false
settled true true t b d n o r a z w s ia iz ww = simp and-false
settled true false true b d n o r a z w s ia iz ww = simp and-false
settled true false false true d n o r a z w s ia iz ww = simp and-false
settled true false false false d n o r a z w s ia iz ww = simp and-true (in_turn d n o r a z w s)

pub usual_is : (p : Port)
    → (((((((range_usual p.lowest p.highest p.domain && (is_zero p.assigned && is_zero p.default))
    && (way_zero p.basic.receiving && way_zero p.basic.sending))
    && p.required)
    && not p.unlabelled)
    && not p.strict)
    && not p.basic.on)
    && some_of p.spellings)
    ≡ usual_port p
unfolding usual_port looks_usual port_sound assigned_sound default_sound basic_sound range_usual
usual_is p =
    settled p.required p.unlabelled p.strict p.basic.on
    (not (eqb p.domain 0))
    (eqb p.lowest.count 0)
    (leb p.highest.count 1)
    (range_sound p.lowest p.highest p.domain)
    (is_zero p.assigned)
    (is_zero p.default)
    (way_zero p.basic.receiving && way_zero p.basic.sending)
    (some_of p.spellings)
    (in_range p.lowest p.highest p.assigned)
    (in_range p.lowest p.highest p.default)
    (way_sound p.basic.receiving && way_sound p.basic.sending)
