-- Laws of gates: a sound port is that of its gate and its lists.
use mathlib.Core.Path.{◌≡◌, refl, sym, ◌∙◌, ap}
use mathlib.Core.Bool.{Bool, true, false, cond, ◌&&◌, ◌||◌}
use mathlib.Core.List.{List, [], ◌∷◌, ◌++◌}
use Prim.Native.Nat.{ℕ, ◌+◌, ◌-◌, ◌≤◌, ◌<◌}
use native.Mathlib.Omega.{arith}
use lib.Dec.{eqb, leb}
use lib.ListN.{length, get_or, drop, replicate, length-drop, take-append-drop}
use lib.Seq.{length-take-le, take-append_seam}
use borrow.Author.Tests.{eqb-true, leb-true}
use Rattle.label.specs.declared.Label.{Label}
use Rattle.label.specs.Label.{used, label_of, well_formed, is_zero}
use Rattle.label.proofs.Bools.{and_left, and_right}
use Rattle.label.proofs.Labels.{formed, of_used}
use Rattle.label.proofs.Steps.{next}
use Rattle.label_keys.specs.Keys.{key_runs}
use Rattle.label_keys.proofs.Keys.{keys_runs}
use Rattle.basic.specs.Levels.{at_most}
use Rattle.basic.specs.declared.Way.{Way}
use Rattle.basic.specs.declared.Basic.{Basic}
use Rattle.basic.specs.Settings.{unused, way_sound, way_zero, basic_sound, among, passes_way}
use Rattle.port.specs.declared.Port.{Port}
use Rattle.port.specs.Port.{port_sound}
use Rattle.port.proofs.Zero.{is_zero_lem}
use Rattle.port.proofs.Laws.{sound, range_alone}
use Rattle.gate.specs.Gate.{label_keys, fields_of, way_of, port_back}

-- A well-formed label is that of its domain, level and keys.
pub label_back : (l : Label) (d : ℕ) → well_formed l ≡ true → l.domain ≡ d → label_of d l.level (key_runs (label_keys l)) ≡ l
label_back l d w e =
    let f = formed l w in
    (λ i. label_of (sym e i) l.level (keys_runs 0 (used l) f.runs i)) ∙ sym (of_used l f)

-- An all-zero one is that of no keys.
pub zero_back : (l : Label) → length l.runs ≡ 120 → is_zero l ≡ true → label_of 0 l.level (key_runs (label_keys l)) ≡ l
zero_back l n e =
    let z = is_zero_lem l n e in
    ap (λ (x : Label). label_of 0 x.level (key_runs (label_keys x))) z ∙ sym z

unused_zeros : (fs : List ℕ) → unused fs ≡ true → fs ≡ replicate (length fs) 0
unused_zeros [] e = refl
unused_zeros (x ∷ xs) e = rw (eqb-true x 0 (and_left (eqb x 0) _ e)) (ap (λ (l : List ℕ). 0 ∷ l) (unused_zeros xs (and_right (eqb x 0) _ e)))

-- A sound way is that of its levels and flag fields.
way_packed : (w : Way) → length w.flags ≡ 256 → w.count ≤ 256 → unused (drop w.count w.flags) ≡ true → way_of w.lowest w.highest (fields_of w) ≡ w
way_packed w n h e =
    let k : length (fields_of w) ≡ w.count = length-take-le w.count w.flags (omega arith) in
    let m : length (drop w.count w.flags) ≡ 256 - length (fields_of w) = simp length-drop (omega arith) in
    let z : drop w.count w.flags ≡ replicate (256 - length (fields_of w)) 0 = unused_zeros _ e ∙ ap (λ (j : ℕ). replicate j 0) m in
    let q : fields_of w ++ replicate (256 - length (fields_of w)) 0 ≡ w.flags = ap (λ (t : List ℕ). fields_of w ++ t) (sym z) ∙ take-append-drop w.count w.flags in
    λ i. record { lowest = w.lowest; highest = w.highest; count = k i; flags = q i }

way_sound_lem : (w : Way) → length w.flags ≡ 256 → way_sound w ≡ true → way_of w.lowest w.highest (fields_of w) ≡ w
unfolding way_sound
way_sound_lem w n e =
    let e1 = and_right (at_most w.lowest w.highest) _ e in
    way_packed w n (leb-true _ _ (and_left (leb w.count 256) _ e1)) (and_right (leb w.count 256) _ e1)

way_zero_lem : (w : Way) → length w.flags ≡ 256 → way_zero w ≡ true → way_of w.lowest w.highest (fields_of w) ≡ w
unfolding way_zero
way_zero_lem w n e =
    let e1 = and_right (eqb w.lowest 0) _ e in
    let e2 = and_right (eqb w.highest 0) _ e1 in
    let c : w.count ≡ 0 = eqb-true w.count 0 (and_left (eqb w.count 0) _ e2) in
    way_packed w n (omega arith) (rw c (and_right (eqb w.count 0) _ e2))

ways_back : (b : Basic) → length b.receiving.flags ≡ 256 → length b.sending.flags ≡ 256 → basic_sound b ≡ true
    → (way_of b.receiving.lowest b.receiving.highest (fields_of b.receiving) ≡ b.receiving)
    × (way_of b.sending.lowest b.sending.highest (fields_of b.sending) ≡ b.sending)
unfolding basic_sound
ways_back b m n e = go b.on e
  where
    go : (t : Bool) → cond t (way_sound b.receiving && way_sound b.sending) (way_zero b.receiving && way_zero b.sending) ≡ true
        → (way_of b.receiving.lowest b.receiving.highest (fields_of b.receiving) ≡ b.receiving)
        × (way_of b.sending.lowest b.sending.highest (fields_of b.sending) ≡ b.sending)
    go true z = (way_sound_lem b.receiving m (and_left (way_sound b.receiving) _ z), way_sound_lem b.sending n (and_right (way_sound b.receiving) _ z))
    go false z = (way_zero_lem b.receiving m (and_left (way_zero b.receiving) _ z), way_zero_lem b.sending n (and_right (way_zero b.receiving) _ z))

-- what the types of a port's fields say: how many places its lists have
pub record Places (p : Port) : Type 0 where
  pub assigned : length p.assigned.runs ≡ 120
  pub default : length p.default.runs ≡ 120
  pub receiving : length p.basic.receiving.flags ≡ 256
  pub sending : length p.basic.sending.flags ≡ 256

-- A sound port is that of its gate and its lists.
pub gate_port : (p : Port) → Places p → port_sound p ≡ true → port_back p ≡ p
gate_port p n e =
    let s = sound p e in
    let r = s.range in
    let low = label_back p.lowest p.domain r.low_formed r.low_domain in
    let high = label_back p.highest p.domain r.high_formed r.high_domain in
    let given = assigned p.required refl in
    let only = default p.unlabelled refl in
    let ways = ways_back p.basic n.receiving n.sending s.basic in
    λ i. record {
      domain = p.domain;
      lowest = low i;
      highest = high i;
      required = p.required;
      assigned = given i;
      basic = record { on = p.basic.on; receiving = ways.0 i; sending = ways.1 i };
      spellings = p.spellings;
      unlabelled = p.unlabelled;
      default = only i;
      strict = p.strict;
    }
  where
    assigned : (b : Bool) → p.required ≡ b → label_of (cond b 0 p.domain) p.assigned.level (key_runs (label_keys p.assigned)) ≡ p.assigned
    assigned true q = zero_back p.assigned n.assigned ((sound p e).assigned_zero q)
    assigned false q =
        let s = sound p e in
        let r = range_alone p.lowest p.highest p.assigned p.domain s.range (s.assigned q) in
        label_back p.assigned p.domain r.low_formed r.low_domain

    default : (b : Bool) → p.unlabelled ≡ b → label_of (cond b p.domain 0) p.default.level (key_runs (label_keys p.default)) ≡ p.default
    default true q =
        let s = sound p e in
        let r = range_alone p.lowest p.highest p.default p.domain s.range (s.unlabelled q) in
        label_back p.default p.domain r.low_formed r.low_domain
    default false q = zero_back p.default n.default ((sound p e).labelled q)

-- What passes a way that is said by its levels and flag fields.
pub passes_fields : (low high v f : ℕ) (fields : List ℕ) → passes_way (way_of low high fields) v f ≡ (at_most low v && (at_most v high && among fields f))
unfolding passes_way
passes_fields low high v f fields = ap (λ (z : List ℕ). at_most low v && (at_most v high && among z f)) (take-append_seam fields (replicate (256 - length fields) 0))

-- one more field of a list
or_assoc : (a b c : Bool) → (a || (b || c)) ≡ ((a || b) || c)
or_assoc true b c = refl
or_assoc false b c = refl

pub among_next : (fs : List ℕ) (f i : ℕ) (found same : Bool) → i < length fs → same ≡ eqb (get_or fs i 0) f
    → (found || among (drop i fs) f) ≡ ((found || same) || among (drop (i + 1) fs) f)
among_next fs f i found same h e = rw (next 0 fs i h, e) (or_assoc found (eqb (get_or fs i 0) f) (among (drop (i + 1) fs) f))
