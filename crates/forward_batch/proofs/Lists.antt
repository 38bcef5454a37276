-- The lists of two sound ports, as they are laid out for a batch.
use mathlib.Core.Path.{◌≡◌, refl, ◌∙◌, ap}
use mathlib.Core.Bool.{Bool, true, false, cond, ◌&&◌}
use mathlib.Core.List.{List, ◌++◌}
use Prim.Native.Nat.{ℕ, ◌-◌, ◌≤◌}
use native.Mathlib.Omega.{arith}
use lib.Dec.{eqb, leb}
use lib.ListN.{length, take, drop, length-map}
use lib.Seq.{take_at, length-take-le}
use borrow.Author.Tests.{eqb-true, leb-true, le-leb}
use Rattle.label.specs.declared.Label.{Label}
use Rattle.label.specs.Label.{used, is_zero}
use Rattle.label.proofs.Bools.{and_left, and_right}
use Rattle.label.proofs.Labels.{formed}
use Rattle.label_keys.specs.Keys.{run_key, keys_fit, with_keys}
use Rattle.basic.specs.Levels.{at_most}
use Rattle.basic.specs.declared.Way.{Way}
use Rattle.basic.specs.declared.Basic.{Basic}
use Rattle.basic.specs.Settings.{way_sound, way_zero, basic_sound}
use Rattle.port.specs.declared.Port.{Port}
use Rattle.port.specs.Port.{port_sound}
use Rattle.port.proofs.Laws.{sound, range_formed}
use Rattle.table.specs.Table.{Lent}
use Rattle.gate.specs.declared.Gate.{Gate}
use Rattle.gate.specs.Gate.{gate_of, label_keys, fields_of, port_in}
use Rattle.gate.proofs.Back.{Places, gate_port}
use Rattle.forward_batch.specs.Batch.{batch_of}
use Rattle.forward_batch.specs.Stages.{gateway_in, Batched}

zero_count : (l : Label) → is_zero l ≡ true → l.count ≡ 0
unfolding is_zero
zero_count l e = eqb-true _ _ (and_left (eqb l.count 0) _ (and_right (eqb l.level 0) _ (and_right (eqb l.domain 0) _ e)))

way_count : (w : Way) → way_sound w ≡ true → w.count ≤ 256
unfolding way_sound
way_count w e = leb-true _ _ (and_left (leb w.count 256) _ (and_right (at_most w.lowest w.highest) _ e))

none_count : (w : Way) → way_zero w ≡ true → w.count ≤ 256
unfolding way_zero
none_count w e =
    let z : w.count ≡ 0 = eqb-true _ _ (and_left (eqb w.count 0) _ (and_right (eqb w.highest 0) _ (and_right (eqb w.lowest 0) _ e))) in
    omega arith

ways_count : (b : Basic) → basic_sound b ≡ true → (b.receiving.count ≤ 256) × (b.sending.count ≤ 256)
unfolding basic_sound
ways_count b e = go b.on e
  where
    go : (t : Bool) → cond t (way_sound b.receiving && way_sound b.sending) (way_zero b.receiving && way_zero b.sending) ≡ true
        → (b.receiving.count ≤ 256) × (b.sending.count ≤ 256)
    go true z = (way_count b.receiving (and_left (way_sound b.receiving) _ z), way_count b.sending (and_right (way_sound b.receiving) _ z))
    go false z = (none_count b.receiving (and_left (way_zero b.receiving) _ z), none_count b.sending (and_right (way_zero b.receiving) _ z))

-- how long the lists of a sound port are
pub record Counts (p : Port) : Type 0 where
  pub lowest : p.lowest.count ≤ 120
  pub highest : p.highest.count ≤ 120
  pub assigned : p.assigned.count ≤ 120
  pub default : p.default.count ≤ 120
  pub receiving : p.basic.receiving.count ≤ 256
  pub sending : p.basic.sending.count ≤ 256
  pub low_runs : length p.lowest.runs ≡ 120
  pub high_runs : length p.highest.runs ≡ 120

pub counts : (p : Port) → port_sound p ≡ true → Counts p
counts p e =
    let s = sound p e in
    let w = ways_count p.basic s.basic in
    let l = formed p.lowest s.range.low_formed in
    let h = formed p.highest s.range.high_formed in
    record {
      lowest = l.held;
      highest = h.held;
      assigned = given p.required refl;
      default = only p.unlabelled refl;
      receiving = w.0;
      sending = w.1;
      low_runs = l.places;
      high_runs = h.places;
    }
  where
    given : (b : Bool) → p.required ≡ b → p.assigned.count ≤ 120
    given true q = let z : p.assigned.count ≡ 0 = zero_count p.assigned ((sound p e).assigned_zero q) in omega arith
    given false q = (formed p.assigned ((sound p e).assigned_formed q)).held

    only : (b : Bool) → p.unlabelled ≡ b → p.default.count ≤ 120
    only true q = (formed p.default (range_formed p.lowest p.highest p.default ((sound p e).unlabelled q))).held
    only false q = let z : p.default.count ≡ 0 = zero_count p.default ((sound p e).labelled q) in omega arith

-- a label's keys, in the list that they were written to
pub keys_part : (l : Label) (ks ks' : List ℕ) → ks' ≡ with_keys l ks → l.count ≤ 120 → length l.runs ≡ 120 → 120 ≤ length ks
    → take (l.count - 0) (drop 0 ks') ≡ label_keys l
unfolding with_keys keys_fit
keys_part l ks ks' e h r k =
    let n : length (label_keys l) ≡ l.count = length-map (used l) run_key ∙ length-take-le l.count l.runs (omega arith) in
    let z : l.count - 0 ≡ l.count = omega arith in
    let w : ks' ≡ label_keys l ++ drop l.count ks = e ∙ rw (le-leb l.count 120 h, le-leb l.count (length ks) (omega arith)) in
    (λ i. take (z i) (drop 0 (w i))) ∙ take_at (label_keys l) (drop l.count ks) l.count n

-- a way's flag fields, of a copy of it
pub fields_part : (w : Way) → take (w.count - 0) (drop 0 w.flags) ≡ fields_of w
fields_part w = let z : w.count - 0 ≡ w.count = omega arith in ap (λ (k : ℕ). take k w.flags) z

-- Between two sound ports, by their gates and lists.
pub sound_batch : (p q : Port) (table : Lent) (levels : List (List ℕ)) (n : ℕ) (ins outs outs' : List ℕ)
    (near : Gate) (lows highs given receives : List ℕ) (beyond : Gate) (least most only sends : List ℕ)
    → port_sound p ≡ true → port_sound q ≡ true → Places p → Places q
    → near ≡ gate_of p → lows ≡ label_keys p.lowest → highs ≡ label_keys p.highest → given ≡ label_keys p.assigned → receives ≡ fields_of p.basic.receiving
    → beyond ≡ gate_of q → least ≡ label_keys q.lowest → most ≡ label_keys q.highest → only ≡ label_keys q.default → sends ≡ fields_of q.basic.sending
    → Batched near lows highs given receives beyond least most only sends table levels n ins outs outs'
    → outs' ≡ batch_of (gateway_in p q table levels) n ins outs
sound_batch p q table levels n ins outs outs' near lows highs given receives beyond least most only sends sp sq pp pq e0 e1 e2 e3 e4 f0 f1 f2 f3 f4 b =
    let from : port_in near lows highs given (label_keys p.default) receives (fields_of p.basic.sending) ≡ p
    = (λ i. port_in (e0 i) (e1 i) (e2 i) (e3 i) (label_keys p.default) (e4 i) (fields_of p.basic.sending)) ∙ gate_port p pp sp in
    let to : port_in beyond least most (label_keys q.assigned) only (fields_of q.basic.receiving) sends ≡ q
    = (λ i. port_in (f0 i) (f1 i) (f2 i) (label_keys q.assigned) (f3 i) (fields_of q.basic.receiving) (f4 i)) ∙ gate_port q pq sq in
    b (label_keys p.default) (fields_of p.basic.sending) (label_keys q.assigned) (fields_of q.basic.receiving) (ap port_sound from ∙ sp) (ap port_sound to ∙ sq)
    ∙ (λ i. batch_of (gateway_in (from i) (to i) table levels) n ins outs)
