-- `label_between::lies_between` meets its contract.
use borrow.Author.Tests.{le-leb, lt-leb}
use native.Mathlib.Omega.{arith}
use mathlib.Core.Path.{◌≡◌, sym, ap, ◌∙◌}
use mathlib.Core.List.{List}
use Prim.Native.Nat.{ℕ, ◌-◌, ◌/◌, ◌≤◌, ◌<◌, min}
use lib.ListN.{length, take, get_or}
use lib.Seq.{length-take-le, get_or-take}
use Rattle.label_keys.specs.Keys.{key_runs}
use Rattle.label_keys.specs.declared.Look.TheVariants.{Within, Outside, Open}
use Rattle.label_keys.proofs.Keys.{take_min}
use Rattle.label.specs.declared.Run.{Run}
use Rattle.label_between.specs.Bounds.{pass_between}
use Rattle.label_between.proofs.Bounds.{lies_look, look_low, look_high, look_open, look_empty, look_several, lies_single}
use Rattle.label_between.proofs.lies_between.Goals as goal

-- the keys as they are cut: as many as there are of the first n
module _ (ks : List ℕ) (n m : ℕ) (is : m ≡ min n (length ks)) where
  cut_length : length (take m ks) ≡ m
  cut_length = length-take-le m ks (omega arith)

  cut_pass : (lows highs : List ℕ) → pass_between lows highs (key_runs (take m ks)) ≡ pass_between lows highs (key_runs (take n ks))
  cut_pass lows highs = ap (λ (z : List ℕ). pass_between lows highs (key_runs z)) (ap (λ (z : ℕ). take z ks) is ∙ take_min n ks)

  cut_first : 0 < m → get_or (take m ks) 0 0 ≡ get_or ks 0 0
  cut_first h = get_or-take m ks 0 0 h

  cut_last : 0 < m → get_or (take m ks) (length (take m ks) - 1) 0 ≡ get_or ks (m - 1) 0
  cut_last h = ap (λ (z : ℕ). get_or (take m ks) (z - 1) 0) cut_length ∙ get_or-take m ks (m - 1) 0 (omega arith)

pub returns-then-level-low : goal.returns-then-level-low
returns-then-level-low c =
    let a = c.args in
    sym (lies_look a.low a.lows.now a.high a.highs.now a.level a.keys.now a.n Outside
    (look_low a.low a.lows.now a.high a.highs.now a.level a.keys.now a.n c.if-level-low.true))

pub returns-then-high-level : goal.returns-then-high-level
returns-then-high-level c =
    let a = c.args in
    sym (lies_look a.low a.lows.now a.high a.highs.now a.level a.keys.now a.n Outside
    (look_high a.low a.lows.now a.high a.highs.now a.level a.keys.now a.n c.if-high-level.true))

pub returns-then-lows-ne0 : goal.returns-then-lows-ne0
returns-then-lows-ne0 c =
    let a = c.args in
    c.pass_between.ensures ∙ cut_pass a.keys.now a.n c.min.result c.min.ensures a.lows.now a.highs.now
    ∙ sym (lies_look a.low a.lows.now a.high a.highs.now a.level a.keys.now a.n Open
    (look_open a.low a.lows.now a.high a.highs.now a.level a.keys.now a.n c.if-level-low.false c.if-high-level.false c.if-lows-ne0.true))

pub returns-then-keys-eq0 : goal.returns-then-keys-eq0
returns-then-keys-eq0 c =
    let a = c.args in
    sym (lies_look a.low a.lows.now a.high a.highs.now a.level a.keys.now a.n Within
    (look_empty a.low a.lows.now a.high a.highs.now a.level a.keys.now a.n c.min.result c.min.ensures c.if-level-low.false c.if-high-level.false c.if-lows-ne0.false
    (omega (arith, c.if-keys-eq0.true, cut_length a.keys.now a.n c.min.result c.min.ensures))))

pub returns-then-highs-ne1 : goal.returns-then-highs-ne1
returns-then-highs-ne1 c =
    let a = c.args in
    c.pass_between-then-highs-ne1.ensures ∙ cut_pass a.keys.now a.n c.min.result c.min.ensures a.lows.now a.highs.now
    ∙ sym (lies_look a.low a.lows.now a.high a.highs.now a.level a.keys.now a.n Open
    (look_several a.low a.lows.now a.high a.highs.now a.level a.keys.now a.n c.min.result c.min.ensures c.if-level-low.false c.if-high-level.false c.if-lows-ne0.false
    (omega (arith, c.if-keys-eq0.false, cut_length a.keys.now a.n c.min.result c.min.ensures)) c.if-highs-ne1.true))

pub returns-then-low-over : goal.returns-then-low-over
returns-then-low-over c =
    let a = c.args in
    let k : 0 < c.min.result = omega (arith, c.if-keys-eq0.false, cut_length a.keys.now a.n c.min.result c.min.ensures) in
    let h : get_or a.keys.now 0 0 / 65536 < get_or a.highs.now 0 0 / 65536 =
    omega (arith, ap (λ (r : Run). r.low) c.from-over.ensures, c.low.ensures, c.if-low-over.true, cut_first a.keys.now a.n c.min.result c.min.ensures k) in
    sym
    (lies_single a.low a.lows.now a.high a.highs.now a.level a.keys.now a.n _ c.min.ensures c.if-level-low.false c.if-high-level.false c.if-lows-ne0.false k c.if-highs-ne1.false
    ∙ simp (lt-leb _ _ h))

pub returns : goal.returns
returns c =
    let a = c.args in
    let k : 0 < c.min.result = omega (arith, c.if-keys-eq0.false, cut_length a.keys.now a.n c.min.result c.min.ensures) in
    let h : get_or a.highs.now 0 0 / 65536 ≤ get_or a.keys.now 0 0 / 65536 =
    omega (arith, ap (λ (r : Run). r.low) c.from-over.ensures, c.low.ensures, c.if-low-over.false, cut_first a.keys.now a.n c.min.result c.min.ensures k) in
    rw (c.high.ensures, c.from-over.ensures, cut_last a.keys.now a.n c.min.result c.min.ensures k)
    (sym
    (lies_single a.low a.lows.now a.high a.highs.now a.level a.keys.now a.n _ c.min.ensures c.if-level-low.false c.if-high-level.false c.if-lows-ne0.false k c.if-highs-ne1.false
    ∙ simp (le-leb _ _ h)))
