-- Laws of verdicts: keys held against a range, and the keys of a label.
use mathlib.Core.Path.{◌≡◌, sym, ◌∙◌, ap}
use mathlib.Core.Bool.{true, cond}
use mathlib.Core.List.{List, map}
use Prim.Native.Nat.{ℕ, ◌≤◌}
use native.Mathlib.Omega.{arith}
use lib.Dec.{leb}
use lib.ListN.{length, take, drop, length-map}
use lib.Seq.{take_at}
use borrow.Author.Tests.{le-leb}
use Rattle.label.specs.declared.Run.{Run}
use Rattle.label.specs.declared.Label.{Label}
use Rattle.label.specs.Runs.{spaced}
use Rattle.label.specs.Label.{used, label_of, zero_label, well_formed, in_range}
use Rattle.label_keys.specs.Keys.{key_runs, run_key, label_from, keys_fit, with_keys}
use Rattle.label_keys.specs.Range.{set_in_range}
use Rattle.label_keys.proofs.Keys.{keys_runs}
use Rattle.label.proofs.Labels.{formed, used_length, of_used}
use Rattle.label_keys.proofs.Range.{look_right, set_in_range_lem}
use Rattle.decision.specs.declared.Passed.{Passed}
use Rattle.arrive.specs.Stages.{held_between}

-- keys that are spaced, held against a range of well-formed labels
pub held_in_set : (lowest highest : Label) (p : Passed) (keys : List ℕ) → well_formed lowest ≡ true → well_formed highest ≡ true
    → spaced 0 (key_runs (take p.count keys)) ≡ true
    → held_between lowest highest p keys ≡ set_in_range lowest highest p.level (key_runs (take p.count keys))
held_in_set lowest highest p keys wl wh s = look_right lowest highest p.level wl wh (key_runs (take p.count keys)) s

-- those of a well-formed label, against a range of its domain
pub held_in_range : (lowest highest l : Label) (p : Passed) (keys : List ℕ) → well_formed lowest ≡ true → well_formed highest ≡ true → well_formed l ≡ true
    → lowest.domain ≡ l.domain → l.domain ≡ highest.domain → p.level ≡ l.level → key_runs (take p.count keys) ≡ used l
    → held_between lowest highest p keys ≡ in_range lowest highest l
held_in_range lowest highest l p keys wl wh w d e v k =
    held_in_set lowest highest p keys wl wh (rw k (formed l w).runs)
    ∙ (λ i. set_in_range lowest highest (v i) (k i))
    ∙ set_in_range_lem lowest highest l wl wh w d e

-- the keys of a label at the head of a list stand for its runs
pub label_stands : (l : Label) (keys : List ℕ) → well_formed l ≡ true → 120 ≤ length keys → key_runs (take l.count (with_keys l keys)) ≡ used l
unfolding with_keys keys_fit
label_stands l keys w h =
    let f = formed l w in
    let n : length (map run_key (used l)) ≡ l.count = length-map (used l) run_key ∙ used_length l f in
    rw (le-leb l.count 120 f.held, le-leb l.count (length keys) (omega (arith, f.held)))
    (ap key_runs (take_at (map run_key (used l)) (drop l.count keys) l.count n) ∙ keys_runs 0 (used l) f.runs)

-- a well-formed label is that of its runs
pub label_from_lem : (l : Label) (rs : List Run) → well_formed l ≡ true → rs ≡ used l → label_from l.domain l.level rs ≡ l
unfolding label_from
label_from_lem l rs w e =
    let f = formed l w in
    let n : length (used l) ≤ 120 = omega (arith, used_length l f, f.held) in
    ap (λ (q : List Run). cond (leb (length q) 120) (label_of l.domain l.level q) zero_label) e
    ∙ rw (le-leb (length (used l)) 120 n) (sym (of_used l f))
