-- Laws of usual ports: what a first look at their range leaves open lies outside, no check of option 130 is asked, and a label is spelled.
use mathlib.Core.Path.{◌≡◌, refl, sym, ◌∙◌, ap}
use mathlib.Core.Bool.{Bool, true, false, cond, ◌&&◌, and-false}
use mathlib.Core.List.{List, [], ◌∷◌}
use Prim.Native.Nat.{ℕ, zero, suc, ◌+◌, ◌≤◌}
use native.Mathlib.Omega.{arith}
use lib.Dec.{leb, eqb}
use borrow.Author.Tests.{eq-eqb}
use lib.ListN.{take, get_or}
use Rattle.label.specs.declared.Run.{Run}
use Rattle.label.specs.declared.Label.{Label}
use Rattle.label_keys.specs.declared.Look.TheVariants.{Within, Outside, Open}
use Rattle.label.specs.Runs.{passes, top_of}
use Rattle.label.specs.Label.{no_run, used}
use Rattle.label_keys.specs.Range.{look_of, look_under, runs_between, answered}
use Rattle.option.specs.declared.Spellings.{Spellings}
use Rattle.basic.specs.declared.Way.{Way}
use Rattle.basic.specs.Alone.{BasicRead}
use Rattle.decision.specs.Verdict.{Verdict}
use Rattle.arrive.proofs.First.{before_none}
use Rattle.forward_leave.specs.Departure.{sent_by}
use Rattle.forward_write.specs.Sending.{area_written}

-- a label without categories lets no run pass
none_under : (lowest highest : Label) (r : Run) (rs : List Run) → highest.count ≡ 0 → runs_between lowest highest (r ∷ rs) ≡ false
unfolding runs_between
none_under lowest highest r rs e =
    let q : passes (r ∷ rs) (used highest) ≡ false = ap (λ (k : ℕ). passes (r ∷ rs) (take k highest.runs)) e in
    rw (q, and-false (passes (used lowest) (r ∷ rs)), and-false (leb highest.count 120), and-false (leb lowest.count 120))

-- so of runs under at most one run the first look is the last: where it is open, there are runs and the highest label has none
under_last : (lowest highest : Label) (rs : List Run) → highest.count ≤ 1
    → answered (look_under highest rs) (runs_between lowest highest rs) ≡ answered (look_under highest rs) false
under_last lowest highest [] h = refl
under_last lowest highest (r ∷ rs) h = go highest.count refl
  where
    either : (b x y : Bool) → answered (cond b Within Outside) x ≡ answered (cond b Within Outside) y
    either true x y = refl
    either false x y = refl

    go : (n : ℕ) → highest.count ≡ n
        → answered (look_under highest (r ∷ rs)) (runs_between lowest highest (r ∷ rs)) ≡ answered (look_under highest (r ∷ rs)) false
    go zero q = ap (answered (look_under highest (r ∷ rs))) (none_under lowest highest r rs q)
    go (suc zero) q =
        rw (eq-eqb highest.count 1 q)
        (either (leb (get_or highest.runs 0 no_run).low r.low && leb (top_of (r ∷ rs)) ((get_or highest.runs 0 no_run).high + 1)) (runs_between lowest highest (r ∷ rs)) false)
    go (suc (suc n)) q = absurd (omega arith)

pub look_last : (lowest highest : Label) (v : ℕ) (rs : List Run) → lowest.count ≡ 0 → highest.count ≤ 1
    → answered (look_of lowest highest v rs) (runs_between lowest highest rs) ≡ answered (look_of lowest highest v rs) false
unfolding look_of
look_last lowest highest v rs e h = go (leb lowest.level v && leb v highest.level)
  where
    go : (b : Bool) → answered (cond b (cond (eqb lowest.count 0) (look_under highest rs) Open) Outside) (runs_between lowest highest rs)
        ≡ answered (cond b (cond (eqb lowest.count 0) (look_under highest rs) Open) Outside) false
    go true = rw (eq-eqb lowest.count 0 e) (under_last lowest highest rs h)
    go false = refl

-- Between two ports that do not read option 130 the leaving one's 21 is not given.
pub sent_off : (r : Verdict) (from on : Bool) (way : Way) (x : BasicRead) → from ≡ false → on ≡ false → r ≡ sent_by r from on way x
unfolding sent_by
sent_off r from on way x e g = sym (rw (e, g) (before_none r))

-- What is written toward labelled hosts.
pub written_labelled : (v : Verdict) (unlabelled : Bool) (p : Spellings) (d kept : ℕ) (area keys out out' : List ℕ) → unlabelled ≡ false
    → out' ≡ area_written v false p d kept area keys out → out' ≡ area_written v unlabelled p d kept area keys out
written_labelled v unlabelled p d kept area keys out out' e w = w ∙ ap (λ (b : Bool). area_written v b p d kept area keys out) (sym e)
