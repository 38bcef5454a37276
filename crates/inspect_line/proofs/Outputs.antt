-- Only check 1 asks for the output's length, the octets that are written do not depend on what stood there, and they are at most 40.
use Prim.Native.Nat.{ℕ, ◌+◌, ◌-◌, ◌≤◌}
use mathlib.Core.Path.{◌≡◌, refl, sym, ap, ◌∙◌}
use mathlib.Core.Bool.{Bool, ◌||◌}
use mathlib.Core.List.{List, [], ◌∷◌, ◌++◌, append_assoc}
use mathlib.Core.Option.{Option, none, some}
use native.Mathlib.Omega.{arith}
use borrow.Author.Tests.{le-ltb}
use lib.ListN.{length, take, drop, replicate, length-append, length-replicate}
use lib.Seq.{take-append-le}
use Rattle.decision.specs.declared.Decision.{Decision}
use Rattle.decision.specs.declared.Refusal.{Refusal}
use Rattle.decision.specs.Decision.{silenced, decided}
use Rattle.area.specs.Area.{bad_area}
use Rattle.area_leaving.specs.Kept.{kept_of, leaving_of}
use Rattle.arrive.specs.Checks.{silent, when, first_of, option_checks, range_check}
use Rattle.forward_rules.specs.Crossing.{Forwarding, sizes, records, leaving_basic_check, number_check, leaving_check, spelling_check, crossing, leaving_label, leaving_option}
use Rattle.forward_rules.specs.Forward.{forward_checks, leaving_count, forward_of, option_octets, written, output_of}
use Rattle.forward_rules.proofs.Forwards.{forward_refused, forward_passed, forward_done}
use Rattle.file_set.specs.declared.Set.{Set}
use Rattle.inspect_claim.specs.Claim.{Claim}
use Rattle.inspect_line.specs.Lines.{forwarding_into, forwarding_for, decision_for}
use Rattle.inspect_line.specs.Theorems.{AnyOutput}

checks_by_lem : Forwarding → Bool → List (Option Refusal)
checks_by_lem f b =
    when (bad_area f.area || b) (silent 1)
    ∷ records f
    ∷ (option_checks f.arriving f.area 9
    ++ (leaving_basic_check f
    ∷ range_check f.arriving f.area 9
    ∷ number_check (crossing f)
    ∷ leaving_check (crossing f)
    ∷ spelling_check (crossing f) (kept_of f.area)
    ∷ []))

same_checks : (s : Set) (rows : List ℕ) (c : Claim) (n : ℕ) → 40 ≤ n → first_of (forward_checks (forwarding_into n s rows c)) ≡ first_of (forward_checks (forwarding_for s rows c))
unfolding sizes records leaving_basic_check checks_by_lem
same_checks s rows c n h = ap (λ (b : Bool). first_of (checks_by_lem (forwarding_for s rows c) b)) (le-ltb n 40 h)

written_front : (option kept a b : List ℕ) (n : ℕ) → length option + length kept ≤ 40 → n ≤ 40 → take n (leaving_of option kept a) ≡ take n (leaving_of option kept b)
written_front option kept a b n h k = ap (take n) (again a) ∙ take-append-le n whole (drop 40 a) fits ∙ sym (take-append-le n whole (drop 40 b) fits) ∙ ap (take n) (sym (again b))
  where
    whole : List ℕ
    whole = option ++ (kept ++ replicate (40 - (length option + length kept)) 0)

    fits : n ≤ length whole
    fits = omega (arith, length-append option (kept ++ replicate (40 - (length option + length kept)) 0), length-append kept (replicate {A = ℕ} (40 - (length option + length kept)) 0), length-replicate {A = ℕ} (40 - (length option + length kept)) 0)

    again : (x : List ℕ) → leaving_of option kept x ≡ whole ++ drop 40 x
    again x =
        ap (λ (l : List ℕ). option ++ l) (sym (append_assoc kept (replicate (40 - (length option + length kept)) 0) (drop 40 x)))
        ∙ sym (append_assoc option (kept ++ replicate (40 - (length option + length kept)) 0) (drop 40 x))

-- at most 40 octets leave, and they are the same whatever stood in the output
pub record Leaves (f : Forwarding) : Type 0 where
  pub most : (forward_of f).count ≤ 40
  pub same : (a b : List ℕ) → take (forward_of f).count (output_of f a) ≡ take (forward_of f).count (output_of f b)

pub leaves : (f : Forwarding) → Leaves f
leaves f = go (first_of (forward_checks f)) refl
  where
    go : (r : Option Refusal) → first_of (forward_checks f) ≡ r → Leaves f
    go (some x) e =
        let z : (forward_of f).count ≡ 0 = sym (ap (λ (d : Decision). d.count) (forward_refused f x [] e).0) in
        record { most = omega arith; same = λ (a b : List ℕ). ap (λ (n : ℕ). take n (output_of f a)) z ∙ sym (ap (λ (n : ℕ). take n (output_of f b)) z) }
    go none e =
        let p = (forward_passed f e).fits in
        let d : (x : List ℕ) → output_of f x ≡ leaving_of p.octets (kept_of f.area) x = λ (x : List ℕ). (forward_done f p.octets x e p.spelled).1 in
        let n : (forward_of f).count ≤ 40 = omega (arith, p.room, ap (λ (y : Decision). y.count) (forward_done f p.octets [] e p.spelled).0) in
        record {
          most = n;
          same = λ (a b : List ℕ).
              ap (take (forward_of f).count) (d a) ∙ written_front p.octets (kept_of f.area) a b (forward_of f).count p.room n ∙ ap (take (forward_of f).count) (sym (d b));
        }

pub any_output : AnyOutput
unfolding forward_of output_of
any_output s rows c out h =
    let f = forwarding_for s rows c in
    let e = same_checks s rows c (length out) h in (
      ap (λ (r : Option Refusal). decided (silenced c.facts) r (leaving_label (crossing f)) (leaving_count f)) e,
      ap (λ (r : Option Refusal). take (decision_for s rows c).count (written r (option_octets (leaving_option (crossing f))) (kept_of c.area) out)) e ∙ (leaves f).same out (replicate 40 0),
    )
