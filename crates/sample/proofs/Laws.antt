-- A decision's line is put whole where there is room for the longest one.
use Prim.Native.Nat.{ℕ, ◌+◌, ◌≤◌}
use mathlib.Core.Path.{◌≡◌}
use mathlib.Core.List.{List}
use native.Mathlib.Omega.{arith}
use borrow.Author.Tests.{eq-eqb, ne_eqb}
use lib.ListN.{length, replicate}
use Rattle.decision.specs.declared.Decision.{Decision}
use Rattle.forward_rules.specs.Crossing.{Forwarding}
use Rattle.forward_rules.specs.Forward.{forward_of, output_of}
use Rattle.text.specs.Put.{Puts}
use Rattle.text.specs.Line.{forward_line, drop_line}
use Rattle.text.specs.Theorems.{Whole}
use Rattle.text.proofs.Theorems.{puts_whole, longest_forward, longest_drop}
use Rattle.sample.specs.Sample.{decision_line, forwarding_line}

refused_line : (f : Forwarding) (d : Decision) → d ≡ forward_of f → (d.number ≡ 0 → ⊥)
    → forwarding_line f ≡ drop_line d.number d.kind d.code d.pointer
unfolding forwarding_line decision_line
refused_line f d e h = rw (← e, ne_eqb d.number 0 h)

forwarded_line : (f : Forwarding) (d : Decision) (area : List ℕ) → d ≡ forward_of f → area ≡ output_of f (replicate 40 0) → d.number ≡ 0
    → forwarding_line f ≡ forward_line d.count area
unfolding forwarding_line decision_line
forwarded_line f d area e a h = rw (← e, ← a, eq-eqb d.number 0 h)

pub refused_whole : (f : Forwarding) (d : Decision) (out : List ℕ) (n : ℕ) (after : List ℕ) (r : ℕ)
    → n + 110 ≤ length out → d ≡ forward_of f → (d.number ≡ 0 → ⊥)
    → Puts out n (drop_line d.number d.kind d.code d.pointer) after r
    → Whole out n (forwarding_line f) after r
refused_whole f d out n after r h e t p =
    let line = drop_line d.number d.kind d.code d.pointer in
    let room : n + length line ≤ length out = omega (arith, longest_drop d.number d.kind d.code d.pointer) in
    rw (refused_line f d e t) (puts_whole out n line after r room p)

pub forwarded_whole : (f : Forwarding) (d : Decision) (area out : List ℕ) (n : ℕ) (after : List ℕ) (r : ℕ)
    → n + 110 ≤ length out → length area ≤ 40 → d ≡ forward_of f → area ≡ output_of f (replicate 40 0) → d.number ≡ 0
    → Puts out n (forward_line d.count area) after r
    → Whole out n (forwarding_line f) after r
forwarded_whole f d area out n after r h l e a t p =
    let line = forward_line d.count area in
    let room : n + length line ≤ length out = omega (arith, longest_forward d.count area l) in
    rw (forwarded_line f d area e a t) (puts_whole out n line after r room p)
