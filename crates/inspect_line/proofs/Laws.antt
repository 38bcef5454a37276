-- Laws of the inspector.
use Prim.Native.Nat.{ℕ, min, zero, suc, ◌-◌, ◌<◌}
use mathlib.Core.Path.{◌≡◌, refl, sym, ap, subst, ◌∙◌}
use mathlib.Core.Bool.{Bool, true, false, cond}
use mathlib.Core.List.{List, [], ◌∷◌}
use native.Mathlib.Omega.{arith}
use lib.ListN.{length, get_or, take, drop, replicate, length-take}
use lib.Seq.{get_or-take}
use Rattle.text.specs.declared.Line.{Line}
use Rattle.text.specs.Put.{Writes}
use Rattle.text.specs.Line.{broken_line}
use Rattle.decision.specs.declared.Decision.{Decision}
use Rattle.port.specs.declared.Port.{Port}
use Rattle.forward_rules.specs.Crossing.{Forwarding}
use Rattle.forward_rules.specs.Forward.{forward_of, output_of}
use Rattle.table_choose.specs.declared.Tables.{Tables}
use Rattle.file_set.specs.declared.Set.{Set}
use Rattle.file_set.specs.Set.{tables_in}
use Rattle.route_ports.specs.Ports.{unlisted_port, port_at}
use Rattle.route_decide.specs.Routing.{between}
use Rattle.inspect_claim.specs.declared.parse.Recorded.{Recorded}
use Rattle.inspect_claim.specs.Claim.{claim_of, recorded_of}
use Rattle.inspect_claim.specs.Compare.{Finding, said_of, finding_of}
use Rattle.inspect_claim.proofs.Theorems.{reads, parsed, unparsed}
use Rattle.inspect_line.specs.Lines.{ports_in, finding_by, finding_for, finding_line, record_line}
use Rattle.inspect_line.specs.Stages.{line_by}

-- an element inside does not depend on what stands for those past the end
pub inside : {A : Type 0} (xs : List A) (i : ℕ) (d e : A) → i < length xs → get_or xs i d ≡ get_or xs i e
inside [] i d e h = absurd (omega arith)
inside (x ∷ xs) zero d e h = refl
inside (x ∷ xs) (suc i) d e h = inside xs i d e (omega arith)

-- a decision and what was written, held against a claim
pub found_by : (f g : Forwarding) (d : Decision) (out claimed : List ℕ) (r : Finding) → r ≡ finding_of (said_of d out) claimed → d ≡ forward_of f → out ≡ output_of f (replicate 40 0) → f ≡ g
    → r ≡ finding_by g claimed
unfolding finding_by
found_by f g d out claimed r e p q h = e ∙ ap (λ (x : Decision). finding_of (said_of x out) claimed) p ∙ ap (λ (x : List ℕ). finding_of (said_of (forward_of f) x) claimed) q
    ∙ ap (λ (x : Forwarding). finding_of (said_of (forward_of x) (output_of x (replicate 40 0))) claimed) h

-- the ports that a set counts, and has
pub counted : {A : Type 0} (n r most : ℕ) (ps : List A) → length ps ≡ most → r ≡ min n most → r ≡ length (take n ps)
counted n r most ps l e = e ∙ ap (min n) (sym l) ∙ sym (length-take n ps)

-- the port of a number that the file has
below : (n : ℕ) (ps : List Port) (i : ℕ) → i < length (take n ps) → (i < n) × (i < length ps)
below zero ps i h = absurd (omega arith)
below (suc n) [] i h = absurd (omega arith)
below (suc n) (x ∷ ps) zero h = (omega arith, omega arith)
below (suc n) (x ∷ ps) (suc i) h = let b = below n ps i (omega arith) in (omega (arith, b.0), omega (arith, b.1))

pub port_is : (n : ℕ) (ps : List Port) (i : ℕ) (d : Port) → i < length (take n ps) → get_or ps i d ≡ port_at (take n ps) i
unfolding port_at
port_is n ps i d h = inside ps i d unlisted_port (below n ps i h).1 ∙ sym (get_or-take n ps i unlisted_port (below n ps i h).0)

-- a record that does not parse
pub broken_line_lem : (a l : Port) (ts : Tables) (ns : List ℕ) (r : Recorded) (o : List ℕ) → r.parsed ≡ false → line_by a l ts ns r o ≡ broken_line
unfolding line_by
broken_line_lem a l ts ns r o e = rw e

-- one that does
pub parsed_line : (a l : Port) (ts : Tables) (ns : List ℕ) (r : Recorded) (o : List ℕ) (f : Finding) → r.parsed ≡ true
    → f ≡ finding_by (between a l ts ns r.facts (take (r.claimed - 9) (drop 9 o)) 40) (drop r.claimed o) → line_by a l ts ns r o ≡ finding_line f
unfolding line_by
parsed_line a l ts ns r o f e ef = rw e (ap finding_line (sym ef))

-- the line of a record is that of what was read of it, by its two ports where they lie
pub line_is : (s : Set) (ns o : List ℕ) (r : Recorded) (n : ℕ) (d e : Port) → n ≡ length (ports_in s) → r ≡ recorded_of n o
    → line_by (get_or s.ports r.arriving d) (get_or s.ports r.leaving e) (tables_in s) ns r o ≡ record_line s ns o
unfolding record_line
line_is s ns o r n d e en er = go r.parsed refl
  where
    read : r ≡ recorded_of (length (ports_in s)) o
    read = er ∙ ap (λ (k : ℕ). recorded_of k o) en

    go : (t : Bool) → r.parsed ≡ t → line_by (get_or s.ports r.arriving d) (get_or s.ports r.leaving e) (tables_in s) ns r o ≡ record_line s ns o
    go false t =
        broken_line_lem (get_or s.ports r.arriving d) (get_or s.ports r.leaving e) (tables_in s) ns r o t
        ∙ sym (ap (λ (b : Bool). cond b (finding_line (finding_for s ns (claim_of o))) broken_line) (unparsed (length (ports_in s)) o r read t))
    go true t =
        let p = parsed (length (ports_in s)) o r read t in
        let listed = (reads.read (length (ports_in s)) o p.good).1 in
        let a : get_or s.ports r.arriving d ≡ port_at (ports_in s) (claim_of o).arriving
        = ap (λ (i : ℕ). get_or s.ports i d) p.arriving ∙ port_is s.portcount s.ports (claim_of o).arriving d listed.arriving in
        let l : get_or s.ports r.leaving e ≡ port_at (ports_in s) (claim_of o).leaving
        = ap (λ (i : ℕ). get_or s.ports i e) p.leaving ∙ port_is s.portcount s.ports (claim_of o).leaving e listed.leaving in
        let same : finding_by (between (get_or s.ports r.arriving d) (get_or s.ports r.leaving e) (tables_in s) ns r.facts (take (r.claimed - 9) (drop 9 o)) 40) (drop r.claimed o) ≡ finding_for s ns (claim_of o)
        = (λ i. finding_by (between (a i) (l i) (tables_in s) ns (p.facts i) (p.area i) 40) (p.claimed i)) in
        parsed_line (get_or s.ports r.arriving d) (get_or s.ports r.leaving e) (tables_in s) ns r o (finding_for s ns (claim_of o)) t (sym same)
        ∙ sym (ap (λ (b : Bool). cond b (finding_line (finding_for s ns (claim_of o))) broken_line) p.good)

pub put_is : (s : Set) (ns o : List ℕ) (r : Recorded) (n : ℕ) (d e : Port) {before after : Line} → n ≡ length (ports_in s) → r ≡ recorded_of n o
    → Writes before (line_by (get_or s.ports r.arriving d) (get_or s.ports r.leaving e) (tables_in s) ns r o) after → Writes before (record_line s ns o) after
put_is s ns o r n d e {before} {after} en er p = subst (λ (x : List ℕ). Writes before x after) (line_is s ns o r n d e en er) p
