-- The theorems of `specs/Theorems.antt`.
use Prim.Native.Nat.{ℕ, ◌*◌, ◌^◌, ◌≤◌, ◌<◌}
use mathlib.Core.Path.{◌≡◌, refl, sym, ap, ◌∙◌}
use mathlib.Core.Bool.{Bool, true, false}
use mathlib.Core.List.{List, [], ◌∷◌, ◌++◌}
use native.Mathlib.Omega.{arith}
use lib.ListN.{length, get_or, length-append}
use Rattle.std.specs.Prelude.{None, Some}
use Rattle.text.specs.Line.{broken_line}
use Rattle.area_leaving.proofs.Laws.{take_short}
use Rattle.file_set.specs.declared.Set.{Set}
use Rattle.inspect_split.specs.Records.{whole_of, records_of, lines_of}
use Rattle.inspect_split.proofs.Theorems.{cuts, bounds}
use Rattle.inspect_claim.specs.Claim.{Claim, claimed_octets, octets_of, Listed, parses, claim_of}
use Rattle.inspect_claim.specs.Compare.{Finding, said_of, agreeing, differing_at, finding_of, FirstDifference}
use Rattle.inspect_claim.specs.Theorems.{Same}
use Rattle.inspect_claim.proofs.Theorems.{reads, finds, agreement, place_within}
use Rattle.inspect_line.specs.Lines.{ports_in, forwarding_for, decision_for, output_for, finding_by, finding_for, agrees_line, differs_line, finding_line, record_line}
use Rattle.inspect_line.specs.Theorems.{Claims, RecordLines, Pieces, Room}
use Rattle.inspect_line.proofs.Outputs.{leaves}
use Rattle.inspect_line.proofs.Digits.{apart, short_line}

pub claims : Claims
unfolding finding_by
claims =
    record {
      agrees = λ (s : Set) (rows : List ℕ) (c : Claim) (h : Same (decision_for s rows c) (output_for s rows c) c). agreement.agreeing (decision_for s rows c) (output_for s rows c) c h;
      agreed = λ (s : Set) (rows : List ℕ) (c : Claim) (h : finding_for s rows c ≡ agreeing). agreement.same (decision_for s rows c) (output_for s rows c) c h;
      differs = λ (s : Set) (rows : List ℕ) (c : Claim) (k : ℕ) (h : FirstDifference (said_of (decision_for s rows c) (output_for s rows c)) (claimed_octets c) k).
          finds.first (said_of (decision_for s rows c) (output_for s rows c)) (claimed_octets c) k h;
      first = λ (s : Set) (rows : List ℕ) (c : Claim) (k : ℕ) (h : finding_for s rows c ≡ differing_at k). finds.differs (said_of (decision_for s rows c) (output_for s rows c)) (claimed_octets c) k h;
    }

-- what the box says has at most 45 places
place_small : (s : Set) (rows : List ℕ) (c : Claim) (k : ℕ) → finding_for s rows c ≡ differing_at k → k ≤ 45
unfolding finding_by finding_of
place_small s rows c k e =
    omega (arith, place_within 0 k (said_of (decision_for s rows c) (output_for s rows c)) (claimed_octets c) e, take_short (decision_for s rows c).count (output_for s rows c), (leaves (forwarding_for s rows c)).most)

differs_first : (k : ℕ) → get_or (differs_line k) 0 0 ≡ 68
unfolding differs_line
differs_first k = refl

line_of : (s : Set) (rows o : List ℕ) → parses (length (ports_in s)) o ≡ true → record_line s rows o ≡ finding_line (finding_for s rows (claim_of o))
unfolding record_line
line_of s rows o e = rw e

broken_of : (s : Set) (rows o : List ℕ) → parses (length (ports_in s)) o ≡ false → record_line s rows o ≡ broken_line
unfolding record_line
broken_of s rows o e = rw e

written_line : (s : Set) (rows : List ℕ) (c : Claim) → Listed (length (ports_in s)) c → record_line s rows (octets_of c) ≡ finding_line (finding_for s rows c)
written_line s rows c l =
    let w = reads.written (length (ports_in s)) c l in
    line_of s rows (octets_of c) w.0 ∙ ap (λ (x : Claim). finding_line (finding_for s rows x)) w.1

-- a finding's line is not BROKEN, and it is AGREES only where all agrees
not_broken : (f : Finding) → finding_line f ≡ broken_line → ⊥
unfolding finding_line
not_broken None e = let z : ◌≡◌ {A = ℕ} 65 66 = ap (λ (l : List ℕ). get_or l 0 0) e in omega arith
not_broken (Some k) e = let z : ◌≡◌ {A = ℕ} 68 66 = sym (differs_first k) ∙ ap (λ (l : List ℕ). get_or l 0 0) e in omega arith

agreed_line : (f : Finding) → finding_line f ≡ agrees_line → f ≡ agreeing
unfolding finding_line
agreed_line None e = refl
agreed_line (Some k) e = absurd (let z : ◌≡◌ {A = ℕ} 68 65 = sym (differs_first k) ∙ ap (λ (l : List ℕ). get_or l 0 0) e in omega arith)

-- a line of a difference is that of its own place
differed_line : (f : Finding) (k : ℕ) → ((n : ℕ) → f ≡ differing_at n → n ≤ 45) → k < 10 ^ 20 → finding_line f ≡ differs_line k → f ≡ differing_at k
unfolding finding_line
differed_line None k small h e = absurd (let z : ◌≡◌ {A = ℕ} 65 68 = ap (λ (l : List ℕ). get_or l 0 0) e ∙ differs_first k in omega arith)
differed_line (Some n) k small h e = ap differing_at (apart n k (omega (arith, small n refl)) h e)

pub record_lines : RecordLines
unfolding finding_line
record_lines = record { agrees = agrees_of; differs = differs_of; agreed = agreed_of; differed = differed_of; broken = broken_of; unparsed = unparsed_of }
  where
    agrees_of : (s : Set) (rows : List ℕ) (c : Claim) → Listed (length (ports_in s)) c → finding_for s rows c ≡ agreeing → record_line s rows (octets_of c) ≡ agrees_line
    agrees_of s rows c l e = written_line s rows c l ∙ ap finding_line e

    differs_of : (s : Set) (rows : List ℕ) (c : Claim) (k : ℕ) → Listed (length (ports_in s)) c → finding_for s rows c ≡ differing_at k → record_line s rows (octets_of c) ≡ differs_line k
    differs_of s rows c k l e = written_line s rows c l ∙ ap finding_line e

    agreed_of : (s : Set) (rows o : List ℕ) → record_line s rows o ≡ agrees_line → (parses (length (ports_in s)) o ≡ true) × (finding_for s rows (claim_of o) ≡ agreeing)
    agreed_of s rows o e = go (parses (length (ports_in s)) o) refl
      where
        go : (b : Bool) → parses (length (ports_in s)) o ≡ b → (parses (length (ports_in s)) o ≡ true) × (finding_for s rows (claim_of o) ≡ agreeing)
        go true h = (h, agreed_line (finding_for s rows (claim_of o)) (sym (line_of s rows o h) ∙ e))
        go false h = absurd (let z : ◌≡◌ {A = ℕ} 66 65 = ap (λ (l : List ℕ). get_or l 0 0) (sym (broken_of s rows o h) ∙ e) in omega arith)

    differed_of : (s : Set) (rows o : List ℕ) (k : ℕ) → k < 10 ^ 20 → record_line s rows o ≡ differs_line k → (parses (length (ports_in s)) o ≡ true) × (finding_for s rows (claim_of o) ≡ differing_at k)
    differed_of s rows o k l e = go (parses (length (ports_in s)) o) refl
      where
        go : (b : Bool) → parses (length (ports_in s)) o ≡ b → (parses (length (ports_in s)) o ≡ true) × (finding_for s rows (claim_of o) ≡ differing_at k)
        go true h = (h, differed_line (finding_for s rows (claim_of o)) k (place_small s rows (claim_of o)) l (sym (line_of s rows o h) ∙ e))
        go false h = absurd (let z : ◌≡◌ {A = ℕ} 66 68 = ap (λ (x : List ℕ). get_or x 0 0) (sym (broken_of s rows o h) ∙ e) ∙ differs_first k in omega arith)

    unparsed_of : (s : Set) (rows o : List ℕ) → record_line s rows o ≡ broken_line → parses (length (ports_in s)) o ≡ false
    unparsed_of s rows o e = go (parses (length (ports_in s)) o) refl
      where
        go : (b : Bool) → parses (length (ports_in s)) o ≡ b → parses (length (ports_in s)) o ≡ false
        go true h = absurd (not_broken (finding_for s rows (claim_of o)) (sym (line_of s rows o h) ∙ e))
        go false h = h

pub pieces : Pieces
pieces s rows ps = cuts.lines (record_line s rows) broken_line ps

line_short : (s : Set) (rows o : List ℕ) → length (record_line s rows o) ≤ 11
unfolding finding_line
line_short s rows o = go (parses (length (ports_in s)) o) refl
  where
    found : (f : Finding) → ((k : ℕ) → f ≡ differing_at k → k ≤ 45) → length (finding_line f) ≤ 11
    found None h = omega arith
    found (Some k) h = short_line k (omega (arith, h k refl))

    go : (b : Bool) → parses (length (ports_in s)) o ≡ b → length (record_line s rows o) ≤ 11
    go true h = omega (arith, ap length (line_of s rows o h), found (finding_for s rows (claim_of o)) (place_small s rows (claim_of o)))
    go false h = omega (arith, ap length (broken_of s rows o h))

lines_short : (line : List ℕ → List ℕ) → ((o : List ℕ) → length (line o) ≤ 11) → (rs : List (List ℕ)) → length (lines_of line rs) ≤ length rs * 11
lines_short line h [] = omega arith
lines_short line h (r ∷ rs) = omega (arith, length-append (line r) (lines_of line rs), h r, lines_short line h rs)

pub room : Room
room =
    record {
      line = line_short;
      lines = λ (s : Set) (rows held piece : List ℕ) (z : whole_of held ≡ 0) (h : length piece ≤ 4096).
          omega (arith, lines_short (record_line s rows) (line_short s rows) (records_of (held ++ piece)), bounds.records held piece z);
    }
