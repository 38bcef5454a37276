-- The theorems of `specs/Theorems.antt`.
use Prim.Native.Nat.{ℕ, zero, suc, ◌+◌, ◌-◌, ◌≤◌, ◌<◌}
use mathlib.Core.Path.{◌≡◌, refl, sym, ap, ◌∙◌}
use mathlib.Core.Bool.{Bool, true, false, cond, not, ◌&&◌}
use mathlib.Core.List.{List, [], ◌∷◌, ◌++◌}
use mathlib.Core.Option.{Option, none, some}
use native.Mathlib.Omega.{arith}
use borrow.Author.Tests.{ltb-true, leb-true, eqb-true, eqb-false, lt-ltb, eq-eqb, ne_eqb}
use lib.Dec.{leb, eqb}
use lib.ListN.{length, get_or, take, drop, get_elem?, length-append, length-drop, take-append-drop}
use lib.Seq.{get_or-append-add, drop-append-add, take-append_seam, get_or-drop, drop-drop, length-take-le}
use Rattle.decision.specs.declared.Decision.{Decision}
use Rattle.inspect_claim.specs.Claim.{Claim, fact_octet, fact_octets, octets_of, claimed_octets, Listed, claimed_at, leaving_length, parses, facts_in, claimed_in, claim_of, no_record, recorded_of}
use Rattle.inspect_claim.specs.declared.parse.Recorded.{Recorded}
use Rattle.inspect_claim.specs.Compare.{said_of, agreeing, differing_at, find_from, finding_of, FirstDifference}
use Rattle.inspect_claim.specs.Theorems.{Reads, Finds, Same, Agreement}

-- 1. The first place that differs.

clash : true ≡ false → ⊥
clash e = let z : ◌≡◌ {A = ℕ} 0 1 = cc in omega arith

no_finding : (k : ℕ) → differing_at k ≡ agreeing → ⊥
no_finding k e = cc

agrees_from : (k : ℕ) (a b : List ℕ) → find_from k a b ≡ agreeing → a ≡ b
agrees_from k [] [] e = refl
agrees_from k [] (y ∷ b) e = absurd (no_finding k e)
agrees_from k (x ∷ a) [] e = absurd (no_finding k e)
agrees_from k (x ∷ a) (y ∷ b) e = go (eqb x y) refl e (agrees_from (suc k) a b)
  where
    go : (t : Bool) → eqb x y ≡ t → cond t (find_from (suc k) a b) (differing_at k) ≡ agreeing → (find_from (suc k) a b ≡ agreeing → a ≡ b) → x ∷ a ≡ y ∷ b
    go true t f h = let p : x ≡ y = eqb-true x y t in let q : a ≡ b = h f in cc
    go false t f h = absurd (no_finding k f)

agreed_from : (k : ℕ) (a : List ℕ) → find_from k a a ≡ agreeing
agreed_from k [] = refl
agreed_from k (x ∷ a) = rw (eq-eqb x x refl) (agreed_from (suc k) a)

-- the place found from k on is so far behind k as the first difference is behind the front
record Found (k n : ℕ) (a b : List ℕ) : Type 0 where
  behind : ℕ
  at : n ≡ k + behind
  first : FirstDifference a b behind

nothing : (x : ℕ) → ◌≡◌ {A = Option ℕ} (some x) none → ⊥
nothing x e = let z : ◌≡◌ {A = ℕ} 0 1 = cc in omega arith

same_place : (k n : ℕ) → differing_at k ≡ differing_at n → n ≡ k
same_place k n e = cc

found_here : (k n : ℕ) (a b : List ℕ) → n ≡ k → (get_elem? a 0 ≡ get_elem? b 0 → ⊥) → Found k n a b
found_here k n a b e h =
    record { behind = 0; at = omega arith; first = record { before = λ (i : ℕ) (l : i < 0). absurd (omega arith); here = h } }

found_behind : (k n x y : ℕ) (a b : List ℕ) → x ≡ y → Found (suc k) n a b → Found k n (x ∷ a) (y ∷ b)
found_behind k n x y a b e f = record { behind = suc f.behind; at = omega (arith, f.at); first = record { before = before; here = f.first.here } }
  where
    before : (i : ℕ) → i < suc f.behind → get_elem? (x ∷ a) i ≡ get_elem? (y ∷ b) i
    before zero l = ap some e
    before (suc i) l = f.first.before i (omega arith)

found_from : (k n : ℕ) (a b : List ℕ) → find_from k a b ≡ differing_at n → Found k n a b
found_from k n [] [] e = absurd (no_finding n (sym e))
found_from k n [] (y ∷ b) e = found_here k n [] (y ∷ b) (same_place k n e) (λ (z : none ≡ some y). nothing y (sym z))
found_from k n (x ∷ a) [] e = found_here k n (x ∷ a) [] (same_place k n e) (λ (z : some x ≡ none). nothing x z)
found_from k n (x ∷ a) (y ∷ b) e = go (eqb x y) refl e (found_from (suc k) n a b)
  where
    go : (t : Bool) → eqb x y ≡ t → cond t (find_from (suc k) a b) (differing_at k) ≡ differing_at n → (find_from (suc k) a b ≡ differing_at n → Found (suc k) n a b) → Found k n (x ∷ a) (y ∷ b)
    go true t f h = found_behind k n x y a b (eqb-true x y t) (h f)
    go false t f h = found_here k n (x ∷ a) (y ∷ b) (same_place k n f) (λ (z : some x ≡ some y). eqb-false x y t (let q : x ≡ y = cc in q))

first_from : (k n : ℕ) (a b : List ℕ) → FirstDifference a b n → find_from k a b ≡ differing_at (k + n)
first_from k n [] [] f = absurd (f.here refl)
first_from k zero [] (y ∷ b) f = ap differing_at (omega arith)
first_from k (suc n) [] (y ∷ b) f = absurd (nothing y (sym (f.before 0 (omega arith))))
first_from k zero (x ∷ a) [] f = ap differing_at (omega arith)
first_from k (suc n) (x ∷ a) [] f = absurd (nothing x (f.before 0 (omega arith)))
first_from k zero (x ∷ a) (y ∷ b) f =
    rw (ne_eqb x y (λ (e : x ≡ y). f.here (ap some e))) (ap differing_at (omega arith))
first_from k (suc n) (x ∷ a) (y ∷ b) f =
    let p : some x ≡ some y = f.before 0 (omega arith) in
    let q : x ≡ y = cc in
    let e : suc k + n ≡ k + suc n = omega arith in
    rw (eq-eqb x y q) (first_from (suc k) n a b (record { before = λ (i : ℕ) (l : i < n). f.before (suc i) (omega arith); here = f.here }) ∙ ap differing_at e)

pub finds : Finds
unfolding finding_of
finds =
    record {
      agrees = agrees_from 0;
      agreed = agreed_from 0;
      differs = λ (a b : List ℕ) (k : ℕ) (e : find_from 0 a b ≡ differing_at k).
          let f = found_from 0 k a b e in
          let z : f.behind ≡ k = omega (arith, f.at) in rw z at f.first;
      first = λ (a b : List ℕ) (k : ℕ) (f : FirstDifference a b k). let z : 0 + k ≡ k = omega arith in first_from 0 k a b f ∙ ap differing_at z;
    }

-- 2. A decision and a claim.

pub agreement : Agreement
unfolding finding_of
agreement = record { same = same_of; agreeing = agreeing_of }
  where
    same_of : (d : Decision) (out : List ℕ) (c : Claim) → find_from 0 (said_of d out) (claimed_octets c) ≡ agreeing → Same d out c
    same_of d out c e =
        let q : said_of d out ≡ claimed_octets c = agrees_from 0 (said_of d out) (claimed_octets c) e in
        record { number = cc; kind = cc; code = cc; pointer = cc; count = cc; octets = cc }

    agreeing_of : (d : Decision) (out : List ℕ) (c : Claim) → Same d out c → find_from 0 (said_of d out) (claimed_octets c) ≡ agreeing
    agreeing_of d out c s =
        let q : said_of d out ≡ claimed_octets c = cc in
        ap (λ (l : List ℕ). find_from 0 l (claimed_octets c)) q ∙ agreed_from 0 (claimed_octets c)

-- 3. A record and its octets.

fact_small : (b : Bool) → leb (fact_octet b) 1 ≡ true
fact_small true = refl
fact_small false = refl

fact_back : (b : Bool) → not (eqb (fact_octet b) 0) ≡ b
fact_back true = refl
fact_back false = refl

fact_again : (x : ℕ) → leb x 1 ≡ true → fact_octet (not (eqb x 0)) ≡ x
fact_again zero e = refl
fact_again (suc zero) e = refl
fact_again (suc (suc x)) e = absurd (omega (arith, leb-true (suc (suc x)) 1 e))

nine : (o : List ℕ) → 9 ≤ length o
    → o ≡ get_or o 0 0 ∷ get_or o 1 0 ∷ get_or o 2 0 ∷ get_or o 3 0 ∷ get_or o 4 0 ∷ get_or o 5 0 ∷ get_or o 6 0 ∷ get_or o 7 0 ∷ get_or o 8 0 ∷ drop 9 o
nine [] h = absurd (omega arith)
nine (a ∷ []) h = absurd (omega arith)
nine (a ∷ b ∷ []) h = absurd (omega arith)
nine (a ∷ b ∷ c ∷ []) h = absurd (omega arith)
nine (a ∷ b ∷ c ∷ d ∷ []) h = absurd (omega arith)
nine (a ∷ b ∷ c ∷ d ∷ e ∷ []) h = absurd (omega arith)
nine (a ∷ b ∷ c ∷ d ∷ e ∷ f ∷ []) h = absurd (omega arith)
nine (a ∷ b ∷ c ∷ d ∷ e ∷ f ∷ g ∷ []) h = absurd (omega arith)
nine (a ∷ b ∷ c ∷ d ∷ e ∷ f ∷ g ∷ i ∷ []) h = absurd (omega arith)
nine (a ∷ b ∷ c ∷ d ∷ e ∷ f ∷ g ∷ i ∷ j ∷ o) h = refl

five : (o : List ℕ) → 5 ≤ length o → o ≡ get_or o 0 0 ∷ get_or o 1 0 ∷ get_or o 2 0 ∷ get_or o 3 0 ∷ get_or o 4 0 ∷ drop 5 o
five [] h = absurd (omega arith)
five (a ∷ []) h = absurd (omega arith)
five (a ∷ b ∷ []) h = absurd (omega arith)
five (a ∷ b ∷ c ∷ []) h = absurd (omega arith)
five (a ∷ b ∷ c ∷ d ∷ []) h = absurd (omega arith)
five (a ∷ b ∷ c ∷ d ∷ e ∷ o) h = refl

both : (a b : Bool) → (a && b) ≡ true → (a ≡ true) × (b ≡ true)
both true b e = (refl, e)
both false b e = absurd (clash (sym e))

record Parts (ports : ℕ) (o : List ℕ) : Type 0 where
  version : get_or o 0 0 ≡ 1
  arriving : get_or o 1 0 < ports
  leaving : get_or o 2 0 < ports
  error : leb (get_or o 3 0) 1 ≡ true
  group : leb (get_or o 4 0) 1 ≡ true
  link : leb (get_or o 5 0) 1 ≡ true
  fragment : leb (get_or o 6 0) 1 ≡ true
  source : leb (get_or o 7 0) 1 ≡ true
  size : length o ≡ claimed_at o + 5 + leaving_length o

parts_of : (ports : ℕ) (o : List ℕ) → parses ports o ≡ true → Parts ports o
unfolding parses
parts_of ports o e =
    let a = both _ _ e in
    let b = both _ _ a.1 in
    let c = both _ _ b.1 in
    let d = both _ _ c.1 in
    let f = both _ _ d.0 in
    let g = both _ _ f.1 in
    let h = both _ _ g.1 in
    let i = both _ _ h.1 in
    record {
      version = eqb-true _ _ a.0;
      arriving = ltb-true _ _ b.0;
      leaving = ltb-true _ _ c.0;
      error = f.0;
      group = g.0;
      link = h.0;
      fragment = i.0;
      source = i.1;
      size = eqb-true _ _ d.1;
    }

-- the claimed decision's five octets, and what stands behind them
claimed_parts : (o : List ℕ) → claimed_at o + 5 + leaving_length o ≡ length o → claimed_in o ≡ claimed_octets (claim_of o)
unfolding claim_of
claimed_parts o h =
    let n : length (drop (claimed_at o) o) ≡ length o - claimed_at o = length-drop (claimed_at o) o in
    let m : length (drop (claimed_at o + 5) o) ≡ length o - (claimed_at o + 5) = length-drop (claimed_at o + 5) o in
    let k : length (drop (claimed_at o + 5) o) ≡ leaving_length o = omega arith in
    let z : claimed_at o + 0 ≡ claimed_at o = omega arith in
    let l : get_or o (claimed_at o + 0) 0 ≡ get_or o (claimed_at o) 0 = ap (λ (i : ℕ). get_or o i 0) z in
    five (drop (claimed_at o) o) (omega arith)
    ∙ simp (get_or-drop, drop-drop, l, k)

read_parts : (ports : ℕ) (o : List ℕ) → Parts ports o → octets_of (claim_of o) ≡ o
unfolding claim_of
read_parts ports o p =
    let h : 9 ≤ length o = omega (arith, p.size) in
    let n : length (take (get_or o 8 0) (drop 9 o)) ≡ get_or o 8 0 = length-take-le (get_or o 8 0) (drop 9 o) (omega (arith, p.size, length-drop 9 o)) in
    let t : take (get_or o 8 0) (drop 9 o) ++ claimed_octets (claim_of o) ≡ drop 9 o
    = ap (λ (l : List ℕ). take (get_or o 8 0) (drop 9 o) ++ l) (sym (claimed_parts o (sym p.size)) ∙ sym (drop-drop (get_or o 8 0) 9 o)) ∙ take-append-drop (get_or o 8 0) (drop 9 o) in
    simp (fact_again (get_or o 3 0) p.error, fact_again (get_or o 4 0) p.group, fact_again (get_or o 5 0) p.link, fact_again (get_or o 6 0) p.fragment, fact_again (get_or o 7 0) p.source, n)
    (ap (λ (l : List ℕ). 1 ∷ get_or o 1 0 ∷ get_or o 2 0 ∷ get_or o 3 0 ∷ get_or o 4 0 ∷ get_or o 5 0 ∷ get_or o 6 0 ∷ get_or o 7 0 ∷ get_or o 8 0 ∷ l) t
    ∙ ap (λ (v : ℕ). v ∷ get_or o 1 0 ∷ get_or o 2 0 ∷ get_or o 3 0 ∷ get_or o 4 0 ∷ get_or o 5 0 ∷ get_or o 6 0 ∷ get_or o 7 0 ∷ get_or o 8 0 ∷ drop 9 o) (sym p.version)
    ∙ sym (nine o h))

-- the octets of a claim, read
written_parses : (ports : ℕ) (c : Claim) → Listed ports c → parses ports (octets_of c) ≡ true
unfolding parses
written_parses ports c l =
    let at : claimed_at (octets_of c) + 4 ≡ 9 + (length c.area + 4) = omega arith in
    let m : leaving_length (octets_of c) ≡ length c.octets
    = ap (λ (i : ℕ). get_or (octets_of c) i 0) at
    ∙ get_or-append-add (1 ∷ c.arriving ∷ c.leaving ∷ (fact_octets c.facts ++ (length c.area ∷ []))) (c.area ++ claimed_octets c) (length c.area + 4) 0
    ∙ get_or-append-add c.area (claimed_octets c) 4 0 in
    let n : length (octets_of c) ≡ claimed_at (octets_of c) + 5 + leaving_length (octets_of c) = omega (arith, length-append c.area (claimed_octets c)) in
    simp (lt-ltb c.arriving ports l.arriving, lt-ltb c.leaving ports l.leaving, fact_small, eq-eqb _ _ n)

written_says : (c : Claim) → claim_of (octets_of c) ≡ c
unfolding claim_of
written_says c =
    let head : List ℕ = 1 ∷ c.arriving ∷ c.leaving ∷ (fact_octets c.facts ++ (length c.area ∷ [])) in
    let k1 : get_or (octets_of c) (claimed_at (octets_of c)) 0 ≡ c.number = place_of c 0 (claimed_at (octets_of c)) (omega arith) in
    let k2 : get_or (octets_of c) (claimed_at (octets_of c) + 1) 0 ≡ c.kind = place_of c 1 (claimed_at (octets_of c) + 1) (omega arith) in
    let k3 : get_or (octets_of c) (claimed_at (octets_of c) + 2) 0 ≡ c.code = place_of c 2 (claimed_at (octets_of c) + 2) (omega arith) in
    let k4 : get_or (octets_of c) (claimed_at (octets_of c) + 3) 0 ≡ c.pointer = place_of c 3 (claimed_at (octets_of c) + 3) (omega arith) in
    let k5 : drop (claimed_at (octets_of c) + 5) (octets_of c) ≡ c.octets = rest_of c (claimed_at (octets_of c) + 5) (omega arith) in
    simp (fact_back, take-append_seam c.area (claimed_octets c), k1, k2, k3, k4, k5)
  where
    place_of : (c : Claim) (i k : ℕ) → k ≡ 9 + (length c.area + i) → get_or (octets_of c) k 0 ≡ get_or (claimed_octets c) i 0
    place_of c i k e =
        ap (λ (j : ℕ). get_or (octets_of c) j 0) e
        ∙ get_or-append-add (1 ∷ c.arriving ∷ c.leaving ∷ (fact_octets c.facts ++ (length c.area ∷ []))) (c.area ++ claimed_octets c) (length c.area + i) 0
        ∙ get_or-append-add c.area (claimed_octets c) i 0

    rest_of : (c : Claim) (k : ℕ) → k ≡ 9 + (length c.area + 5) → drop k (octets_of c) ≡ c.octets
    rest_of c k e =
        ap (λ (j : ℕ). drop j (octets_of c)) e
        ∙ drop-append-add (1 ∷ c.arriving ∷ c.leaving ∷ (fact_octets c.facts ++ (length c.area ∷ []))) (c.area ++ claimed_octets c) (length c.area + 5)
        ∙ drop-append-add c.area (claimed_octets c) 5

listed_of : (ports : ℕ) (o : List ℕ) → Parts ports o → Listed ports (claim_of o)
unfolding claim_of
listed_of ports o p = record { arriving = p.arriving; leaving = p.leaving }

pub reads : Reads
reads =
    record {
      written = λ (ports : ℕ) (c : Claim) (l : Listed ports c). (written_parses ports c l, written_says c);
      read = λ (ports : ℕ) (o : List ℕ) (e : parses ports o ≡ true). (read_parts ports o (parts_of ports o e), listed_of ports o (parts_of ports o e));
      claimed = λ (ports : ℕ) (o : List ℕ) (e : parses ports o ≡ true). claimed_parts o (sym (parts_of ports o e).size);
    }

-- 4. For those who read a record: what the answer says where it parses, and that the two areas lie in the record.

pub record Parsed (ports : ℕ) (o : List ℕ) (r : Recorded) : Type 0 where
  pub good : parses ports o ≡ true
  pub arriving : r.arriving ≡ (claim_of o).arriving
  pub leaving : r.leaving ≡ (claim_of o).leaving
  pub facts : r.facts ≡ (claim_of o).facts
  pub begins : 9 ≤ r.claimed
  pub within : r.claimed ≤ length o
  pub area : take (r.claimed - 9) (drop 9 o) ≡ (claim_of o).area
  pub claimed : drop r.claimed o ≡ claimed_octets (claim_of o)

pub parsed : (ports : ℕ) (o : List ℕ) (r : Recorded) → r ≡ recorded_of ports o → r.parsed ≡ true → Parsed ports o r
unfolding recorded_of claim_of
parsed ports o r e f = go (parses ports o) refl e
  where
    go : (t : Bool) → parses ports o ≡ t
        → r ≡ cond t (record { parsed = true; arriving = get_or o 1 0; leaving = get_or o 2 0; facts = facts_in o; claimed = claimed_at o }) no_record → Parsed ports o r
    go true t e =
        let at : r.claimed ≡ claimed_at o = ap (λ (x : Recorded). x.claimed) e in
        let p = parts_of ports o t in
        let k : r.claimed - 9 ≡ get_or o 8 0 = omega arith in
        record {
          good = t;
          arriving = ap (λ (x : Recorded). x.arriving) e;
          leaving = ap (λ (x : Recorded). x.leaving) e;
          facts = ap (λ (x : Recorded). x.facts) e;
          begins = omega arith;
          within = omega (arith, p.size);
          area = ap (λ (i : ℕ). take i (drop 9 o)) k;
          claimed = ap (λ (i : ℕ). drop i o) at ∙ claimed_parts o (sym p.size);
        }
    go false t e = absurd (clash (sym f ∙ ap (λ (x : Recorded). x.parsed) e))

pub unparsed : (ports : ℕ) (o : List ℕ) (r : Recorded) → r ≡ recorded_of ports o → r.parsed ≡ false → parses ports o ≡ false
unfolding recorded_of
unparsed ports o r e f = go (parses ports o) refl e
  where
    go : (t : Bool) → parses ports o ≡ t
        → r ≡ cond t (record { parsed = true; arriving = get_or o 1 0; leaving = get_or o 2 0; facts = facts_in o; claimed = claimed_at o }) no_record → parses ports o ≡ false
    go true t e = absurd (clash (sym (ap (λ (x : Recorded). x.parsed) e) ∙ f))
    go false t e = t

-- the ports' numbers, also where nothing was read, are below every limit that the ports of the file keep to
pub listed_below : (ports most : ℕ) (o : List ℕ) (r : Recorded) → r ≡ recorded_of ports o → ports ≤ most → 0 < most → (r.arriving < most) × (r.leaving < most)
unfolding recorded_of
listed_below ports most o r e h p = go (parses ports o) refl e
  where
    go : (t : Bool) → parses ports o ≡ t
        → r ≡ cond t (record { parsed = true; arriving = get_or o 1 0; leaving = get_or o 2 0; facts = facts_in o; claimed = claimed_at o }) no_record → (r.arriving < most) × (r.leaving < most)
    go true t e =
        let q = parts_of ports o t in
        let a : r.arriving ≡ get_or o 1 0 = ap (λ (x : Recorded). x.arriving) e in
        let l : r.leaving ≡ get_or o 2 0 = ap (λ (x : Recorded). x.leaving) e in
        (omega (arith, q.arriving), omega (arith, q.leaving))
    go false t e =
        let a : r.arriving ≡ 0 = ap (λ (x : Recorded). x.arriving) e in
        let l : r.leaving ≡ 0 = ap (λ (x : Recorded). x.leaving) e in
        (omega arith, omega arith)

-- the place that is found is one of what the box says, or the one behind it
pub place_within : (k n : ℕ) (a b : List ℕ) → find_from k a b ≡ differing_at n → n ≤ k + length a
place_within k n [] [] e = absurd (no_finding n (sym e))
place_within k n [] (y ∷ b) e = omega (arith, same_place k n e)
place_within k n (x ∷ a) [] e = omega (arith, same_place k n e)
place_within k n (x ∷ a) (y ∷ b) e = go (eqb x y) e (place_within (suc k) n a b)
  where
    go : (t : Bool) → cond t (find_from (suc k) a b) (differing_at k) ≡ differing_at n → (find_from (suc k) a b ≡ differing_at n → n ≤ suc k + length a) → n ≤ k + suc (length a)
    go true f h = omega (arith, h f)
    go false f h = omega (arith, same_place k n f)
