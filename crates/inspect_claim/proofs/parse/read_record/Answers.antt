-- `inspect_claim::parse::read_record` meets its contract.
use Rattle.std.proofs.Common.{Some, None}
use mathlib.Core.Path.{◌≡◌, refl, sym, ap, ◌∙◌}
use mathlib.Core.Bool.{Bool, true, false, cond, ◌&&◌}
use Rattle.decision.specs.declared.Facts.{Facts}
use Prim.Native.Nat.{ℕ, ◌+◌}
use lib.Dec.{eqb, ltb}
use lib.ListN.{length, get_or}
use mathlib.Core.List.{List}
use Rattle.inspect_claim.specs.Claim.{are_facts, claimed_at, leaving_length, parses, recorded_of}
use Rattle.inspect_claim.proofs.parse.read_record.Goals as goal
use Rattle.inspect_claim.proofs.parse.read_record.Goals.{in_default-via-in-Some+else-is_framed, in_default-via-in_default}

facts_said : (f : Bool) (x y : Facts) → Some x ≡ cond f (Some y) None → (f ≡ true) × (x ≡ y)
facts_said true x y e = (refl, cc)
facts_said false x y e = absurd (cc)

facts_unsaid : (f : Bool) (y : Facts) → None ≡ cond f (Some y) None → f ≡ false
facts_unsaid true y e = absurd (cc)
facts_unsaid false y e = refl

all_true : (a b d f g : Bool) → f ≡ true → (a && (b && (d && g))) ≡ true → (a && (b && (d && (f && g)))) ≡ true
all_true false b d f g e h = h
all_true true false d f g e h = h
all_true true true false f g e h = h
all_true true true true true g e h = h
all_true true true true false g e h = e

no_fact : (a b d f g : Bool) → f ≡ false → (a && (b && (d && (f && g)))) ≡ false
no_fact false b d f g e = refl
no_fact true false d f g e = refl
no_fact true true false f g e = refl
no_fact true true true f g e = ap (λ (x : Bool). x && g) e

unframed : (a b d f g : Bool) → (a && (b && (d && g))) ≡ false → (a && (b && (d && (f && g)))) ≡ false
unframed false b d f g h = refl
unframed true false d f g h = refl
unframed true true false f g h = refl
unframed true true true true g h = h
unframed true true true false g h = refl

module _ (ports : ℕ) (o : List ℕ) where
  abbrev version : Bool
  version = eqb (get_or o 0 0) 1

  abbrev arriving : Bool
  arriving = ltb (get_or o 1 0) ports

  abbrev leaving : Bool
  leaving = ltb (get_or o 2 0) ports

  abbrev filled : Bool
  filled = eqb (length o) (claimed_at o + 5 + leaving_length o)

  abbrev framed : Bool
  framed = version && (arriving && (leaving && filled))

  parsed : are_facts o ≡ true → framed ≡ true → parses ports o ≡ true
  unfolding parses
  parsed = all_true version arriving leaving (are_facts o) filled

  no_facts : are_facts o ≡ false → parses ports o ≡ false
  unfolding parses
  no_facts = no_fact version arriving leaving (are_facts o) filled

  not_framed : framed ≡ false → parses ports o ≡ false
  unfolding parses
  not_framed = unframed version arriving leaving (are_facts o) filled

pub returns-in-Some : goal.returns-in-Some
unfolding recorded_of
returns-in-Some c =
    let said = facts_said _ _ _ c.in-Some.ensures in
    simp (
      parsed c.args.ports c.args.octets.now said.0 (sym c.is_framed.ensures ∙ c.if-is_framed.true),
      c.claimed_at.ensures.0,
      c.octet_at-in-Some-2.ensures,
      c.octet_at-in-Some.ensures,
      c.octet_at.ensures,
      said.1,
    )

pub returns-in_default : goal.returns-in_default
unfolding recorded_of
returns-in_default c =
    elim c.in_default.branch [
      | in_default-via-in-Some+else-is_framed w ↦ simp (not_framed c.args.ports c.args.octets.now (sym w.is_framed.ensures ∙ w.if-is_framed.false), c.no_record.ensures)
      | in_default-via-in_default w ↦ simp (no_facts c.args.ports c.args.octets.now (facts_unsaid _ _ (sym w.in_default.is ∙ c.read_facts.ensures)), c.no_record.ensures)
    ]
