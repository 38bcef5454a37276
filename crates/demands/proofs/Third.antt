-- Demand 3: one label, one spelling.
use mathlib.Core.Path.{◌≡◌, refl, sym, ◌∙◌, ap, subst}
use mathlib.Core.Bool.{Bool, true, false, cond, not, true≢false}
use mathlib.Core.List.{List, [], ◌∷◌, ◌++◌, append_assoc}
use mathlib.Core.Logic.{⊎_elim, ◌↔◌}
use mathlib.Core.Option.{Option, none, some}
use Prim.Native.Nat.{ℕ, ◌+◌, ◌-◌, ◌≤◌}
use native.Mathlib.Omega.{arith}
use lib.Dec.{eqb}
use borrow.Author.Tests.{le-ltb}
use lib.ListN.{length, take, drop, replicate, length-append, length-replicate}
use lib.Seq.{take-append_seam, take_at}
use Rattle.label.specs.declared.Label.{Label}
use Rattle.label.specs.Label.{used, well_formed, in_range}
use Rattle.option.specs.Option.{Octets, tag_of, body_of, Means}
use Rattle.option.specs.declared.Spellings.{Spellings}
use Rattle.option.specs.Permitted.{usual, Permitted}
use Rattle.option.specs.Spelling.{padded, spelled_of}
use Rattle.option.specs.Theorems.{Spells, Shortest}
use Rattle.option.proofs.OneSpelling.{one_spelling, usual_spelling, spelled_or_none}
use Rattle.option.proofs.Forms.{FormedRuns, means_runs, formed_runs}
use Rattle.option.proofs.Meaning.{Bounds, by1, by2, by5, bounds}
use Rattle.option.proofs.Theorems.{Held, held1, held5, held_shortest}
use Rattle.option_read.proofs.Theorems.{reads}
use Rattle.option_form.specs.Spelled.{lacking, length_of}
use Rattle.option_spell.specs.Spelling.{Spelling}
use Rattle.option_spell.specs.Spelling.{spelling_number, spelling_answer, spelling_out}
use Rattle.option_spell.proofs.Theorems.{spelling_alone}
use Rattle.std.specs.Prelude.{Some}
use Rattle.area_leaving.specs.Kept.{kept_of, round_up, leaving_of}
use Rattle.port.specs.declared.Port.{Port}
use Rattle.port.specs.declared.Host.{Host}
use Rattle.decision.specs.declared.Decision.{Decision}
use Rattle.decision.specs.declared.Refusal.{Refusal}
use Rattle.decision.specs.Decision.{silenced, decided}
use Rattle.arrive.specs.Checks.{barred, when, first_of, bad_basic_check, arriving_basic, missing_basic_by, missing_basic_check, basic_passes, basic_range_check, arriving_label, range_check}
use Rattle.deliver.specs.Delivery.{Delivery, delivery_sizes, delivery_records, host_check, deliver_of}
use Rattle.forward_rules.specs.Crossing.{Forwarding, sizes, records, leaving_basic_check, Crossing, crossing, number_check, leaving_check, spelling_check, leaving_label, leaving_option}
use Rattle.forward_rules.specs.Forward.{forward_checks, forward_of, output_of}
use Rattle.forward_rules.proofs.Forwards.{forward_passed}
use Rattle.demands.specs.Demands.{own, MeansAt, Alike, AlikeDelivered, one_form, Demand3}
use Rattle.area_leaving.proofs.Again.{basic_from}
use Rattle.demands.proofs.Basic.{basic_kept}
use Rattle.demands.proofs.Second.{Reads, label_reads, forwarded_passes, demand2}

-- Spelling.

lacks : (o : Option (List ℕ)) → lacking o ≡ false → (s : List ℕ) × (o ≡ some s)
lacks none e = absurd (true≢false e)
lacks (some s) e = (s, refl)

module _ (set : Spellings) (l : Label) (out : List ℕ) (w : well_formed l ≡ true) (long : 40 ≤ length out) where
  pub spelled_when : (spelling_answer set l (length out)).number ≡ 0 → (s : List ℕ) × (spelled_of set l ≡ some s)
  spelled_when e = lacks (spelled_of set l) ((spelling_alone.done set l out w long).0 e)

  when_spelled : (s : List ℕ) → spelled_of set l ≡ some s → (spelling_answer set l (length out)).number ≡ 0
  when_spelled s e = (spelling_alone.done set l out w long).1 (ap lacking e)

  pub refused_exactly : ((spelling_answer set l (length out)).number ≡ 0 → ⊥) ↔ ((o : List ℕ) → Permitted set o l → ⊥)
  refused_exactly = (
    λ h. (one_spelling.refused set l w).0 (⊎_elim (λ e. e) (λ p. absurd (h (when_spelled p.0 p.1))) (spelled_or_none l w set)),
    λ n e. (let p = spelled_when e in n p.0 ((one_spelling.spells set l p.0 w).0 p.1).permitted),
  )

  -- 1 and 2 are passed: 18 where there is no spelling
  number_is : (spelling_answer set l (length out)).number ≡ cond (lacking (spelled_of set l)) 18 0
  unfolding spelling_number spelling_answer
  number_is = rw (le-ltb (length out) 40 long, w) (go (lacking (spelled_of set l)))
    where
      go : (b : Bool) → (cond {A = Spelling} (eqb (cond b 18 0) 0) (record { number = 0; count = length_of (spelled_of set l) }) (record { number = cond b 18 0; count = 0 })).number ≡ cond b 18 0
      go true = refl
      go false = refl

  pub eighteen_exactly : ((spelling_answer set l (length out)).number ≡ 18) ↔ ((o : List ℕ) → Permitted set o l → ⊥)
  eighteen_exactly = (λ e. refused_exactly.0 (λ z. omega arith), λ n. go (lacking (spelled_of set l)) refl (refused_exactly.1 n))
    where
      go : (b : Bool) → lacking (spelled_of set l) ≡ b → ((spelling_answer set l (length out)).number ≡ 0 → ⊥) → (spelling_answer set l (length out)).number ≡ 18
      go true p h = number_is ∙ rw p
      go false p h = absurd (h (number_is ∙ rw p))

  pub spelled_alone : (spelling_answer set l (length out)).number ≡ 0
      → (s : List ℕ) × Spells set s l × ((spelling_answer set l (length out)).count ≡ length s) × (take 40 (spelling_out set l out) ≡ padded s)
  spelled_alone e =
      let p = spelled_when e in
      (p.0, (one_spelling.spells set l p.0 w).0 p.1, spelling_alone.counted set l out p.0 w long p.1, spelling_alone.written set l out p.0 w long p.1)

-- one form alone: an option of its tag holds the label as the form does
module _ (l : Label) (s o : List ℕ) (w : well_formed l ≡ true) (m : Means o l) where
  formed : FormedRuns l.domain l.level (used l)
  formed = formed_runs l w

  bounded : Bounds (used l) (length (body_of o)) (tag_of o)
  bounded = bounds o l.domain l.level (used l) (means_runs o l m) formed.canon

  shortest_of : (p : Spellings) → Spells p s l → Held p (used l) (length (body_of o)) (tag_of o) → length s ≤ length o
  shortest_of p q h = held_shortest p l.domain l.level (used l) formed s ((one_spelling.spells p l s w).1 q) o (means_runs o l m) h

  held_bitmap : (n t : ℕ) → Bounds (used l) n t → t ≡ 1 → Held (one_form true false) (used l) n t
  held_bitmap n t (by1 h i) e = held1 refl h i
  held_bitmap n t (by2 h i) e = absurd (omega arith)
  held_bitmap n t (by5 h i) e = absurd (omega arith)

  held_pairs : (n t : ℕ) → Bounds (used l) n t → t ≡ 5 → Held (one_form false true) (used l) n t
  held_pairs n t (by1 h i) e = absurd (omega arith)
  held_pairs n t (by2 h i) e = absurd (omega arith)
  held_pairs n t (by5 h i) e = held5 refl h i

  bitmap_shortest : Spells (one_form true false) s l → tag_of o ≡ 1 → length s ≤ length o
  bitmap_shortest q e = shortest_of (one_form true false) q (held_bitmap (length (body_of o)) (tag_of o) bounded e)

  pairs_shortest : Spells (one_form false true) s l → tag_of o ≡ 5 → length s ≤ length o
  pairs_shortest q e = shortest_of (one_form false true) q (held_pairs (length (body_of o)) (tag_of o) bounded e)

pub spelled_in_area : (f : Forwarding) (out : List ℕ) → Octets f.area → f.leaving.unlabelled ≡ false → (forward_of f).number ≡ 0
    → (s : List ℕ) × Spells f.leaving.spellings s (forward_of f).label × (take (length s) (output_of f out) ≡ s)
spelled_in_area f out oct o e =
    let c = demand2.only f oct e in
    let q = demand2.always f c.0 c.1 c.2 out c.3 in (
      c.2,
      rw (ap (λ (d : Decision). d.label) q.0) (c.3.spelled o),
      ap (take (length c.2)) q.1 ∙ take-append_seam c.2 _,
    )

pub told_apart : (set : Spellings) (a b : Label) (out out' : List ℕ) → well_formed a ≡ true → well_formed b ≡ true → 40 ≤ length out → 40 ≤ length out'
    → (spelling_answer set a (length out)).number ≡ 0 → (spelling_answer set b (length out')).number ≡ 0
    → (take 40 (spelling_out set a out) ≡ take 40 (spelling_out set b out')) ↔ (a ≡ b)
told_apart set a b out out' wa wb ha hb ea eb =
    let p = spelled_alone set a out wa ha ea in
    let q = spelled_alone set b out' wb hb eb in
    let t = one_spelling.told set a b p.0 q.0 wa wb ((one_spelling.spells set a p.0 wa).1 p.1) ((one_spelling.spells set b q.0 wb).1 q.1) in
    (λ e. t.0 (sym p.3 ∙ e ∙ q.3), λ e. p.3 ∙ t.1 e ∙ sym q.3)

-- With tags 1, 2 and 5 permitted: the spelling is the shortest of all valid options, and where there is none no valid option means the label.

usual_shortest : (l : Label) (s : List ℕ) → well_formed l ≡ true → Spells usual s l → Shortest s l
usual_shortest l s w q = (usual_spelling.spells l s w).0 ((one_spelling.spells usual l s w).1 q)

refused_usual : (l : Label) (out : List ℕ) → well_formed l ≡ true → 40 ≤ length out → ((spelling_answer usual l (length out)).number ≡ 0 → ⊥) ↔ ((o : List ℕ) → Means o l → ⊥)
refused_usual l out w long = (
  λ h. (usual_spelling.refused l w).0 ((one_spelling.refused usual l w).1 ((refused_exactly usual l out w long).0 h)),
  λ n. (refused_exactly usual l out w long).1 (λ o q. n o q.means),
)

alone_usual : (l : Label) (out : List ℕ) → well_formed l ≡ true → 40 ≤ length out → (spelling_answer usual l (length out)).number ≡ 0
    → (s : List ℕ) × Shortest s l × ((spelling_answer usual l (length out)).count ≡ length s) × (take 40 (spelling_out usual l out) ≡ padded s)
alone_usual l out w long e = let p = spelled_alone usual l out w long e in (p.0, usual_shortest l p.0 w p.1, p.2, p.3)

leaving_usual : (f : Forwarding) (out : List ℕ) → Octets f.area → f.leaving.unlabelled ≡ false → f.leaving.spellings ≡ usual → (forward_of f).number ≡ 0
    → (s : List ℕ) × Shortest s (forward_of f).label × (take (length s) (output_of f out) ≡ s)
leaving_usual f out oct o u e =
    let p = spelled_in_area f out oct o e in
    let q : Spells usual p.0 (forward_of f).label = subst (λ (x : Spellings). Spells x p.0 (forward_of f).label) u p.1 in
    (p.0, usual_shortest (forward_of f).label p.0 q.permitted.means.label q, p.2)

-- Equal decisions.

-- what is left of the checks once the label is read: a function of the label, the option 130, the records and the kept options
abbrev rest_of : Port → Port → Option (List ℕ) → Label → Crossing → List ℕ → Option Refusal
rest_of p q o l x kept =
    first_of
    (missing_basic_by o p.basic.on
    ∷ when (not (basic_passes p.basic.on p.basic.receiving o)) (barred 21 9)
    ∷ when (not (basic_passes q.basic.on q.basic.sending o)) (barred 21 9)
    ∷ when (not (in_range p.lowest p.highest l)) (barred 14 9)
    ∷ number_check x
    ∷ leaving_check x
    ∷ spelling_check x kept
    ∷ [])

abbrev decision_of : Bool → Port → Port → Option (List ℕ) → Label → Crossing → List ℕ → Decision
decision_of quiet p q o l x kept =
    decided quiet (rest_of p q o l x kept) (leaving_label x) (round_up (length_of (leaving_option x) + length kept))

module _ (f : Forwarding) (l : Label) (s : sizes f ≡ none) (r : records f ≡ none) (o : MeansAt f.arriving f.area l)
    (good : bad_basic_check f.arriving f.area ≡ none) (d : l.domain ≡ f.arriving.domain) where
  read : Reads f.arriving f.area l
  read = label_reads f.arriving f.area l (own o.0 o.1 o.2 o.3 d o.4)

  pub label_is : arriving_label f.arriving f.area ≡ l
  label_is = read.label

  pub checks_are : first_of (forward_checks f) ≡ rest_of f.arriving f.leaving (arriving_basic f.arriving f.area) l (crossing f) (kept_of f.area)
  unfolding missing_basic_check basic_range_check leaving_basic_check range_check
  checks_are =
      rw (s, r, read.walk, read.required, read.option, good)
      (ap (λ (z : Label). rest_of f.arriving f.leaving (arriving_basic f.arriving f.area) z (crossing f) (kept_of f.area)) read.label)

  pub decision_is : forward_of f ≡ decision_of (silenced f.facts) f.arriving f.leaving (arriving_basic f.arriving f.area) l (crossing f) (kept_of f.area)
  unfolding forward_of
  decision_is = rw checks_are

-- kept options alike have the option 130 alike
pub basic_alike : (p q : Port) (a b : List ℕ) (l m : Label) → MeansAt p a l → MeansAt q b m → kept_of a ≡ kept_of b → arriving_basic p a ≡ arriving_basic q b
basic_alike p q a b l m x y k =
    basic_kept p a (Some x.0) x.1 x.2 ∙ ap (λ (ks : List ℕ). basic_from ks 0) k ∙ sym (basic_kept q b (Some y.0) y.1 y.2)

module _ (f g : Forwarding) (l : Label) (a : Alike f g l) where
  domain_g : l.domain ≡ g.arriving.domain
  domain_g = a.domain ∙ ap (λ (p : Port). p.domain) a.arriving

  crossing_alike : crossing f ≡ crossing g
  crossing_alike =
      let e : arriving_label f.arriving f.area ≡ arriving_label g.arriving g.area =
      label_is f l a.sized.0 a.sound.0 a.first a.good.0 a.domain ∙ sym (label_is g l a.sized.1 a.sound.1 a.second a.good.1 domain_g) in
      λ i. record { label = e i; domain = (a.arriving i).domain; leaving = a.leaving i; table = a.table i; levels = a.levels i }

  pub decided_alike : forward_of f ≡ forward_of g
  decided_alike =
      let o = basic_alike f.arriving g.arriving f.area g.area l l a.first a.second a.kept in
      decision_is f l a.sized.0 a.sound.0 a.first a.good.0 a.domain
      ∙ (λ i. decision_of (silenced (a.facts i)) (a.arriving i) (a.leaving i) (o i) l (crossing_alike i) (a.kept i))
      ∙ sym (decision_is g l a.sized.1 a.sound.1 a.second a.good.1 domain_g)

  -- the first 40 octets of a leaving area, whatever the output held
  first_40 : (s kept out : List ℕ) → length s + length kept ≤ 40 → take 40 (leaving_of s kept out) ≡ s ++ (kept ++ replicate (40 - (length s + length kept)) 0)
  first_40 s kept out h =
      let z : List ℕ = replicate (40 - (length s + length kept)) 0 in
      let n : length (s ++ (kept ++ z)) ≡ 40 = simp (length-append, length-replicate) (omega arith) in
      let e : leaving_of s kept out ≡ (s ++ (kept ++ z)) ++ drop 40 out = simp append_assoc in
      ap (take 40) e ∙ take_at (s ++ (kept ++ z)) (drop 40 out) 40 n

  output_is : (h : Forwarding) (s out : List ℕ) → first_of (forward_checks h) ≡ none → leaving_option (crossing h) ≡ some s → output_of h out ≡ leaving_of s (kept_of h.area) out
  unfolding output_of
  output_is h s out e o = rw (e, o)

  pub written_alike : (out out' : List ℕ) → (forward_of f).number ≡ 0 → take 40 (output_of f out) ≡ take 40 (output_of g out')
  written_alike out out' e =
      let nf = forwarded_passes f e in
      let ng = forwarded_passes g (ap (λ (d : Decision). d.number) (sym decided_alike) ∙ e) in
      let p = forward_passed f nf in
      let s = p.fits.octets in
      let og : leaving_option (crossing g) ≡ some s = ap leaving_option (sym crossing_alike) ∙ p.fits.spelled in
      let room : length s + length (kept_of g.area) ≤ 40 = rw (sym a.kept) p.fits.room in
      ap (take 40) (output_is f s out nf p.fits.spelled)
      ∙ first_40 s (kept_of f.area) out p.fits.room
      ∙ ap (λ (k : List ℕ). s ++ (k ++ replicate (40 - (length s + length k)) 0)) a.kept
      ∙ sym (first_40 s (kept_of g.area) out' room)
      ∙ sym (ap (take 40) (output_is g s out' ng og))

-- the same of deliveries
abbrev held_of : Port → Host → Option (List ℕ) → Label → Option Refusal
held_of p h o l =
    first_of
    (missing_basic_by o p.basic.on
    ∷ when (not (basic_passes p.basic.on p.basic.receiving o)) (barred 21 10)
    ∷ when (not (in_range p.lowest p.highest l)) (barred 14 10)
    ∷ when (not (in_range h.lowest h.highest l)) (barred 15 10)
    ∷ [])

delivery_is : (d : Delivery) (l : Label) → delivery_sizes d ≡ none → delivery_records d ≡ none
    → MeansAt d.port d.area l → bad_basic_check d.port d.area ≡ none → l.domain ≡ d.port.domain
    → deliver_of d ≡ decided (silenced d.facts) (held_of d.port d.host (arriving_basic d.port d.area) l) l 0
unfolding missing_basic_check basic_range_check range_check host_check deliver_of
delivery_is d l s r o good e =
    let q = label_reads d.port d.area l (own o.0 o.1 o.2 o.3 e o.4) in
    rw (s, r, q.walk, q.required, q.option, good)
    (ap (λ (z : Label). decided (silenced d.facts) (held_of d.port d.host (arriving_basic d.port d.area) z) z 0) q.label)

pub delivered_alike : (d e : Delivery) (l : Label) → AlikeDelivered d e l → deliver_of d ≡ deliver_of e
delivered_alike d e l a =
    let o = basic_alike d.port e.port d.area e.area l l a.first a.second a.kept in
    delivery_is d l a.sized.0 a.sound.0 a.first a.good.0 a.domain
    ∙ (λ i. decided (silenced (a.facts i)) (held_of (a.port i) (a.host i) (o i) l) l 0)
    ∙ sym (delivery_is e l a.sized.1 a.sound.1 a.second a.good.1 (a.domain ∙ ap (λ (p : Port). p.domain) a.port))

pub demand3 : Demand3
demand3 =
    record {
      refused = refused_exactly;
      eighteen = eighteen_exactly;
      bitmap = λ l s o w q m e. bitmap_shortest l s o w m q e;
      pairs = λ l s o w q m e. pairs_shortest l s o w m q e;
      alone = spelled_alone;
      leaving = spelled_in_area;
      usual_refused = refused_usual;
      usual_alone = alone_usual;
      usual_leaving = leaving_usual;
      back = reads.alone.back;
      told = told_apart;
      decided = λ f g l a. decided_alike f g l a;
      written = λ f g l out out' a h h' e. written_alike f g l a out out' e;
      delivered = delivered_alike;
    }
