-- The leaving area: its count, and what it is when it is read again.
use mathlib.Core.Path.{◌≡◌, refl, sym, ◌∙◌, ap, transport}
use mathlib.Core.Bool.{Bool, true, false}
use mathlib.Core.List.{List, [], ◌++◌, append_assoc, append-nil}
use mathlib.Core.Option.{Option, some}
use Prim.Native.Nat.{ℕ, ◌+◌, ◌-◌, ◌%◌, ◌≤◌}
use native.Mathlib.Omega.{arith}
use lib.ListN.{length, get_or, take, drop, replicate, length-append, length-replicate, replicate-append-replicate, get_or-append}
use lib.Seq.{take_at}
use Rattle.label.specs.declared.Label.{Label}
use Rattle.label.proofs.Bools.{and_left, and_right}
use Rattle.option.specs.declared.Spellings.{Spellings}
use Rattle.option.specs.Spelling.{spelled_of}
use Rattle.option.specs.Theorems.{Spells}
use Rattle.option.proofs.Meaning.{parts}
use Rattle.option_slack.proofs.Theorems.{slackness}
use Rattle.option.proofs.OneSpelling.{one_spelling}
use Rattle.area.specs.declared.Kind.TheVariants.{Cipso}
use Rattle.std.specs.Prelude.{Ok, Some, None}
use Rattle.area.specs.Kinds.{Place, Walk, places}
use Rattle.area.specs.Kinds.{kind_of}
use Rattle.area.specs.Area.{met_of, walk_of, octets_at}
use Rattle.area_leaving.specs.Kept.{kept_of, round_up, leaving_of}
use Rattle.area_leaving.proofs.Again.{Starts, Again, free_nowhere, basic_from, kept_again, front_walk, front_kept}
use Rattle.port.specs.declared.Port.{Port}
use Rattle.port.specs.Port.{port_sound}
use Rattle.decision.specs.declared.Decision.{Decision}
use Rattle.arrive.specs.Checks.{walk_at, basic_in, option_at, arriving_basic, arriving_label}
use Rattle.decision.specs.Decision.{done}
use Rattle.arrive.proofs.Arrival.{arrival_held}
use Rattle.forward_rules.specs.Crossing.{Forwarding, crossing, leaving_label}
use Rattle.forward_rules.specs.Forward.{forward_of, output_of}
use Rattle.forward_rules.proofs.Crossings.{label_stays}
use Rattle.forward_rules.proofs.Forwards.{Passed, forward_passed, passed_formed, forward_done, leaving_spelled, kept_fits}
use Rattle.demands.specs.Demands.{LabelOf, own}
use Rattle.demands.specs.Guards.{Counts, Reads, leaving_area, ReadsBare}
use Rattle.demands.proofs.Basic.{basic_kept, there, passed_walk, passed_switch, same_switch}
use Rattle.demands.proofs.Second as second
use Rattle.demands.proofs.Second.{label_reads, forwarded_passes, same_some}

-- The count.
counts : (s k : ℕ) → s + k ≤ 40 → Counts (round_up (s + k)) s k
counts s k h = omega arith

-- Option, kept options and zeros.
abbrev pub padding : List ℕ → List ℕ → ℕ
padding s kept = round_up (length s + length kept) - (length s + length kept)

abbrev pub laid : List ℕ → List ℕ → List ℕ
laid s kept = s ++ (kept ++ replicate (padding s kept) 0)

module _ (s kept : List ℕ) (h : length s + length kept ≤ 40) where
  laid_length : length (laid s kept) ≡ round_up (length s + length kept)
  laid_length = simp (length-append, length-replicate) (omega arith)

  laid_first : (out : List ℕ) → take (round_up (length s + length kept)) (leaving_of s kept out) ≡ laid s kept
  laid_first out =
      let m : ℕ = length s + length kept in
      let n : ℕ = round_up (length s + length kept) in
      let c = counts (length s) (length kept) h in
      let sum : (n - m) + (40 - n) ≡ 40 - m = omega (arith, c.least, c.fits) in
      let z : replicate {A = ℕ} (40 - m) 0 ≡ replicate (n - m) 0 ++ replicate (40 - n) 0 =
      ap (λ (i : ℕ). replicate {A = ℕ} i 0) (sym sum) ∙ sym (replicate-append-replicate (n - m) (40 - n) 0) in
      let e : leaving_of s kept out ≡ laid s kept ++ (replicate (40 - n) 0 ++ drop 40 out) = rw z (simp append_assoc) in
      ap (take n) e ∙ take_at (laid s kept) (replicate (40 - n) 0 ++ drop 40 out) n laid_length

-- Read again: an option that spells the label, what another area kept, with the octets of its option 130, and zeros.
module _ (on : Bool) (s kept : List ℕ) (c : Option (List ℕ)) (l : Label) (h : length s + length kept ≤ 40) (set : Spellings) (sp : Spells set s l) (a : Again on kept c) where
  starts : Starts s Cipso
  starts =
      let p = parts s sp.permitted.means.good in
      record { kind = ap kind_of p.kind; size = p.size; least = omega (arith, p.long) }

  option_is : option_at 0 (laid s kept) ≡ s
  option_is =
      let p = parts s sp.permitted.means.good in
      let g : get_or (laid s kept) 1 0 ≡ length s = get_or-append s _ 0 1 (omega (arith, p.long)) ∙ p.size in
      rw g (take_at s _ (length s) refl)

  walked : (b : Place) × (walk_of on (laid s kept) ≡ Ok (places (Some 0) b))
  walked = front_walk on s kept c (padding s kept) starts (parts s sp.permitted.means.good).kind a

  walked_at : (p : Port) → p.basic.on ≡ on → walk_at p (laid s kept) ≡ Ok (places (Some 0) walked.0)
  walked_at p e = ap (λ (t : Bool). walk_of t (laid s kept)) e ∙ walked.1

  kept_is : kept_of (laid s kept) ≡ kept
  kept_is = front_kept on s kept c (padding s kept) starts (parts s sp.permitted.means.good).kind a

  basic_is : (p : Port) → p.basic.on ≡ on → arriving_basic p (laid s kept) ≡ c
  basic_is p e =
      basic_kept p (laid s kept) (Some 0) walked.0 (walked_at p e)
      ∙ ap (λ (ks : List ℕ). basic_from ks 0) kept_is
      ∙ a.found kept 0 0 (sym (append-nil kept))

  labelled : (p : Port) → p.basic.on ≡ on → p.domain ≡ l.domain → LabelOf p (laid s kept) l
  labelled p e d =
      own 0 walked.0 (walked_at p e) (rw option_is sp.permitted.means) (sym d) (λ t. rw option_is (slackness.permitted set s l sp.permitted))

  pub read_again : (domain : ℕ) → l.domain ≡ domain → Reads (laid s kept) on domain set l c kept
  read_again domain d =
      let k = counts (length s) (length kept) h in
      let n = laid_length s kept h in
      record {
        area = record { few = omega (arith, k.fits); fourfold = ap (λ (i : ℕ). i % 4) n ∙ k.fourfold };
        walk = walked;
        spelled = rw option_is sp;
        required = λ p o e. (label_reads p (laid s kept) l (labelled p o (e ∙ sym d))).required;
        option = λ p o e. (label_reads p (laid s kept) l (labelled p o (e ∙ sym d))).option;
        label = λ p o e. (label_reads p (laid s kept) l (labelled p o (e ∙ sym d))).label;
        basic = basic_is;
        kept = kept_is;
        counted = rw (option_is, n) k;
      }

-- Read again without an option: what another area kept, and zeros.
read_bare : (on : Bool) (kept : List ℕ) (c : Option (List ℕ)) → length kept ≤ 40 → Again on kept c → ReadsBare (laid [] kept) on kept
unfolding walk_of kept_of met_of
read_bare on kept c h a =
    let l : 0 + length kept ≤ 40 = omega arith in
    let k = counts 0 (length kept) l in
    let n = laid_length [] kept l in
    record {
      area = record { few = omega (arith, k.fits); fourfold = ap (λ (i : ℕ). i % 4) n ∙ k.fourfold };
      walk = a.walk (padding [] kept) 0 None None (free_nowhere c);
      kept = a.kept (kept ++ replicate (padding [] kept) 0) (padding [] kept) 0 refl;
      counted = rw n k;
    }

-- A forwarding.
module _ (f : Forwarding) (e : (forward_of f).number ≡ 0) where
  pub p : Passed f
  p = forward_passed f (forwarded_passes f e)

  abbrev pub s : List ℕ
  s = p.fits.octets

  abbrev pub m : Label
  m = leaving_label (crossing f)

  is_done : (out : List ℕ) → (forward_of f ≡ done m (round_up (length s + length (kept_of f.area)))) × (output_of f out ≡ leaving_of s (kept_of f.area) out)
  is_done out = forward_done f s out (forwarded_passes f e) p.fits.spelled

  count_is : (forward_of f).count ≡ round_up (length s + length (kept_of f.area))
  count_is = ap (λ (d : Decision). d.count) (is_done []).0

  pub label_is : (forward_of f).label ≡ m
  label_is = ap (λ (d : Decision). d.label) (is_done []).0

  pub spelled : f.leaving.unlabelled ≡ false → spelled_of f.leaving.spellings m ≡ some s
  spelled o = leaving_spelled (crossing f) o ∙ p.fits.spelled

  spells : f.leaving.unlabelled ≡ false → Spells f.leaving.spellings s m
  spells o = (one_spelling.spells f.leaving.spellings m s (passed_formed f p)).0 (spelled o)

  pub area_is : (out : List ℕ) → leaving_area f out ≡ laid s (kept_of f.area)
  area_is out = rw count_is (ap (take (round_up (length s + length (kept_of f.area)))) (is_done out).1 ∙ laid_first s (kept_of f.area) p.fits.room out)

  again : Again f.leaving.basic.on (kept_of f.area) (arriving_basic f.arriving f.area)
  unfolding arriving_basic
  again =
      let q = passed_walk f.arriving f.area 9 p.arrived in
      let c : octets_at q.1 f.area ≡ octets_at (basic_in (walk_at f.arriving f.area)) f.area = ap (λ (w : Walk). octets_at (basic_in w) f.area) (sym q.2) in
      transport (λ i. Again (same_switch f p i) (kept_of f.area) (c i)) (kept_again f.arriving.basic.on f.area q.0 q.1 q.2)

  pub counted : f.leaving.unlabelled ≡ false → (s : List ℕ) × Spells f.leaving.spellings s (forward_of f).label × Counts (forward_of f).count (length s) (length (kept_of f.area))
  counted o = (s, rw label_is (spells o), rw count_is (counts (length s) (length (kept_of f.area)) p.fits.room))

  pub reads_again : (out : List ℕ) → f.leaving.unlabelled ≡ false
      → Reads (leaving_area f out) f.leaving.basic.on f.leaving.domain f.leaving.spellings (forward_of f).label (arriving_basic f.arriving f.area) (kept_of f.area)
  reads_again out o =
      rw (area_is out, label_is)
      (read_again f.leaving.basic.on s (kept_of f.area) (arriving_basic f.arriving f.area) m p.fits.room f.leaving.spellings (spells o) again f.leaving.domain refl)

  -- toward unlabelled hosts
  pub default_label : f.leaving.unlabelled ≡ true → (forward_of f).label ≡ f.leaving.default
  default_label o = label_is ∙ second.passed_default f p o

  pub reads_bare : (out : List ℕ) → f.leaving.unlabelled ≡ true → ReadsBare (leaving_area f out) f.leaving.basic.on (kept_of f.area)
  reads_bare out o =
      rw (area_is out, second.passed_bare f p o)
      (read_bare f.leaving.basic.on (kept_of f.area) (arriving_basic f.arriving f.area) (kept_fits f.area p.area) again)

-- A second forwarding, of what has left, through equal domains.
module _ (f g : Forwarding) (out out' : List ℕ) (e : (forward_of f).number ≡ 0) (e' : (forward_of g).number ≡ 0) (area : g.area ≡ leaving_area f out)
    (from : g.arriving.domain ≡ f.leaving.domain) (to : g.leaving.domain ≡ f.leaving.domain)
    (set : g.leaving.spellings ≡ f.leaving.spellings) (o : f.leaving.unlabelled ≡ false) (o' : g.leaving.unlabelled ≡ false) where
  same_kept : kept_of g.area ≡ kept_of f.area
  same_kept = ap kept_of area ∙ (reads_again f e out o).kept

  -- the second arriving port reads option 130 as the first leaving port does: each does exactly where the kept options have one
  switch : g.arriving.basic.on ≡ f.leaving.basic.on
  switch =
      let a = passed_walk f.arriving f.area 9 (p f e).arrived in
      let b = passed_walk g.arriving g.area 9 (p g e').arrived in
      passed_switch g.arriving g.area 9 (p g e').arrived
      ∙ ap there (basic_kept g.arriving g.area b.0 b.1 b.2 ∙ ap (λ (ks : List ℕ). basic_from ks 0) same_kept ∙ sym (basic_kept f.arriving f.area a.0 a.1 a.2))
      ∙ sym (passed_switch f.arriving f.area 9 (p f e).arrived)
      ∙ same_switch f (p f e)

  same_label : leaving_label (crossing g) ≡ leaving_label (crossing f)
  same_label =
      let q = p g e' in
      let a = and_left (port_sound g.arriving) _ q.sound in
      let l = and_left (port_sound g.leaving) _ (and_right (port_sound g.arriving) _ q.sound) in
      let h = arrival_held g.arriving g.area 9 a q.arrived in
      label_stays (crossing g) h.formed h.domain l (from ∙ sym to)
      ∙ ap (arriving_label g.arriving) area
      ∙ (reads_again f e out o).label g.arriving switch from
      ∙ label_is f e

  same_option : (p g e').fits.octets ≡ (p f e).fits.octets
  same_option = same_some (sym (spelled g e' o') ∙ (λ i. spelled_of (set i) (same_label i)) ∙ spelled f e o)

  pub forwarded_again : (forward_of g ≡ forward_of f) × (leaving_area g out' ≡ leaving_area f out)
  forwarded_again = (
    (is_done g e' []).0 ∙ (λ i. done (same_label i) (round_up (length (same_option i) + length (same_kept i)))) ∙ sym (is_done f e []).0,
    area_is g e' out' ∙ (λ i. laid (same_option i) (same_kept i)) ∙ sym (area_is f e out),
  )
