-- The box keeps the order of labels.
use mathlib.Core.Path.{◌≡◌, refl, sym, ◌∙◌, ap}
use mathlib.Core.Bool.{Bool, true, false}
use borrow.Author.Tests.{eqb-true, eqb-false}
use Rattle.label.specs.Label.{leq}
use Rattle.option.specs.Option.{Octets}
use Rattle.port.specs.declared.Port.{Port}
use Rattle.renumber.specs.Renumber as renumbers
use Rattle.renumber.specs.Renumber.{renumbered_of}
use Rattle.renumber.proofs.Theorems.{renumbering, keeps_order}
use Rattle.arrive.specs.Checks.{arriving_label}
use Rattle.arrive.proofs.Arrival.{in_range_held}
use Rattle.forward_rules.specs.Crossing.{Forwarding, same_domain, crossing, leaving_label}
use Rattle.forward_rules.specs.Forward.{forward_of}
use Rattle.demands.specs.Demands.{Forwards}
use Rattle.demands.proofs.Second.{passed_forwards}
use Rattle.demands.proofs.Again.{p, s, label_is}

-- with other domains, the label that leaves is the arriving one renumbered
module _ (f : Forwarding) (oct : Octets f.area) (e : (forward_of f).number ≡ 0) where
  holds : Forwards f (arriving_label f.arriving f.area) (leaving_label (crossing f)) (s f e)
  holds = passed_forwards f (p f e) oct

  renumbered : (f.arriving.domain ≡ f.leaving.domain → ⊥)
      → renumbered_of (arriving_label f.arriving f.area) f.table f.levels ≡ renumbers.renumbered_as (leaving_label (crossing f))
  renumbered d =
      let h = in_range_held f.arriving (arriving_label f.arriving f.area) holds.arriving holds.arrives in
      renumbering.found (arriving_label f.arriving f.area) f.table f.levels (leaving_label (crossing f)) (holds.table d) h.formed (h.domain ∙ sym (holds.from d)) (holds.numbered d)

pub order_kept : (f g : Forwarding) → Octets f.area → Octets g.area
    → f.arriving ≡ g.arriving → f.leaving ≡ g.leaving → f.table ≡ g.table → f.levels ≡ g.levels
    → (forward_of f).number ≡ 0 → (forward_of g).number ≡ 0
    → leq (arriving_label f.arriving f.area) (arriving_label g.arriving g.area) ≡ leq (forward_of f).label (forward_of g).label
order_kept f g of og ea el et es e e' = by (same_domain f) refl ∙ sym (λ i. leq (label_is f e i) (label_is g e' i))
  where
    by : (b : Bool) → same_domain f ≡ b
        → leq (arriving_label f.arriving f.area) (arriving_label g.arriving g.area) ≡ leq (leaving_label (crossing f)) (leaving_label (crossing g))
    by true d =
        let x : f.arriving.domain ≡ f.leaving.domain = eqb-true _ _ d in
        let y : g.arriving.domain ≡ g.leaving.domain = ap (λ (p : Port). p.domain) (sym ea) ∙ x ∙ ap (λ (p : Port). p.domain) el in
        λ i. leq ((holds f of e).stays x i) ((holds g og e').stays y i)
    by false d =
        let x : (f.arriving.domain ≡ f.leaving.domain → ⊥) = eqb-false _ _ d in
        let y : (g.arriving.domain ≡ g.leaving.domain → ⊥) = λ z. x (ap (λ (p : Port). p.domain) ea ∙ z ∙ ap (λ (p : Port). p.domain) (sym el)) in
        let r : renumbered_of (arriving_label g.arriving g.area) f.table f.levels ≡ renumbers.renumbered_as (leaving_label (crossing g)) =
        (λ i. renumbered_of (arriving_label g.arriving g.area) (et i) (es i)) ∙ renumbered g og e' y in
        keeps_order (arriving_label f.arriving f.area) (arriving_label g.arriving g.area) f.table f.levels (leaving_label (crossing f)) (leaving_label (crossing g)) (renumbered f of e x) r
