-- The theorems of `specs/Theorems.antt`.
use mathlib.Core.Path.{◌≡◌, refl, ◌∙◌}
use native.Mathlib.Omega.{arith}
use native.Mathlib.Nat.{le_refl}
use Rattle.label.specs.declared.Label.{Label}
use Rattle.label.specs.Runs.{subset, all_below}
use Rattle.label.specs.Label.{well_formed, label_typed, at_most, leq}
use Rattle.label.specs.Theorems.{OneForm, AtMost, Comparing, OnePass, PartialOrder, examples, Holds}
use Rattle.label.proofs.Labels.{formed, same_runs, same_label, leq_says, leq_said, compared_at_most}
use Rattle.label.proofs.Pass.{passes_subset, rounds_most}
use Rattle.label.proofs.Bools.{same_yes}

pub one_form : OneForm
one_form a b wa wb d v m = same_label a b (formed a wa) (formed b wb) d v (same_runs a b wa wb m)

pub comparing : Comparing
comparing = record { says = leq_says; said = leq_said }

pub one_pass : OnePass
one_pass = record { categories = passes_subset; labels = compared_at_most; turns = rounds_most }

both_ways : (a b : Label) → AtMost a b → AtMost b a → a ≡ b
both_ways a b h k =
    let v : a.level ≡ b.level = omega (arith, h.level, k.level) in
    one_form a b h.first h.second h.domain v (λ c. same_yes _ _ (h.categories c) (k.categories c))

pub partial_order : PartialOrder
partial_order =
    record {
      reflexive = λ a w. leq_said a a (record { first = w; second = w; domain = refl; level = le_refl a.level; categories = λ c m. m });
      antisymmetric = λ a b e f. both_ways a b (leq_says a b e) (leq_says b a f);
      transitive = λ a b c e f.
          let h = leq_says a b e in
          let k = leq_says b c f in
          leq_said a c
          (record {
            first = h.first;
            second = k.second;
            domain = h.domain ∙ k.domain;
            level = omega (arith, h.level, k.level);
            categories = λ x m. k.categories x (h.categories x m);
          });
    }

pub examples_hold : Holds examples
unfolding well_formed label_typed at_most leq subset all_below
examples_hold = (refl, refl, (refl, refl, (refl, refl, (refl, refl, (refl, refl, (refl, refl, (refl, refl, (refl, refl, tt))))))))
