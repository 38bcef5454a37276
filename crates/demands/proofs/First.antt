-- Demand 1: the first refusal that applies decides.
use mathlib.Core.Path.{◌≡◌, sym, ◌∙◌, ap}
use mathlib.Core.List.{List, ◌∷◌}
use mathlib.Core.Option.{Option, some}
use Rattle.decision.specs.declared.Refusal.{Refusal}
use Rattle.arrive.specs.Checks.{first_of}
use Rattle.deliver.specs.Delivery.{deliver_checks}
use Rattle.arrive.proofs.First.{first_append, none_first}
use Rattle.deliver.proofs.Deliveries.{deliver_refused}
use Rattle.forward_rules.specs.Forward.{forward_checks}
use Rattle.forward_rules.proofs.Forwards.{forward_refused}
use Rattle.demands.specs.Demands.{FirstIs, Demand1}

pub first_is : (cs : List (Option Refusal)) (x : Refusal) → FirstIs cs x → first_of cs ≡ some x
first_is cs x f =
    ap first_of f.order
    ∙ first_append f.before (some x ∷ f.after)
    ∙ rw (none_first f.before f.passed)

pub demand1 : Demand1
demand1 =
    record {
      forward = λ f x out h. (let q = forward_refused f x out (first_is (forward_checks f) x h) in (sym q.0, sym q.1));
      deliver = λ d x h. sym (deliver_refused d x (first_is (deliver_checks d) x h));
    }
