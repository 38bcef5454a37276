-- Document 02, Wish 9, over what the box decides, with two ports, at a host, and with many ports (Wish 7): about a whole header, no report of the box is 2;
-- nothing is sent for a datagram that is forwarded, delivered or silenced; and every other refusal but 3 to 5, 7 to 13 and 23 is answered.
use Rattle.std.specs.Prelude.{ℕ, ◌≡◌, true, false, List}
use Rattle.std.proofs.Math.Option.{none}
use Rattle.option.specs.Option.{Octets}
use Rattle.decision.specs.declared.Facts.{Facts}
use Rattle.decision.specs.declared.Decision.{Decision}
use Rattle.decision.specs.Decision.{silenced}
use Rattle.message.specs.Message.{whole_header}
use Rattle.message_build.specs.declared.Report.{Report}
use Rattle.message_build.specs.Build.{silent, unsound, unanswered, area_of, sent}
use Rattle.forward_rules.specs.Crossing.{Forwarding}
use Rattle.forward_rules.specs.Forward.{forward_of}
use Rattle.deliver.specs.Delivery.{Delivery, deliver_of}
use Rattle.route_decide.specs.Routing.{Routing, routing_of}

-- what the box decides: a forwarding between two ports, a delivery, or a forwarding by a box of many ports
pub data Job : Type 0 where
  forwarding : Forwarding → Job
  delivery : Delivery → Job
  routing : Routing → Job

abbrev pub decision_of : Job → Decision
decision_of (forwarding f) = forward_of f
decision_of (delivery d) = deliver_of d
decision_of (routing b) = routing_of b

-- the five facts of RFC 1122 (Wish 2), and the options area of the datagram
abbrev pub facts_of : Job → Facts
facts_of (forwarding f) = f.facts
facts_of (delivery d) = d.facts
facts_of (routing b) = b.facts

abbrev pub area_in : Job → List ℕ
area_in (forwarding f) = f.area
area_in (delivery d) = d.area
area_in (routing b) = b.area

-- the report of a decision
abbrev pub report_of : Decision → Report
report_of d = record { number = d.number; kind = d.kind; code = d.code; pointer = d.pointer }

pub record Reports : Type 0 where
  pub sound : (j : Job) (header : List ℕ) → whole_header header ≡ true → unsound (report_of (decision_of j)) header ≡ false
  -- it went on its way
  pub done : (j : Job) (header : List ℕ) → (decision_of j).number ≡ 0 → sent (report_of (decision_of j)) header ≡ none
  -- one of the five facts holds
  pub quiet : (j : Job) (header : List ℕ) → silenced (facts_of j) ≡ true → sent (report_of (decision_of j)) header ≡ none
  -- a refusal that is not silent, and none of 3 to 5, 7 to 13 and 23, is sent: an option 134 that got so far is valid
  pub answers : (j : Job) (header : List ℕ) → area_of header ≡ area_in j → Octets (area_in j)
      → silent (report_of (decision_of j)) ≡ false → unanswered (decision_of j).number ≡ false → sent (report_of (decision_of j)) header ≡ none → ⊥
  -- no matching route is 22, 3/0/0
  pub unrouted : (b : Routing) → silenced b.facts ≡ false → (routing_of b).number ≡ 22
      → report_of (routing_of b) ≡ record { number = 22; kind = 3; code = 0; pointer = 0 }
