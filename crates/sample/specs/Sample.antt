-- Document 01, "The sample program": the line of an area is the line of the gateway's decision.
use Rattle.std.specs.Prelude.{ℕ, cond, List, replicate, eqb}
use Rattle.decision.specs.declared.Decision.{Decision}
use Rattle.decision.specs.Decision.{no_fact}
use Rattle.port.specs.declared.Port.{Port}
use Rattle.table.specs.Table.{Lent}
use Rattle.forward_rules.specs.Crossing.{Forwarding}
use Rattle.forward_rules.specs.Forward.{forwarding_of}
use Rattle.forward_rules.specs.Forward.{forward_of, output_of}
use Rattle.text.specs.Line.{forward_line, drop_line}

-- a decision's line, with the octets of the leaving area where it is forwarded
unfoldable pub decision_line : Decision → List ℕ → List ℕ
decision_line d area = cond (eqb d.number 0) (forward_line d.count area) (drop_line d.number d.kind d.code d.pointer)

-- the line of what `forward` decides, with no fact that silences and 40 octets for the leaving area
unfoldable pub forwarding_line : Forwarding → List ℕ
forwarding_line f = decision_line (forward_of f) (output_of f (replicate 40 0))

abbrev pub area_line : Port → Port → Lent → List (List ℕ) → List ℕ → List ℕ
area_line arriving leaving table levels area = forwarding_line (forwarding_of arriving leaving table levels no_fact area 40)
