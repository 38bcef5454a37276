-- The rows of `specs/Examples.antt` are those that the definitions compute.
use mathlib.Core.Path.{refl}
use Rattle.text.specs.Text.{leading, decimal}
use Rattle.decision.specs.Decision.{silenced}
use Rattle.port.specs.Port.{port_sound}
use Rattle.forward_rules.specs.Crossing.{sizes, records}
use Rattle.forward_rules.specs.Forward.{forward_of, output_of}
use Rattle.route_ports.specs.Ports.{port_at}
use Rattle.inspect_split.specs.Records.{is_record, split_from}
use Rattle.inspect_claim.specs.Claim.{parses, claim_of}
use Rattle.inspect_claim.specs.Compare.{finding_of}
use Rattle.inspect_line.specs.Lines.{finding_by, differs_line, finding_line, record_line}
use Rattle.inspect_line.specs.Examples.{WorkedLines}

pub worked_lines : WorkedLines
unfolding leading decimal silenced port_sound sizes records forward_of output_of port_at is_record split_from parses claim_of finding_of finding_by differs_line finding_line record_line
worked_lines =
    record {
      right = refl;
      number = refl;
      kind = refl;
      code = refl;
      pointer = refl;
      length = refl;
      empty = refl;
      version = refl;
      port = refl;
      fact = refl;
      long = refl;
      tens = refl;
      input = refl;
    }
