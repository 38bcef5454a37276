-- The usual kind of port, which is decided on without a copy of it.
use Rattle.std.specs.Prelude.{Bool, not, ◌&&◌, eqb, leb}
use Rattle.port.specs.declared.Port.{Port}
use Rattle.port.specs.Port.{port_sound}

-- as most ports are: a label is required, no option 130 is read, the hosts behind it have labels, slack spellings are not stopped, and its range goes
-- from no categories to those of at most one run
unfoldable pub looks_usual : Port → Bool
looks_usual p =
    p.required && (not p.unlabelled && (not p.strict && (not p.basic.on && (eqb p.lowest.count 0 && leb p.highest.count 1))))

-- such a port that is sound
unfoldable pub usual_port : Port → Bool
usual_port p = looks_usual p && port_sound p
