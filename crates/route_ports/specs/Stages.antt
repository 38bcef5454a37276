-- What the private functions answer; no public contract names these.
use Rattle.std.specs.Prelude.{true, false, cond, ◌&&◌, ◌+◌, leb, set, replicate}
use Rattle.port.specs.declared.Port.{Port}
use Rattle.port.specs.Port.{port_sound}
use Rattle.route_ports.specs.declared.Survey.{Survey}

abbrev pub start_of : Survey
start_of = record { sound = true; count = 0; domains = replicate 64 0 }

-- one port more
abbrev pub noted_by : Survey → Port → Survey
noted_by s p =
    cond (leb 64 s.count) (record { sound = false; count = s.count; domains = s.domains })
    (record { sound = s.sound && port_sound p; count = s.count + 1; domains = set s.domains s.count p.domain })
