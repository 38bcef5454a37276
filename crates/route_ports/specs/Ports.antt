-- Document 02, Wish 7: a lent list of ports. The port of a number, and what is to be known of all of them before one is read: whether they are sound, and the
-- domain of each.
use Rattle.std.specs.Prelude.{Bool, true, false, ◌&&◌, List, [], ◌∷◌, ◌++◌, map, ℕ, ◌-◌, leb, length, take, replicate, get_or}
use Rattle.label.specs.Label.{zero_label}
use Rattle.port.specs.declared.Port.{Port}
use Rattle.port.specs.Port.{plain_port, port_sound}
use Rattle.route_ports.specs.declared.Survey.{Survey}

-- what stands for a port that is not in the list: its domain is 0, so that it is not sound
abbrev pub unlisted_port : Port
unlisted_port = plain_port 0 zero_label zero_label false zero_label

-- the port of a number, counted from 0
unfoldable pub port_at : List Port → ℕ → Port
port_at ps i = get_or ps i unlisted_port

-- every port of the list is sound
abbrev pub all_sound : List Port → Bool
all_sound [] = true
all_sound (p ∷ ps) = port_sound p && all_sound ps

-- "up to 64 port records", each sound, read or not
unfoldable pub ports_sound : List Port → Bool
ports_sound ps = leb (length ps) 64 && all_sound ps

-- the domain of each port, by its number
abbrev pub domains_of : List Port → List ℕ
domains_of ps = map (λ p. p.domain) ps

-- of the first 64 ports: how many there are, and the domain of each, with zeros behind them; and whether all are sound
unfoldable pub survey_of : List Port → Survey
survey_of ps =
    record {
      sound = ports_sound ps;
      count = length (take 64 ps);
      domains = domains_of (take 64 ps) ++ replicate (64 - length ps) 0;
    }
