-- A port in a few numbers, and the port that these numbers say with lists of keys and of flag fields.
use Rattle.std.specs.Prelude.{cond, List, map, ◌++◌, ℕ, ◌-◌, length, take, replicate}
use Rattle.label.specs.declared.Label.{Label}
use Rattle.label.specs.Label.{used, label_of}
use Rattle.label_keys.specs.Keys.{key_runs, run_key}
use Rattle.basic.specs.declared.Way.{Way}
use Rattle.port.specs.declared.Port.{Port}
use Rattle.gate.specs.declared.Gate.{Gate}

-- all of a port but its lists
abbrev pub gate_of : Port → Gate
gate_of p =
    record {
      domain = p.domain;
      required = p.required;
      on = p.basic.on;
      unlabelled = p.unlabelled;
      strict = p.strict;
      spellings = p.spellings;
      low = p.lowest.level;
      high = p.highest.level;
      given = p.assigned.level;
      only = p.default.level;
      least = p.basic.receiving.lowest;
      most = p.basic.receiving.highest;
      first = p.basic.sending.lowest;
      last = p.basic.sending.highest;
    }

-- its lists: the runs of a label as keys, the flag fields of a way
abbrev pub label_keys : Label → List ℕ
label_keys l = map run_key (used l)

abbrev pub fields_of : Way → List ℕ
fields_of w = take w.count w.flags

-- the way with these levels and flag fields; the rest of its 256 places are 0
abbrev pub way_of : ℕ → ℕ → List ℕ → Way
way_of low high fields = record { lowest = low; highest = high; count = length fields; flags = fields ++ replicate (256 - length fields) 0 }

-- the port of a gate and lists: the runs of its range (lows, highs), of the assigned and of the default label, and the flag fields each way. A label
-- that a port does not have, since one is required or its hosts have labels, is of domain 0
abbrev pub port_in : Gate → List ℕ → List ℕ → List ℕ → List ℕ → List ℕ → List ℕ → Port
port_in g lows highs given only receives sends =
    record {
      domain = g.domain;
      lowest = label_of g.domain g.low (key_runs lows);
      highest = label_of g.domain g.high (key_runs highs);
      required = g.required;
      assigned = label_of (cond g.required 0 g.domain) g.given (key_runs given);
      basic = record { on = g.on; receiving = way_of g.least g.most receives; sending = way_of g.first g.last sends };
      spellings = g.spellings;
      unlabelled = g.unlabelled;
      default = label_of (cond g.unlabelled g.domain 0) g.only (key_runs only);
      strict = g.strict;
    }

-- that of a port
abbrev pub port_back : Port → Port
port_back p =
    port_in (gate_of p) (label_keys p.lowest) (label_keys p.highest) (label_keys p.assigned) (label_keys p.default) (fields_of p.basic.receiving)
    (fields_of p.basic.sending)
