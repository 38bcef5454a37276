-- What the private functions put; no public contract names this.
use Rattle.std.specs.Prelude.{ℕ, ◌-◌, cond, List, take, drop}
use Rattle.text.specs.Line.{broken_line}
use Rattle.port.specs.declared.Port.{Port}
use Rattle.table_choose.specs.declared.Tables.{Tables}
use Rattle.route_decide.specs.Routing.{between}
use Rattle.inspect_claim.specs.declared.parse.Recorded.{Recorded}
use Rattle.inspect_line.specs.Lines.{finding_by, finding_line}

-- the line of a record, by what was read of it and its two ports
unfoldable pub line_by : Port → Port → Tables → List ℕ → Recorded → List ℕ → List ℕ
line_by a l ts ns r o = cond r.parsed (finding_line (finding_by (between a l ts ns r.facts (take (r.claimed - 9) (drop 9 o)) 40) (drop r.claimed o))) broken_line
