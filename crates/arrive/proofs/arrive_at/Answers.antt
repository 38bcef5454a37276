-- `arrive::arrive_at` meets its contract.
use Rattle.arrive.proofs.Arrival.{none_required, none_assigned}
use Rattle.arrive.proofs.arrive_at.Goals as goal

pub returns-then-port : goal.returns-then-port
returns-then-port c =
    rw (c.in-None.is, c.missing.ensures) (none_required c.args.port c.args.area.now c.args.keys.now c.args.code c.if-port.true)

pub read_at-requires : goal.read_at-requires
read_at-requires c = record { area_len_bound = c.requires.area_len_bound; whole_at = rw c.in-Some.is at c.requires.placed_in; port_value = c.requires.port_value; in_bounds = c.requires.in_bounds }

pub returns-else-port : goal.returns-else-port
returns-else-port c =
    rw (c.in-None.is, c.go_on.ensures)
    (none_assigned c.args.port c.args.area.now c.args.keys.now _ c.args.code c.requires.port_value c.if-port.false c.requires.in_bounds c.label_keys.ensures.1)

pub returns-in-Some : goal.returns-in-Some
returns-in-Some c =
    rw c.in-Some.is c.read_at.ensures
