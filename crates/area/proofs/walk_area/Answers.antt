-- `area::walk_area` meets its contract.
use Rattle.area.specs.Area.{walk_of}
use Rattle.area.proofs.walk_area.Goals as goal

pub returns : goal.returns
unfolding walk_of
returns c = c.walk_options.ensures
