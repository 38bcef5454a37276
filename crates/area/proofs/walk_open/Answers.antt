-- `area::walk_open` meets its contract.
use Rattle.area.specs.Area.{open_walk}
use Rattle.area.proofs.walk_open.Goals as goal

pub returns : goal.returns
unfolding open_walk
returns c = c.walk_options.ensures
