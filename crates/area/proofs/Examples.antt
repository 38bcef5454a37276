-- The worked areas, computed.
use mathlib.Core.Path.{refl}
use Rattle.area.specs.Area.{met_from, met_of, walk_of, open_walk}
use Rattle.area.specs.Examples.{WorkedAreas}

pub worked : WorkedAreas
unfolding met_from met_of walk_of open_walk
worked = (refl, refl, refl)
