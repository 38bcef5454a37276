-- The examples of `specs/Examples.antt` hold.
use mathlib.Core.Path.{refl}
use Rattle.route.specs.Route.{longest}
use Rattle.lists_search.specs.Halves.{halved}
use Rattle.route_index.specs.Index.{found_in}
use Rattle.route_index.specs.Examples.{Examples}

pub examples : Examples
unfolding longest halved found_in
examples = record { edged = refl; found = refl }
