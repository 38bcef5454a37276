-- The worked examples, computed.
use mathlib.Core.Path.{refl}
use Rattle.route.specs.Route.{longest, routes_sound}
use Rattle.route.specs.Examples.{Examples}

pub examples : Examples
unfolding longest routes_sound
examples = record { chosen = refl; sound = refl; long = refl; past = refl; unlisted = refl; foreign = refl; over = refl; twice = refl }
