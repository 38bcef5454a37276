-- `inspect::run` meets its contract.
use mathlib.Core.Path.{◌≡◌}
use Rattle.stream.specs.Input.{held}
use Rattle.stream.specs.Place.{window_of}
use Rattle.inspect_split.specs.Records.{whole_of}
use Rattle.inspect.proofs.run.Given as goal

abbrev pub invariant-loop : goal.invariant-loop
invariant-loop l = whole_of (held l.input (window_of l.last)) ≡ 0
