-- `route_index::paint_places` meets its contract.
use Rattle.route_index.specs.Stages.{better_code}
use Rattle.route_index.proofs.Paint.{Mapped, Ahead}
use Rattle.route_index.proofs.paint_places.Given as goal

abbrev pub invariant-loop-place : goal.invariant-loop-place
invariant-loop-place l = Mapped (better_code l.routes l.at) l.initial.places l.places l.place-index × Ahead l.initial.places l.places l.place-index
