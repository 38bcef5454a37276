-- `route_index::paint_places` meets its contract.
use native.Mathlib.Omega.{arith}
use Prim.Native.Nat.{◌<◌}
use mathlib.Core.Path.{◌≡◌, refl, ◌∙◌, ap}
use lib.ListN.{length, get_or}
use Rattle.route_index.specs.Stages.{better_code}
use Rattle.route_index.proofs.Paint.{mapped_start, mapped_next, mapped_end, ahead_next}
use Rattle.route_index.proofs.paint_places.Goals as goal

pub loop-place-init : goal.loop-place-init
loop-place-init c = (mapped_start (better_code c.args.routes.now c.args.at) c.args.places.now c.args.places.now refl, λ j h. refl)

pub better_code-requires : goal.better_code-requires
better_code-requires c =
    let h : c.loop-place.place-index < length c.args.places.now = omega (arith, c.loop-place.invariant.0.sized) in
    let e : get_or c.loop-place.places c.loop-place.place-index 0 ≡ get_or c.args.places.now c.loop-place.place-index 0 = c.loop-place.invariant.1 c.loop-place.place-index (omega arith) in
    (c.requires.0, c.requires.1, omega (arith, e, c.requires.2 c.loop-place.place-index h))

pub loop-place-preserved : goal.loop-place-preserved
loop-place-preserved c =
    let h : c.loop-place.place-index < length c.args.places.now = omega (arith, c.loop-place.invariant.0.sized) in
    let e : get_or c.loop-place.places c.loop-place.place-index 0 ≡ get_or c.args.places.now c.loop-place.place-index 0 = c.loop-place.invariant.1 c.loop-place.place-index (omega arith) in
    (mapped_next (better_code c.args.routes.now c.args.at) c.args.places.now c.loop-place.places c.loop-place.place-index c.loop-place.invariant.0 h c.better_code.result (c.better_code.ensures ∙ ap (better_code c.args.routes.now c.args.at) e), ahead_next c.args.places.now c.loop-place.places c.loop-place.place-index c.better_code.result c.loop-place.invariant.1)

pub returns : goal.returns
returns c = mapped_end (better_code c.args.routes.now c.args.at) c.args.places.now c.loop-place.places c.loop-place.place-index c.loop-place.invariant.0 (omega (arith, c.loop-place.invariant.0.sized))
