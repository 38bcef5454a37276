-- `route_decide::set_sound` meets its contract.
use mathlib.Core.Path.{◌≡◌, sym, ◌∙◌, ap}
use native.Mathlib.Omega.{arith}
use Prim.Native.Nat.{ℕ, ◌≤◌, ◌-◌}
use lib.ListN.{length, take}
use Rattle.route.specs.Route.{routes_sound}
use borrow.Author.Tests.{not-true, not-false, lt-ltb, le-ltb, lt-leb, le-leb}
use Rattle.route_decide.specs.Stages.{known_sound}
use borrow.Author.Rules.{rules}
use Rattle.route_decide.proofs.set_sound.Goals as goal

pub returns-then-not-known : goal.returns-then-not-known
unfolding known_sound
returns-then-not-known c = simp (not-true c.args.known.sound c.if-not-known.true)

pub returns-then-not-tables_sound : goal.returns-then-not-tables_sound
unfolding known_sound
returns-then-not-tables_sound c = simp (not-false c.args.known.sound c.if-not-known.false, sym c.tables_sound.ensures ∙ c.if-not-tables_sound.true)

pub returns-then-n-arriving : goal.returns-then-n-arriving
unfolding known_sound
returns-then-n-arriving c = simp (not-false c.args.known.sound c.if-not-known.false, sym c.tables_sound.ensures ∙ c.if-not-tables_sound.false, le-ltb _ _ c.if-n-arriving.true)

pub returns-then-n-gt-MAX_PORTS : goal.returns-then-n-gt-MAX_PORTS
unfolding known_sound
returns-then-n-gt-MAX_PORTS c = simp (not-false c.args.known.sound c.if-not-known.false, sym c.tables_sound.ensures ∙ c.if-not-tables_sound.false, lt-ltb _ _ c.if-n-arriving.false, lt-leb _ _ c.if-n-gt-MAX_PORTS.true)

sized : (c : goal.After-domains-1) → length c.args.known.domains ≡ 64
sized c = search rules

pub slice_bounds-routes_sound-end : goal.slice_bounds-routes_sound-end
slice_bounds-routes_sound-end c =
    let l : length c.args.known.domains ≡ 64 = sized c in
    let h : c.args.known.count ≤ 64 = c.if-n-gt-MAX_PORTS.false in
    let g : c.args.known.count ≤ length c.args.known.domains = omega arith in
    g

pub returns : goal.returns
unfolding known_sound
returns c =
    let z : c.args.known.count - 0 ≡ c.args.known.count = omega arith in
    rw (not-false c.args.known.sound c.if-not-known.false, sym c.tables_sound.ensures ∙ c.if-not-tables_sound.false, lt-ltb _ _ c.if-n-arriving.false, le-leb _ _ c.if-n-gt-MAX_PORTS.false)
    (c.routes_sound.ensures ∙ ap (λ (k : ℕ). routes_sound (take k c.args.known.domains) c.args.routes.now) z)
