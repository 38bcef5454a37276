-- `forward::arrive_usual` meets its contract.
use borrow.Author.Tests.{le-ltb}
use native.Mathlib.Omega.{arith}
use mathlib.Core.Path.{◌≡◌, sym, ◌∙◌, ap}
use mathlib.Core.Bool.{Bool, false, ◌||◌}
use lib.Dec.{ltb}
use lib.ListN.{length}
use Rattle.area.specs.Area.{bad_area, walk_of}
use Rattle.std.specs.Prelude.{Ok, Err}
use Rattle.area.specs.Kinds.{places, fault}
use Rattle.area.proofs.Laws.{area_refused, sound_placed}
use Rattle.arrive.specs.Checks.{walk_at}
use Rattle.decision.specs.Verdict.{stopped}
use Rattle.arrive.specs.Stages.{ArrivesAt}
use Rattle.arrive.proofs.Arrival.{area_short, none_required, port_sized, port_walked, port_off}
use Rattle.port_usual.proofs.Usual.{usual, usual_sound}
use Rattle.forward.proofs.arrive_usual.Goals as goal

pub returns-then-bad_area : goal.returns-then-bad_area
returns-then-bad_area c =
    rw c.silent.ensures (port_sized c.args.port c.args.area.now c.args.keys.now 9 (rw (sym c.bad_area.ensures ∙ c.if-bad_area.true)))

pub overflow_add-fault : goal.overflow_add-fault
overflow_add-fault c = omega (arith, (area_refused c.args.port.basic.on _ c.in-Err.fault.number c.in-Err.fault.at (ap (λ (b : Bool). walk_of b c.args.area.now) (usual c.args.port c.requires).off ∙ sym c.walk_area.ensures ∙ c.in-Err.is)).2, area_short c.args.area.now (sym c.bad_area.ensures ∙ c.if-bad_area.false))

pub overflow_cast-fault : goal.overflow_cast-fault
overflow_cast-fault c = omega (arith, (area_refused c.args.port.basic.on _ c.in-Err.fault.number c.in-Err.fault.at (ap (λ (b : Bool). walk_of b c.args.area.now) (usual c.args.port c.requires).off ∙ sym c.walk_area.ensures ∙ c.in-Err.is)).2, area_short c.args.area.now (sym c.bad_area.ensures ∙ c.if-bad_area.false))

-- past check 1
small-After-read_usual-arg-1 : (c : goal.After-read_usual-arg-1) → bad_area c.args.area.now ≡ false
small-After-read_usual-arg-1 c = sym c.bad_area.ensures ∙ c.if-bad_area.false

-- the walk of the port is that of one that does not read option 130
walk_is-After-read_usual-arg-1 : (c : goal.After-read_usual-arg-1) →
    walk_at c.args.port c.args.area.now ≡ c.walk_area.result
walk_is-After-read_usual-arg-1 c =
    ap (λ (b : Bool). walk_of b c.args.area.now) (usual c.args.port c.requires).off ∙ sym c.walk_area.ensures

-- or found it sound
found : (c : goal.After-read_usual-arg-1) →
    walk_at c.args.port c.args.area.now ≡ Ok (places c.in-Ok.met.label c.in-Ok.met.basic)
found c = walk_is-After-read_usual-arg-1 c ∙ c.in-Ok.is

pub read_usual-requires : goal.read_usual-requires
read_usual-requires c = record { area_len_bound = area_short c.args.area.now (small-After-read_usual-arg-1 c); whole_at = rw c.in-Some.is at (sound_placed c.args.port.basic.on _ _ _ (found c)).0; usual = c.requires }

-- past check 1
small-After-faulty : (c : goal.After-faulty) → bad_area c.args.area.now ≡ false
small-After-faulty c = sym c.bad_area.ensures ∙ c.if-bad_area.false

sized : (c : goal.After-faulty) → (bad_area c.args.area.now || ltb (length c.args.keys.now) 120) ≡ false
sized c =
    rw (small-After-faulty c) (le-ltb (length c.args.keys.now) 120 (omega arith))

-- the walk of the port is that of one that does not read option 130
walk_is-After-faulty : (c : goal.After-faulty) →
    walk_at c.args.port c.args.area.now ≡ c.walk_area.result
walk_is-After-faulty c =
    ap (λ (b : Bool). walk_of b c.args.area.now) (usual c.args.port c.requires).off ∙ sym c.walk_area.ensures

-- it refused the area
walked-After-faulty : (c : goal.After-faulty) →
    walk_at c.args.port c.args.area.now ≡ Err (fault c.in-Err.fault.number c.in-Err.fault.at)
walked-After-faulty c = walk_is-After-faulty c ∙ c.in-Err.is

pub returns-in-Err : goal.returns-in-Err
returns-in-Err c =
    rw c.faulty.ensures (port_walked c.args.port c.args.area.now c.args.keys.now 9 (sized c) (usual_sound c.args.port c.requires) _ _ (walked-After-faulty c))

-- past check 1
small-After-missing : (c : goal.After-missing) → bad_area c.args.area.now ≡ false
small-After-missing c = sym c.bad_area.ensures ∙ c.if-bad_area.false

sized-After-missing : (c : goal.After-missing) → (bad_area c.args.area.now || ltb (length c.args.keys.now) 120) ≡ false
sized-After-missing c =
    rw (small-After-missing c) (le-ltb (length c.args.keys.now) 120 (omega arith))

-- the walk of the port is that of one that does not read option 130
walk_is-After-missing : (c : goal.After-missing) →
    walk_at c.args.port c.args.area.now ≡ c.walk_area.result
walk_is-After-missing c =
    ap (λ (b : Bool). walk_of b c.args.area.now) (usual c.args.port c.requires).off ∙ sym c.walk_area.ensures

-- or found it sound
found-After-missing : (c : goal.After-missing) →
    walk_at c.args.port c.args.area.now ≡ Ok (places c.in-Ok.met.label c.in-Ok.met.basic)
found-After-missing c = walk_is-After-missing c ∙ c.in-Ok.is

pub returns-in-None : goal.returns-in-None
returns-in-None c =
    let u = usual c.args.port c.requires in
    let w : ArrivesAt c.in-Ok.met.label c.args.port c.args.area.now 9 c.args.keys.now c.args.keys.now (stopped 6 12 1 134)
    = rw c.in-None.is (none_required c.args.port c.args.area.now c.args.keys.now 9 u.required) in
    rw c.missing.ensures
    (port_off c.args.port c.args.area.now c.args.keys.now 9 (sized-After-missing c) (usual_sound c.args.port c.requires) c.in-Ok.met.label c.in-Ok.met.basic _ _ (found-After-missing c) u.off w)

pub returns-in-Some : goal.returns-in-Some
returns-in-Some c =
    let u = usual c.args.port c.requires in
    let sized : (bad_area c.args.area.now || ltb (length c.args.keys.now) 120) ≡ false = rw (sym c.bad_area.ensures ∙ c.if-bad_area.false) (le-ltb (length c.args.keys.now) 120 (omega arith)) in
    let found : walk_at c.args.port c.args.area.now ≡ Ok (places c.in-Ok.met.label c.in-Ok.met.basic) = ap (λ (b : Bool). walk_of b c.args.area.now) u.off ∙ sym c.walk_area.ensures ∙ c.in-Ok.is in
    let w : ArrivesAt c.in-Ok.met.label c.args.port c.args.area.now 9 c.args.keys.now c.read_usual.new.keys c.read_usual.result
    = rw c.in-Some.is c.read_usual.ensures in
    port_off c.args.port c.args.area.now c.args.keys.now 9 sized (usual_sound c.args.port c.requires) c.in-Ok.met.label c.in-Ok.met.basic _ _ found u.off w
