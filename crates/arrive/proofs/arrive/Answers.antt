-- `arrive::arrive` meets its contract.
use native.Mathlib.Omega.{arith}
use borrow.Author.Tests.{not-true, not-false, lt-ltb, le-ltb}
use mathlib.Core.Path.{◌≡◌, sym, ◌∙◌}
use mathlib.Core.Bool.{true, false, ◌||◌}
use lib.Dec.{ltb}
use lib.ListN.{length}
use Rattle.std.specs.Prelude.{Ok, Err}
use Rattle.area.specs.Kinds.{places, fault}
use Rattle.area.proofs.Laws.{area_refused, sound_placed}
use Rattle.port.specs.Port.{port_sound}
use Rattle.area.specs.Area.{bad_area}
use Rattle.arrive.specs.Checks.{walk_at}
use Rattle.arrive.proofs.Arrival.{area_short, port_sized, port_unsound, port_walked, port_on, port_off}
use Rattle.arrive.proofs.arrive.Goals as goal

pub returns-then-bad_area : goal.returns-then-bad_area
returns-then-bad_area c =
    rw c.silent.ensures (port_sized c.args.port c.args.area.now c.args.keys.now c.args.code (rw (sym c.bad_area.ensures ∙ c.if-bad_area.true)))

pub returns-then-keys-lt-MAX_RUNS : goal.returns-then-keys-lt-MAX_RUNS
returns-then-keys-lt-MAX_RUNS c =
    rw c.silent-then-keys-lt-MAX_RUNS.ensures
    (port_sized c.args.port c.args.area.now c.args.keys.now c.args.code (rw (sym c.bad_area.ensures ∙ c.if-bad_area.false, lt-ltb (length c.args.keys.now) 120 c.if-keys-lt-MAX_RUNS.true)))

-- past check 1
small : (c : goal.After-silent-then-not-port_sound) → bad_area c.args.area.now ≡ false
small c = sym c.bad_area.ensures ∙ c.if-bad_area.false

sized : (c : goal.After-silent-then-not-port_sound) → (bad_area c.args.area.now || ltb (length c.args.keys.now) 120) ≡ false
sized c = rw (small c) (le-ltb (length c.args.keys.now) 120 c.if-keys-lt-MAX_RUNS.false)

pub returns-then-not-port_sound : goal.returns-then-not-port_sound
returns-then-not-port_sound c =
    rw c.silent-then-not-port_sound.ensures
    (port_unsound c.args.port c.args.area.now c.args.keys.now c.args.code (sized c) (sym c.port_sound.ensures ∙ c.if-not-port_sound.true))

pub overflow_add-fault : goal.overflow_add-fault
overflow_add-fault c = omega (arith, (area_refused c.args.port.basic.on _ c.in-Err.fault.number c.in-Err.fault.at (sym c.walk_area.ensures ∙ c.in-Err.is)).2, area_short c.args.area.now (sym c.bad_area.ensures ∙ c.if-bad_area.false))

pub overflow_cast-fault : goal.overflow_cast-fault
overflow_cast-fault c = omega (arith, (area_refused c.args.port.basic.on _ c.in-Err.fault.number c.in-Err.fault.at (sym c.walk_area.ensures ∙ c.in-Err.is)).2, area_short c.args.area.now (sym c.bad_area.ensures ∙ c.if-bad_area.false))

-- past check 1
small-After-arrive_at-arg-1 : (c : goal.After-arrive_at-arg-1) → bad_area c.args.area.now ≡ false
small-After-arrive_at-arg-1 c = sym c.bad_area.ensures ∙ c.if-bad_area.false

-- or found it sound
found : (c : goal.After-arrive_at-arg-1) →
    walk_at c.args.port c.args.area.now ≡ Ok (places c.in-Ok.met.label c.in-Ok.met.basic)
found c = sym c.walk_area.ensures ∙ c.in-Ok.is

-- the port is sound
ported : (c : goal.After-arrive_at-arg-1) → port_sound c.args.port ≡ true
ported c = sym c.port_sound.ensures ∙ c.if-not-port_sound.false

pub arrive_at-arrived-requires : goal.arrive_at-arrived-requires
arrive_at-arrived-requires c = record { area_len_bound = area_short c.args.area.now (small-After-arrive_at-arg-1 c); placed_in = (sound_placed c.args.port.basic.on _ _ _ (found c)).0; port_value = ported c; in_bounds = c.if-keys-lt-MAX_RUNS.false }

-- past check 1
small-Then-not-on : (c : goal.Then-not-on) → bad_area c.args.area.now ≡ false
small-Then-not-on c = sym c.bad_area.ensures ∙ c.if-bad_area.false

sized-Then-not-on : (c : goal.Then-not-on) → (bad_area c.args.area.now || ltb (length c.args.keys.now) 120) ≡ false
sized-Then-not-on c = rw (small-Then-not-on c) (le-ltb (length c.args.keys.now) 120 c.if-keys-lt-MAX_RUNS.false)

-- the port is sound
ported-Then-not-on : (c : goal.Then-not-on) → port_sound c.args.port ≡ true
ported-Then-not-on c = sym c.port_sound.ensures ∙ c.if-not-port_sound.false

-- or found it sound
found-Then-not-on : (c : goal.Then-not-on) →
    walk_at c.args.port c.args.area.now ≡ Ok (places c.in-Ok.met.label c.in-Ok.met.basic)
found-Then-not-on c = sym c.walk_area.ensures ∙ c.in-Ok.is

pub returns-then-not-on : goal.returns-then-not-on
returns-then-not-on c =
    port_off c.args.port c.args.area.now c.args.keys.now c.args.code (sized-Then-not-on c) (ported-Then-not-on c) c.in-Ok.met.label c.in-Ok.met.basic _ _ (found-Then-not-on c) (not-true _ c.if-not-on.true-raw) c.arrive_at-arrived.ensures

-- past check 1
small-After-check_basic-arg-1 : (c : goal.After-check_basic-arg-1) → bad_area c.args.area.now ≡ false
small-After-check_basic-arg-1 c = sym c.bad_area.ensures ∙ c.if-bad_area.false

-- or found it sound
found-After-check_basic-arg-1 : (c : goal.After-check_basic-arg-1) →
    walk_at c.args.port c.args.area.now ≡ Ok (places c.in-Ok.met.label c.in-Ok.met.basic)
found-After-check_basic-arg-1 c = sym c.walk_area.ensures ∙ c.in-Ok.is

pub check_basic-requires : goal.check_basic-requires
check_basic-requires c = record { area_len_bound = area_short c.args.area.now (small-After-check_basic-arg-1 c); placed_in = (sound_placed c.args.port.basic.on _ _ _ (found-After-check_basic-arg-1 c)).1 }

-- past check 1
small-After-faulty : (c : goal.After-faulty) → bad_area c.args.area.now ≡ false
small-After-faulty c = sym c.bad_area.ensures ∙ c.if-bad_area.false

sized-After-faulty : (c : goal.After-faulty) → (bad_area c.args.area.now || ltb (length c.args.keys.now) 120) ≡ false
sized-After-faulty c = rw (small-After-faulty c) (le-ltb (length c.args.keys.now) 120 c.if-keys-lt-MAX_RUNS.false)

-- the port is sound
ported-After-faulty : (c : goal.After-faulty) → port_sound c.args.port ≡ true
ported-After-faulty c = sym c.port_sound.ensures ∙ c.if-not-port_sound.false

-- the walk refused the area
walked-After-faulty : (c : goal.After-faulty) →
    walk_at c.args.port c.args.area.now ≡ Err (fault c.in-Err.fault.number c.in-Err.fault.at)
walked-After-faulty c = sym c.walk_area.ensures ∙ c.in-Err.is

pub returns-in-Err : goal.returns-in-Err
returns-in-Err c =
    rw c.faulty.ensures (port_walked c.args.port c.args.area.now c.args.keys.now c.args.code (sized-After-faulty c) (ported-After-faulty c) _ _ (walked-After-faulty c))

-- past check 1
small-After-check_basic : (c : goal.After-check_basic) → bad_area c.args.area.now ≡ false
small-After-check_basic c = sym c.bad_area.ensures ∙ c.if-bad_area.false

sized-After-check_basic : (c : goal.After-check_basic) → (bad_area c.args.area.now || ltb (length c.args.keys.now) 120) ≡ false
sized-After-check_basic c = rw (small-After-check_basic c) (le-ltb (length c.args.keys.now) 120 c.if-keys-lt-MAX_RUNS.false)

-- the port is sound
ported-After-check_basic : (c : goal.After-check_basic) → port_sound c.args.port ≡ true
ported-After-check_basic c = sym c.port_sound.ensures ∙ c.if-not-port_sound.false

-- or found it sound
found-After-check_basic : (c : goal.After-check_basic) →
    walk_at c.args.port c.args.area.now ≡ Ok (places c.in-Ok.met.label c.in-Ok.met.basic)
found-After-check_basic c = sym c.walk_area.ensures ∙ c.in-Ok.is

pub returns-else-not-on : goal.returns-else-not-on
returns-else-not-on c =
    port_on c.args.port c.args.area.now c.args.keys.now c.args.code (sized-After-check_basic c) (ported-After-check_basic c) c.in-Ok.met.label c.in-Ok.met.basic _ c.arrive_at-arrived.result _ (found-After-check_basic c) (not-false _ c.if-not-on.false-raw) c.arrive_at-arrived.ensures c.check_basic.ensures
