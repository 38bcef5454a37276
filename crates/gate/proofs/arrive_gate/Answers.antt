-- `gate::arrive_gate` meets its contract.
use native.Mathlib.Omega.{arith}
use borrow.Author.Tests.{not-true, not-false, lt-ltb, le-ltb}
use mathlib.Core.Path.{◌≡◌, sym, ◌∙◌}
use mathlib.Core.Bool.{false, ◌||◌}
use mathlib.Core.List.{List}
use Prim.Native.Nat.{ℕ}
use lib.Dec.{ltb}
use lib.ListN.{length}
use Rattle.std.specs.Prelude.{Ok, Err}
use Rattle.area.specs.Kinds.{places, fault}
use Rattle.area.specs.Area.{bad_area, walk_of}
use Rattle.area.proofs.Laws.{area_refused, sound_placed}
use Rattle.port.specs.declared.Port.{Port}
use Rattle.arrive.proofs.Arrival.{area_short}
use Rattle.gate.specs.Gate.{port_in}
use Rattle.gate.proofs.Acts.{acts_sized, acts_walked, acts_off, acts_on}
use Rattle.gate.proofs.arrive_gate.Goals as goal

-- a port of the gate
abbrev port : (c : goal.After-silent) → List ℕ → List ℕ → Port
port c only sends = port_in c.args.gate c.args.lows.now c.args.highs.now c.args.given.now only c.args.fields.now sends

pub returns-then-bad_area : goal.returns-then-bad_area
returns-then-bad_area c =
    λ only sends. rw c.silent.ensures (acts_sized (port c only sends) c.args.area.now c.args.keys.now c.args.code (rw (sym c.bad_area.ensures ∙ c.if-bad_area.true)))

-- a port of the gate
abbrev port-After-silent-then-keys-lt-MAX_RUNS : (c : goal.After-silent-then-keys-lt-MAX_RUNS) → List ℕ → List ℕ → Port
port-After-silent-then-keys-lt-MAX_RUNS c only sends = port_in c.args.gate c.args.lows.now c.args.highs.now c.args.given.now only c.args.fields.now sends

pub returns-then-keys-lt-MAX_RUNS : goal.returns-then-keys-lt-MAX_RUNS
returns-then-keys-lt-MAX_RUNS c =
    λ only sends.
    rw c.silent-then-keys-lt-MAX_RUNS.ensures
    (acts_sized (port-After-silent-then-keys-lt-MAX_RUNS c only sends) c.args.area.now c.args.keys.now c.args.code (rw (sym c.bad_area.ensures ∙ c.if-bad_area.false, lt-ltb (length c.args.keys.now) 120 c.if-keys-lt-MAX_RUNS.true)))

pub overflow_add-fault : goal.overflow_add-fault
overflow_add-fault c = omega (arith, (area_refused c.args.gate.on _ c.in-Err.fault.number c.in-Err.fault.at (sym c.walk_area.ensures ∙ c.in-Err.is)).2, area_short c.args.area.now (sym c.bad_area.ensures ∙ c.if-bad_area.false))

pub overflow_cast-fault : goal.overflow_cast-fault
overflow_cast-fault c = omega (arith, (area_refused c.args.gate.on _ c.in-Err.fault.number c.in-Err.fault.at (sym c.walk_area.ensures ∙ c.in-Err.is)).2, area_short c.args.area.now (sym c.bad_area.ensures ∙ c.if-bad_area.false))

-- past check 1
small-After-arrive_at-arg-1 : (c : goal.After-arrive_at-arg-1) → bad_area c.args.area.now ≡ false
small-After-arrive_at-arg-1 c = sym c.bad_area.ensures ∙ c.if-bad_area.false

-- or found it sound
found : (c : goal.After-arrive_at-arg-1) →
    walk_of c.args.gate.on c.args.area.now ≡ Ok (places c.in-Ok.met.label c.in-Ok.met.basic)
found c = sym c.walk_area.ensures ∙ c.in-Ok.is

pub arrive_at-arrived-requires : goal.arrive_at-arrived-requires
arrive_at-arrived-requires c = record { area_len_bound = area_short c.args.area.now (small-After-arrive_at-arg-1 c); placed_in = (sound_placed c.args.gate.on _ _ _ (found c)).0; in_bounds = c.if-keys-lt-MAX_RUNS.false }

-- a port of the gate
abbrev port-Then-not-on : (c : goal.Then-not-on) → List ℕ → List ℕ → Port
port-Then-not-on c only sends = port_in c.args.gate c.args.lows.now c.args.highs.now c.args.given.now only c.args.fields.now sends

-- past check 1
small-Then-not-on : (c : goal.Then-not-on) → bad_area c.args.area.now ≡ false
small-Then-not-on c = sym c.bad_area.ensures ∙ c.if-bad_area.false

sized : (c : goal.Then-not-on) →
    (bad_area c.args.area.now || ltb (length c.args.keys.now) 120) ≡ false
sized c =
    rw (small-Then-not-on c) (le-ltb (length c.args.keys.now) 120 c.if-keys-lt-MAX_RUNS.false)

-- or found it sound
found-Then-not-on : (c : goal.Then-not-on) →
    walk_of c.args.gate.on c.args.area.now ≡ Ok (places c.in-Ok.met.label c.in-Ok.met.basic)
found-Then-not-on c = sym c.walk_area.ensures ∙ c.in-Ok.is

pub returns-then-not-on : goal.returns-then-not-on
returns-then-not-on c =
    λ only sends.
    acts_off (port-Then-not-on c only sends) c.args.area.now c.args.keys.now c.args.code (sized c) c.in-Ok.met.label c.in-Ok.met.basic _ _ (found-Then-not-on c) (not-true _ c.if-not-on.true-raw)
    (c.arrive_at-arrived.ensures only c.args.fields.now sends)

-- past check 1
small-Else-not-on : (c : goal.Else-not-on) → bad_area c.args.area.now ≡ false
small-Else-not-on c = sym c.bad_area.ensures ∙ c.if-bad_area.false

-- or found it sound
found-Else-not-on : (c : goal.Else-not-on) →
    walk_of c.args.gate.on c.args.area.now ≡ Ok (places c.in-Ok.met.label c.in-Ok.met.basic)
found-Else-not-on c = sym c.walk_area.ensures ∙ c.in-Ok.is

pub check_basic-requires : goal.check_basic-requires
check_basic-requires c = record { area_len_bound = area_short c.args.area.now (small-Else-not-on c); placed_in = (sound_placed c.args.gate.on _ _ _ (found-Else-not-on c)).1 }

-- a port of the gate
abbrev port-After-faulty : (c : goal.After-faulty) → List ℕ → List ℕ → Port
port-After-faulty c only sends = port_in c.args.gate c.args.lows.now c.args.highs.now c.args.given.now only c.args.fields.now sends

-- past check 1
small-After-faulty : (c : goal.After-faulty) → bad_area c.args.area.now ≡ false
small-After-faulty c = sym c.bad_area.ensures ∙ c.if-bad_area.false

sized-After-faulty : (c : goal.After-faulty) →
    (bad_area c.args.area.now || ltb (length c.args.keys.now) 120) ≡ false
sized-After-faulty c =
    rw (small-After-faulty c) (le-ltb (length c.args.keys.now) 120 c.if-keys-lt-MAX_RUNS.false)

-- the walk refused the area
walked-After-faulty : (c : goal.After-faulty) →
    walk_of c.args.gate.on c.args.area.now ≡ Err (fault c.in-Err.fault.number c.in-Err.fault.at)
walked-After-faulty c = sym c.walk_area.ensures ∙ c.in-Err.is

pub returns-in-Err : goal.returns-in-Err
returns-in-Err c =
    λ only sends. rw c.faulty.ensures (acts_walked (port-After-faulty c only sends) c.args.area.now c.args.keys.now c.args.code (sized-After-faulty c) _ _ (walked-After-faulty c))

-- a port of the gate
abbrev port-After-check_basic : (c : goal.After-check_basic) → List ℕ → List ℕ → Port
port-After-check_basic c only sends = port_in c.args.gate c.args.lows.now c.args.highs.now c.args.given.now only c.args.fields.now sends

-- past check 1
small-After-check_basic : (c : goal.After-check_basic) → bad_area c.args.area.now ≡ false
small-After-check_basic c = sym c.bad_area.ensures ∙ c.if-bad_area.false

sized-After-check_basic : (c : goal.After-check_basic) →
    (bad_area c.args.area.now || ltb (length c.args.keys.now) 120) ≡ false
sized-After-check_basic c =
    rw (small-After-check_basic c) (le-ltb (length c.args.keys.now) 120 c.if-keys-lt-MAX_RUNS.false)

-- or found it sound
found-After-check_basic : (c : goal.After-check_basic) →
    walk_of c.args.gate.on c.args.area.now ≡ Ok (places c.in-Ok.met.label c.in-Ok.met.basic)
found-After-check_basic c = sym c.walk_area.ensures ∙ c.in-Ok.is

pub returns-else-not-on : goal.returns-else-not-on
returns-else-not-on c =
    λ only sends.
    acts_on (port-After-check_basic c only sends) c.args.area.now c.args.keys.now c.args.code (sized-After-check_basic c) c.in-Ok.met.label c.in-Ok.met.basic _ c.arrive_at-arrived.result _ (found-After-check_basic c) (not-false _ c.if-not-on.false-raw)
    (c.arrive_at-arrived.ensures only c.args.fields.now sends) c.check_basic.ensures
