-- `gate::arrive_at` meets its contract.
use mathlib.Core.Path.{refl}
use mathlib.Core.Bool.{cond}
use mathlib.Core.List.{List}
use Prim.Native.Nat.{ℕ}
use Rattle.port.specs.declared.Port.{Port}
use Rattle.gate.specs.Gate.{port_in}
use Rattle.gate.proofs.Acts.{acts_required, acts_over, acts_assigned}
use Rattle.gate.proofs.arrive_at.Goals as goal

-- a port of the gate
abbrev port : (c : goal.After-missing) → List ℕ → List ℕ → List ℕ → Port
port c only receives sends = port_in c.args.gate c.args.lows.now c.args.highs.now c.args.given.now only receives sends

pub returns-then-gate : goal.returns-then-gate
returns-then-gate c =
    λ only receives sends.
    rw (c.in-None.is, c.missing.ensures)
    (acts_required (port c only receives sends) c.args.area.now c.args.keys.now c.args.code c.if-gate.true)

-- a port of the gate
abbrev port-After-go_on : (c : goal.After-go_on) → List ℕ → List ℕ → List ℕ → Port
port-After-go_on c only receives sends = port_in c.args.gate c.args.lows.now c.args.highs.now c.args.given.now only receives sends

pub returns-then-given-gt-MAX_RUNS : goal.returns-then-given-gt-MAX_RUNS
returns-then-given-gt-MAX_RUNS c =
    λ only receives sends.
    rw (c.in-None.is, c.go_on.ensures)
    (acts_over (port-After-go_on c only receives sends) c.args.area.now c.args.keys.now c.args.code (cond c.args.gate.required 0 c.args.gate.domain) c.args.gate.given c.args.given.now refl
    c.if-gate.false c.requires.in_bounds c.if-given-gt-MAX_RUNS.true)

pub read_at-requires : goal.read_at-requires
read_at-requires c = record { area_len_bound = c.requires.area_len_bound; whole_at = rw c.in-Some.is at c.requires.placed_in; in_bounds = c.requires.in_bounds }

-- a port of the gate
abbrev port-After-go_on-in-None : (c : goal.After-go_on-in-None) → List ℕ → List ℕ → List ℕ → Port
port-After-go_on-in-None c only receives sends = port_in c.args.gate c.args.lows.now c.args.highs.now c.args.given.now only receives sends

pub returns-else-given-gt-MAX_RUNS : goal.returns-else-given-gt-MAX_RUNS
returns-else-given-gt-MAX_RUNS c =
    λ only receives sends.
    rw (c.in-None.is, c.go_on-in-None.ensures)
    (acts_assigned (port-After-go_on-in-None c only receives sends) c.args.area.now c.args.keys.now c.args.code (cond c.args.gate.required 0 c.args.gate.domain) c.args.gate.given c.args.given.now refl
    c.if-gate.false c.requires.in_bounds _ c.if-given-gt-MAX_RUNS.false c.copy_list.ensures)

pub returns-in-Some : goal.returns-in-Some
returns-in-Some c =
    λ only receives sends. rw c.in-Some.is (c.read_at.ensures c.args.given.now only receives sends)
