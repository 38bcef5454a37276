-- `gate::read_at` meets its contract.
use borrow.Author.Tests.{not-true, not-false}
use native.Mathlib.Omega.{arith}
use mathlib.Core.Path.{◌≡◌, refl, sym, ◌∙◌}
use mathlib.Core.Bool.{true, false}
use mathlib.Core.List.{[]}
use Prim.Native.Nat.{◌+◌, ◌≤◌}
use lib.ListN.{take}
use Rattle.std.specs.Prelude.{Ok, Err}
use Rattle.option_read.specs.Keys.{KeyReading, row_of, ReadsKeys}
use Rattle.option_slack.specs.Strict.{stops_slack}
use Rattle.option_slack.proofs.Strict.{stops_row}
use Rattle.label_keys.specs.Keys.{key_runs}
use Rattle.area.specs.Area.{option_at}
use Rattle.arrive.proofs.Arrival.{placed_framed, keys_point}
use Rattle.label_between.proofs.Bounds.{lies_any}
use Rattle.gate.specs.Gate.{port_in}
use Rattle.gate.proofs.Acts.{acts_slack, acts_refused, acts_held}
use Rattle.gate.proofs.read_at.Goals as goal
use Rattle.gate.proofs.read_at.Goals.{In-Err, In-Ok}

-- the octets of the area
few : (c : goal.Then-stops_slack) → (c.args.at + 2 ≤ 40)
few c =
    let f = placed_framed c.args.area.now c.args.at c.requires.whole_at in
    omega (arith, f.inside, f.least, c.requires.area_len_bound)

pub overflow_add-at : goal.overflow_add-at
overflow_add-at c = omega (arith, few c)

pub overflow_add-at-then-stops_slack : goal.overflow_add-at-then-stops_slack
overflow_add-at-then-stops_slack c = omega (arith, few c)

pub overflow_cast-at : goal.overflow_cast-at
overflow_cast-at c = omega (arith, few c)

pub returns-then-stops_slack : goal.returns-then-stops_slack
returns-then-stops_slack c =
    let read : ReadsKeys c.args.gate.domain (option_at c.args.at c.args.area.now) c.args.keys.now c.read_keys-read.new.keys (row_of c.read_keys-read.result) = rw (← c.option_at-octets.ensures) c.read_keys-read.ensures.read in
    let stops : stops_slack c.args.gate.strict (row_of c.read_keys-read.result).number (option_at c.args.at c.args.area.now) ≡ true =
    rw (← c.option_at-octets.ensures) (stops_row _ _ _ c.read_keys-read.ensures.refused ∙ sym c.stops_slack.ensures ∙ c.if-stops_slack.true) in
    λ given only receives sends.
    rw c.faulty.ensures
    (acts_slack (port_in c.args.gate c.args.lows.now c.args.highs.now given only receives sends) c.args.area.now c.args.keys.now _ c.args.at c.args.code (row_of c.read_keys-read.result) read c.requires.in_bounds stops)

-- the option is refused
module _ (c : In-Err) where
  abbrev row : KeyReading
  row = row_of (Err c.in-Err.fault)

  read-row : ReadsKeys c.args.gate.domain (option_at c.args.at c.args.area.now) c.args.keys.now c.read_keys-read.new.keys row
  read-row = rw (← c.option_at-octets.ensures) (rw c.in-Err.is at c.read_keys-read.ensures.read)

  has-number : c.in-Err.fault.number ≡ 0 → ⊥
  has-number = rw c.in-Err.is at c.read_keys-read.ensures.refused

  passed : stops_slack c.args.gate.strict row.number (option_at c.args.at c.args.area.now) ≡ false
  passed = rw (← c.option_at-octets.ensures) (rw c.in-Err.is at (stops_row _ _ _ c.read_keys-read.ensures.refused ∙ sym c.stops_slack.ensures ∙ c.if-stops_slack.false))

  -- where the option points
  points : c.in-Err.fault.at ≤ 50
  points =
      keys_point (port_in c.args.gate c.args.lows.now c.args.highs.now [] [] [] []) c.args.area.now c.args.keys.now _ c.args.at c.args.code row read-row c.requires.in_bounds c.requires.whole_at c.requires.area_len_bound

  -- the octets of the area
  few-left : (c.args.at + 2 ≤ 40)
  few-left =
      let f = placed_framed c.args.area.now c.args.at c.requires.whole_at in
      omega (arith, f.inside, f.least, c.requires.area_len_bound)

pub overflow_add-at-in-Err : goal.overflow_add-at-in-Err
overflow_add-at-in-Err c = let d = (goal.at.overflow_add-at-in-Err c).In-Err in omega (arith, points d, few-left d)

pub overflow_add-at-in-Err-2 : goal.overflow_add-at-in-Err-2
overflow_add-at-in-Err-2 c = let d = (goal.at.overflow_add-at-in-Err-2 c).In-Err in omega (arith, points d, few-left d)

pub overflow_cast-at-in-Err : goal.overflow_cast-at-in-Err
overflow_cast-at-in-Err c = let d = (goal.at.overflow_cast-at-in-Err c).In-Err in omega (arith, points d, few-left d)

pub returns-in-Err : goal.returns-in-Err
returns-in-Err c =
    let d = (goal.at.returns-in-Err c).In-Err in
    λ given only receives sends.
    rw c.faulty-in-Err.ensures
    (acts_refused (port_in c.args.gate c.args.lows.now c.args.highs.now given only receives sends) c.args.area.now c.args.keys.now _ c.args.at c.args.code (row d) (read-row d) c.requires.in_bounds (passed d) (has-number d))

-- the option is read
module _ (c : In-Ok) where
  abbrev read : KeyReading
  read = row_of (Ok c.in-Ok.held)

  read-is : ReadsKeys c.args.gate.domain (option_at c.args.at c.args.area.now) c.args.keys.now c.read_keys-read.new.keys read
  read-is = rw (← c.option_at-octets.ensures) (rw c.in-Ok.is at c.read_keys-read.ensures.read)

  passed-read : stops_slack c.args.gate.strict 0 (option_at c.args.at c.args.area.now) ≡ false
  passed-read = rw (← c.option_at-octets.ensures) (rw c.in-Ok.is at (stops_row _ _ _ c.read_keys-read.ensures.refused ∙ sym c.stops_slack.ensures ∙ c.if-stops_slack.false))

pub returns-then-not-lies_between : goal.returns-then-not-lies_between
returns-then-not-lies_between c =
    let d = (goal.at.returns-then-not-lies_between c).In-Ok in
    λ given only receives sends.
    rw c.barred.ensures
    (acts_held (port_in c.args.gate c.args.lows.now c.args.highs.now given only receives sends) c.args.area.now c.args.keys.now _ c.args.at c.args.code (read d) (read-is d) c.requires.in_bounds (passed-read d) refl
    false (sym (not-true _ c.if-not-lies_between.true-raw) ∙ c.lies_between.ensures ∙ lies_any c.args.gate.domain c.args.gate.domain c.args.gate.low c.args.gate.high c.in-Ok.held.level c.args.lows.now c.args.highs.now (key_runs (take c.in-Ok.held.count c.read_keys-read.new.keys))))

pub returns-else-not-lies_between : goal.returns-else-not-lies_between
returns-else-not-lies_between c =
    let d = (goal.at.returns-else-not-lies_between c).In-Ok in
    λ given only receives sends.
    rw c.go_on.ensures
    (acts_held (port_in c.args.gate c.args.lows.now c.args.highs.now given only receives sends) c.args.area.now c.args.keys.now _ c.args.at c.args.code (read d) (read-is d) c.requires.in_bounds (passed-read d) refl
    true (sym (not-false _ c.if-not-lies_between.false-raw) ∙ c.lies_between.ensures ∙ lies_any c.args.gate.domain c.args.gate.domain c.args.gate.low c.args.gate.high c.in-Ok.held.level c.args.lows.now c.args.highs.now (key_runs (take c.in-Ok.held.count c.read_keys-read.new.keys))))
