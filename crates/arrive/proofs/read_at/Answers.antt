-- `arrive::read_at` meets its contract.
use native.Mathlib.Omega.{arith}
use Prim.Native.Nat.{ℕ, ◌+◌, ◌≤◌, ◌<◌}
use mathlib.Core.Path.{◌≡◌, refl, sym, ◌∙◌}
use mathlib.Core.Bool.{true, false}
use lib.ListN.{get_or}
use Rattle.std.specs.Prelude.{Ok, Err}
use Rattle.option_read.specs.Keys.{KeyReading, row_of, ReadsKeys}
use Rattle.option_slack.specs.Strict.{stops_slack}
use Rattle.option_slack.proofs.Strict.{stops_row}
use Rattle.option.proofs.Octets.{octets_part}
use Rattle.area.specs.Area.{option_at}
use Rattle.arrive.proofs.Arrival.{placed_framed, keys_slack, keys_refused, keys_point, keys_held}
use Rattle.arrive.proofs.read_at.Goals as goal
use Rattle.arrive.proofs.read_at.Goals.{In-Err, In-Ok}

-- the octets of the area
few : (c : goal.Then-stops_slack) → (c.args.at + 2 ≤ 40)
few c =
    let f = placed_framed c.args.area.now c.args.at c.requires.whole_at in
    omega (arith, f.inside, f.least, c.requires.area_len_bound)

pub overflow_add-at : goal.overflow_add-at
overflow_add-at c = omega (arith, few c)

pub overflow_add-at-then-stops_slack : goal.overflow_add-at-then-stops_slack
overflow_add-at-then-stops_slack c = omega (arith, few c)

pub overflow_cast-at : goal.overflow_cast-at
overflow_cast-at c = omega (arith, few c)

pub returns-then-stops_slack : goal.returns-then-stops_slack
returns-then-stops_slack c =
    let read : ReadsKeys c.args.port.domain (option_at c.args.at c.args.area.now) c.args.keys.now c.read_keys-read.new.keys (row_of c.read_keys-read.result) = rw (← c.option_at-octets.ensures) c.read_keys-read.ensures.read in
    rw c.faulty.ensures
    (keys_slack c.args.port c.args.area.now c.args.keys.now _ c.args.at c.args.code (row_of c.read_keys-read.result) read c.requires.in_bounds
    (rw (← c.option_at-octets.ensures) (stops_row _ _ _ c.read_keys-read.ensures.refused ∙ sym c.stops_slack.ensures ∙ c.if-stops_slack.true)))

-- the option is refused
module _ (c : In-Err) where
  abbrev row : KeyReading
  row = row_of (Err c.in-Err.fault)

  read-row : ReadsKeys c.args.port.domain (option_at c.args.at c.args.area.now) c.args.keys.now c.read_keys-read.new.keys row
  read-row = rw (← c.option_at-octets.ensures) (rw c.in-Err.is at c.read_keys-read.ensures.read)

  has-number : c.in-Err.fault.number ≡ 0 → ⊥
  has-number = rw c.in-Err.is at c.read_keys-read.ensures.refused

  passed : stops_slack c.args.port.strict row.number (option_at c.args.at c.args.area.now) ≡ false
  passed = rw (← c.option_at-octets.ensures) (rw c.in-Err.is at (stops_row _ _ _ c.read_keys-read.ensures.refused ∙ sym c.stops_slack.ensures ∙ c.if-stops_slack.false))

  -- where the option points
  points : c.in-Err.fault.at ≤ 50
  points = keys_point c.args.port c.args.area.now c.args.keys.now _ c.args.at c.args.code row read-row c.requires.in_bounds c.requires.whole_at c.requires.area_len_bound

  -- the octets of the area
  few-left : (c.args.at + 2 ≤ 40)
  few-left =
      let f = placed_framed c.args.area.now c.args.at c.requires.whole_at in
      omega (arith, f.inside, f.least, c.requires.area_len_bound)

pub overflow_add-at-in-Err : goal.overflow_add-at-in-Err
overflow_add-at-in-Err c = let d = (goal.at.overflow_add-at-in-Err c).In-Err in omega (arith, points d, few-left d)

pub overflow_add-at-in-Err-2 : goal.overflow_add-at-in-Err-2
overflow_add-at-in-Err-2 c = let d = (goal.at.overflow_add-at-in-Err-2 c).In-Err in omega (arith, points d, few-left d)

pub overflow_cast-at-in-Err : goal.overflow_cast-at-in-Err
overflow_cast-at-in-Err c = let d = (goal.at.overflow_cast-at-in-Err c).In-Err in omega (arith, points d, few-left d)

pub returns-in-Err : goal.returns-in-Err
returns-in-Err c =
    let d = (goal.at.returns-in-Err c).In-Err in
    rw c.faulty-in-Err.ensures
    (keys_refused c.args.port c.args.area.now c.args.keys.now _ c.args.at c.args.code (row d) (read-row d) c.requires.in_bounds (passed d) (has-number d))

-- the option is read
module _ (c : In-Ok) where
  read : ReadsKeys c.args.port.domain (option_at c.args.at c.args.area.now) c.args.keys.now c.read_keys-read.new.keys (row_of (Ok c.in-Ok.held))
  read = rw (← c.option_at-octets.ensures) (rw c.in-Ok.is at c.read_keys-read.ensures.read)

  passed-read : stops_slack c.args.port.strict 0 (option_at c.args.at c.args.area.now) ≡ false
  passed-read = rw (← c.option_at-octets.ensures) (rw c.in-Ok.is at (stops_row _ _ _ c.read_keys-read.ensures.refused ∙ sym c.stops_slack.ensures ∙ c.if-stops_slack.false))

pub returns-then-not-held_between : goal.returns-then-not-held_between
returns-then-not-held_between c =
    let d = (goal.at.returns-then-not-held_between c).In-Ok in
    let octet : (i : ℕ) → get_or c.args.area.now i 0 < 256 = λ i. omega (arith, c.type_inv.area i) in
    rw c.barred.ensures
    (keys_held c.args.port c.args.area.now c.args.keys.now _ c.args.at c.args.code (row_of (Ok c.in-Ok.held)) (read d) c.requires.in_bounds
    c.requires.whole_at (octets_part (get_or c.args.area.now (c.args.at + 1) 0) c.args.at c.args.area.now octet) c.requires.port_value refl
    (passed-read d) false (sym c.held_between.ensures ∙ c.if-not-held_between.true))

pub returns-else-not-held_between : goal.returns-else-not-held_between
returns-else-not-held_between c =
    let d = (goal.at.returns-else-not-held_between c).In-Ok in
    let octet : (i : ℕ) → get_or c.args.area.now i 0 < 256 = λ i. omega (arith, c.type_inv.area i) in
    keys_held c.args.port c.args.area.now c.args.keys.now _ c.args.at c.args.code (row_of (Ok c.in-Ok.held)) (read d) c.requires.in_bounds
    c.requires.whole_at (octets_part (get_or c.args.area.now (c.args.at + 1) 0) c.args.at c.args.area.now octet) c.requires.port_value refl
    (passed-read d) true (sym c.held_between.ensures ∙ c.if-not-held_between.false)
