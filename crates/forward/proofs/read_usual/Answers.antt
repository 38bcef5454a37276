-- `forward::read_usual` meets its contract.
use mathlib.Core.Path.{◌≡◌, refl, sym, ◌∙◌}
use mathlib.Core.Bool.{Bool, true, false, cond}
use mathlib.Core.List.{List}
use native.Mathlib.Omega.{arith}
use Prim.Native.Nat.{ℕ, ◌+◌, ◌≤◌, ◌<◌}
use lib.ListN.{get_or}
use Rattle.std.specs.Prelude.{Ok, Err, Some}
use Rattle.area.specs.Area.{option_at}
use Rattle.option_read.specs.Keys.{KeyReading, row_of, ReadsKeys}
use Rattle.port.specs.declared.Port.{Port}
use Rattle.decision.specs.Verdict.{passed_with, going, stopped}
use Rattle.arrive.specs.Stages.{ArrivesAt, held_between}
use Rattle.option.proofs.Octets.{octets_part}
use Rattle.arrive.proofs.Arrival.{placed_framed, keys_refused, keys_point, keys_held}
use Rattle.option_slack.specs.Strict.{stops_slack}
use Rattle.option_slack.proofs.Strict.{stops_loose}
use Rattle.port_usual.specs.Usual.{usual_port}
use Rattle.port_usual.proofs.Usual.{usual, usual_sound}
use Rattle.forward.proofs.read_usual.Goals as goal
use Rattle.forward.proofs.read_usual.Goals.{In-Err, In-Ok}

-- 23 is not tested: a usual port is not strict
loose : (p : Port) → usual_port p ≡ true → (n : ℕ) (o : List ℕ) → stops_slack p.strict n o ≡ false
loose p u n o = stops_loose p.strict n o (usual p u).loose

-- the option is refused
module _ (c : In-Err) where
  abbrev row : KeyReading
  row = row_of (Err c.in-Err.fault)

  read-row : ReadsKeys c.args.port.domain (option_at c.args.at c.args.area.now) c.args.keys.now c.read_keys.new.keys row
  read-row = let h = rw c.in-Err.is at c.read_keys.ensures.read in rw c.option_at.ensures at h

  has-number : c.in-Err.fault.number ≡ 0 → ⊥
  has-number = rw c.in-Err.is at c.read_keys.ensures.refused

  -- where the option points
  points : c.in-Err.fault.at ≤ 50
  points = keys_point c.args.port c.args.area.now c.args.keys.now _ c.args.at 9 row read-row (omega arith) c.requires.whole_at c.requires.area_len_bound

  -- the octets of the area
  few : c.args.at + 2 ≤ 40
  few =
      let f = placed_framed c.args.area.now c.args.at c.requires.whole_at in
      omega (arith, f.inside, f.least, c.requires.area_len_bound)

pub overflow_add-at : goal.overflow_add-at
overflow_add-at c = let d = (goal.at.overflow_add-at c).In-Err in omega (arith, points d, few d)

pub overflow_add-at-in-Err : goal.overflow_add-at-in-Err
overflow_add-at-in-Err c = let d = (goal.at.overflow_add-at-in-Err c).In-Err in omega (arith, points d, few d)

pub overflow_cast-at : goal.overflow_cast-at
overflow_cast-at c = let d = (goal.at.overflow_cast-at c).In-Err in omega (arith, points d, few d)

pub returns-in-Err : goal.returns-in-Err
returns-in-Err c =
    let d = (goal.at.returns-in-Err c).In-Err in
    rw c.faulty.ensures
    (keys_refused c.args.port c.args.area.now c.args.keys.now _ c.args.at 9 (row d) (read-row d) (omega arith) (loose c.args.port c.requires.usual c.in-Err.fault.number _) (has-number d))

pub lies_usual-requires : goal.lies_usual-requires
lies_usual-requires c =
    let u = usual c.args.port c.requires.usual in
    (u.low, u.high)

-- the option is read, and held against the range
module _ (c : In-Ok) where
  read-held : ReadsKeys c.args.port.domain (option_at c.args.at c.args.area.now) c.args.keys.now c.read_keys.new.keys (row_of (Ok c.in-Ok.held))
  read-held = let h = rw c.in-Ok.is at c.read_keys.ensures.read in rw c.option_at.ensures at h

  held-is : (b : Bool) → held_between c.args.port.lowest c.args.port.highest (passed_with c.in-Ok.held.level c.in-Ok.held.count) c.read_keys.new.keys ≡ b
      → ArrivesAt (Some c.args.at) c.args.port c.args.area.now 9 c.args.keys.now c.read_keys.new.keys (cond b (going c.in-Ok.held.level c.in-Ok.held.count) (stopped 14 3 9 0))
  held-is =
      let octet : (i : ℕ) → get_or c.args.area.now i 0 < 256 = λ i. omega (arith, c.type_inv.area i) in
      keys_held c.args.port c.args.area.now c.args.keys.now c.read_keys.new.keys c.args.at 9 (row_of (Ok c.in-Ok.held)) read-held (omega arith)
      c.requires.whole_at (octets_part (get_or c.args.area.now (c.args.at + 1) 0) c.args.at c.args.area.now octet) (usual_sound c.args.port c.requires.usual) refl
      (loose c.args.port c.requires.usual 0 _)

pub returns-then-not-lies_usual : goal.returns-then-not-lies_usual
returns-then-not-lies_usual c =
    let d = (goal.at.returns-then-not-lies_usual c).In-Ok in
    rw c.barred.ensures (held-is d false (sym c.lies_usual.ensures ∙ c.if-not-lies_usual.true))

pub returns-else-not-lies_usual : goal.returns-else-not-lies_usual
returns-else-not-lies_usual c =
    let d = (goal.at.returns-else-not-lies_usual c).In-Ok in
    held-is d true (sym c.lies_usual.ensures ∙ c.if-not-lies_usual.false)
