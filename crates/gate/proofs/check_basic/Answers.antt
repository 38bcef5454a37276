-- `gate::check_basic` meets its contract.
use native.Mathlib.Omega.{arith}
use mathlib.Core.Path.{sym, ◌∙◌, ap}
use mathlib.Core.Bool.{true}
use Rattle.area.specs.declared.Kind.TheVariants.{Basic}
use Rattle.basic.specs.Alone.{basic_reading}
use Rattle.arrive.specs.Checks.{first_of}
use Rattle.arrive.specs.Stages.{basic_checks}
use Rattle.area.proofs.Laws.{whole_inside}
use Rattle.arrive.proofs.Arrival.{open_closed, basic_missing, basic_bad_lem, basic_outside, basic_passes_lem, checks_at}
use Rattle.gate.specs.Gate.{way_of}
use Rattle.gate.proofs.check_basic.Goals as goal

pub returns-then-not-is_open : goal.returns-then-not-is_open
returns-then-not-is_open c =
    open_closed c.args.arrived (first_of (basic_checks c.args.place true (way_of c.args.low c.args.high c.args.fields.now) c.args.area.now c.args.code)) (sym c.is_open.ensures ∙ c.if-not-is_open.true)

pub overflow_add-at : goal.overflow_add-at
overflow_add-at c =
    let i = whole_inside Basic c.args.area.now c.in-Some.at (rw c.in-Some.is at c.requires.placed_in) in
    omega (arith, i.inside, c.requires.area_len_bound)

pub overflow_cast-at : goal.overflow_cast-at
overflow_cast-at c =
    let i = whole_inside Basic c.args.area.now c.in-Some.at (rw c.in-Some.is at c.requires.placed_in) in
    omega (arith, i.inside, c.requires.area_len_bound)

pub returns-in_default : goal.returns-in_default
returns-in_default c =
    c.faulty.ensures
    ∙ basic_bad_lem c.args.arrived (way_of c.args.low c.args.high c.args.fields.now) c.args.area.now c.args.code (sym c.is_open.ensures ∙ c.if-not-is_open.false) c.in-Some.at (ap basic_reading (sym c.option_at.ensures) ∙ sym c.read_basic.ensures ∙ c.in_default.is)
    ∙ checks_at c.args.arrived (way_of c.args.low c.args.high c.args.fields.now) c.args.area.now c.args.code c.args.place _ c.in-Some.is

pub returns-then-not-passes_fields : goal.returns-then-not-passes_fields
returns-then-not-passes_fields c =
    c.barred.ensures
    ∙ basic_outside c.args.arrived (way_of c.args.low c.args.high c.args.fields.now) c.args.area.now c.args.code (sym c.is_open.ensures ∙ c.if-not-is_open.false) c.in-Some.at
    c.in-Some-read_basic.read (ap basic_reading (sym c.option_at.ensures) ∙ sym c.read_basic.ensures ∙ c.in-Some-read_basic.is) (sym c.passes_fields.ensures ∙ c.if-not-passes_fields.true)
    ∙ checks_at c.args.arrived (way_of c.args.low c.args.high c.args.fields.now) c.args.area.now c.args.code c.args.place _ c.in-Some.is

pub returns-in-None : goal.returns-in-None
returns-in-None c =
    c.missing.ensures
    ∙ basic_missing c.args.arrived (way_of c.args.low c.args.high c.args.fields.now) c.args.area.now c.args.code (sym c.is_open.ensures ∙ c.if-not-is_open.false)
    ∙ checks_at c.args.arrived (way_of c.args.low c.args.high c.args.fields.now) c.args.area.now c.args.code c.args.place _ c.in-None.is

pub returns-else-not-passes_fields : goal.returns-else-not-passes_fields
returns-else-not-passes_fields c =
    basic_passes_lem c.args.arrived (way_of c.args.low c.args.high c.args.fields.now) c.args.area.now c.args.code (sym c.is_open.ensures ∙ c.if-not-is_open.false) c.in-Some.at
    c.in-Some-read_basic.read (ap basic_reading (sym c.option_at.ensures) ∙ sym c.read_basic.ensures ∙ c.in-Some-read_basic.is) (sym c.passes_fields.ensures ∙ c.if-not-passes_fields.false)
    ∙ checks_at c.args.arrived (way_of c.args.low c.args.high c.args.fields.now) c.args.area.now c.args.code c.args.place _ c.in-Some.is
