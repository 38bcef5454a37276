-- `port::port_sound` meets its contract.
use borrow.Author.Tests.{not-true, not-false, eq-eqb}
use mathlib.Core.Path.{◌≡◌, sym, ◌∙◌}
use mathlib.Core.Bool.{true, false, and-false}
use Rattle.basic.specs.Settings.{basic_sound}
use Rattle.option.specs.Permitted.{some_of}
use Rattle.port.specs.declared.Port.{Port}
use Rattle.port.specs.Port.{range_sound, assigned_sound, default_lies, port_sound}
use Rattle.port.proofs.Laws.{Range, sound_range, default_ill, assigned_last, assigned_required}
use Rattle.port.proofs.port_sound.Goals as goal

pub returns-then-port-eq0 : goal.returns-then-port-eq0
unfolding port_sound
returns-then-port-eq0 c = simp (eq-eqb _ _ c.if-port-eq0.true)

pub returns-then-not-some : goal.returns-then-not-some
unfolding port_sound
returns-then-not-some c = simp (sym c.some.ensures ∙ not-true _ c.if-not-some.true-raw, and-false)

pub returns-then-not-range_sound : goal.returns-then-not-range_sound
unfolding port_sound
returns-then-not-range_sound c = simp (sym c.range_sound.ensures ∙ not-true _ c.if-not-range_sound.true-raw, and-false)

pub returns-then-not-basic_sound : goal.returns-then-not-basic_sound
unfolding port_sound
returns-then-not-basic_sound c = simp (sym c.basic_sound.ensures ∙ not-true _ c.if-not-basic_sound.true-raw, and-false)

abbrev port-of : (c : goal.Else-not-basic_sound) → Port
port-of c = c.args.port

range : (c : goal.Else-not-basic_sound) → range_sound (port-of c).lowest (port-of c).highest (port-of c).domain ≡ true
range c = sym c.range_sound.ensures ∙ not-false _ c.if-not-range_sound.false-raw

bounds : (c : goal.Else-not-basic_sound) → Range (port-of c).lowest (port-of c).highest (port-of c).domain
bounds c = sound_range (port-of c).lowest (port-of c).highest (port-of c).domain (range c)

pub default_sound-requires : goal.default_sound-requires
default_sound-requires c = let r = bounds c in record { lowest_value = r.low_formed; highest_value = r.high_formed }

abbrev port-of-Then-not-default_sound : (c : goal.Then-not-default_sound) → Port
port-of-Then-not-default_sound c = c.args.port

pub returns-then-not-default_sound : goal.returns-then-not-default_sound
returns-then-not-default_sound c = default_ill (port-of-Then-not-default_sound c) (sym c.default_sound.ensures ∙ not-true _ c.if-not-default_sound.true-raw)

abbrev port-of-After-is_zero-zero : (c : goal.After-is_zero-zero) → Port
port-of-After-is_zero-zero c = c.args.port

range-After-is_zero-zero : (c : goal.After-is_zero-zero) → range_sound (port-of-After-is_zero-zero c).lowest (port-of-After-is_zero-zero c).highest (port-of-After-is_zero-zero c).domain ≡ true
range-After-is_zero-zero c = sym c.range_sound.ensures ∙ not-false _ c.if-not-range_sound.false-raw

settings : (c : goal.After-is_zero-zero) → basic_sound (port-of-After-is_zero-zero c).basic ≡ true
settings c = sym c.basic_sound.ensures ∙ not-false _ c.if-not-basic_sound.false-raw

-- what is known where control goes on: some spelling is permitted, then the range is sound, then the settings of option 130 too
permitted : (c : goal.After-is_zero-zero) → some_of c.args.port.spellings ≡ true
permitted c = sym c.some.ensures ∙ not-false _ c.if-not-some.false-raw

default : (c : goal.After-is_zero-zero) →
    let p = port-of-After-is_zero-zero c in
    default_lies p.unlabelled p.lowest p.highest p.default ≡ true
default c = sym c.default_sound.ensures ∙ not-false _ c.if-not-default_sound.false-raw

-- the assigned label is what is left
last : (c : goal.After-is_zero-zero) → assigned_sound (port-of-After-is_zero-zero c) ≡ port_sound (port-of-After-is_zero-zero c)
last c =
    assigned_last (port-of-After-is_zero-zero c) c.if-port-eq0.false (range-After-is_zero-zero c) (settings c) (permitted c) (default c)

pub returns-then-port : goal.returns-then-port
returns-then-port c =
    c.is_zero-zero.ensures ∙ sym (assigned_required (port-of-After-is_zero-zero c) true c.if-port.true) ∙ last c

abbrev port-of-After-highest-1 : (c : goal.After-highest-1) → Port
port-of-After-highest-1 c = c.args.port

range-After-highest-1 : (c : goal.After-highest-1) → range_sound (port-of-After-highest-1 c).lowest (port-of-After-highest-1 c).highest (port-of-After-highest-1 c).domain ≡ true
range-After-highest-1 c = sym c.range_sound.ensures ∙ not-false _ c.if-not-range_sound.false-raw

bounds-After-highest-1 : (c : goal.After-highest-1) → Range (port-of-After-highest-1 c).lowest (port-of-After-highest-1 c).highest (port-of-After-highest-1 c).domain
bounds-After-highest-1 c = sound_range (port-of-After-highest-1 c).lowest (port-of-After-highest-1 c).highest (port-of-After-highest-1 c).domain (range-After-highest-1 c)

pub lies_within-requires : goal.lies_within-requires
lies_within-requires c = let r = bounds-After-highest-1 c in record { lowest_value = r.low_formed; highest_value = r.high_formed }

abbrev port-of-After-lies_within : (c : goal.After-lies_within) → Port
port-of-After-lies_within c = c.args.port

range-After-lies_within : (c : goal.After-lies_within) → range_sound (port-of-After-lies_within c).lowest (port-of-After-lies_within c).highest (port-of-After-lies_within c).domain ≡ true
range-After-lies_within c = sym c.range_sound.ensures ∙ not-false _ c.if-not-range_sound.false-raw

settings-After-lies_within : (c : goal.After-lies_within) → basic_sound (port-of-After-lies_within c).basic ≡ true
settings-After-lies_within c = sym c.basic_sound.ensures ∙ not-false _ c.if-not-basic_sound.false-raw

-- what is known where control goes on: some spelling is permitted, then the range is sound, then the settings of option 130 too
permitted-After-lies_within : (c : goal.After-lies_within) → some_of c.args.port.spellings ≡ true
permitted-After-lies_within c = sym c.some.ensures ∙ not-false _ c.if-not-some.false-raw

default-After-lies_within : (c : goal.After-lies_within) →
    let p = port-of-After-lies_within c in
    default_lies p.unlabelled p.lowest p.highest p.default ≡ true
default-After-lies_within c = sym c.default_sound.ensures ∙ not-false _ c.if-not-default_sound.false-raw

-- the assigned label is what is left
last-After-lies_within : (c : goal.After-lies_within) → assigned_sound (port-of-After-lies_within c) ≡ port_sound (port-of-After-lies_within c)
last-After-lies_within c =
    assigned_last (port-of-After-lies_within c) c.if-port-eq0.false (range-After-lies_within c) (settings-After-lies_within c) (permitted-After-lies_within c) (default-After-lies_within c)

pub returns : goal.returns
returns c =
    c.lies_within.ensures ∙ sym (assigned_required (port-of-After-lies_within c) false c.if-port.false) ∙ last-After-lies_within c
