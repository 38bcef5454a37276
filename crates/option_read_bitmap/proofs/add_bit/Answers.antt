-- `option_read_bitmap::add_bit` meets its contract: each way out is a turn of the first engine.
use native.Mathlib.Omega.{arith}
use Prim.Native.Nat.{ℕ, ◌+◌, ◌/◌, ◌%◌, ◌<◌, ◌≤◌}
use mathlib.Core.Path.{◌≡◌, ap, ◌∙◌}
use mathlib.Core.List.{List}
use lib.ListN.{get_or}
use Rattle.option.specs.Bitmap.{weight}
use Rattle.option_read_bitmap.specs.declared.Last.{Last}
use Rattle.option_read_bitmap.specs.Stages.{Turn}
use Rattle.option_read_bitmap.proofs.Bits.{few_bits, bit_clear, bit_there, bit_small, bit_goes_on, bit_room, bit_apart}
use Rattle.option_read_bitmap.proofs.add_bit.Goals as goal
use Rattle.option_read_bitmap.proofs.add_bit.Goals.{After-bit_of-bit}

-- the bit is read
module _ (c : After-bit_of-bit) where
  abbrev b : List ℕ
  b = c.args.octets.now

  abbrev at : ℕ
  at = c.args.c

  abbrev ks : List ℕ
  ks = c.args.keys.now

  abbrev s : Last
  s = c.args.last

  abbrev bit : ℕ
  bit = c.bit_of-bit.result

  bit-is : bit ≡ get_or b (at / 8) 0 / weight (at % 8) % 2
  bit-is = c.bit_of-bit.ensures.0 ∙ ap (λ (x : ℕ). x / weight (at % 8) % 2) c.widen.ensures.0

  few : s.count ≤ 120
  few = few_bits b at ks s c.requires.0 c.requires.1 c.requires.2 c.requires.3 bit bit-is

  clear : bit ≡ 0 → Turn b (at + 1) ks s ks (record { count = s.count; key = s.key; bit = 0 })
  clear z = bit_clear b at ks s c.requires.0 c.requires.1 c.requires.2 c.requires.3 bit bit-is z

  module _ (full : bit ≡ 0 → ⊥) where
    module _ (one : s.bit ≡ 1) where
      there : 0 < s.count
      there = bit_there b at ks s c.requires.0 c.requires.1 c.requires.2 c.requires.3 bit bit-is full c.bit_of-bit.ensures.1 one

      small : s.key ≤ 90000000
      small = bit_small b at ks s c.requires.0 c.requires.1 c.requires.2 c.requires.3 bit bit-is full c.bit_of-bit.ensures.1 one

    room : (s.bit ≡ 1 → ⊥) → s.count < 120
    room n = bit_room b at ks s c.requires.0 c.requires.1 c.requires.2 c.requires.3 bit bit-is full c.bit_of-bit.ensures.1 n

pub bounds-octets-c : goal.bounds-octets-c
bounds-octets-c c = omega (arith, c.requires.0)

pub bit_of-bit-requires : goal.bit_of-bit-requires
bit_of-bit-requires c = (c.widen.ensures.1, omega arith)

pub returns-then-bit-eq0 : goal.returns-then-bit-eq0
returns-then-bit-eq0 c = clear (goal.at.returns-then-bit-eq0 c).After-bit_of-bit c.if-bit-eq0.true

pub overflow_add-key : goal.overflow_add-key
overflow_add-key c = omega (arith, small (goal.at.overflow_add-key c).After-bit_of-bit c.if-bit-eq0.false c.if-last-eq1.true)

pub overflow_sub-at : goal.overflow_sub-at
overflow_sub-at c = omega (arith, there (goal.at.overflow_sub-at c).After-bit_of-bit c.if-bit-eq0.false c.if-last-eq1.true)

pub offset_bounds-keys-at : goal.offset_bounds-keys-at
offset_bounds-keys-at c = omega (arith, few (goal.at.offset_bounds-keys-at c).After-bit_of-bit)

pub bounds-keys-at : goal.bounds-keys-at
bounds-keys-at c =
    let d = (goal.at.bounds-keys-at c).After-bit_of-bit in
    omega (arith, few d, c.requires.3, there d c.if-bit-eq0.false c.if-last-eq1.true)

pub returns-then-last-eq1 : goal.returns-then-last-eq1
returns-then-last-eq1 c =
    let d = (goal.at.returns-then-last-eq1 c).After-bit_of-bit in
    bit_goes_on (b d) (at d) (ks d) (s d) c.requires.0 c.requires.1 c.requires.2 c.requires.3 (bit d) (bit-is d) c.if-bit-eq0.false c.bit_of-bit.ensures.1 c.if-last-eq1.true

pub offset_bounds-keys-at-2 : goal.offset_bounds-keys-at-2
offset_bounds-keys-at-2 c = omega (arith, few (goal.at.offset_bounds-keys-at-2 c).After-bit_of-bit)

pub bounds-keys-at-2 : goal.bounds-keys-at-2
bounds-keys-at-2 c =
    omega (arith, c.requires.3, room (goal.at.bounds-keys-at-2 c).After-bit_of-bit c.if-bit-eq0.false c.if-last-eq1.false)

pub overflow_add-result : goal.overflow_add-result
overflow_add-result c = omega (arith, few (goal.at.overflow_add-result c).After-bit_of-bit)

pub returns : goal.returns
returns c =
    let d = (goal.at.returns c).After-bit_of-bit in
    rw c.requires.4 (bit_apart (b d) (at d) (ks d) (s d) c.requires.0 c.requires.1 c.requires.2 c.requires.3 (bit d) (bit-is d) c.if-bit-eq0.false c.bit_of-bit.ensures.1 c.if-last-eq1.false)
