-- `option_read_bitmap::add_octet` meets its contract: each way out is a turn of the engine.
use native.Mathlib.Omega.{arith}
use Prim.Native.Nat.{ℕ, ◌+◌, ◌/◌, ◌≤◌, ◌<◌}
use mathlib.Core.Path.{◌≡◌, sym, ◌∙◌}
use mathlib.Core.List.{List}
use lib.ListN.{get_or}
use Rattle.option_read_bitmap.specs.declared.Last.{Last}
use Rattle.option_read_octet.specs.Entry.{count_in, Right}
use Rattle.option_read_bitmap.proofs.Turn.{few_keys, some_runs, some_keys, low_key, ones_keys, ones_low, turn_zero, turn_apart, turn_touch, turn_ones}
use Rattle.option_read_bitmap.proofs.add_octet.Goals as goal
use Rattle.option_read_bitmap.proofs.add_octet.Goals.{After-from-place}

-- an octet that is not 0
module _ (c : After-from-place) where
  abbrev b : List ℕ
  b = c.args.octets.now

  abbrev i : ℕ
  i = c.args.i

  abbrev e : ℕ
  e = get_or c.args.entries.now c.from-place.result 0

  abbrev ks : List ℕ
  ks = c.args.keys.now

  abbrev s : Last
  s = c.args.last

  abbrev x : ℕ
  x = c.widen-x.result

  below : c.from-place.result < 256
  below = omega (arith, c.from-place.ensures, c.widen-x.ensures)

  right : Right (get_or b i 0) e
  right = rw (← c.from-place.ensures) (c.requires.5.each c.from-place.result below)

  few : s.count ≤ 116
  few = few_keys b i e ks s c.requires.0 c.requires.1 right c.requires.2 c.requires.3

  some : 1 ≤ count_in e
  some = some_runs b i e ks s c.requires.0 c.requires.1 right c.requires.2 c.requires.3 x c.widen-x.ensures.0 c.widen-x.ensures.1 c.if-x-eq0.false

  module _ (t : s.bit + x / 128 ≡ 2) where
    last-there : 0 < s.count
    last-there = some_keys b i e ks s c.requires.0 c.requires.1 right c.requires.2 c.requires.3 x c.widen-x.ensures.0 c.widen-x.ensures.1 c.if-x-eq0.false t

    last-low : s.key ≤ 90000000
    last-low = low_key b i e ks s c.requires.0 c.requires.1 right c.requires.2 c.requires.3 x c.widen-x.ensures.0 c.widen-x.ensures.1 c.if-x-eq0.false t

  -- it is all ones, and the last run touches it
  module _ (t : s.bit + x ≡ 256) where
    open-there : 0 < s.count
    open-there = ones_keys b i e ks s c.requires.0 c.requires.1 right c.requires.2 c.requires.3 x c.widen-x.ensures.0 c.widen-x.ensures.1 t

    open-low : s.key ≤ 90000000
    open-low = ones_low b i e ks s c.requires.0 c.requires.1 right c.requires.2 c.requires.3 x c.widen-x.ensures.0 c.widen-x.ensures.1 t

pub returns-then-x-eq0 : goal.returns-then-x-eq0
returns-then-x-eq0 c =
    let w = c.widen-x in
    turn_zero c.args.octets.now c.args.i _ c.args.keys.now c.args.last c.requires.0 c.requires.1 (c.requires.5.each _ (rw w.ensures.0 at w.ensures.1)) c.requires.2 c.requires.3 (sym w.ensures.0 ∙ c.if-x-eq0.true)

pub bounds-entries-place : goal.bounds-entries-place
bounds-entries-place c =
    let d = (goal.at.bounds-entries-place c).After-from-place in
    omega (arith, c.requires.5.entries, c.from-place.ensures, c.widen-x.ensures)

pub overflow_add-key : goal.overflow_add-key
overflow_add-key c =
    let d = (goal.at.overflow_add-key c).After-from-place in
    omega (arith, open-low d c.if-last-x-eq256.true)

pub overflow_sub-at : goal.overflow_sub-at
overflow_sub-at c =
    let d = (goal.at.overflow_sub-at c).After-from-place in
    omega (arith, open-there d c.if-last-x-eq256.true)

pub offset_bounds-keys-at : goal.offset_bounds-keys-at
offset_bounds-keys-at c =
    let d = (goal.at.offset_bounds-keys-at c).After-from-place in
    omega (arith, few d)

pub bounds-keys-at : goal.bounds-keys-at
bounds-keys-at c =
    let d = (goal.at.bounds-keys-at c).After-from-place in
    omega (arith, few d, c.requires.3)

pub returns-then-last-x-eq256 : goal.returns-then-last-x-eq256
returns-then-last-x-eq256 c =
    let d = (goal.at.returns-then-last-x-eq256 c).After-from-place in
    turn_ones (b d) (i d) (e d) (ks d) (s d) c.requires.0 c.requires.1 (right d) c.requires.2 c.requires.3 (x d) c.widen-x.ensures.0 c.widen-x.ensures.1 c.if-last-x-eq256.true

pub overflow_sub-last : goal.overflow_sub-last
overflow_sub-last c =
    let d = (goal.at.overflow_sub-last c).After-from-place in
    omega (arith, last-there d c.if-last-x-eq2.true)

pub overflow_add-last-then-last-x-eq2 : goal.overflow_add-last-then-last-x-eq2
overflow_add-last-then-last-x-eq2 c =
    let d = (goal.at.overflow_add-last-then-last-x-eq2 c).After-from-place in
    omega (arith, last-low d c.if-last-x-eq2.true)

pub put_runs-requires : goal.put_runs-requires
put_runs-requires c =
    let d = (goal.at.put_runs-requires c).After-from-place in
    (c.requires.3, omega (arith, few d), omega (arith, last-low d c.if-last-x-eq2.true), omega (arith, c.requires), some d, (right d).few)

pub returns-then-last-x-eq2 : goal.returns-then-last-x-eq2
returns-then-last-x-eq2 c =
    let d = (goal.at.returns-then-last-x-eq2 c).After-from-place in
    turn_touch (b d) (i d) (e d) (ks d) (s d) c.requires.0 c.requires.1 (right d) c.requires.2 c.requires.3 (x d) c.widen-x.ensures.0 c.widen-x.ensures.1 c.if-x-eq0.false c.if-last-x-eq2.true _ _ (rw c.requires.4 at c.put_runs.ensures)

pub put_runs-requires-2 : goal.put_runs-requires-2
put_runs-requires-2 c =
    let d = (goal.at.put_runs-requires-2 c).After-from-place in
    (c.requires.3, omega (arith, few d), omega (arith, c.requires), omega (arith, c.requires), some d, (right d).few)

pub returns : goal.returns
returns c =
    let d = (goal.at.returns c).After-from-place in
    turn_apart (b d) (i d) (e d) (ks d) (s d) c.requires.0 c.requires.1 (right d) c.requires.2 c.requires.3 (x d) c.widen-x.ensures.0 c.widen-x.ensures.1 c.if-x-eq0.false c.if-last-x-eq2.false _ _ (rw c.requires.4 at c.put_runs-2.ensures)
