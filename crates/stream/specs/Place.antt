-- Where a program stands between two records: what it holds of its input, and how many octets of output wait; and what a step of it answers: whether it goes on, and from where.
-- What the system answers to a write, `sent`, is a free answer: nothing is known of it.
use Rattle.std.specs.Prelude.{ℕ, ◌+◌, ◌≤◌, ◌<◌, ◌≡◌, Bool, true, false, cond, List, length}
use Rattle.std.specs.declared.ops.ControlFlow.{ControlFlow}
use Rattle.std.specs.declared.ops.ControlFlow.TheVariants.{Continue, Break}
use Rattle.stream.specs.declared.input.Window.{Window}
use Rattle.stream.specs.declared.place.Place.{Place}
use Rattle.stream.specs.Input.{lying, held_count, Holds}

-- a place to go on from; or nothing follows, and so many octets still wait
abbrev pub Answer : Type 0
Answer = ControlFlow ℕ Place

-- nothing is read and nothing waits
abbrev pub first_place : Place
first_place = record { window = record { at = 0; end = 0 }; waiting = 0 }

abbrev pub going_place : Window → ℕ → Answer
going_place w waiting = Continue (record { window = w; waiting = waiting })

-- nothing is read any more; what waits is still to be written
abbrev pub stopped_place : ℕ → Answer
stopped_place waiting = Break waiting

-- what an answer holds of the input, how many octets wait, and whether it goes on
abbrev pub window_of : Answer → Window
window_of (Continue p) = p.window
window_of (Break waiting) = record { at = 0; end = 0 }

abbrev pub waiting_of : Answer → ℕ
waiting_of (Continue p) = p.waiting
waiting_of (Break waiting) = waiting

abbrev pub more_of : Answer → Bool
more_of (Continue p) = true
more_of (Break waiting) = false

-- what waits is written and the program goes on as before; or a write failed, so that nothing waits any more and nothing follows
abbrev pub flushed : Place → Bool → Answer
flushed p sent = cond sent (going_place p.window 0) (stopped_place 0)

pub record Flushes (p : Place) (r : Answer) : Type 0 where
  pub sent : Bool
  pub place : r ≡ flushed p sent
  -- where nothing waits there is no write, and none fails
  pub idle : p.waiting ≡ 0 → sent ≡ true

-- Room for `room` octets more behind those that wait in a buffer.
pub record Spares (out : List ℕ) (p : Place) (room : ℕ) (r : Answer) : Type 0 where
  pub sent : Bool
  pub fits : p.waiting + room ≤ length out → r ≡ Continue p
  pub full : length out < p.waiting + room → r ≡ flushed p sent
  -- so there is room, in a buffer that has so much
  pub spare : room ≤ length out → waiting_of r + room ≤ length out

-- Holding n octets of input: what waits is written before anything is read.
pub record Feeds (before : List ℕ) (p : Place) (n : ℕ) (after : List ℕ) (r : Answer) : Type 0 where
  pub sent : Bool
  -- the buffer's length is kept, and the window lies in it
  pub sized : length after ≡ length before
  pub inside : ((window_of r).at ≤ (window_of r).end) × ((window_of r).end ≤ length after)
  -- n octets are held already: nothing is written, and nothing is read
  pub enough : n ≤ held_count before p.window → (after ≡ before) × (r ≡ going_place (lying (length before) p.window) p.waiting)
  -- there are fewer, and a write failed: nothing is read, and nothing follows
  pub unsent : held_count before p.window < n → sent ≡ false → (after ≡ before) × (r ≡ stopped_place 0)
  -- there are fewer, and what waited is written: the input is read
  pub fed : held_count before p.window < n → sent ≡ true → Holds before p.window n after (window_of r) × (waiting_of r ≡ 0) × (more_of r ≡ true)
