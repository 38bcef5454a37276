-- The octets that were read and are not yet used: a window of the input buffer.
use Rattle.std.specs.Prelude.{ℕ, ◌+◌, ◌-◌, ◌≤◌, ◌<◌, ◌≡◌, cond, ◌&&◌, List, ◌++◌, length, take, drop, leb}
use Rattle.stream.specs.declared.input.Window.{Window}

-- the window; an empty one where it does not lie in a buffer of `room` octets
unfoldable pub lying : ℕ → Window → Window
lying room w = cond (leb w.at w.end && leb w.end room) w (record { at = 0; end = 0 })

-- how many octets a window has, and which
unfoldable pub held_count : List ℕ → Window → ℕ
held_count input w = (lying (length input) w).end - (lying (length input) w).at

unfoldable pub held : List ℕ → Window → List ℕ
held input w = take (held_count input w) (drop (lying (length input) w).at input)

-- Holding n octets: the buffer and the window before and after. `rest` is what the reads left behind the octets that were held, a free
-- answer: nothing is known of it.
pub record Holds (before : List ℕ) (w : Window) (n : ℕ) (after : List ℕ) (r : Window) : Type 0 where
  pub rest : List ℕ
  -- the buffer's length is kept, and the window lies in it
  pub sized : length after ≡ length before
  pub inside : (r.at ≤ r.end) × (r.end ≤ length after)
  -- n octets are held already: nothing is moved and nothing is read
  pub enough : n ≤ held_count before w → (after ≡ before) × (r ≡ lying (length before) w)
  -- there are fewer: those that are held stand at the front in their order, and what was read stands behind them
  pub front : held_count before w < n → after ≡ held before w ++ rest
  pub first : held_count before w < n → (r.at ≡ 0) × (held_count before w ≤ r.end)

-- One piece of at most `most` octets behind what is held. `rest` is what the read left behind the octets that were held, a free answer; the window is that of the octets that came.
pub record HoldsPiece (before : List ℕ) (w : Window) (most : ℕ) (after : List ℕ) (r : Window) : Type 0 where
  pub rest : List ℕ
  pub sized : length after ≡ length before
  -- what is held stands at the front in its order, and the octets that came behind it
  pub front : after ≡ held before w ++ rest
  pub begins : r.at ≡ held_count before w
  pub inside : (r.at ≤ r.end) × (r.end ≤ length after)
  pub short : r.end ≤ r.at + most
