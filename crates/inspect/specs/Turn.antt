-- Document 02, Wish 14: what one turn of the program does. What waits is written before anything else, so the turns' lines, one after the other, are what is printed: by `Pieces` (crate
-- `inspect_line`) the lines of the input in one piece. What the system answers, `sent` and `piece`, is free: nothing is known of it but that a piece is short.
use Rattle.std.specs.Prelude.{ℕ, ◌+◌, ◌≤◌, ◌<◌, Bool, true, false, List, [], ◌∷◌, ◌++◌, ◌≡◌, length, take}
use Rattle.text.specs.Line.{broken_line}
use Rattle.stream.specs.declared.place.Place.{Place}
use Rattle.stream.specs.Input.{held, held_count}
use Rattle.stream.specs.Place.{Answer, stopped_place, window_of, waiting_of, more_of}
use Rattle.file_set.specs.declared.Set.{Set}
use Rattle.inspect_split.specs.Records.{whole_of, records_of, kept_of, lines_of, last_line}
use Rattle.inspect_line.specs.Lines.{record_line}

-- the octets of the buffer that wait to be written
abbrev pub waiting : List ℕ → Answer → List ℕ
waiting out r = take (waiting_of r) out

-- the end of the input with so many octets left: nothing follows; BROKEN waits where there are any
pub record Ends (left : ℕ) (out : List ℕ) (r : Answer) : Type 0 where
  pub more : more_of r ≡ false
  pub window : window_of r ≡ record { at = 0; end = 0 }
  pub clean : left ≡ 0 → waiting out r ≡ []
  pub cut : 0 < left → waiting out r ≡ broken_line

pub record Turns (s : Set) (rows before : List ℕ) (p : Place) (after out : List ℕ) (r : Answer) : Type 0 where
  pub sent : Bool
  pub piece : List ℕ
  -- "It reads in pieces of at most 4 KiB"
  pub short : length piece ≤ 4096
  -- a write failed: nothing follows
  pub unsent : sent ≡ false → r ≡ stopped_place 0
  -- octets came: the lines of all records that are whole by now wait, and what is left over is held
  pub lines : sent ≡ true → 0 < length piece → waiting out r ≡ lines_of (record_line s rows) (records_of (held before p.window ++ piece))
  pub kept : sent ≡ true → 0 < length piece → (more_of r ≡ true) × (held after (window_of r) ≡ kept_of (held before p.window ++ piece))
  -- none came: nothing follows, and BROKEN waits where octets were left
  pub last : sent ≡ true → length piece ≡ 0 → (more_of r ≡ false) × (waiting out r ≡ last_line broken_line (held before p.window))
  -- the buffers keep their lengths; no whole record is held, and there is room for a piece behind what is
  pub sized : (length after ≡ 69632) × (length out ≡ 22528)
  pub partial : whole_of (held after (window_of r)) ≡ 0
  pub room : held_count after (window_of r) + 4096 ≤ length after
