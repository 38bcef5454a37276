-- The same by the places of an option's octets, as the reader looks at them: n octets, of which those past the end count as 0.
use Rattle.std.specs.Prelude.{ℕ, ◌%◌, Bool, true, cond, ◌&&◌, leb, eqb}

abbrev pub framed_at : ℕ → ℕ → ℕ → Bool
framed_at n kind size = ((leb 3 n && leb n 5) && eqb kind 130) && eqb size n

abbrev pub ended_at : ℕ → ℕ → ℕ → Bool
ended_at n first second =
    cond (eqb n 3) true (cond (eqb n 4) (eqb (first % 2) 0) (eqb (first % 2) 1 && eqb (second % 2) 0))
