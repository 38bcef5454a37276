-- What the private functions answer; no public contract names these.
use Rattle.std.specs.Prelude.{ℕ, ◌+◌, ◌-◌, ◌%◌, cond, eqb}

-- a plain sum with its carries brought back
abbrev pub folded : ℕ → ℕ
folded s = cond (eqb s 0) 0 (1 + (s - 1) % 65535)
