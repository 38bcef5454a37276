-- `file_port::fill_flags` meets its contract.
use Prim.Native.Nat.{ℕ}
use mathlib.Core.List.{List}
use lib.ListN.{length, take}
use Rattle.file_format.specs.Format.{Found, read_at, alike, same, number, two}
use Rattle.file_format.proofs.Loops.{Passed}
use Rattle.file_port.proofs.fill_flags.Given as goal

abbrev pub elements : List ℕ → ℕ → ℕ → Found ℕ
elements s st at = read_at (alike (number two 0 65535) st) s at

abbrev pub invariant-loop-flag : goal.invariant-loop-flag
invariant-loop-flag l = Passed (elements l.octets) same (length l.initial.flags) 0 l.at (take l.flag-index l.flags) l.flag-index 0 l.place
