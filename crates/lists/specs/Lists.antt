-- What a lent list holds after numbers were written over it.
use Rattle.std.specs.Prelude.{ℕ, ◌+◌, List, ◌++◌, length, take, drop}

-- out, with the list xs written over it from place `at` on
abbrev pub paint : ℕ → List ℕ → List ℕ → List ℕ
paint at xs out = take at out ++ (xs ++ drop (at + length xs) out)

-- dst, with as many numbers of src at its start as both have
abbrev pub copied : {T : Type 0} → List T → List T → List T
copied src dst = take (length dst) src ++ drop (length src) dst
