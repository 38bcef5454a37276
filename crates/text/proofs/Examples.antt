-- The lines of `specs/Examples.antt` are those that the definitions compute.
use mathlib.Core.Path.{refl}
use Rattle.text.specs.Text.{leading, decimal, hex_of}
use Rattle.text.specs.Line.{shown, forward_line, drop_line}
use Rattle.text.specs.Examples.{Lines}

pub lines : Lines
unfolding leading decimal hex_of shown forward_line drop_line
lines = record { first = refl; second = refl; empty = refl; order = refl; large = refl; cut = refl }
