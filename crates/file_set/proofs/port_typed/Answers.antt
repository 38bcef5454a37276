-- `file_set::port_typed` meets its contract.
use mathlib.Core.Path.{refl}
use Rattle.file_port.specs.Theorems.{typed_port}
use Rattle.file_set.proofs.port_typed.Goals as goal

pub returns : goal.returns
unfolding typed_port
returns c =
    rw (
      c.label_typed-low.ensures,
      c.label_typed-high.ensures,
      c.label_typed-given.ensures,
      c.way_typed-first.ensures,
      c.way_typed-second.ensures,
      c.label_typed-last.ensures,
    )
    refl
