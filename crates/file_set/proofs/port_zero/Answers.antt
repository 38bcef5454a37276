-- `file_set::port_zero` meets its contract.
use mathlib.Core.Path.{refl}
use Rattle.file_set.specs.Set.{zero_port}
use Rattle.file_set.proofs.port_zero.Goals as goal

pub returns : goal.returns
unfolding zero_port
returns c =
    rw (c.is_zero-low.ensures, c.is_zero-high.ensures, c.is_zero-given.ensures, c.is_off-off.ensures, c.some-some.ensures, c.is_zero-unset.ensures) refl
