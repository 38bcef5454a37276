-- `file_set::port_fits` meets its contract.
use mathlib.Core.Path.{refl}
use Rattle.file_set.specs.Set.{used_port, unused_port}
use Rattle.file_set.proofs.port_fits.Goals as goal

pub returns-then-used : goal.returns-then-used
unfolding used_port
returns-then-used c = rw (c.if-used.true, c.port_sound-sound.ensures, c.port_typed-typed.ensures) refl

pub returns : goal.returns
unfolding unused_port
returns c = rw (c.if-used.false, c.port_zero-zero.ensures, c.port_typed-typed.ensures) refl
