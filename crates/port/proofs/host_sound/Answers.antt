-- `port::host_sound` meets its contract.
use Rattle.port.specs.Port.{host_sound}
use Rattle.port.proofs.host_sound.Goals as goal

pub returns : goal.returns
unfolding host_sound
returns c = c.range_sound.ensures
