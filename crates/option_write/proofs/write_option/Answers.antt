-- `option_write::write_option` meets its contract: the categories behind the ten octets.
-- Assumes nothing.
use mathlib.Core.Path.{refl}
use Rattle.label_keys.specs.Keys.{key_runs}
use Rattle.option_write.proofs.Writing.{option_written}
use Rattle.option_write.proofs.write_option.Goals as goal

pub returns : goal.returns
returns c =
    let a = c.args in (
      refl,
      option_written a.domain a.level a.tag a.size (key_runs a.keys.now) a.out.now c.write_body.new.out _ c.requires.1 c.requires.0.sized
          c.write_body.ensures c.write_head.ensures,
    )
