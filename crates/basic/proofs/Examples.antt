-- The examples of `specs/Examples.antt` hold of the definitions.
use mathlib.Core.Path.{refl}
use Rattle.basic.specs.Levels.{is_level, rank_of, at_most}
use Rattle.basic.specs.Option.{basic_valid}
use Rattle.basic.specs.Alone.{basic_reading, flag_octets_for, basic_writing, basic_out}
use Rattle.basic.specs.Settings.{way_sound, way_zero, basic_sound}
use Rattle.basic.specs.Examples.{examples, Read, Rows, Written, WrittenAlone, FourInOrder, WorkedSettings}

pub examples_read : Read examples
unfolding basic_reading basic_valid is_level
examples_read = (refl, (refl, (refl, (refl, (refl, (refl, (refl, (refl, (refl, (refl, (refl, (refl, (refl, tt)))))))))))))

pub examples_rows : Rows
unfolding basic_reading basic_valid is_level
examples_rows = (refl, refl)

pub examples_written : Written
unfolding flag_octets_for
examples_written = (refl, refl, refl, refl)

pub written_alone : WrittenAlone
unfolding is_level flag_octets_for basic_writing basic_out
written_alone = (refl, refl, refl, refl, refl, refl, refl, refl, refl, refl, refl, refl, refl, refl, refl)

pub four_in_order : FourInOrder
unfolding is_level rank_of at_most
four_in_order = (refl, refl, refl, refl, refl, refl)

pub worked_settings : WorkedSettings
unfolding is_level rank_of at_most way_sound way_zero basic_sound
worked_settings = (refl, refl, refl, refl, refl, refl, refl, refl)
