-- The worked files hold of the definitions.
use mathlib.Core.Path.{refl}
use Rattle.label.specs.Runs.{all_below, subset}
use Rattle.label.specs.Label.{label_typed, well_formed, at_most, leq, in_range}
use Rattle.basic.specs.Levels.{is_level, rank_of}
use Rattle.basic.specs.Levels as levels
use Rattle.file_format.specs.Format.{octets, number_at, read_at}
use Rattle.file_port.specs.LabelFormat.{run_format, label_format}
use Rattle.file_port.specs.PortFormat.{given_format, way_format, spellings_format, plain_format, later_format, first_port, second_port, third_port, port_format}
use Rattle.file_table.specs.TableFormat.{pair_format, row_format, table_format}
use Rattle.file_read.specs.SetFormat.{ports_format, tables_format, set_format}
use Rattle.file_read.specs.File.{file_format, file_answer, file_reading, room_behind, file_room, file_octets}
use Rattle.file_write.specs.Examples.{Files, Readings}

pub files : Files
unfolding octets run_format label_format given_format way_format spellings_format plain_format later_format first_port second_port third_port port_format pair_format row_format table_format ports_format tables_format set_format file_format file_octets
files = record { sample_first = refl; sample_second = refl; sample_third = refl; all_fields = refl }

pub readings : Readings
unfolding all_below subset label_typed well_formed at_most leq in_range is_level rank_of levels.at_most number_at read_at run_format label_format given_format way_format spellings_format plain_format later_format first_port second_port third_port port_format pair_format row_format table_format ports_format tables_format set_format file_format file_answer file_reading room_behind file_room
readings =
    record {
      sample_first = refl;
      sample_second = refl;
      sample_third = refl;
      all_fields = refl;
      rows_first = refl;
      rows_second = refl;
      fields = refl;
      cut_off = refl;
      nothing = refl;
      half = refl;
      behind = refl;
      assigned = refl;
      target = refl;
      longer = refl;
      pairs = refl;
      rows = refl;
      outgrown = refl;
      last = refl;
      held_first = refl;
      long_first = refl;
      held_second = refl;
      long_second = refl;
      held_third = refl;
      long_third = refl;
    }
