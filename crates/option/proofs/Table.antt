-- P1 to P11, and the rows with other sets, hold of the definitions.
use mathlib.Core.Path.{refl}
use Rattle.option.specs.Reading.{pieces, option_runs}
use Rattle.option.specs.Spelling.{least_form, form_for, body_for, spelled_by, spelling_of}
use Rattle.option.specs.Table.{TableHolds, SetTableHolds}

pub table_holds : TableHolds
unfolding pieces option_runs least_form form_for body_for spelled_by spelling_of
table_holds = refl

pub set_table_holds : SetTableHolds
unfolding least_form form_for body_for spelled_by spelling_of
set_table_holds = refl
