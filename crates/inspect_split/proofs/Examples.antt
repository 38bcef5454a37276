-- The rows of `specs/Examples.antt` are those that the definitions compute.
use mathlib.Core.Path.{refl}
use Rattle.inspect_split.specs.Records.{is_record, split_from}
use Rattle.inspect_split.specs.Examples.{WorkedRecords}

pub worked_records : WorkedRecords
unfolding is_record split_from
worked_records = record { records = refl; kept = refl; lead = refl; cut = refl; whole = refl }
