-- `file_table::write_pairs` meets its contract.
use lib.ListN.{take}
use Rattle.file_format.specs.Format.{Added}
use Rattle.file_format.specs.Laws.{flat}
use Rattle.file_table.specs.Stages.{pair_octets}
use Rattle.file_table.proofs.write_pairs.Given as goal

abbrev pub invariant-loop-pair : goal.invariant-loop-pair
invariant-loop-pair l = Added l.initial.out (flat pair_octets (take l.pair-index l.pair-items)) l.out
