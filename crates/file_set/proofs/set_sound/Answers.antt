-- `file_set::set_sound` meets its contract.
use borrow.Author.Rules.{rules}
use borrow.Author.Tests.{eq-eqb}
use mathlib.Core.Bool.{true, and-true}
use mathlib.Core.Path.{◌≡◌, sym}
use lib.ListN.{length}
use Rattle.label.proofs.Steps.{length_mapped}
use Rattle.file_set.specs.Set.{typed_set, set_sound}
use Rattle.file_set.proofs.set_sound.Goals as goal

ports-sized : (c : goal.After-struct_known-1) → length c.args.set.ports ≡ 16
ports-sized c = search (length_mapped, rules)

tables-sized : (c : goal.After-struct_known-1) → length c.args.set.tables ≡ 8
tables-sized c = search (length_mapped, rules)

all_typed : (c : goal.After-struct_known-1) → typed_set c.args.set ≡ true
unfolding typed_set
all_typed c = rw (eq-eqb _ _ (ports-sized c), eq-eqb _ _ (tables-sized c))

pub returns : goal.returns
unfolding set_sound
returns c = rw (c.ports_fit-ports.ensures, c.tables_fit-places.ensures, c.tables_sound-tables.ensures, all_typed c) (sym (and-true _))
