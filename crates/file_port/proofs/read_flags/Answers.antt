-- `file_port::read_flags` meets its contract.
use borrow.Author.Rules.{rules}
use mathlib.Core.Path.{◌≡◌, refl}
use lib.ListN.{length}
use Rattle.file_port.proofs.LabelLaws.{way_again}
use Rattle.file_port.proofs.read_flags.Goals as goal

pub returns-clause-way : goal.returns-clause-way
returns-clause-way c =
    let n : length c.fill_flags.new.flags ≡ c.args.count = search rules in
    way_again c.args.lowest c.args.highest c.args.count c.fill_flags.new.flags _ n refl
