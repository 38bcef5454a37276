-- `export_memory::put_addresses` meets its contract.
use borrow.Author.Rules.{rules}
use mathlib.Core.Path.{◌≡◌, sym, ◌∙◌}
use lib.ListN.{length}
use lib.Seq.{length-take-le}
use Rattle.export_memory.proofs.put_addresses.Goals as goal

pub copy_from_slice-requires : goal.copy_from_slice-requires
copy_from_slice-requires c =
    let l : length c.args.memory.addresses ≡ 64 = search rules in
    length-take-le 64 c.args.addresses.now c.requires ∙ sym l
