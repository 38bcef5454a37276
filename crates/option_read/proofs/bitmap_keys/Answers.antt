-- `option_read::bitmap_keys` meets its contract.
use mathlib.Core.Path.{refl, sym, ◌∙◌}
use Rattle.option_read_bitmap.proofs.Theorems.{bitmap_found_lem}
use Rattle.option_read.proofs.Loops.{pass_bitmap}
use Rattle.option_read.proofs.bitmap_keys.Goals as goal

pub unwrap-requires : goal.unwrap-requires
unwrap-requires c =
    rw (c.read_bitmap.ensures.0 ∙ bitmap_found_lem c.args.octets.now c.requires.0 c.args.keys.now c.requires.1) refl

pub returns : goal.returns
returns c =
    pass_bitmap c.args.octets.now c.args.keys.now _ c.unwrap.result c.requires.0 c.requires.1 (sym c.unwrap.ensures ∙ c.read_bitmap.ensures.0, c.read_bitmap.ensures.1)
