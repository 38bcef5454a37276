-- `renumber_keys::carry_checked` meets its contract.
use Rattle.std.specs.Prelude.{Some}
use native.Mathlib.Omega.{arith}
use borrow.Author.Tests.{eqb-true}
use Prim.Native.Nat.{◌≤◌}
use mathlib.Core.Path.{◌≡◌, refl, sym, ◌∙◌, ap}
use mathlib.Core.List.{[]}
use lib.ListN.{length}
use Rattle.label_keys.specs.Keys.{key_runs}
use Rattle.table.specs.Table.{rows_from}
use Rattle.table.specs.Numbers.{numbered, in_image}
use Rattle.renumber_keys.specs.Sets.{runs_of}
use Rattle.renumber_keys.proofs.Carrying.{carried_found, none_written, none_numbered, none_image}
use Rattle.renumber_keys.proofs.Held.{no_keys}
use Rattle.renumber_keys.proofs.carry_checked.Goals as goal

pub returns-then-is_empty : goal.returns-then-is_empty
returns-then-is_empty c =
    let rows = rows_from c.args.rows.now in
    let k = c.requires.1 in
    let runs = key_runs c.args.own.now in
    let few : length rows ≤ 65536 = omega (arith, k.counted, k.held) in
    let none : runs ≡ [] = no_keys c.args.own.now (eqb-true _ 0 (sym c.if-is_empty.ensures)) in
    let image : runs_of (in_image rows runs) ≡ [] = rw none (none_image rows few k.rise k.apart) in (
      carried_found (Some c.args.level) _ (runs_of (in_image rows runs)) c.args.level 0 refl (ap (numbered rows) none ∙ none_numbered rows) (sym (ap length image)),
      none_written (runs_of (in_image rows runs)) c.args.far.now (record { level = c.args.level; count = 0 }) image,
    )
