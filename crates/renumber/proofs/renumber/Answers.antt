-- `renumber::renumber` meets its contract.
use native.Mathlib.Omega.{arith}
use Prim.Native.Nat.{ℕ, ◌≤◌}
use mathlib.Core.Path.{◌≡◌, sym, ◌∙◌, ap}
use mathlib.Core.Bool.{true}
use mathlib.Core.List.{List}
use lib.ListN.{length, take}
use lib.Seq.{length-take-le}
use Rattle.label.specs.declared.Label.{Label}
use Rattle.label.specs.Label.{used, well_formed}
use Rattle.label.proofs.Labels.{formed}
use Rattle.label_keys.specs.Keys.{key_runs, with_keys}
use Rattle.table.specs.Table.{lent}
use Rattle.renumber_keys.specs.Carry.{label_runs}
use Rattle.renumber_keys.proofs.Held.{held_runs}
use Rattle.renumber_keys.proofs.Carrying.{label_runs_lem}
use Rattle.renumber.proofs.Answers.{renumbered_unsound, renumbered_ill, renumbered_foreign, runs_label}
use Rattle.renumber.proofs.renumber.Goals as goal

pub returns-then-not-well_formed : goal.returns-then-not-well_formed
returns-then-not-well_formed c =
    let a = c.args in
    renumbered_ill a.label (lent a.table a.rows.now) a.levels (sym c.if-not-well_formed.ensures)

pub returns-then-not-table_sound : goal.returns-then-not-table_sound
returns-then-not-table_sound c =
    let a = c.args in
    renumbered_unsound a.label (lent a.table a.rows.now) a.levels (sym c.if-not-table_sound.ensures)

pub returns-then-label-table : goal.returns-then-label-table
returns-then-label-table c =
    let a = c.args in
    renumbered_foreign a.label (lent a.table a.rows.now) a.levels (sym c.if-not-table_sound.ensures) (sym c.if-not-well_formed.ensures) c.if-label-table.true

-- a well-formed label's runs are at the head of a list with a place for each, and as keys they are the label's
module _ (l : Label) (was keys : List ℕ) (w : true ≡ well_formed l) (e : keys ≡ with_keys l was) (h : 120 ≤ length was) where
  own_is : key_runs (take l.count keys) ≡ used l
  own_is = ap (λ (z : List ℕ). key_runs (take l.count z)) e ∙ held_runs l was (sym w) h

  own_runs : label_runs (key_runs (take l.count keys)) ≡ true
  own_runs = ap label_runs own_is ∙ label_runs_lem l (sym w)

pub slice_bounds-keys-end : goal.slice_bounds-keys-end
slice_bounds-keys-end c = let f = formed c.args.label (sym c.if-not-well_formed.ensures) in omega (arith, f.held)

pub slice_bounds-own-end : goal.slice_bounds-own-end
slice_bounds-own-end c =
    let f = formed c.args.label (sym c.if-not-well_formed.ensures) in
    sym (length-take-le _ c.label_keys.new.keys (omega (arith, f.held)))

pub renumber_in-requires : goal.renumber_in-requires
renumber_in-requires c =
    (omega arith, own_runs c.args.label _ _ c.if-not-well_formed.ensures c.label_keys.ensures.1 (omega arith), λ h. omega arith)

pub returns-then-table-le-FEW_ROWS : goal.returns-then-table-le-FEW_ROWS
returns-then-table-le-FEW_ROWS c =
    let a = c.args in
    let w = c.if-not-well_formed.ensures in
    c.renumber_in.ensures ∙ runs_label a.label (lent a.table a.rows.now) a.levels _ (sym w) c.if-label-table.false (own_is a.label _ _ w c.label_keys.ensures.1 (omega arith))

pub renumber_in-requires-2 : goal.renumber_in-requires-2
renumber_in-requires-2 c =
    (omega arith, own_runs c.args.label _ _ c.if-not-well_formed.ensures c.label_keys.ensures.1 (omega arith), λ h. omega arith)

pub returns : goal.returns
returns c =
    let a = c.args in
    let w = c.if-not-well_formed.ensures in
    c.renumber_in-2.ensures ∙ runs_label a.label (lent a.table a.rows.now) a.levels _ (sym w) c.if-label-table.false (own_is a.label _ _ w c.label_keys.ensures.1 (omega arith))
