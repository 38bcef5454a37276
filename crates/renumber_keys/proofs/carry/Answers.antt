-- `renumber_keys::carry` meets its contract.
use Prim.Native.Nat.{ℕ, min}
use mathlib.Core.Path.{◌≡◌, sym, ◌∙◌}
use mathlib.Core.List.{List}
use lib.ListN.{length, take}
use Rattle.label_keys.specs.Keys.{key_runs}
use Rattle.table.specs.Table.{Lent, lent}
use Rattle.table_levels.specs.Levels.{Partner}
use Rattle.renumber_keys.specs.declared.CarryError.TheVariants.{Unsound}
use Rattle.renumber_keys.specs.Carry.{CarryAnswer, image_of, carried_keys, carry_of}
use Rattle.renumber_keys.specs.Stages.{carried_by}
use Rattle.renumber_keys.proofs.Held.{first_same}
use Rattle.renumber_keys.proofs.Carrying.{by_pairs, no_pairs, refused_same}
use Rattle.renumber_keys.proofs.carry.Goals as goal

-- what was found of the level pairs, and what was carried of the first n keys, or of as many as there are
found : (keys : List ℕ) (n m v : ℕ) (t : Lent) (ls : List (List ℕ)) (far far' : List ℕ) (p : Partner) (r : CarryAnswer) → m ≡ min n (length keys)
    → carried_by p (key_runs (take n keys)) t (length far) ≡ carry_of (key_runs (take n keys)) v t ls (length far)
    → (r ≡ carried_by p (key_runs (take m keys)) t (length far)) × (far' ≡ carried_keys r (image_of t (key_runs (take m keys))) far)
    → (r ≡ carry_of (key_runs (take n keys)) v t ls (length far)) × (far' ≡ carried_keys r (image_of t (key_runs (take n keys))) far)
found keys n m v t ls far far' p r is e q =
    let k = rw (first_same keys n m is) at q in
    (k.0 ∙ e, k.1)

pub returns-in_default : goal.returns-in_default
returns-in_default c =
    let a = c.args in
    let t = lent a.table a.rows.now in
    let runs = key_runs (take a.n a.keys.now) in (
      no_pairs runs a.level t a.levels (length a.far.now) (sym c.in_default.is ∙ c.look_levels.ensures),
      refused_same (image_of t runs) a.far.now Unsound,
    )

pub returns-then-table-le-FEW_ROWS : goal.returns-then-table-le-FEW_ROWS
returns-then-table-le-FEW_ROWS c =
    let a = c.args in
    let t = lent a.table a.rows.now in
    found a.keys.now a.n _ a.level t a.levels a.far.now _ _ _ c.min.ensures
    (by_pairs (key_runs (take a.n a.keys.now)) a.level t a.levels (length a.far.now) _ (sym c.in-Some.is ∙ c.look_levels.ensures)) (c.carry_in.ensures.0, c.carry_in.ensures.1)

pub returns : goal.returns
returns c =
    let a = c.args in
    let t = lent a.table a.rows.now in
    found a.keys.now a.n _ a.level t a.levels a.far.now _ _ _ c.min.ensures
    (by_pairs (key_runs (take a.n a.keys.now)) a.level t a.levels (length a.far.now) _ (sym c.in-Some.is ∙ c.look_levels.ensures)) (c.carry_in-2.ensures.0, c.carry_in-2.ensures.1)
