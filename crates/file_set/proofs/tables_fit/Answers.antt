-- `file_set::tables_fit` meets its contract.
use Rattle.std.proofs.Common.{ℕ, cond, ltb, refl, ◌∙◌, rules, tests}
use Rattle.std.proofs.lemmas.Iterator.{YieldsList-from_slice}
use Rattle.std.proofs.lemmas.Iterator.Consumers.{YieldsList-from_enumerate}
use Rattle.std.proofs.lemmas.Iterator.Search.{all_from_yields_List}
use Rattle.file_format.proofs.Places.{fits_all}
use Rattle.table.specs.declared.Renumbering.{Renumbering}
use Rattle.table.specs.Renumbering.{typed_pairs}
use Rattle.file_set.specs.Set.{unused_table}
use Rattle.file_set.proofs.tables_fit.Goals as goal

pub returns : goal.returns
returns c =
    let a = c.args in
    let test = λ (p : ℕ × Renumbering). cond (ltb p.0 a.n) (typed_pairs p.1) (unused_table p.1) in
    all_from_yields_List test _ _ _ c.all.ensures.ran (YieldsList-from_enumerate (YieldsList-from_slice a.tables cc) cc) (λ x b q k. search (rules, tests))
    ∙ fits_all typed_pairs unused_table test a.n (λ p. refl) a.tables
