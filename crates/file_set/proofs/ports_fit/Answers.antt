-- `file_set::ports_fit` meets its contract.
use Rattle.std.proofs.Common.{ℕ, cond, ltb, refl, ◌∙◌, rules, tests}
use Rattle.std.proofs.lemmas.Iterator.{YieldsList-from_slice}
use Rattle.std.proofs.lemmas.Iterator.Consumers.{YieldsList-from_enumerate}
use Rattle.std.proofs.lemmas.Iterator.Search.{all_from_yields_List}
use Rattle.file_format.proofs.Places.{fits_all}
use Rattle.port.specs.declared.Port.{Port}
use Rattle.file_set.specs.Set.{used_port, unused_port}
use Rattle.file_set.proofs.ports_fit.Goals as goal

pub returns : goal.returns
returns c =
    let a = c.args in
    let test = λ (p : ℕ × Port). cond (ltb p.0 a.n) (used_port p.1) (unused_port p.1) in
    all_from_yields_List test _ _ _ c.all.ensures.ran (YieldsList-from_enumerate (YieldsList-from_slice a.ports cc) cc) (λ x b q k. search (rules, tests))
    ∙ fits_all used_port unused_port test a.n (λ p. refl) a.ports
