-- `export_option::inglebreek_spell_label` meets its contract.
use native.Mathlib.Omega.{arith}
use Prim.Native.Nat.{ℕ}
use mathlib.Core.List.{List}
use mathlib.Core.Path.{◌≡◌, sym, ap, ◌∙◌}
use lib.ListN.{length, take}
use lib.Seq.{take_all}
use Rattle.option_spell.specs.Spelling.{Spelling}
use Rattle.export_option.specs.Export.{label_by, spellings_by}
use Rattle.label.specs.declared.Label.{Label}
use Rattle.label_keys.specs.Keys.{key_runs, label_from}
use Rattle.option_spell.proofs.Told.{told_spelled, told_unspelled}
use Rattle.export_option.proofs.inglebreek_spell_label.Goals as goal

module _ (domain level : ℕ) (keys : List ℕ) (l : Label) (e : l ≡ label_from domain level (key_runs (take (length keys) keys))) where
  same-label : l ≡ label_by domain level keys
  same-label = rw (take_all (length keys) keys (omega arith)) at e

pub returns-in-Ok : goal.returns-in-Ok
returns-in-Ok c =
    let a = c.args in
    let s = same-label a.domain a.level a.runs.now c.to_label-label.result c.to_label-label.ensures in
    let w = rw s at c.spell_label.ensures in
    let e = told_spelled (spellings_by a.shortest a.ten a.numbers a.pairs) (label_by a.domain a.level a.runs.now) (length a.out.now) c.in-Ok.length (sym c.in-Ok.is ∙ w.0) in
    record { value = ap (λ (b : Spelling). b.number) e; out_after = w.1; count_after = ap (λ (b : Spelling). b.count) e }

pub returns-in-Err : goal.returns-in-Err
returns-in-Err c =
    let a = c.args in
    let s = same-label a.domain a.level a.runs.now c.to_label-label.result c.to_label-label.ensures in
    let w = rw s at c.spell_label.ensures in
    let e = told_unspelled (spellings_by a.shortest a.ten a.numbers a.pairs) (label_by a.domain a.level a.runs.now) (length a.out.now) c.in-Err.error (sym c.in-Err.is ∙ w.0) in
    record { value = c.from.ensures ∙ ap (λ (b : Spelling). b.number) e; out_after = w.1; count_after = ap (λ (b : Spelling). b.count) e }
