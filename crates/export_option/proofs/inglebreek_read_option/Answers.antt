-- `export_option::inglebreek_read_option` meets its contract.
use mathlib.Core.Path.{◌≡◌, refl, sym, ap, ◌∙◌}
use Rattle.std.specs.Prelude.{Ok, Err}
use Rattle.label_keys.specs.Keys.{with_keys}
use Rattle.option_read.specs.Reading.{Reading}
use Rattle.option_read.proofs.Told.{told_found, told_refused, zero_keys}
use Rattle.export_option.proofs.inglebreek_read_option.Goals as goal

pub returns-in-Ok : goal.returns-in-Ok
returns-in-Ok c =
    let e = told_found c.args.octets.now c.in-Ok.label (sym c.in-Ok.is ∙ c.read_option.ensures) in
    let runs = c.args.runs.now in record { value = ap (λ (b : Reading). b.number) e; pointer_after = ap (λ (b : Reading). b.pointer) e; domain_after = ap (λ (b : Reading). b.label.domain) e; level_after = ap (λ (b : Reading). b.label.level) e; count_after = ap (λ (b : Reading). b.label.count) e; runs_after = c.label_keys.ensures.1 ∙ ap (λ (b : Reading). with_keys b.label runs) e }

pub returns-in-Err : goal.returns-in-Err
returns-in-Err c =
    let e = told_refused c.args.octets.now c.in-Err.fault (sym c.in-Err.is ∙ c.read_option.ensures) in
    let runs = c.args.runs.now in record { value = ap (λ (b : Reading). b.number) e; pointer_after = ap (λ (b : Reading). b.pointer) e; domain_after = ap (λ (b : Reading). b.label.domain) e; level_after = ap (λ (b : Reading). b.label.level) e; count_after = ap (λ (b : Reading). b.label.count) e; runs_after = zero_keys runs ∙ ap (λ (b : Reading). with_keys b.label runs) e }
