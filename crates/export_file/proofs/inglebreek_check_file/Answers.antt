-- `export_file::inglebreek_check_file` meets its contract.
use borrow.Author.Rules.{rules}
use mathlib.Core.Path.{◌≡◌, ap}
use Prim.Native.Nat.{◌/◌}
use Rattle.file_read.specs.declared.FileRead.{FileRead}
use Rattle.export_file.specs.Export.{checking}
use Rattle.export_file.proofs.Laws.{checked}
use Rattle.export_file.proofs.inglebreek_check_file.Goals as goal

pub returns : goal.returns
returns c =
    let file = c.args.file.now in
    let e : c.read_file-read.result ≡ checking file = checked _ _ c.read_file-read.ensures.0 in record { value = ap (λ (x : FileRead). x.verdict) e; place_after = ap (λ (x : FileRead). x.at) e; ports_after = ap (λ (x : FileRead). x.set.portcount) e; tables_after = ap (λ (x : FileRead). x.set.tablecount) e; rows_after = ap (λ (x : FileRead). x.used / 3) e }
