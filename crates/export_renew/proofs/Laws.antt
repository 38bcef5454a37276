-- What writing a file anew comes to: where it is not accepted, and where it is.
use Prim.Native.Nat.{ℕ}
use mathlib.Core.Path.{◌≡◌, sym, ap, ◌∙◌}
use mathlib.Core.Bool.{Bool, true, false}
use mathlib.Core.List.{List}
use borrow.Author.Tests.{eq-eqb, ne_eqb}
use lib.ListN.{length, take, replicate}
use Rattle.file_read.specs.declared.FileRead.{FileRead}
use Rattle.file_read.specs.File.{file_room}
use Rattle.std.specs.Prelude.{Result}
use Rattle.file_write.specs.declared.WriteError.{WriteError}
use Rattle.file_write.specs.Written.{written_of, file_output}
use Rattle.export_file.specs.Export.{checking}
use Rattle.export_renew.specs.Renew.{accepts, rows_read, number_in, count_in, renew_number, renew_count, renew_out}

-- a file written anew: number, output and count
pub record Renewed (o out : List ℕ) (r : ℕ) (out' : List ℕ) (n : ℕ) : Type 0 where
  pub number : r ≡ renew_number o (length out)
  pub octets : out' ≡ renew_out o out
  pub count : n ≡ renew_count o (length out)

pub renewed_none : (o out : List ℕ) (f : FileRead) → f ≡ checking o → (f.verdict ≡ 0 → ⊥) → Renewed o out f.verdict out 0
unfolding renew_number renew_count renew_out
renewed_none o out f e h =
    let v : f.verdict ≡ (checking o).verdict = ap (λ (x : FileRead). x.verdict) e in
    let g : accepts o ≡ false = ne_eqb _ _ (λ (z : (checking o).verdict ≡ 0). h (v ∙ z)) in
    record { number = rw g v; octets = rw g; count = rw g }

pub renewed_whole : (o out out' rows : List ℕ) (f : FileRead) (w : Result ℕ WriteError) (r n : ℕ) → f ≡ checking o → rows ≡ file_room o (replicate 24576 0) → f.verdict ≡ 0
    → w ≡ written_of f.set (take f.used rows) (length out) → out' ≡ file_output f.set (take f.used rows) out → r ≡ number_in w → n ≡ count_in w
    → Renewed o out r out' n
unfolding renew_number renew_count renew_out
renewed_whole o out out' rows f w r n e er z ew eo en ec =
    let v : f.verdict ≡ (checking o).verdict = ap (λ (x : FileRead). x.verdict) e in
    let g : accepts o ≡ true = eq-eqb _ _ (sym v ∙ z) in
    let lent : take f.used rows ≡ rows_read o = λ i. take (e i).used (er i) in
    let same : w ≡ written_of (checking o).set (rows_read o) (length out) = ew ∙ (λ i. written_of (e i).set (lent i) (length out)) in
    record { number = rw g (en ∙ ap number_in same); octets = rw g (eo ∙ (λ i. file_output (e i).set (lent i) out)); count = rw g (ec ∙ ap count_in same) }
