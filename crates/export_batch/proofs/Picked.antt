-- The records picked from a file's set.
use mathlib.Core.Path.{◌≡◌, refl, sym, ◌∙◌, ap}
use mathlib.Core.Bool.{Bool, true, false, cond, ◌&&◌}
use mathlib.Core.List.{List, [], ◌∷◌}
use Prim.Native.Nat.{ℕ, zero, suc, ◌<◌}
use native.Mathlib.Nat.{not-suc-le-zero, le_of_suc-le-suc}
use lib.Dec.{ltb}
use lib.ListN.{length, get_or, take, replicate, length-replicate}
use Rattle.port.specs.declared.Port.{Port}
use Rattle.table.specs.Renumbering.{LentTable, lent_of, levels_of}
use Rattle.table_choose.specs.declared.Tables.{Tables}
use Rattle.table_choose.specs.Tables.{used_tables, tables_from, first_table}
use Rattle.file_set.specs.Set.{tables_in}
use Rattle.file_read.specs.declared.FileRead.{FileRead}
use Rattle.file_read.specs.File.{file_reading, file_room}
use Rattle.route_ports.specs.Ports.{unlisted_port, port_at}
use Rattle.forward_batch.specs.Batch.{Gateway, batch_of}
use Rattle.export_batch.specs.Batch.{gateway_by, between, set_read, rows_read, gateway_of}

-- an element inside does not depend on what stands for those past the end
pub inside : {A : Type 0} (xs : List A) (i : ℕ) (d e : A) → i < length xs → get_or xs i d ≡ get_or xs i e
inside [] i d e h = absurd (not-suc-le-zero h)
inside (x ∷ xs) zero d e h = refl
inside (x ∷ xs) (suc i) d e h = inside xs i d e (le_of_suc-le-suc h)

-- the records that were picked are the gateway's
pub gateway_found : (a l : Port) (ts : Tables) (ns : List ℕ) (x : LentTable) (ls : List (List ℕ)) → x ≡ first_table a.domain l.domain (tables_from (used_tables ts) ns) → ls ≡ levels_of x.item
    → record { arriving = a; leaving = l; table = lent_of x; levels = ls } ≡ between a l ts ns
gateway_found a l ts ns x ls e f =
    ap (λ (z : List (List ℕ)). record { arriving = a; leaving = l; table = lent_of x; levels = z }) f ∙ ap (gateway_by a l) e

-- what was read of a file, into room for all rows that a sound one may have
module _ (o : List ℕ) (f : FileRead) (rows : List ℕ) (e : f ≡ file_reading o (length (replicate {A = ℕ} 24576 0))) (er : rows ≡ file_room o (replicate 24576 0)) where
  read : f ≡ file_reading o 24576
  read = e ∙ ap (file_reading o) (length-replicate {A = ℕ} 24576 0)

  rows_lent : take f.used rows ≡ rows_read o
  rows_lent = λ i. take (read i).used (er i)

  abbrev by_numbers : (t : Bool) (a l : ℕ) → Gateway
  by_numbers t a l =
      cond t (between (port_at (set_read o).ports a) (port_at (set_read o).ports l) (tables_in (set_read o)) (rows_read o))
      (between unlisted_port unlisted_port (tables_in (set_read o)) (rows_read o))

  module _ (a l : ℕ) where
    pub both_there : (p q : Port) → (ltb a 16 && ltb l 16) ≡ true → p ≡ port_at f.set.ports a → q ≡ port_at f.set.ports l
        → between p q (tables_in f.set) (take f.used rows) ≡ gateway_of (set_read o) (rows_read o) a l
    both_there p q t ep eq =
        (λ i. between (ep i) (eq i) (tables_in f.set) (rows_lent i))
        ∙ (λ i. between (port_at (read i).set.ports a) (port_at (read i).set.ports l) (tables_in (read i).set) (rows_read o))
        ∙ ap (λ (b : Bool). by_numbers b a l) (sym t)

    pub none_there : (p : Port) → (ltb a 16 && ltb l 16) ≡ false → p ≡ unlisted_port → between p p (tables_in f.set) (take f.used rows) ≡ gateway_of (set_read o) (rows_read o) a l
    none_there p t ep = (λ i. between (ep i) (ep i) (tables_in (read i).set) (rows_lent i)) ∙ ap (λ (b : Bool). by_numbers b a l) (sym t)

pub batch_is : (g g' : Gateway) (n : ℕ) (ins outs w : List ℕ) → g ≡ g' → w ≡ batch_of g n ins outs → w ≡ batch_of g' n ins outs
batch_is g g' n ins outs w eg e = e ∙ ap (λ (x : Gateway). batch_of x n ins outs) eg
