-- The file's first table is the first for its own domains.
use mathlib.Core.Path.{◌≡◌, refl, sym, ◌∙◌, ap}
use mathlib.Core.Bool.{Bool, true, false, cond, ◌&&◌}
use mathlib.Core.List.{List, [], ◌∷◌}
use Prim.Native.Nat.{ℕ, zero, suc, ◌≤◌, ◌<◌}
use native.Mathlib.Omega.{arith}
use lib.Dec.{eqb, leb}
use lib.ListN.{length, take, get_or}
use Rattle.std.proofs.Common.{Some, None}
use borrow.Author.Tests.{eq-eqb, ne_eqb, le-leb, lt-leb}
use Rattle.port.specs.declared.Port.{Port}
use Rattle.table.specs.declared.Renumbering.{Renumbering}
use Rattle.table.specs.Renumbering.{LentTable, no_renumbering}
use Rattle.table_choose.specs.declared.Found.{Found}
use Rattle.table_choose.specs.Tables.{used_tables, tables_from, first_table, no_table_from, lent_found}
use Rattle.file_set.specs.declared.Set.{Set}
use Rattle.file_set.specs.Set.{tables_in}
use Rattle.route_ports.specs.Ports.{unlisted_port, port_at}
use Rattle.sample.specs.declared.Choice.{Choice}
use Rattle.sample.specs.Choice.{Chosen, first_or, sample_from, chosen_of, chosen_by}

-- an element inside does not depend on what stands for those past the end
pub inside : {A : Type 0} (xs : List A) (i : ℕ) (d e : A) → i < length xs → get_or xs i d ≡ get_or xs i e
inside [] i d e h = absurd (omega arith)
inside (x ∷ xs) zero d e h = refl
inside (x ∷ xs) (suc i) d e h = inside xs i d e (omega arith)

own_first : (items : List Renumbering) (n : ℕ) (ns : List ℕ) (d : Renumbering) (e : LentTable) → 0 < n → 0 < length items
    → first_table (get_or items 0 d).table.from (get_or items 0 d).table.to (tables_from (take n items) ns) ≡ first_or e (tables_from (take n items) ns)
own_first [] n ns d e h l = absurd (omega arith)
own_first (y ∷ ys) zero ns d e h l = absurd (omega arith)
own_first (y ∷ ys) (suc n) ns d e h l = rw (eq-eqb y.table.from y.table.from refl, eq-eqb y.table.to y.table.to refl)

module _ (verdict : ℕ) (s : Set) (ns : List ℕ) where
  abbrev pub closed : Chosen
  closed = record { ok = false; arriving = unlisted_port; leaving = unlisted_port; table = record { item = no_renumbering; rows = [] } }

  abbrev pub opened : Chosen
  opened =
      record {
        ok = true;
        arriving = port_at s.ports 0;
        leaving = port_at s.ports 1;
        table = first_or (no_table_from (port_at s.ports 0).domain) (tables_from (used_tables (tables_in s)) ns);
      }

  pub is_closed : (eqb verdict 0 && leb 2 s.portcount) ≡ false → chosen_of None ns ≡ sample_from verdict s ns
  unfolding sample_from
  is_closed t = ap (λ (b : Bool). cond b opened closed) (sym t)

  pub not_accepted : (verdict ≡ 0 → ⊥) → (eqb verdict 0 && leb 2 s.portcount) ≡ false
  not_accepted h = ap (λ (b : Bool). b && leb 2 s.portcount) (ne_eqb verdict 0 h)

  pub too_few : verdict ≡ 0 → s.portcount < 2 → (eqb verdict 0 && leb 2 s.portcount) ≡ false
  too_few e h = rw (eq-eqb verdict 0 e, lt-leb 2 s.portcount h)

  pub enough : verdict ≡ 0 → 2 ≤ s.portcount → (eqb verdict 0 && leb 2 s.portcount) ≡ true
  enough e h = rw (eq-eqb verdict 0 e, le-leb 2 s.portcount h)

  module _ (t : (eqb verdict 0 && leb 2 s.portcount) ≡ true) (a l : Port) (ea : a ≡ port_at s.ports 0) (el : l ≡ port_at s.ports 1) (f : Found) (c : Choice) (e : c ≡ chosen_by a l f) where
    is_opened : (x : LentTable) → lent_found f ns ≡ x → x ≡ first_or (no_table_from (port_at s.ports 0).domain) (tables_from (used_tables (tables_in s)) ns) → chosen_of (Some c) ns ≡ sample_from verdict s ns
    unfolding sample_from
    is_opened x ef ex =
        ap (λ (z : Choice). chosen_of (Some z) ns) e
        ∙ (λ i. record { ok = true; arriving = ea i; leaving = el i; table = (ef ∙ ex) i })
        ∙ ap (λ (b : Bool). cond b opened closed) (sym t)

    pub none_opened : (from : ℕ) → from ≡ a.domain → (to : ℕ) → s.tablecount ≡ 0 → lent_found f ns ≡ first_table from to (tables_from (used_tables (tables_in s)) ns) → chosen_of (Some c) ns ≡ sample_from verdict s ns
    none_opened from eq to z ef =
        let n : used_tables (tables_in s) ≡ [] = ap (λ (k : ℕ). take k s.tables) z in
        is_opened (no_table_from (port_at s.ports 0).domain)
        (ef ∙ ap (λ (y : List Renumbering). first_table from to (tables_from y ns)) n ∙ ap no_table_from (eq ∙ ap (λ (p : Port). p.domain) ea))
        (sym (ap (λ (y : List Renumbering). first_or (no_table_from (port_at s.ports 0).domain) (tables_from y ns)) n))

    pub first_opened : (d : Renumbering) → (s.tablecount ≡ 0 → ⊥) → length s.tables ≡ 8
        → lent_found f ns ≡ first_table (get_or s.tables 0 d).table.from (get_or s.tables 0 d).table.to (tables_from (used_tables (tables_in s)) ns) → chosen_of (Some c) ns ≡ sample_from verdict s ns
    first_opened d z long ef =
        let h : 0 < s.tablecount = some_counted s.tablecount z in
        is_opened _ ef (own_first s.tables s.tablecount ns d (no_table_from (port_at s.ports 0).domain) h (omega arith))
      where
        some_counted : (n : ℕ) → (n ≡ 0 → ⊥) → 0 < n
        some_counted zero h = absurd (h refl)
        some_counted (suc n) h = omega arith
