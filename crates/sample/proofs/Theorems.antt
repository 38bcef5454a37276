-- The theorem of `specs/Theorems.antt`.
use mathlib.Core.Path.{◌≡◌, refl, ◌∙◌, ap}
use mathlib.Core.Bool.{Bool, true, false, cond, ◌&&◌}
use mathlib.Core.List.{List}
use mathlib.Core.Option.{some}
use Prim.Native.Nat.{ℕ, ◌≤◌, ◌<◌}
use lib.Dec.{eqb, leb}
use lib.ListN.{take}
use borrow.Author.Tests.{ne_eqb, lt-leb}
use Rattle.table.specs.Renumbering.{lent_of, levels_of, LentTable}
use Rattle.table_choose.specs.Tables.{tables_from, no_table_from}
use Rattle.table_choose.proofs.Theorems.{first_table_lem}
use Rattle.file_set.specs.declared.Set.{Set}
use Rattle.route_ports.specs.Ports.{port_at}
use Rattle.decision.specs.Decision.{no_fact}
use Rattle.arrive.specs.Checks.{barred}
use Rattle.forward_rules.specs.Crossing.{number_check, crossing}
use Rattle.forward_rules.specs.Forward.{forwarding_of}
use Rattle.sample.specs.Choice.{Chosen, first_or, sample_from}
use Rattle.sample.specs.Theorems.{Sample}
use Rattle.sample.proofs.Choices.{closed, opened, not_accepted, enough}

ok_not : (verdict : ℕ) (s : Set) (ns : List ℕ) → (eqb verdict 0 && leb 2 s.portcount) ≡ false → (sample_from verdict s ns).ok ≡ false
unfolding sample_from
ok_not verdict s ns t = ap (λ (b : Bool). (cond b (opened verdict s ns) (closed verdict s ns)).ok) t

few_ports : (verdict : ℕ) (s : Set) (ns : List ℕ) → s.portcount < 2 → (sample_from verdict s ns).ok ≡ false
few_ports verdict s ns h = ok_not verdict s ns (rw (lt-leb 2 s.portcount h) (go (eqb verdict 0)))
  where
    go : (b : Bool) → (b && false) ≡ false
    go true = refl
    go false = refl

chosen : (s : Set) (ns : List ℕ) → 2 ≤ s.portcount → sample_from 0 s ns ≡ opened 0 s ns
unfolding sample_from
chosen s ns h = ap (λ (b : Bool). cond b (opened 0 s ns) (closed 0 s ns)) (enough 0 s ns refl h)

-- the table that stands for none is from another domain
other_domain : (s : Set) (ns area : List ℕ) (c : Chosen) → c ≡ opened 0 s ns → s.tablecount ≡ 0 → ((port_at s.ports 0).domain ≡ (port_at s.ports 1).domain → ⊥)
    → number_check (crossing (forwarding_of c.arriving c.leaving (lent_of c.table) (levels_of c.table.item) no_fact area 40)) ≡ some (barred 16 9)
unfolding number_check
other_domain s ns area c e z differ =
    let t : c.table ≡ no_table_from (port_at s.ports 0).domain
    = ap (λ (x : Chosen). x.table) e ∙ ap (λ (k : ℕ). first_or (no_table_from (port_at s.ports 0).domain) (tables_from (take k s.tables) ns)) z in
    let f : eqb c.table.item.table.from (port_at s.ports 0).domain ≡ false
    = ap (λ (x : LentTable). eqb x.item.table.from (port_at s.ports 0).domain) t ∙ ne_eqb (no_table_from (port_at s.ports 0).domain).item.table.from (port_at s.ports 0).domain (first_table_lem.other (port_at s.ports 0).domain) in
    let a : c.arriving.domain ≡ (port_at s.ports 0).domain = ap (λ (x : Chosen). x.arriving.domain) e in
    let l : c.leaving.domain ≡ (port_at s.ports 1).domain = ap (λ (x : Chosen). x.leaving.domain) e in
    rw (a, l, ne_eqb (port_at s.ports 0).domain (port_at s.ports 1).domain differ, f)

pub sample : Sample
sample =
    record {
      refused = λ verdict s ns h. ok_not verdict s ns (not_accepted verdict s ns h);
      few = few_ports;
      ports = λ s ns h. (ap (λ (x : Chosen). x.ok) (chosen s ns h), ap (λ (x : Chosen). x.arriving) (chosen s ns h), ap (λ (x : Chosen). x.leaving) (chosen s ns h));
      tableless = λ s ns area h z differ. other_domain s ns area (sample_from 0 s ns) (chosen s ns h) z differ;
    }
