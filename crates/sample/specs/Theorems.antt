-- Document 02, Wish 1, "The sample": the sentences on what the program runs with.
use Rattle.std.specs.Prelude.{true, false, List, ◌≡◌, ℕ, ◌≤◌, ◌<◌}
use Rattle.std.proofs.Math.Option.{some}
use Rattle.table.specs.Renumbering.{lent_of, levels_of}
use Rattle.file_set.specs.declared.Set.{Set}
use Rattle.route_ports.specs.Ports.{port_at}
use Rattle.decision.specs.Decision.{no_fact}
use Rattle.arrive.specs.Checks.{barred}
use Rattle.forward_rules.specs.Crossing.{number_check, crossing}
use Rattle.forward_rules.specs.Forward.{forwarding_of}
use Rattle.sample.specs.Choice.{sample_from}

pub record Sample : Type 0 where
  -- a missing or refused file, and one with under two ports: nothing is run with
  pub refused : (verdict : ℕ) (s : Set) (ns : List ℕ) → (verdict ≡ 0 → ⊥) → (sample_from verdict s ns).ok ≡ false
  pub few : (verdict : ℕ) (s : Set) (ns : List ℕ) → s.portcount < 2 → (sample_from verdict s ns).ok ≡ false
  -- else the first two ports
  pub ports : (s : Set) (ns : List ℕ) → 2 ≤ s.portcount
      → ((sample_from 0 s ns).ok ≡ true) × ((sample_from 0 s ns).arriving ≡ port_at s.ports 0) × ((sample_from 0 s ns).leaving ≡ port_at s.ports 1)
  -- no table where one is read: 16
  pub tableless : (s : Set) (ns area : List ℕ) → 2 ≤ s.portcount → s.tablecount ≡ 0 → ((port_at s.ports 0).domain ≡ (port_at s.ports 1).domain → ⊥)
      → number_check (crossing (forwarding_of (sample_from 0 s ns).arriving (sample_from 0 s ns).leaving (lent_of (sample_from 0 s ns).table) (levels_of (sample_from 0 s ns).table.item) no_fact area 40)) ≡ some (barred 16 9)
