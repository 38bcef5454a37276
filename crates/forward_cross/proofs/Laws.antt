-- What crossing answers, case by case.
use mathlib.Core.Path.{◌≡◌}
use mathlib.Core.List.{List}
use Prim.Native.Nat.{ℕ}
use lib.Dec.{eqb}
use lib.ListN.{length, take}
use borrow.Author.Tests.{eq-eqb, ne_eqb}
use Rattle.std.specs.Prelude.{Ok, Err}
use Rattle.lists.specs.Lists.{copied}
use Rattle.label_keys.specs.Keys.{key_runs}
use Rattle.table.specs.Table.{Lent}
use Rattle.renumber_keys.specs.Carry.{image_of, carried_keys, carry_of}
use Rattle.decision.specs.declared.Passed.{Passed}
use Rattle.decision.specs.declared.Refusal.{Refusal}
use Rattle.decision.specs.Verdict.{Verdict}
use Rattle.forward_cross.specs.Crossed.{tabled_by, numbered_by, crossed_by, crossed_keys}

module _ (domain leaving : ℕ) (table : Lent) (levels : List (List ℕ)) (own far : List ℕ) where
  pub crossed_same : (v : Verdict) → domain ≡ leaving
      → (crossed_by v domain leaving table levels own (length far) ≡ v) × (crossed_keys v domain leaving table levels own far ≡ copied own far)
  unfolding crossed_by crossed_keys
  crossed_same (Ok p) e = (rw (eq-eqb domain leaving e), rw (eq-eqb domain leaving e))
  crossed_same (Err r) e = (rw (eq-eqb domain leaving e), rw (eq-eqb domain leaving e))

  pub crossed_refused : (r : Refusal) → (domain ≡ leaving → ⊥)
      → (crossed_by (Err r) domain leaving table levels own (length far) ≡ tabled_by r table levels) × (crossed_keys (Err r) domain leaving table levels own far ≡ far)
  unfolding crossed_by crossed_keys
  crossed_refused r e = (rw (ne_eqb domain leaving e), rw (ne_eqb domain leaving e))

  pub crossed_carried : (p : Passed) → (domain ≡ leaving → ⊥)
      → (crossed_by (Ok p) domain leaving table levels own (length far)
      ≡ numbered_by (carry_of (key_runs (take p.count own)) p.level table levels (length far)) (eqb table.from domain) (eqb table.to leaving))
      × (crossed_keys (Ok p) domain leaving table levels own far
      ≡ carried_keys (carry_of (key_runs (take p.count own)) p.level table levels (length far)) (image_of table (key_runs (take p.count own))) far)
  unfolding crossed_by crossed_keys
  crossed_carried p e = (rw (ne_eqb domain leaving e), rw (ne_eqb domain leaving e))
