-- Document 01, rows 16 to 18 of the table and "An over-large renumbered set is 18 unless 17 applies; it must never be cut", over the decision.
use Rattle.std.specs.Prelude.{◌≡◌, Bool, true, false, List, [], ◌∷◌, ◌++◌, ◌⊎◌, ◌↔◌, ℕ, ◌<◌, length, take, Some}
use Rattle.std.proofs.Math.Option.{Option}
use Rattle.label.specs.declared.Label.{Label}
use Rattle.label.specs.Label.{member}
use Rattle.label_keys.specs.Range.{set_in_range}
use Rattle.port.specs.Port.{lowest_out, highest_out}
use Rattle.table.specs.Table.{used_rows}
use Rattle.table.specs.Numbers.{has_number}
use Rattle.table_levels.specs.Levels.{partner_of}
use Rattle.renumber.specs.Renumber.{image_runs}
use Rattle.decision.specs.declared.Refusal.{Refusal}
use Rattle.arrive.specs.Checks.{NoneApplies, arriving_label, option_checks, range_check}
use Rattle.forward_rules.specs.Crossing.{Forwarding, sizes, records, leaving_basic_check}
use Rattle.forward_rules.specs.Forward.{forward_of}

-- the checks before 16
abbrev pub before_numbers : Forwarding → List (Option Refusal)
before_numbers f = sizes f ∷ records f ∷ (option_checks f.arriving f.area 9 ++ (leaving_basic_check f ∷ range_check f.arriving f.area 9 ∷ []))

abbrev pub label_at : Forwarding → Label
label_at f = arriving_label f.arriving f.area

-- the table is for the two ports' domains, and every part of the label has a number: its level and each of its categories
pub record HasNumbers (f : Forwarding) (v : ℕ) : Type 0 where
  pub from : f.table.from ≡ f.arriving.domain
  pub to : f.table.to ≡ f.leaving.domain
  pub level : partner_of (take f.table.pairs f.levels) (label_at f).level ≡ Some v
  pub categories : (c : ℕ) → member (label_at f) c ≡ true → has_number (used_rows f.table) c ≡ true

-- the whole renumbered set lies in the leaving port's range, at level v
abbrev pub inside : Forwarding → ℕ → Bool
inside f v = set_in_range (lowest_out f.leaving) (highest_out f.leaving) v (image_runs (label_at f) f.table)

-- of a datagram between two domains that is past the checks before
pub record Crosses : Type 0 where
  -- 16 exactly when a part has no number
  pub sixteen : (f : Forwarding) → (f.arriving.domain ≡ f.leaving.domain → ⊥) → NoneApplies (before_numbers f)
      → ((forward_of f).number ≡ 16) ↔ ((v : ℕ) → HasNumbers f v → ⊥)
  -- over 120 runs: 17 where the set is outside the leaving port's range, else 18
  pub large : (f : Forwarding) (v : ℕ) → (f.arriving.domain ≡ f.leaving.domain → ⊥) → NoneApplies (before_numbers f) → HasNumbers f v
      → 120 < length (image_runs (label_at f) f.table)
      → ((inside f v ≡ false) × ((forward_of f).number ≡ 17)) ⊎ ((inside f v ≡ true) × ((forward_of f).number ≡ 18))
  -- with equal domains never
  pub same : (f : Forwarding) → f.arriving.domain ≡ f.leaving.domain → NoneApplies (before_numbers f) → (forward_of f).number ≡ 16 → ⊥
