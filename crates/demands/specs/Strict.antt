-- Document 02, Wish 10: every option that a strict port accepts is one that a box could have written: the spelling of its label under some set of
-- permitted spellings.
use Rattle.std.specs.Prelude.{ℕ, true, false, List, ◌≡◌}
use Rattle.label.specs.declared.Label.{Label}
use Rattle.option.specs.declared.Spellings.{Spellings}
use Rattle.option.specs.Option.{Means}
use Rattle.option.specs.Theorems.{Spells}
use Rattle.option_slack.specs.Slack.{slack}
use Rattle.std.specs.Prelude.{Ok, Some}
use Rattle.area.specs.Kinds.{Place, places}
use Rattle.port.specs.declared.Port.{Port}
use Rattle.arrive.specs.Checks.{walk_at, option_at}
use Rattle.demands.specs.Demands.{LabelOf}

-- the option spells the label under some set
abbrev pub Writable : List ℕ → Label → Type 0
Writable o l = (p : Spellings) × Spells p o l

pub record StrictAccepts : Type 0 where
  -- an option that means a label is slack exactly when no box writes it
  pub passes : (o : List ℕ) (l : Label) → Means o l → slack o ≡ false → Writable o l
  pub stops : (o : List ℕ) (l : Label) → Means o l → slack o ≡ true → Writable o l → ⊥
  -- so the option of a datagram whose label a strict port takes from it
  pub accepted : (p : Port) (area : List ℕ) (l : Label) (at : ℕ) (basic : Place)
      → p.strict ≡ true
      → walk_at p area ≡ Ok (places (Some at) basic)
      → LabelOf p area l
      → Writable (option_at at area) l
