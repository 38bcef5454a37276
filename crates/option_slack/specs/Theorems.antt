-- The slack options are exactly the valid options that are none of the four permitted spellings of their own label: what a strict port accepts, a box
-- could have written.
use Rattle.std.specs.Prelude.{ℕ, Bool, true, false, not, cond, ◌&&◌, List, ◌↔◌, ◌≡◌}
use Rattle.label.specs.declared.Label.{Label}
use Rattle.option.specs.declared.Spellings.{Spellings}
use Rattle.option.specs.Option.{valid, Means}
use Rattle.option.specs.Permitted.{permits, Permitted}
use Rattle.option.specs.Table.{all_four}
use Rattle.option_read.specs.Reading.{not_read, reading_for}
use Rattle.option_slack.specs.Slack.{slack}
use Rattle.option_slack.specs.Strict.{strict_reading, stops_slack}

pub record Slackness : Type 0 where
  -- over the octets, of every valid option
  pub exactly : (o : List ℕ) → valid o ≡ true → slack o ≡ not (permits all_four o)
  -- over the label that it means
  pub means : (o : List ℕ) (l : Label) → Means o l → (slack o ≡ false) ↔ Permitted all_four o l
  -- so what is written under any set of permitted spellings is not slack
  pub permitted : (p : Spellings) (o : List ℕ) (l : Label) → Permitted p o l → slack o ≡ false

-- reading at a port that may be strict: 23 where it decides, else as at every port
pub record StrictReads : Type 0 where
  pub answer : (strict : Bool) (d : ℕ) (o : List ℕ)
      → strict_reading strict d o ≡ cond (stops_slack strict (reading_for d o).number o) (not_read 23 10) (reading_for d o)
  -- number 0 exactly where it is read and is not slack on a strict port
  pub exactly : (strict : Bool) (d : ℕ) (o : List ℕ)
      → ((strict_reading strict d o).number ≡ 0) ↔ (((reading_for d o).number ≡ 0) × ((strict && slack o) ≡ false))
