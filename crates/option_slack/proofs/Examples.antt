-- The examples of `specs/Examples.antt` hold.
use mathlib.Core.Path.{refl}
use Rattle.option_read.specs.Reading.{label_in}
use Rattle.option_slack.specs.Slack.{slack_body, slack}
use Rattle.option_slack.specs.Strict.{strict_reading}
use Rattle.option_slack.specs.Examples.{examples, Holds}

pub examples_hold : Holds examples
unfolding strict_reading label_in slack slack_body
examples_hold = (refl, refl, (refl, refl, (refl, refl, (refl, refl, (refl, refl, (refl, refl, (refl, refl, (refl, refl, (refl, refl, (refl, refl, (refl, refl, (refl, refl, (refl, refl, (refl, refl, (refl, refl, (refl, refl, (refl, refl, (refl, refl, (refl, refl, (refl, refl, (refl, refl, (refl, refl, (refl, refl, (refl, refl, (refl, refl, (refl, refl, (refl, refl, (refl, refl, (refl, refl, (refl, refl, (refl, refl, (refl, refl, (refl, refl, (refl, refl, (refl, refl, (refl, refl, (refl, refl, tt)))))))))))))))))))))))))))))))))))))
