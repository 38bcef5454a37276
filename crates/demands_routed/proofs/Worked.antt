-- The worked boxes hold of the definitions.
use mathlib.Core.Path.{refl}
use Rattle.label.specs.Runs.{all_below, subset}
use Rattle.label.specs.Label.{well_formed, label_typed, at_most, leq, in_range, is_zero}
use Rattle.option.specs.Reading.{pieces}
use Rattle.option.specs.Spelling.{least_form, form_for, body_for, spelled_by, spelling_of}
use Rattle.option_read.specs.Reading.{reading_for, reading_by, tag_checks, label_in}
use Rattle.option_slack.specs.Slack.{slack_body, slack}
use Rattle.option_slack.specs.Strict.{strict_reading}
use Rattle.area.specs.Area.{met_from, met_of, walk_of}
use Rattle.area_leaving.specs.Kept.{kept_of}
use Rattle.basic.specs.Levels.{is_level, rank_of}
use Rattle.basic.specs.Option.{basic_valid}
use Rattle.basic.specs.Alone.{basic_reading}
use Rattle.basic.specs.Levels as levels
use Rattle.basic.specs.Settings.{way_sound, way_zero, basic_sound, passes_way}
use Rattle.port.specs.Port.{range_sound, assigned_sound, default_sound, port_sound}
use Rattle.label_keys.specs.Range.{set_in_range}
use Rattle.arrive.specs.Checks.{walk_check, required_check, option_check, bad_basic_check, arriving_basic, missing_basic_check, basic_range_check, arriving_label, range_check}
use Rattle.decision.specs.Decision.{silenced}
use Rattle.forward_rules.specs.Crossing.{sizes, leaving_basic_check, number_check, leaving_level, leaving_runs, leaving_check, spelling_check}
use Rattle.table_levels.specs.Levels.{levels_sound}
use Rattle.table.specs.Table.{rows_sound, typed, table_sound}
use Rattle.route.specs.Route.{longest, routes_sound}
use Rattle.route_ports.specs.Ports.{port_at, ports_sound}
use Rattle.table_choose.specs.Tables.{tables_sound}
use Rattle.route_decide.specs.Routing.{box_sound, chosen, set_check, route_check, routing_of, routed_output}
use Rattle.demands_routed.specs.Worked.{WorkedBoxes}

pub worked_boxes : WorkedBoxes
unfolding subset all_below well_formed label_typed at_most leq in_range is_zero pieces least_form form_for body_for spelled_by spelling_of reading_for reading_by tag_checks label_in strict_reading slack_body slack met_from met_of walk_of kept_of is_level rank_of basic_valid basic_reading levels.at_most way_sound way_zero basic_sound passes_way range_sound assigned_sound default_sound port_sound set_in_range walk_check required_check option_check bad_basic_check arriving_basic missing_basic_check basic_range_check leaving_basic_check arriving_label range_check silenced sizes number_check leaving_level leaving_runs leaving_check spelling_check levels_sound rows_sound typed table_sound longest routes_sound port_at ports_sound tables_sound box_sound chosen set_check route_check routing_of routed_output
worked_boxes = (refl, refl, refl)
