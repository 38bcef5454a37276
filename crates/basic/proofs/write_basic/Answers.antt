-- `basic::write_basic` meets its contract: with no flags the stores leave the shortest option in front of the output.
use mathlib.Core.Path.{ap, ◌∙◌}
use mathlib.Core.Bool.{not}
use Rattle.basic.proofs.Levels.{level_ranked}
use Rattle.basic.proofs.Writing.{writes_done, can_write, leaves_bare}
use Rattle.basic.proofs.write_basic.Goals as goal

pub returns-then-flags-eq0 : goal.returns-then-flags-eq0
returns-then-flags-eq0 c =
    let a = c.args in
    let long = c.if-out-lt-BASIC_OCTETS.false in
    let level = level_ranked a.level c.rank_of.result c.rank_of.ensures (c.is_none.ensures ∙ ap not c.if-is_none.false) in
    leaves_bare a.level a.flags a.out.now long (writes_done a.level a.flags _ long (can_write a.level a.flags level c.if-flags-gt-ALL_FLAGS.false)) c.if-flags-eq0.true
