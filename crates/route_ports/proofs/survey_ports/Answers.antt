-- `route_ports::survey_ports` meets its contract.
use mathlib.Core.Path.{sym, ◌∙◌, ap}
use lib.Seq.{take_all}
use Rattle.route_ports.specs.Ports.{survey_of}
use Rattle.route_ports.proofs.Laws.{begin, one_more}
use Rattle.route_ports.proofs.survey_ports.Goals as goal

pub loop-p-init : goal.loop-p-init
loop-p-init c = c.start-s.ensures ∙ sym begin

pub loop-p-preserved : goal.loop-p-preserved
loop-p-preserved c = one_more c.args.ports.now c.loop-p.p-index c.loop-p.s c.loop-p-test.true c.loop-p.invariant _ c.note_port-s.result c.note_port-s.ensures

pub returns : goal.returns
returns c = c.loop-p.invariant ∙ ap survey_of (take_all c.loop-p.p-index c.args.ports.now c.loop-p-test.false)
