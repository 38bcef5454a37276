-- `file_write::ports_size` meets its contract.
use native.Mathlib.Omega.{arith}
use Prim.Native.Nat.{◌+◌}
use mathlib.Core.Path.{◌≡◌, refl}
use lib.ListN.{length, take, get_or, length-take}
use Rattle.std.proofs.Common.{take_all}
use Rattle.file_format.specs.Laws.{flat}
use Rattle.file_write.specs.Stages.{port_octets}
use Rattle.file_set.proofs.Sets.{out_port}
use Rattle.file_write.proofs.Sizes.{size_more}
use Rattle.file_write.proofs.ports_size.Goals as goal

pub loop-port-init : goal.loop-port-init
loop-port-init c = (refl, omega arith)

pub overflow_add-size : goal.overflow_add-size
overflow_add-size c = omega (arith, length-take c.args.n c.args.ports, c.port_size-size.ensures.1, c.loop-port.invariant.1)

pub loop-port-preserved : goal.loop-port-preserved
unfolding port_octets
loop-port-preserved c =
    let l = c.loop-port in
    let xs = take c.args.n c.args.ports in
    let e = c.port_size-size.ensures in
    let s : length (flat port_octets (take (l.port-index + 1) xs)) ≡ length (flat port_octets (take l.port-index xs)) + length (port_octets (get_or xs l.port-index out_port)) =
    size_more port_octets xs l.port-index out_port c.loop-port-test.true in
    (omega (arith, s, e.0, l.invariant.0), omega (arith, e.1, l.invariant.1))

pub returns : goal.returns
returns c =
    let l = c.loop-port in
    let xs = take c.args.n c.args.ports in
    (rw (take_all l.port-index xs c.loop-port-test.false) at l.invariant.0, omega (arith, length-take c.args.n c.args.ports, l.invariant.1))
