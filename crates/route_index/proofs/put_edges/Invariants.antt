-- `route_index::put_edges` meets its contract.
use Prim.Native.Nat.{◌+◌, ◌*◌}
use Rattle.route_index.proofs.Put.{Edging}
use Rattle.route_index.proofs.put_edges.Given as goal

abbrev pub invariant-loop-i : goal.invariant-loop-i
invariant-loop-i l = Edging l.routes l.initial.index l.index (2 * l.i + 1) (4 * l.i)
