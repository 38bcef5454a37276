-- `file_read::read_each_port` meets its contract.
use native.Mathlib.Omega.{arith}
use mathlib.Core.Path.{◌≡◌, refl, sym, ap, ◌∙◌}
use mathlib.Core.List.{List, [], ◌∷◌, ◌++◌}
use lib.ListN.{take}
use Rattle.std.proofs.lemmas.Result.{err_from_is_err_and}
use Rattle.port.specs.declared.Port.{Port}
use Rattle.file_format.specs.Format.{got, read_at, same}
use Rattle.file_format.proofs.Places.{held_none, held_more, held_used, held_fills}
use Rattle.file_format.proofs.Loops.{begins, turns, refuses, ends}
use Rattle.file_port.specs.PortFormat.{no_port}
use Rattle.file_read.proofs.read_each_port.Invariants.{elements}
use Rattle.file_read.proofs.read_each_port.Goals as goal

pub loop-i-init : goal.loop-i-init
loop-i-init c = let a = c.args in ([], rw c.requires.1 (held_none 16 no_port), begins (elements a.version a.octets.now) same a.count 0 a.at)

pub returns-in_err-port-clause-read : goal.returns-in_err-port-clause-read
unfolding read_at
returns-in_err-port-clause-read c =
    let p = err_from_is_err_and c.from_residual.result c.from_residual.ensures.1 in
    rw (p.1, p.2) (refuses (elements c.args.version c.args.octets.now) same c.loop-i.invariant.2 _ (omega arith) c.in_err-port.ensures)

pub loop-i-preserved : goal.loop-i-preserved
loop-i-preserved c =
    let l = c.loop-i in
    let r : Port = c.in_ok-port.port in (
      l.invariant.0 ++ (r ∷ []),
      held_more r l.invariant.1 (omega arith),
      turns (elements c.args.version c.args.octets.now) same l.invariant.2 r c.in_ok-port.next (omega arith) c.in_ok-port.ensures,
    )

pub returns : goal.returns
unfolding read_at
returns c =
    let a = c.args in
    let l = c.loop-i in
    let e : l.i ≡ a.count = omega arith in
    let u : take a.count l.ports ≡ l.invariant.0 = rw e at (held_used l.invariant.1) in
    record {
      read = ends (elements a.version a.octets.now) same l.invariant.2 (omega arith) ∙ ap (λ (xs : List Port). got xs l.place) (sym u);
      filled = rw e at (held_fills l.invariant.1);
    }
