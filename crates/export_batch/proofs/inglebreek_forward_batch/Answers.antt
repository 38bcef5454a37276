-- `export_batch::inglebreek_forward_batch` meets its contract.
use borrow.Author.Rules.{rules}
use borrow.Author.Tests.{ltb-true}
use native.Mathlib.Omega.{arith}
use mathlib.Core.Path.{◌≡◌, sym, ap}
use Prim.Native.Nat.{ℕ, ◌<◌, ◌≤◌}
use lib.Dec.{ltb}
use lib.ListN.{length, replicate}
use lib.Seq.{length-take-le}
use Rattle.label.proofs.Bools.{and_left, and_right}
use Rattle.label.proofs.Steps.{length_mapped}
use Rattle.file_read.specs.declared.FileRead.{FileRead}
use Rattle.file_read.specs.File.{file_reading}
use Rattle.file_read.proofs.Answers.{used_fits}
use Rattle.route_ports.specs.Ports.{unlisted_port, port_at}
use Rattle.forward_batch.specs.Batch.{slot_count}
use Rattle.export_batch.proofs.Picked.{inside, both_there, none_there, batch_is}
use Rattle.export_batch.proofs.inglebreek_forward_batch.Goals as goal
use Rattle.export_batch.proofs.inglebreek_forward_batch.Goals.{After-to-1, After-no_port-none}

-- both numbers have a place
from-there : (c : goal.Then-arriving-leaving) → c.args.arriving < 16
from-there c = ltb-true _ _ (and_left (ltb c.args.arriving 16) (ltb c.args.leaving 16) c.if-arriving-leaving.true)

pub offset_bounds-set-arriving : goal.offset_bounds-set-arriving
offset_bounds-set-arriving c =
    let t : c.args.arriving < 16 = ltb-true _ _ (and_left (ltb c.args.arriving 16) (ltb c.args.leaving 16) c.if-arriving-leaving.true) in
    record { fits = omega (arith, t) }

pub bounds-set-arriving : goal.bounds-set-arriving
bounds-set-arriving c =
    ltb-true _ _ (and_left (ltb c.args.arriving 16) (ltb c.args.leaving 16) c.if-arriving-leaving.true)

to-there : (c : goal.After-from-1) → c.args.leaving < 16
to-there c = ltb-true _ _ (and_right (ltb c.args.arriving 16) (ltb c.args.leaving 16) c.if-arriving-leaving.true)

pub offset_bounds-set-leaving : goal.offset_bounds-set-leaving
offset_bounds-set-leaving c =
    let t : c.args.leaving < 16 = ltb-true _ _ (and_right (ltb c.args.arriving 16) (ltb c.args.leaving 16) c.if-arriving-leaving.true) in
    record { fits = omega (arith, t) }

pub bounds-set-leaving : goal.bounds-set-leaving
bounds-set-leaving c =
    ltb-true _ _ (and_right (ltb c.args.arriving 16) (ltb c.args.leaving 16) c.if-arriving-leaving.true)

-- what is lent of the room lies in it
fits : (c : goal.After-to-1) → c.read_gateway-read.result.used ≤ length c.read_gateway-read.new.rows
fits c =
    let o = c.args.file.now in
    let e : c.read_gateway-read.result.used ≡ (file_reading o (length (replicate {A = ℕ} 24576 0))).used = ap (λ (x : FileRead). x.used) c.read_gateway-read.ensures.0 in
    let u : (file_reading o (length (replicate {A = ℕ} 24576 0))).used ≤ length (replicate {A = ℕ} 24576 0) = used_fits o (length (replicate {A = ℕ} 24576 0)) in
    let l : length c.read_gateway-read.new.rows ≡ length (replicate {A = ℕ} 24576 0) = search rules in
    omega (arith, e, u, l)

pub slice_bounds-rows-end : goal.slice_bounds-rows-end
slice_bounds-rows-end c = fits c

pub slice_bounds-forward_between-end : goal.slice_bounds-forward_between-end
slice_bounds-forward_between-end c = sym (length-take-le _ _ (fits (goal.at.slice_bounds-forward_between-end c).After-to-1))

sized : (c : goal.After-slice_known-then-arriving-leaving-1) → length c.read_gateway-read.result.set.ports ≡ 16
sized c = search (length_mapped, rules)

-- both numbers have a place
from-there-After-slice_known-then-arriving-leaving-1 : (c : goal.After-slice_known-then-arriving-leaving-1) → c.args.arriving < 16
from-there-After-slice_known-then-arriving-leaving-1 c = ltb-true _ _ (and_left (ltb c.args.arriving 16) (ltb c.args.leaving 16) c.if-arriving-leaving.true)

to-there-After-slice_known-then-arriving-leaving-1 : (c : goal.After-slice_known-then-arriving-leaving-1) → c.args.leaving < 16
to-there-After-slice_known-then-arriving-leaving-1 c = ltb-true _ _ (and_right (ltb c.args.arriving 16) (ltb c.args.leaving 16) c.if-arriving-leaving.true)

pub returns-then-arriving-leaving : goal.returns-then-arriving-leaving
unfolding port_at
returns-then-arriving-leaving c =
    let e = c.read_gateway-read.ensures in
    let l : length c.read_gateway-read.result.set.ports ≡ 16 = sized c in record {
      value = c.forward_between.ensures.value;
      output_after = batch_is _ _ (slot_count (length c.args.input.now) (length c.args.output.now)) c.args.input.now c.args.output.now _
          (both_there c.args.file.now c.read_gateway-read.result c.read_gateway-read.new.rows e.0 e.1 c.args.arriving c.args.leaving _ _ c.if-arriving-leaving.true
          (inside c.read_gateway-read.result.set.ports c.args.arriving _ unlisted_port (omega (arith, from-there-After-slice_known-then-arriving-leaving-1 c))) (inside c.read_gateway-read.result.set.ports c.args.leaving _ unlisted_port (omega (arith, to-there-After-slice_known-then-arriving-leaving-1 c))))
          c.forward_between.ensures.output_after;
    }

-- what is lent of the room lies in it
fits-After-no_port-none : (c : goal.After-no_port-none) → c.read_gateway-read.result.used ≤ length c.read_gateway-read.new.rows
fits-After-no_port-none c =
    let o = c.args.file.now in
    let e : c.read_gateway-read.result.used ≡ (file_reading o (length (replicate {A = ℕ} 24576 0))).used = ap (λ (x : FileRead). x.used) c.read_gateway-read.ensures.0 in
    let u : (file_reading o (length (replicate {A = ℕ} 24576 0))).used ≤ length (replicate {A = ℕ} 24576 0) = used_fits o (length (replicate {A = ℕ} 24576 0)) in
    let l : length c.read_gateway-read.new.rows ≡ length (replicate {A = ℕ} 24576 0) = search rules in
    omega (arith, e, u, l)

pub slice_bounds-rows-end-2 : goal.slice_bounds-rows-end-2
slice_bounds-rows-end-2 c = fits-After-no_port-none c

pub slice_bounds-forward_between-end-2 : goal.slice_bounds-forward_between-end-2
slice_bounds-forward_between-end-2 c = sym (length-take-le _ _ (fits-After-no_port-none (goal.at.slice_bounds-forward_between-end-2 c).After-no_port-none))

pub returns : goal.returns
returns c =
    let e = c.read_gateway-read.ensures in record {
      value = c.forward_between-2.ensures.value;
      output_after = batch_is _ _ (slot_count (length c.args.input.now) (length c.args.output.now)) c.args.input.now c.args.output.now _
          (none_there c.args.file.now c.read_gateway-read.result c.read_gateway-read.new.rows e.0 e.1 c.args.arriving c.args.leaving c.no_port-none.result c.if-arriving-leaving.false
          c.no_port-none.ensures)
          c.forward_between-2.ensures.output_after;
    }
