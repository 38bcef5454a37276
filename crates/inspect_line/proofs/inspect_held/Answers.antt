-- `inspect_line::inspect_held` meets its contract.
use borrow.Author.Rules.{rules}
use Prim.Native.Nat.{◌+◌, ◌-◌, ◌≤◌, ◌<◌}
use mathlib.Core.Path.{◌≡◌, ap, ◌∙◌}
use native.Mathlib.Omega.{arith}
use lib.ListN.{length, take, drop}
use Rattle.label.proofs.Steps.{length_mapped}
use Rattle.lists.proofs.Laws.{tail_is}
use Rattle.inspect_split.specs.Records.{whole_of}
use Rattle.inspect_claim.proofs.Theorems.{parsed, listed_below}
use Rattle.inspect_line.specs.Lines.{ports_in, record_line}
use Rattle.inspect_line.proofs.Laws.{counted, put_is}
use Rattle.inspect_line.proofs.Held.{sized, inside, start, more, done}
use Rattle.inspect_line.proofs.inspect_held.Goals as goal

pub loop-size-init : goal.loop-size-init
loop-size-init c =
    let held = c.args.held.now in
    let z : 0 ≤ length held = omega arith in (
      inside held 0 c.measure_first-size.result z c.measure_first-size.ensures,
      sized held c.measure_first-size.result c.measure_first-size.ensures,
      start (record_line c.args.set c.args.rows.now) held c.args.lines.now c.measure_first-size.result c.measure_first-size.ensures,
    )

-- the numbers of both ports have a place
both-there : (c : goal.After-read_record-said) → (c.read_record-said.result.arriving < 16) × (c.read_record-said.result.leaving < 16)
both-there c =
    listed_below _ 16 _ c.read_record-said.result c.read_record-said.ensures (omega arith) (omega arith)

pub offset_bounds-set-a : goal.offset_bounds-set-a
offset_bounds-set-a c = record { fits = omega (arith, (both-there c).0) }

pub bounds-set-a : goal.bounds-set-a
bounds-set-a c = (both-there c).0

-- the numbers of both ports have a place
both-there-After-arriving-1 : (c : goal.After-arriving-1) → (c.read_record-said.result.arriving < 16) × (c.read_record-said.result.leaving < 16)
both-there-After-arriving-1 c =
    listed_below _ 16 _ c.read_record-said.result c.read_record-said.ensures (omega arith) (omega arith)

pub offset_bounds-set-l : goal.offset_bounds-set-l
offset_bounds-set-l c = record { fits = omega (arith, (both-there-After-arriving-1 c).1) }

pub bounds-set-l : goal.bounds-set-l
bounds-set-l c = (both-there-After-arriving-1 c).1

pub put_line-requires : goal.put_line-requires
put_line-requires c = λ h.
    let p = parsed _ _ c.read_record-said.result c.read_record-said.ensures h in
    (p.begins, p.within)

-- the ports that the file has
ports-sized : (c : goal.After-measure_first-size-in-loop-size) → length c.args.set.ports ≡ 16
ports-sized c = search (length_mapped, rules)

ports-are : (c : goal.After-measure_first-size-in-loop-size) → c.min-ports.result ≡ length (ports_in c.args.set)
ports-are c =
    counted c.args.set.portcount c.min-ports.result 16 c.args.set.ports (ports-sized c) c.min-ports.ensures

pub loop-size-preserved : goal.loop-size-preserved
loop-size-preserved c =
    let at = c.loop-size.at in
    let size = c.loop-size.size in
    let held = c.args.held.now in
    let octets = take (at + size - (at + 2)) (drop (at + 2) held) in
    let h : 0 < size = omega arith in
    let k : at + size ≤ length held = omega arith in
    let e : c.measure_first-size-in-loop-size.result ≡ whole_of (drop (at + size) held) = c.measure_first-size-in-loop-size.ensures ∙ ap whole_of (tail_is held (at + size)) in (
      inside held (at + size) c.measure_first-size-in-loop-size.result k e,
      sized (drop (at + size) held) c.measure_first-size-in-loop-size.result e,
      more (record_line c.args.set c.args.rows.now) held c.args.lines.now c.loop-size.lines at size _ c.measure_first-size-in-loop-size.result c.loop-size.invariant.2 h
          (put_is c.args.set c.args.rows.now octets c.read_record-said.result c.min-ports.result _ _ (ports-are c) c.read_record-said.ensures c.put_line.ensures) e,
    )

pub returns : goal.returns
returns c =
    let z : c.loop-size.size ≡ 0 = omega arith in
    let h : c.loop-size.at ≤ length c.args.held.now = omega arith in
    done c.args.set c.args.rows.now c.args.held.now c.args.lines.now c.loop-size.lines c.loop-size.at c.loop-size.size c.loop-size.invariant.2 z h
