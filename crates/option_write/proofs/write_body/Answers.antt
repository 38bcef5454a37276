-- `option_write::write_body` meets its contract: each tag's writer writes the categories in its tag.
-- Assumes nothing.
use native.Mathlib.Omega.{arith}
use Prim.Native.Nat.{ℕ, ◌≤◌}
use mathlib.Core.Path.{ap, ◌∙◌}
use mathlib.Core.List.{List, ◌++◌}
use lib.ListN.{length, drop, length-map}
use lib.Seq.{length-take-le}
use Rattle.label.specs.Runs.{covers}
use Rattle.label_keys.specs.Keys.{key_run, key_runs}
use Rattle.option.specs.Spelling.{octets_of}
use Rattle.option_write.proofs.Bodies.{five, body_one, body_two, body_five}
use Rattle.option_write.proofs.write_body.Goals as goal

-- the output has the size's octets
room-After-slice_known-then-tag-eq-BITMAP-1 : (c : goal.After-slice_known-then-tag-eq-BITMAP-1) → c.args.size ≤ length c.args.out.now
room-After-slice_known-then-tag-eq-BITMAP-1 c = omega (arith, c.requires.0.short, c.requires.1)

pub returns-then-tag-eq-BITMAP : goal.returns-then-tag-eq-BITMAP
returns-then-tag-eq-BITMAP c =
    let rs = key_runs c.args.keys.now in
    ap (λ (b : List ℕ). b ++ drop c.args.size c.args.out.now)
    (c.write_bitmap.ensures ∙ ap (octets_of (covers rs)) (length-take-le c.args.size c.args.out.now (room-After-slice_known-then-tag-eq-BITMAP-1 c)) ∙ body_one c.args.tag c.args.size rs c.requires.0 c.if-tag-eq-BITMAP.true)

pub write_numbers-requires : goal.write_numbers-requires
write_numbers-requires c =
    let p = c.requires in
    let q = body_two c.args.tag c.args.size (key_runs c.args.keys.now) p.0 c.if-tag-eq-NUMBERS.true in
    omega (arith, q.1, p.0.short, p.1)

pub returns-then-tag-eq-NUMBERS : goal.returns-then-tag-eq-NUMBERS
returns-then-tag-eq-NUMBERS c =
    let q = body_two c.args.tag c.args.size (key_runs c.args.keys.now) c.requires.0 c.if-tag-eq-NUMBERS.true in
    c.write_numbers.ensures ∙ (λ i. q.0 i ++ drop (q.1 i) c.args.out.now)

pub write_pairs-requires : goal.write_pairs-requires
write_pairs-requires c =
    let p = c.requires in
    let f = five c.args.tag c.args.size (key_runs c.args.keys.now) p.0 c.if-tag-eq-BITMAP.false c.if-tag-eq-NUMBERS.false in
    let q = body_five c.args.tag c.args.size (key_runs c.args.keys.now) p.0 f in
    (omega (arith, q.1, p.0.short), omega (arith, q.2, length-map c.args.keys.now key_run), omega (arith, q.1, p.0.short, p.1))

pub returns : goal.returns
returns c =
    let p = c.requires in
    let f = five c.args.tag c.args.size (key_runs c.args.keys.now) p.0 c.if-tag-eq-BITMAP.false c.if-tag-eq-NUMBERS.false in
    let q = body_five c.args.tag c.args.size (key_runs c.args.keys.now) p.0 f in
    c.write_pairs.ensures ∙ (λ i. q.0 i ++ drop (q.1 i) c.args.out.now)
