-- `file_write::write_file` meets its contract.
use borrow.Author.Rules.{rules}
use native.Mathlib.Omega.{arith}
use Prim.Native.Nat.{ℕ}
use mathlib.Core.Bool.{true, false}
use mathlib.Core.Path.{◌≡◌, refl, sym, ap, ◌∙◌}
use lib.ListN.{length}
use borrow.Author.Tests.{le-leb, lt-leb}
use lib.Dec.{leb}
use Rattle.file_set.specs.Set.{set_sound}
use Rattle.std.specs.Prelude.{Ok}
use Rattle.file_read.specs.File.{total_of}
use Rattle.file_write.specs.Written.{written_of, file_output}
use Rattle.file_write.proofs.Sizes.{file_there}
use Rattle.file_write.proofs.write_file.Goals as goal

pub returns-then-not-set_sound : goal.returns-then-not-set_sound
unfolding written_of file_output
returns-then-not-set_sound c =
    let e : set_sound c.args.set c.args.rows.now ≡ false = sym c.set_sound.ensures ∙ c.if-not-set_sound.true in
    rw e (refl, refl)

pub file_size-total-requires : goal.file_size-total-requires
file_size-total-requires c = sym c.set_sound.ensures ∙ c.if-not-set_sound.false

pub returns-then-total-gt-MOST_OCTETS : goal.returns-then-total-gt-MOST_OCTETS
unfolding written_of file_output
returns-then-total-gt-MOST_OCTETS c =
    let e : set_sound c.args.set c.args.rows.now ≡ true = sym c.set_sound.ensures ∙ c.if-not-set_sound.false in
    let t : ℕ = total_of 3 c.args.set c.args.rows.now in
    let h : leb (total_of 3 c.args.set c.args.rows.now) 61440 ≡ false = lt-leb t 61440 (omega (arith, c.file_size-total.ensures.0)) in
    rw (e, h) (refl, refl)

pub returns-then-out-total : goal.returns-then-out-total
unfolding written_of file_output
returns-then-out-total c =
    let e : set_sound c.args.set c.args.rows.now ≡ true = sym c.set_sound.ensures ∙ c.if-not-set_sound.false in
    let t : ℕ = total_of 3 c.args.set c.args.rows.now in
    let k : leb (total_of 3 c.args.set c.args.rows.now) 61440 ≡ true = le-leb t 61440 (omega (arith, c.file_size-total.ensures.0)) in
    let h : leb (total_of 3 c.args.set c.args.rows.now) (length c.args.out.now) ≡ false = lt-leb t (length c.args.out.now) (omega (arith, c.file_size-total.ensures.0)) in
    rw (e, k, h) (refl, refl)

pub write_fields-requires : goal.write_fields-requires
write_fields-requires c = (sym c.set_sound.ensures ∙ c.if-not-set_sound.false, c.file_size-total.ensures.0, omega arith)

pub returns : goal.returns
unfolding written_of file_output
returns c =
    let e : set_sound c.args.set c.args.rows.now ≡ true = sym c.set_sound.ensures ∙ c.if-not-set_sound.false in
    let t : ℕ = total_of 3 c.args.set c.args.rows.now in
    let z = c.file_size-total.ensures.0 in
    let k : leb (total_of 3 c.args.set c.args.rows.now) 61440 ≡ true = le-leb t 61440 (omega (arith, z)) in
    let h : leb (total_of 3 c.args.set c.args.rows.now) (length c.args.out.now) ≡ true = le-leb t (length c.args.out.now) (omega (arith, z)) in
    rw (e, k, h) (ap Ok z, file_there c.args.set c.args.rows.now c.args.out.now _ c.write_fields.new.out.end (search rules) (omega (arith, z)))
