-- `memory::Memory::forget` meets its contract.
use mathlib.Core.Path.{◌≡◌, sym, ap, ◌∙◌}
use mathlib.Core.Bool.{true}
use Prim.Native.Nat.{ℕ}
use native.Mathlib.Omega.{arith}
use lib.ListN.{length}
use Rattle.std.specs.Prelude.{Some, None}
use Rattle.memory.specs.Memory.{stands, listed, memory_of, answered}
use Rattle.memory.specs.Stages.{closed_at}
use Rattle.memory.proofs.Laws.{standing, found, forget_refused, forgot_known, forgot_new}
use Rattle.memory.proofs.Memory.forget.Goals as goal

pub returns-then-not-stands : goal.returns-then-not-stands
returns-then-not-stands c =
    c.refuse.ensures ∙ sym (forget_refused c.args.self c.args.address (sym c.stands.ensures ∙ c.if-not-stands.true))

pub find_address-requires : goal.find_address-requires
find_address-requires c = (standing c.args.self (sym c.stands.ensures ∙ c.if-not-stands.false)).few

pub remove-requires : goal.remove-requires
remove-requires c =
    let m = c.args.self in
    let n : length m.addresses ≡ 64 = omega arith in
    let s : stands m ≡ true = sym c.stands.ensures ∙ c.if-not-stands.false in
    let f = found m c.args.address n s (Some c.in-Some.at) c.in-Some.ensures in
    (f.1, (standing m s).few)

pub returns-in-Some : goal.returns-in-Some
returns-in-Some c =
    let m = c.args.self in
    let n : length m.addresses ≡ 64 = omega arith in
    let s : stands m ≡ true = sym c.stands.ensures ∙ c.if-not-stands.false in
    let f = found m c.args.address n s (Some c.in-Some.at) c.in-Some.ensures in
    c.answer.ensures ∙ ap (answered true) (c.remove.ensures ∙ ap (λ (i : ℕ). memory_of (closed_at i (listed m))) f.0)
    ∙ sym (forgot_known m c.args.address n s (omega (arith, f.0, f.1)))

pub returns-in-None : goal.returns-in-None
returns-in-None c =
    let m = c.args.self in
    let n : length m.addresses ≡ 64 = omega arith in
    let s : stands m ≡ true = sym c.stands.ensures ∙ c.if-not-stands.false in
    c.answer-in-None.ensures ∙ sym (forgot_new m c.args.address n s (found m c.args.address n s None c.in-None.ensures))
