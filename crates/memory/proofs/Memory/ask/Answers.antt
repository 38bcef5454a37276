-- `memory::Memory::ask` meets its contract.
use mathlib.Core.Path.{◌≡◌, sym, ap, ◌∙◌}
use mathlib.Core.Bool.{Bool, true}
use native.Mathlib.Omega.{arith}
use lib.ListN.{length}
use Rattle.std.specs.Prelude.{is_some}
use Rattle.memory.specs.Memory.{stands, answered}
use Rattle.memory.proofs.Laws.{standing, ask_refused, asked}
use Rattle.memory.proofs.Memory.ask.Goals as goal

pub returns-then-not-stands : goal.returns-then-not-stands
returns-then-not-stands c =
    c.refuse.ensures ∙ sym (ask_refused c.args.self c.args.address (sym c.stands.ensures ∙ c.if-not-stands.true))

pub find_address-requires : goal.find_address-requires
find_address-requires c = (standing c.args.self (sym c.stands.ensures ∙ c.if-not-stands.false)).few

pub returns : goal.returns
returns c =
    let m = c.args.self in
    let n : length m.addresses ≡ 64 = omega arith in
    let s : stands m ≡ true = sym c.stands.ensures ∙ c.if-not-stands.false in
    c.answer.ensures ∙ ap (λ (b : Bool). answered b m) (c.is_some.ensures ∙ ap is_some c.find_address.ensures) ∙ sym (asked m c.args.address n s)
