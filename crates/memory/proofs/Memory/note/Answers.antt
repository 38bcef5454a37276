-- `memory::Memory::note` meets its contract.
use mathlib.Core.Path.{◌≡◌, sym, ap, ◌∙◌}
use mathlib.Core.Bool.{true, false}
use mathlib.Core.List.{[], ◌∷◌, ◌++◌}
use Prim.Native.Nat.{ℕ}
use native.Mathlib.Omega.{arith}
use lib.ListN.{length}
use Rattle.std.specs.Prelude.{Some, None}
use Rattle.memory.specs.Memory.{stands, listed, memory_of, answered}
use Rattle.memory.specs.Stages.{closed_at}
use Rattle.memory.proofs.Laws.{standing, is_of, found, note_refused, noted_there, noted_room, noted_last, closed_room, of_listed, answered_pushed}
use Rattle.memory.proofs.Memory.note.Goals as goal

pub returns-then-not-stands : goal.returns-then-not-stands
returns-then-not-stands c =
    c.refuse.ensures ∙ sym (note_refused c.args.self c.args.address (sym c.stands.ensures ∙ c.if-not-stands.true))

pub find_address-requires : goal.find_address-requires
find_address-requires c = (standing c.args.self (sym c.stands.ensures ∙ c.if-not-stands.false)).few

pub remove-requires : goal.remove-requires
remove-requires c =
    let m = c.args.self in
    let n : length m.addresses ≡ 64 = omega arith in
    let s : stands m ≡ true = sym c.stands.ensures ∙ c.if-not-stands.false in
    let f = found m c.args.address n s (Some c.in-Some.at) c.in-Some.ensures in
    (f.1, (standing m s).few)

pub push-requires : goal.push-requires
push-requires c =
    let m = c.args.self in
    let n : length m.addresses ≡ 64 = omega arith in
    let s : stands m ≡ true = sym c.stands.ensures ∙ c.if-not-stands.false in
    let f = found m c.args.address n s (Some c.in-Some.at) c.in-Some.ensures in
    (closed_room m c.args.address n s c.in-Some.at c.remove.result f.1 c.remove.ensures, of_listed (closed_at c.in-Some.at (listed m)) c.remove.result c.remove.ensures)

pub returns-in-Some : goal.returns-in-Some
returns-in-Some c =
    let m = c.args.self in
    let a = c.args.address in
    let n : length m.addresses ≡ 64 = omega arith in
    let s : stands m ≡ true = sym c.stands.ensures ∙ c.if-not-stands.false in
    let f = found m a n s (Some c.in-Some.at) c.in-Some.ensures in
    answered_pushed true a (closed_at c.in-Some.at (listed m)) c.remove.result c.push.result c.answer.result c.remove.ensures c.push.ensures c.answer.ensures
    ∙ ap (λ (i : ℕ). answered true (memory_of (closed_at i (listed m) ++ (a ∷ [])))) f.0
    ∙ sym (noted_there m a n s (omega (arith, f.0, f.1)))

pub push-requires-then-self-lt-MOST : goal.push-requires-then-self-lt-MOST
push-requires-then-self-lt-MOST c =
    let m = c.args.self in
    (c.if-self-lt-MOST.true, is_of m (omega arith) (standing m (sym c.stands.ensures ∙ c.if-not-stands.false)))

pub returns-then-self-lt-MOST : goal.returns-then-self-lt-MOST
returns-then-self-lt-MOST c =
    let m = c.args.self in
    let a = c.args.address in
    let n : length m.addresses ≡ 64 = omega arith in
    let s : stands m ≡ true = sym c.stands.ensures ∙ c.if-not-stands.false in
    answered_pushed false a (listed m) m c.push-then-self-lt-MOST.result c.answer-then-self-lt-MOST.result (is_of m n (standing m s)) c.push-then-self-lt-MOST.ensures c.answer-then-self-lt-MOST.ensures
    ∙ sym (noted_room m a n s (found m a n s None c.in-None.ensures) c.if-self-lt-MOST.true)

pub remove-requires-in-None : goal.remove-requires-in-None
remove-requires-in-None c =
    let m = c.args.self in
    let s = standing m (sym c.stands.ensures ∙ c.if-not-stands.false) in
    (omega (arith, c.if-self-lt-MOST.false), s.few)

pub push-requires-in-None : goal.push-requires-in-None
push-requires-in-None c =
    let m = c.args.self in
    let s : stands m ≡ true = sym c.stands.ensures ∙ c.if-not-stands.false in
    (closed_room m c.args.address (omega arith) s 0 c.remove-in-None.result (omega (arith, c.if-self-lt-MOST.false)) c.remove-in-None.ensures, of_listed (closed_at 0 (listed m)) c.remove-in-None.result c.remove-in-None.ensures)

pub returns-else-self-lt-MOST : goal.returns-else-self-lt-MOST
returns-else-self-lt-MOST c =
    let m = c.args.self in
    let a = c.args.address in
    let n : length m.addresses ≡ 64 = omega arith in
    let s : stands m ≡ true = sym c.stands.ensures ∙ c.if-not-stands.false in
    answered_pushed false a (closed_at 0 (listed m)) c.remove-in-None.result c.push-in-None.result c.answer-in-None.result c.remove-in-None.ensures c.push-in-None.ensures c.answer-in-None.ensures
    ∙ sym (noted_last m a n s (found m a n s None c.in-None.ensures) c.if-self-lt-MOST.false)
