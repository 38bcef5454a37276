-- `memory_message::note_message` meets its contract.
use mathlib.Core.Path.{sym, ap, ◌∙◌}
use Prim.Native.Nat.{ℕ}
use Rattle.memory.specs.Memory.{note_of}
use Rattle.memory_message.proofs.Laws.{read_none, read_complains, complaint_message, message_long, destination_is, complaint_unsound, complaint_unread, complaint_noted}
use Rattle.memory_message.proofs.note_message.Goals as goal
use Rattle.memory_message.proofs.note_message.Goals.{in_default-via-in-Some+else-is_missing, in_default-via-in_default}

pub returns-then-not-stands : goal.returns-then-not-stands
returns-then-not-stands c =
    c.refuse.ensures ∙ sym (complaint_unsound c.args.octets.now c.args.memory (sym c.stands.ensures ∙ c.if-not-stands.true))

pub destination_in-requires : goal.destination_in-requires
destination_in-requires c =
    let o = c.args.octets.now in
    let read = read_complains o c.in-Some.parts (sym c.read_message.ensures ∙ c.in-Some.is) in
    message_long o (complaint_message o (sym read ∙ sym c.is_missing.ensures ∙ c.if-is_missing.true))

pub returns-in-Some : goal.returns-in-Some
returns-in-Some c =
    let o = c.args.octets.now in
    let heard = sym (read_complains o c.in-Some.parts (sym c.read_message.ensures ∙ c.in-Some.is)) ∙ sym c.is_missing.ensures ∙ c.if-is_missing.true in
    c.note.ensures ∙ ap (λ (a : ℕ). note_of a c.args.memory) (c.destination_in.ensures ∙ destination_is o (complaint_message o heard))
    ∙ sym (complaint_noted o c.args.memory (sym c.stands.ensures ∙ c.if-not-stands.false) heard)

pub returns-in_default : goal.returns-in_default
returns-in_default c =
    let o = c.args.octets.now in
    c.refuse-in_default.ensures
    ∙ sym (complaint_unread o c.args.memory (sym c.stands.ensures ∙ c.if-not-stands.false) (elim c.in_default.branch [
      | in_default-via-in-Some+else-is_missing w ↦ sym (read_complains o w.in-Some.parts (sym c.read_message.ensures ∙ w.in-Some.is)) ∙ sym w.is_missing.ensures ∙ w.if-is_missing.false
      | in_default-via-in_default w ↦ read_none o (sym c.read_message.ensures ∙ w.in_default.is)
    ]))
