-- `export_memory::inglebreek_note_address` meets its contract.
use borrow.Author.Rules.{rules}
use mathlib.Core.Path.{◌≡◌}
use Rattle.memory.specs.Memory.{note_of}
use Rattle.export_memory.specs.Export.{memory_in}
use Rattle.export_memory.proofs.Laws.{called}
use Rattle.export_memory.proofs.inglebreek_note_address.Goals as goal

pub returns : goal.returns
returns c =
    let a =
    called (note_of c.args.address) c.args.count.now c.args.addresses.now c.call_lent.result c.call_lent.new.count c.call_lent.new.addresses c.call_lent.new.known c.call_lent.ensures.short
    (λ h.
    let w = c.call_lent.ensures.whole h in
    let e : w.0 ≡ note_of c.args.address (memory_in c.args.count.now c.args.addresses.now) = search (rules, w.1) in
    (w.0, e, w.2, w.3, w.4, w.5))
    in record { value = a.number; count_after = a.count; addresses_after = a.addresses; known_after = a.known }
