-- `export_memory::inglebreek_ask_address` meets its contract.
use mathlib.Core.Path.{refl}
use Rattle.memory.specs.Memory.{ask_of}
use Rattle.export_memory.proofs.Laws.{called_short, called_whole}
use Rattle.export_memory.proofs.inglebreek_ask_address.Goals as goal

pub returns-then-addresses-lt-MOST : goal.returns-then-addresses-lt-MOST
returns-then-addresses-lt-MOST c =
    let a = called_short (ask_of c.args.address) c.args.count c.args.addresses.now c.if-addresses-lt-MOST.true in record { value = a.number; known_after = a.known }

pub returns : goal.returns
returns c =
    let a = called_whole (ask_of c.args.address) c.args.count c.args.addresses.now _ _ c.ask-recall.result c.if-addresses-lt-MOST.false c.memory_in.ensures c.ask-recall.ensures refl in record { value = a.number; known_after = a.known }
