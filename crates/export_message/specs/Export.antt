-- Document 02, Wish 9, for Rust and C: a refusal handed over as four numbers, and what is answered as numbers.
use Rattle.std.specs.Prelude.{ℕ, Option}
use Rattle.message.specs.declared.Parts.{Parts}
use Rattle.message_build.specs.declared.Report.{Report}
use Rattle.message_build.specs.declared.Built.{Built}
use Rattle.message.specs.Message.{row_of as message_row}
use Rattle.message_build.specs.Answer.{Answer, row_of as build_row}

abbrev pub report_by : ℕ → ℕ → ℕ → ℕ → Report
report_by number kind code pointer = record { number = number; kind = kind; code = code; pointer = pointer }

-- what building answers: the number of its row, and both counts
abbrev pub build_number : Answer → ℕ
build_number x = (build_row x).number

abbrev pub counts_in : Answer → Built
counts_in x = record { message = (build_row x).message; options = (build_row x).options }

-- and reading: the number of its row, and the parts
abbrev pub read_number : Option Parts → ℕ
read_number x = (message_row x).number

abbrev pub parts_in : Option Parts → Parts
parts_in x = record { kind = (message_row x).kind; code = (message_row x).code; pointer = (message_row x).pointer; header = (message_row x).header; payload = (message_row x).payload }
