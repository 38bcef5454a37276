-- What the reply copies of the options area of a datagram's header.
use Rattle.std.specs.Prelude.{ℕ, Option}
use Rattle.message_reply.specs.declared.Copied.{Copied}

-- where nothing is sent there is none
abbrev pub Reply : Type 0
Reply = Option Copied

-- n octets from a place on
abbrev pub copy : ℕ → ℕ → Copied
copy at n = record { at = at; count = n }
