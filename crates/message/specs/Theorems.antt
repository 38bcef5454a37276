-- Document 02, Wish 9: what is proved of messages.
use Rattle.std.specs.Prelude.{ℕ, ◌<◌, ◌≡◌, true, List, ◌↔◌, take}
use Rattle.option.specs.Option.{Octets}
use Rattle.message_checksum.specs.Checksum.{ones_sum}
use Rattle.message.specs.Message.{message_of, reports, whole_header, is_message, kind_in, code_in, pointer_in, header_in, payload_in}

-- what a message can be built of: octets, type 12 or 3 with pointer 0, and a whole header
pub record Reported (kind code pointer : ℕ) (header payload : List ℕ) : Type 0 where
  pub kinds : kind < 256
  pub codes : code < 256
  pub pointers : pointer < 256
  pub headers : Octets header
  pub payloads : Octets payload
  pub report : reports kind pointer ≡ true
  pub whole : whole_header header ≡ true

-- the octets are those of a message that was built of something
pub record Built (o : List ℕ) : Type 0 where
  pub kind : ℕ
  pub code : ℕ
  pub pointer : ℕ
  pub header : List ℕ
  pub payload : List ℕ
  pub reported : Reported kind code pointer header payload
  pub octets : o ≡ message_of kind code pointer header payload

-- the parts that the reader finds are those that were built
pub record GivenBack (kind code pointer : ℕ) (header payload o : List ℕ) : Type 0 where
  pub accepted : is_message o ≡ true
  pub kinds : kind_in o ≡ kind
  pub codes : code_in o ≡ code
  pub pointers : pointer_in o ≡ pointer
  pub headers : header_in o ≡ header
  pub payloads : payload_in o ≡ take 8 payload

pub record Messages : Type 0 where
  -- what the builder wrote the reader gives back
  pub back : (kind code pointer : ℕ) (header payload : List ℕ) → Reported kind code pointer header payload
      → GivenBack kind code pointer header payload (message_of kind code pointer header payload)
  -- what the reader accepts is the message of its parts: so it accepts what can be built and nothing else
  pub only : (o : List ℕ) → Octets o → is_message o ≡ true → o ≡ message_of (kind_in o) (code_in o) (pointer_in o) (header_in o) (payload_in o)
  pub exactly : (o : List ℕ) → Octets o → (is_message o ≡ true) ↔ Built o
  -- the one's complement sum over a whole message is all ones
  pub sums : (kind code pointer : ℕ) (header payload : List ℕ) → Reported kind code pointer header payload
      → ones_sum (message_of kind code pointer header payload) ≡ 65535
