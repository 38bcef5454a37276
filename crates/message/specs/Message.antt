-- Document 02, Wish 9; RFC 792: an ICMP message that reports a refusal, by its octets: how it is built, and what its reader accepts.
use Rattle.std.specs.Prelude.{ℕ, ◌+◌, ◌*◌, ◌%◌, Bool, cond, ◌&&◌, ◌||◌, List, ◌∷◌, ◌++◌, leb, eqb, length, get_or, take, drop, Option, Some, None}
use Rattle.message_checksum.specs.Checksum.{checksum_of}
use Rattle.message_checksum.specs.Theorems.{with_check}
use Rattle.message.specs.declared.Parts.{Parts}

-- type, code, checksum, pointer, three zeros, then the offending header and data octets
abbrev pub octets_with : ℕ → ℕ → ℕ → ℕ → List ℕ → List ℕ → List ℕ
octets_with check kind code pointer header payload = with_check kind code check (pointer ∷ 0 ∷ 0 ∷ 0 ∷ (header ++ payload))

-- the whole message: its checksum is computed with the field zero, and of the data the first eight octets are quoted, or all, if fewer
unfoldable pub message_of : ℕ → ℕ → ℕ → List ℕ → List ℕ → List ℕ
message_of kind code pointer header payload =
    octets_with (checksum_of (octets_with 0 kind code pointer header (take 8 payload))) kind code pointer header (take 8 payload)

-- the types that report a refusal: 12, or 3 with pointer 0
abbrev pub reports : ℕ → ℕ → Bool
reports kind pointer = eqb kind 12 || (eqb kind 3 && eqb pointer 0)

-- a header's length, by its length field: four octets for each; the version, in the upper half of the octet, is not looked at
abbrev pub header_length : List ℕ → ℕ
header_length h = 4 * (get_or h 0 0 % 16)

-- a whole header is four times its length field long, which is at least 5
abbrev pub whole_header : List ℕ → Bool
whole_header h = leb 5 (get_or h 0 0 % 16) && eqb (length h) (header_length h)

-- what the octets of a message say: type, code, checksum, pointer, the quoted header, and what stands behind it
abbrev pub kind_in : List ℕ → ℕ
kind_in o = get_or o 0 0

abbrev pub code_in : List ℕ → ℕ
code_in o = get_or o 1 0

abbrev pub check_in : List ℕ → ℕ
check_in o = get_or o 2 0 * 256 + get_or o 3 0

abbrev pub pointer_in : List ℕ → ℕ
pointer_in o = get_or o 4 0

abbrev pub header_in : List ℕ → List ℕ
header_in o = take (header_length (drop 8 o)) (drop 8 o)

abbrev pub payload_in : List ℕ → List ℕ
payload_in o = drop (header_length (drop 8 o)) (drop 8 o)

-- the octets with their checksum field taken as zero
abbrev pub blanked : List ℕ → List ℕ
blanked o = take 2 o ++ (0 ∷ 0 ∷ drop 4 o)

-- the messages that the reader accepts: type 12, or 3 with pointer 0; the checksum as built, the zeros, a whole header, at most eight data octets
unfoldable pub is_message : List ℕ → Bool
is_message o =
    leb 8 (length o)
    && (reports (kind_in o) (pointer_in o)
    && (eqb (check_in o) (checksum_of (blanked o))
    && (eqb (get_or o 5 0) 0 && (eqb (get_or o 6 0) 0 && (eqb (get_or o 7 0) 0
    && (whole_header (header_in o)
    && leb (length (payload_in o)) 8))))))

-- the parts of a message: the header stands from octet 8 on, the data behind it; any other octets have none
unfoldable pub parts_of : List ℕ → Option Parts
parts_of o =
    cond (is_message o)
    (Some (record { kind = kind_in o; code = code_in o; pointer = pointer_in o; header = length (header_in o); payload = length (payload_in o) }))
    None

-- a row of what reading answers: number 0 and the parts
pub record MessageRow : Type 0 where
  pub number : ℕ
  pub kind : ℕ
  pub code : ℕ
  pub pointer : ℕ
  pub header : ℕ
  pub payload : ℕ

-- any other is 25
abbrev pub not_read : MessageRow
not_read = record { number = 25; kind = 0; code = 0; pointer = 0; header = 0; payload = 0 }

-- the row of an answer
abbrev pub row_of : Option Parts → MessageRow
row_of (Some p) = record { number = 0; kind = p.kind; code = p.code; pointer = p.pointer; header = p.header; payload = p.payload }
row_of None = not_read

-- what the writer answers and leaves: the message, and the octets behind it as they were; or, where it does not fit, no octet
unfoldable pub written_of : List ℕ → ℕ → ℕ
written_of m room = cond (leb (length m) room) (length m) 0

unfoldable pub message_after : List ℕ → List ℕ → List ℕ
message_after m out = cond (leb (length m) (length out)) (m ++ drop (length m) out) out
