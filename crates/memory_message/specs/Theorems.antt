-- Document 02, Wish 13: what is proved of complaints.
use Rattle.std.specs.Prelude.{ℕ, ◌≡◌, List, [], ◌∷◌, true, false, cond}
use Rattle.std.proofs.Math.Option.{none, some}
use Rattle.message.specs.Message.{message_of, whole_header, header_in}
use Rattle.memory.specs.declared.Memory.{Memory}
use Rattle.memory.specs.Memory.{holds, noted, memory_of, unsound, stands, note_of}
use Rattle.memory.specs.Theorems.{Call, clear, Said, list_after, list_says, told, memory_after, memory_says}
use Rattle.memory_message.specs.Complaint.{complains, destination_in, complaint_of}

-- a call of the memory, or a message
pub data Event : Type 0 where
  call : Call → Event
  message : List ℕ → Event

-- the plain list: a missing-option message notes the destination, any other is 25
abbrev pub list_then : Event → List ℕ → List ℕ
list_then (call c) xs = list_after c xs
list_then (message o) xs = cond (complains o) (noted (destination_in (header_in o)) xs) xs

abbrev pub list_tells : Event → List ℕ → Said
list_tells (call c) xs = list_says c xs
list_tells (message o) xs =
    cond (complains o) (record { number = 0; known = some (holds xs (destination_in (header_in o))) }) (record { number = 25; known = none })

-- the memory, by the functions' contracts
abbrev pub memory_then : Event → Memory → Memory
memory_then (call c) m = memory_after c m
memory_then (message o) m = (complaint_of o m).memory

abbrev pub memory_tells : Event → Memory → Said
memory_tells (call c) m = memory_says c m
memory_tells (message o) m = told (complaint_of o m)

abbrev pub list_story : List Event → List ℕ → List Said
list_story [] xs = []
list_story (e ∷ es) xs = list_tells e xs ∷ list_story es (list_then e xs)

abbrev pub memory_story : List Event → Memory → List Said
memory_story [] m = []
memory_story (e ∷ es) m = memory_tells e m ∷ memory_story es (memory_then e m)

abbrev pub list_left : List Event → List ℕ → List ℕ
list_left [] xs = xs
list_left (e ∷ es) xs = list_left es (list_then e xs)

abbrev pub memory_left : List Event → Memory → Memory
memory_left [] m = m
memory_left (e ∷ es) m = memory_left es (memory_then e m)

pub record Complaints : Type 0 where
  -- from clear, whatever the memory was, any sequence of calls and messages replies as the plain list would, and leaves the memory of that list
  pub story : (m : Memory) (es : List Event) → memory_story (call clear ∷ es) m ≡ list_story (call clear ∷ es) []
  pub left : (m : Memory) (es : List Event) → memory_left (call clear ∷ es) m ≡ memory_of (list_left es [])
  -- the message that the box builds for refusal 6 notes the destination of the header that it is about
  pub noting : (header payload : List ℕ) (m : Memory) → whole_header header ≡ true → complaint_of (message_of 12 1 134 header payload) m ≡ note_of (destination_in header) m
  -- a memory that stands for no list is 2 first, whatever the octets
  pub first : (o : List ℕ) (m : Memory) → stands m ≡ false → complaint_of o m ≡ unsound m
