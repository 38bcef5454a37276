-- Worked messages, in one table: the octets, the memory before, and what is answered.
use Rattle.std.specs.Prelude.{ℕ, ◌≡◌, true, false, List, [], ◌∷◌, map}
use Rattle.memory.specs.declared.Memory.{Memory}
use Rattle.memory.specs.declared.Recall.{Recall}
use Rattle.memory.specs.Memory.{memory_of}
use Rattle.memory_message.specs.Complaint.{complaint_of}

pub record Example : Type 0 where
  pub octets : List ℕ
  pub memory : Memory
  pub answer : Recall

abbrev pub example : List ℕ → Memory → Recall → Example
example octets memory answer = record { octets = octets; memory = memory; answer = answer }

-- the header of a datagram from 5.6.7.8 to 1.2.3.4, which is 16909060
abbrev pub quoted : List ℕ
quoted = 69 ∷ 0 ∷ 0 ∷ 28 ∷ 0 ∷ 1 ∷ 0 ∷ 0 ∷ 64 ∷ 17 ∷ 0 ∷ 0 ∷ 5 ∷ 6 ∷ 7 ∷ 8 ∷ 1 ∷ 2 ∷ 3 ∷ 4 ∷ []

-- a memory with an address twice
abbrev pub twice : Memory
twice = memory_of (7 ∷ 7 ∷ [])

abbrev pub examples : List Example
examples =
    -- new, and known: it becomes the newest
    example (12 ∷ 1 ∷ 216 ∷ 187 ∷ 134 ∷ 0 ∷ 0 ∷ 0 ∷ quoted) (memory_of (9 ∷ [])) (record { number = 0; known = false; memory = memory_of (9 ∷ 16909060 ∷ []) })
    ∷ example (12 ∷ 1 ∷ 216 ∷ 187 ∷ 134 ∷ 0 ∷ 0 ∷ 0 ∷ quoted) (memory_of (16909060 ∷ 9 ∷ [])) (record { number = 0; known = true; memory = memory_of (9 ∷ 16909060 ∷ []) })
    -- option 130 is missing; another code; another type; no message: 25, and the memory stays
    ∷ example (12 ∷ 1 ∷ 220 ∷ 187 ∷ 130 ∷ 0 ∷ 0 ∷ 0 ∷ quoted) (memory_of (9 ∷ [])) (record { number = 25; known = false; memory = memory_of (9 ∷ []) })
    ∷ example (12 ∷ 0 ∷ 216 ∷ 188 ∷ 134 ∷ 0 ∷ 0 ∷ 0 ∷ quoted) (memory_of (9 ∷ [])) (record { number = 25; known = false; memory = memory_of (9 ∷ []) })
    ∷ example (3 ∷ 1 ∷ 103 ∷ 188 ∷ 0 ∷ 0 ∷ 0 ∷ 0 ∷ quoted) (memory_of (9 ∷ [])) (record { number = 25; known = false; memory = memory_of (9 ∷ []) })
    ∷ example [] (memory_of (9 ∷ [])) (record { number = 25; known = false; memory = memory_of (9 ∷ []) })
    -- a memory that stands for no list is first 2, and stays
    ∷ example (12 ∷ 1 ∷ 216 ∷ 187 ∷ 134 ∷ 0 ∷ 0 ∷ 0 ∷ quoted) twice (record { number = 2; known = false; memory = twice })
    ∷ example [] twice (record { number = 2; known = false; memory = twice })
    ∷ []

abbrev pub WorkedComplaints : Type 0
WorkedComplaints = map (λ (e : Example). complaint_of e.octets e.memory) examples ≡ map (λ (e : Example). e.answer) examples
