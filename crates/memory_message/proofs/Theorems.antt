-- The theorems of `specs/Theorems.antt`.
use Prim.Native.Nat.{ℕ}
use mathlib.Core.Path.{◌≡◌, refl, sym, ap, ◌∙◌}
use mathlib.Core.Bool.{Bool, true, false, cond}
use mathlib.Core.List.{List, [], ◌∷◌}
use mathlib.Core.Option.{none, some}
use Rattle.message_checksum.specs.Checksum.{ones_sum, checksum_of}
use Rattle.message.specs.Message.{message_of, whole_header, is_message, header_in}
use Rattle.message.proofs.Theorems.{given_back}
use Rattle.memory.specs.declared.Memory.{Memory}
use Rattle.memory.specs.declared.Recall.{Recall}
use Rattle.memory.specs.Memory.{holds, noted, memory_of, stands, answered, note_of}
use Rattle.memory.specs.Theorems.{note, clear, Said, told}
use Rattle.memory.proofs.Laws.{of_stands, note_refused}
use Rattle.memory.proofs.Theorems.{Plain, after_plain, says_alike, after_alike, note_alike, nothing}
use Rattle.memory_message.specs.Complaint.{complains, destination_in, unread, complaint_of}
use Rattle.memory_message.specs.Theorems.{Event, call, message, list_then, list_tells, memory_then, memory_tells, list_story, memory_story, list_left, memory_left, Complaints}
use Rattle.memory_message.specs.Examples.{WorkedComplaints}
use Rattle.memory_message.proofs.Laws.{complaint_unsound, complaint_unread, complaint_noted}

-- one message on the memory of a list
module _ (o : List ℕ) (xs : List ℕ) (p : Plain xs) where
  abbrev heard : Recall
  heard = answered (holds xs (destination_in (header_in o))) (memory_of (noted (destination_in (header_in o)) xs))

  message_alike : complaint_of o (memory_of xs) ≡ cond (complains o) heard (unread (memory_of xs))
  message_alike = go (complains o) refl
    where
      stood : stands (memory_of xs) ≡ true
      stood = of_stands xs p.few p.once

      go : (b : Bool) → complains o ≡ b → complaint_of o (memory_of xs) ≡ cond b heard (unread (memory_of xs))
      go true e = complaint_noted o (memory_of xs) stood e ∙ note_alike (destination_in (header_in o)) xs p
      go false e = complaint_unread o (memory_of xs) stood e

  tells_by : (b : Bool) → told (cond b heard (unread (memory_of xs))) ≡ cond b (record { number = 0; known = some (holds xs (destination_in (header_in o))) }) (record { number = 25; known = none })
  tells_by true = refl
  tells_by false = refl

  then_by : (b : Bool) → (cond b heard (unread (memory_of xs))).memory ≡ memory_of (cond b (noted (destination_in (header_in o)) xs) xs)
  then_by true = refl
  then_by false = refl

  plain_by : (b : Bool) → Plain (cond b (noted (destination_in (header_in o)) xs) xs)
  plain_by true = after_plain (note (destination_in (header_in o))) xs p
  plain_by false = p

tells_alike : (e : Event) (xs : List ℕ) → Plain xs → memory_tells e (memory_of xs) ≡ list_tells e xs
tells_alike (call c) xs p = says_alike c xs p
tells_alike (message o) xs p = ap told (message_alike o xs p) ∙ tells_by o xs p (complains o)

then_alike : (e : Event) (xs : List ℕ) → Plain xs → memory_then e (memory_of xs) ≡ memory_of (list_then e xs)
then_alike (call c) xs p = after_alike c xs p
then_alike (message o) xs p = ap (λ (r : Recall). r.memory) (message_alike o xs p) ∙ then_by o xs p (complains o)

then_plain : (e : Event) (xs : List ℕ) → Plain xs → Plain (list_then e xs)
then_plain (call c) xs p = after_plain c xs p
then_plain (message o) xs p = plain_by o xs p (complains o)

story_alike : (es : List Event) (xs : List ℕ) → Plain xs → memory_story es (memory_of xs) ≡ list_story es xs
story_alike [] xs p = refl
story_alike (e ∷ es) xs p = (λ i. tells_alike e xs p i ∷ memory_story es (then_alike e xs p i)) ∙ ap (λ (l : List Said). list_tells e xs ∷ l) (story_alike es (list_then e xs) (then_plain e xs p))

left_alike : (es : List Event) (xs : List ℕ) → Plain xs → memory_left es (memory_of xs) ≡ memory_of (list_left es xs)
left_alike [] xs p = refl
left_alike (e ∷ es) xs p = ap (memory_left es) (then_alike e xs p) ∙ left_alike es (list_then e xs) (then_plain e xs p)

-- the message of refusal 6 is a complaint
module _ (header payload : List ℕ) (w : whole_header header ≡ true) where
  built_complains : complains (message_of 12 1 134 header payload) ≡ true
  unfolding complains
  built_complains =
      let g = given_back 12 1 134 header payload refl w in
      rw (g.accepted, g.kinds, g.codes, g.pointers)

  built_noted : (m : Memory) → complaint_of (message_of 12 1 134 header payload) m ≡ note_of (destination_in header) m
  built_noted m = go (stands m) refl
    where
      go : (b : Bool) → stands m ≡ b → complaint_of (message_of 12 1 134 header payload) m ≡ note_of (destination_in header) m
      go true e =
          complaint_noted (message_of 12 1 134 header payload) m e built_complains
          ∙ ap (λ (h : List ℕ). note_of (destination_in h) m) (given_back 12 1 134 header payload refl w).headers
      go false e = complaint_unsound (message_of 12 1 134 header payload) m e ∙ sym (note_refused m (destination_in header) e)

pub complaints : Complaints
complaints =
    record {
      story = λ m es. ap (λ (l : List Said). list_tells (call clear) [] ∷ l) (story_alike es [] nothing);
      left = λ m es. left_alike es [] nothing;
      noting = λ header payload m w. built_noted header payload w m;
      first = λ o m e. complaint_unsound o m e;
    }

pub worked : WorkedComplaints
unfolding ones_sum checksum_of is_message complains stands note_of complaint_of
worked = refl
