-- Laws of what building answers and leaves.
use Prim.Native.Nat.{ℕ, ◌+◌, ◌-◌, ◌≤◌, ◌<◌}
use mathlib.Core.Path.{◌≡◌, refl, sym, ap, ◌∙◌}
use mathlib.Core.Bool.{Bool, true, false, cond, not, ◌||◌}
use mathlib.Core.List.{List, ◌++◌, append_assoc}
use mathlib.Core.Option.{none, some}
use native.Mathlib.Omega.{arith}
use borrow.Author.Tests.{lt-ltb, le-ltb, ltb-true, ltb-false}
use lib.Dec.{ltb}
use lib.ListN.{length, take, drop, replicate, length-append, length-drop}
use Rattle.lists.specs.Lists.{copied}
use Rattle.lists.proofs.Laws.{tail_is, copied_whole, Back, back_zeroed}
use Rattle.area_leaving.specs.Kept.{round_up}
use Rattle.message.specs.Message.{reports, whole_header, written_of}
use Rattle.message.proofs.Laws.{message_length, written_room, written_none}
use Rattle.std.specs.Prelude.{Some, None}
use Rattle.message_reply.specs.Copied.{copy}
use Rattle.message_reply.specs.Reply.{reply_of, reply_area, padded}
use Rattle.message_reply.proofs.Theorems.{area_by}
use Rattle.message_build.specs.declared.Report.{Report}
use Rattle.message_build.specs.declared.BuildError.TheVariants.{Unsound, Short}
use Rattle.message_build.specs.Answer.{Answer}
use Rattle.message_build.specs.Build.{silent, unsound, unanswered, area_of, sent, message_by, Outcome, refused, quiet, goes, room_for, outcome, built_of, message_left, options_left}

-- 2, by its tests
module _ (r : Report) (header : List ℕ) where
  pub unsound_header : whole_header header ≡ false → unsound r header ≡ true
  unfolding unsound
  unsound_header e = rw e

  pub sound_silent : whole_header header ≡ true → silent r ≡ true → unsound r header ≡ false
  unfolding unsound
  sound_silent e f = rw (e, f)

  pub unsound_report : whole_header header ≡ true → silent r ≡ false → unsound r header ≡ not (reports r.kind r.pointer)
  unfolding unsound
  unsound_report e f = rw (e, f)

  -- a header that passes is whole
  pub sound_header : unsound r header ≡ false → whole_header header ≡ true
  sound_header u = go (whole_header header) refl
    where
      go : (b : Bool) → whole_header header ≡ b → b ≡ true
      go true p = refl
      go false p = absurd (let z : ◌≡◌ {A = ℕ} 0 1 = cc (unsound_header p) in omega arith)

  -- what is sent
  pub sent_quiet : (silent r || unanswered r.number) ≡ true → sent r header ≡ none
  unfolding sent
  sent_quiet e = rw e

  pub sent_reply : (silent r || unanswered r.number) ≡ false → sent r header ≡ reply_area (area_of header)
  unfolding sent
  sent_reply e = rw e

-- What is decided, by the tests.
module _ (r : Report) (header payload : List ℕ) (room space : ℕ) where
  pub out_unsound : unsound r header ≡ true → outcome r header payload room space ≡ refused Unsound
  unfolding outcome
  out_unsound e = rw e

  module _ (u : unsound r header ≡ false) where
    pub out_none : sent r header ≡ none → outcome r header payload room space ≡ quiet
    unfolding outcome
    out_none e = rw (u, e, outcome)

    pub out_some : (options : List ℕ) → sent r header ≡ some options → outcome r header payload room space ≡ room_for (message_by r header payload) options room space
    unfolding outcome
    out_some options e = rw (u, e, outcome)

    pub out_quiet : (silent r || unanswered r.number) ≡ true → outcome r header payload room space ≡ quiet
    out_quiet e = out_none (sent_quiet r header e)

    module _ (q : (silent r || unanswered r.number) ≡ false) where
      pub out_barred : reply_of (take (length header - 20) (drop 20 header)) ≡ None → outcome r header payload room space ≡ quiet
      out_barred e = out_none (sent_reply r header q ∙ area_by (area_of header) None (rw tail_is at e))

      pub out_copied : (at n : ℕ) → reply_of (take (length header - 20) (drop 20 header)) ≡ Some (copy at n)
          → outcome r header payload room space ≡ room_for (message_by r header payload) (padded (take (at + n - at) (drop at (take (length header - 20) (drop 20 header))))) room space
      out_copied at n e =
          let k : at + n - at ≡ n = omega arith in
          rw (k, tail_is) (out_some (padded (take n (drop at (drop 20 header)))) (sent_reply r header q ∙ area_by (area_of header) (Some (copy at n)) (rw tail_is at e)))

-- Room for both, or not.
module _ (message options : List ℕ) (room space : ℕ) where
  pub no_space : space < length options → room_for message options room space ≡ refused Short
  no_space h = go (ltb room (length message))
    where
      go : (b : Bool) → cond (b || ltb space (length options)) (refused Short) (goes message options) ≡ refused Short
      go true = refl
      go false = rw (lt-ltb space (length options) h)

  pub no_room : room < length message → room_for message options room space ≡ refused Short
  no_room h = rw (lt-ltb room (length message) h)

  pub both_fit : length message ≤ room → length options ≤ space → room_for message options room space ≡ goes message options
  both_fit h k = rw (le-ltb room (length message) h, le-ltb space (length options) k)

-- a count of 0 says that the message did not fit
pub count_zero : (r : Report) (header payload : List ℕ) (room : ℕ) → written_of (message_by r header payload) room ≡ 0 → room < length (message_by r header payload)
unfolding written_of
count_zero r header payload room e = go (ltb room (length (message_by r header payload))) refl
  where
    go : (b : Bool) → ltb room (length (message_by r header payload)) ≡ b → room < length (message_by r header payload)
    go true p = ltb-true _ _ p
    go false p =
        let h : length (message_by r header payload) ≤ room = ltb-false _ _ p in
        absurd (omega (arith, written_room (message_by r header payload) room h, message_length r.kind r.code r.pointer header payload))

pub count_some : (r : Report) (header payload : List ℕ) (room : ℕ) → (written_of (message_by r header payload) room ≡ 0 → ⊥) → length (message_by r header payload) ≤ room
count_some r header payload room e = go (ltb room (length (message_by r header payload))) refl
  where
    go : (b : Bool) → ltb room (length (message_by r header payload)) ≡ b → length (message_by r header payload) ≤ room
    go true p = absurd (e (written_none (message_by r header payload) room (ltb-true _ _ p)))
    go false p = ltb-false _ _ p

-- an option is written, and zeros to a size
pub padded_written : (option out one part : List ℕ) (size : ℕ) → size ≡ round_up (length option) → size ≤ length out → one ≡ copied option out
    → part ≡ replicate (length (take (size - length option) (drop (length option) one))) 0
    → Back (length option) size one part ≡ padded option ++ drop size out
padded_written option out one part size es h eo ep =
    let n : length option ≤ size = omega arith in
    let o : one ≡ option ++ drop (length option) out = eo ∙ copied_whole option out (omega arith) in
    let l : size ≤ length one = omega (arith, ap length o, length-append option (drop (length option) out), length-drop (length option) out) in
    back_zeroed (length option) size one part option out refl n l o ep ∙ sym (append_assoc option (replicate (size - length option) 0) (drop size out))
    ∙ ap (λ (k : ℕ). (option ++ replicate (k - length option) 0) ++ drop size out) es

-- what is answered and left is that of an equal outcome
pub same_outcome : (x y : Outcome) (b : Answer) (message options message' options' : List ℕ) → x ≡ y
    → (b ≡ built_of y) × ((message' ≡ message_left y message) × (options' ≡ options_left y options))
    → (b ≡ built_of x) × ((message' ≡ message_left x message) × (options' ≡ options_left x options))
same_outcome x y b message options message' options' e h =
    (h.0 ∙ sym (ap built_of e), (h.1.0 ∙ sym (ap (λ (z : Outcome). message_left z message) e), h.1.1 ∙ sym (ap (λ (z : Outcome). options_left z options) e)))
