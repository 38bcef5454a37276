-- Document 02, Wish 9: the ICMP message itself. What building answers, and what both outputs hold, for every report, header, data and output.
use Rattle.std.specs.Prelude.{ℕ, Bool, cond, not, ◌&&◌, ◌||◌, List, ◌++◌, leb, ltb, eqb, length, drop, Ok, Err, Some, None}
use Rattle.std.proofs.Math.Option.{Option, none, some}
use Rattle.message.specs.Message.{message_of, reports, whole_header}
use Rattle.message_reply.specs.Reply.{reply_area}
use Rattle.message_build.specs.declared.Report.{Report}
use Rattle.message_build.specs.declared.BuildError.{BuildError}
use Rattle.message_build.specs.declared.BuildError.TheVariants.{Unsound, Short}
use Rattle.message_build.specs.Answer.{Answer}

-- silent: type, code and pointer all 0 (document 01)
abbrev pub silent : Report → Bool
silent r = eqb r.kind 0 && (eqb r.code 0 && eqb r.pointer 0)

-- 2: a header not four times its length field (at least 5) long, another type not silent, or type 3 with a pointer not 0
unfoldable pub unsound : Report → List ℕ → Bool
unsound r header = not (whole_header header) || not (silent r || reports r.kind r.pointer)

-- for refusals 3 to 5 and 7 to 13 nothing is sent; nor for 23 (Wish 10)
abbrev pub unanswered : ℕ → Bool
unanswered n = (leb 3 n && leb n 5) || ((leb 7 n && leb n 13) || eqb n 23)

-- the options area of a header: the octets after the first 20
abbrev pub area_of : List ℕ → List ℕ
area_of header = drop 20 header

-- the options area of the reply; none where nothing is sent: a silent refusal, one that is not answered, or an area that bars a reply
unfoldable pub sent : Report → List ℕ → Option (List ℕ)
sent r header = cond (silent r || unanswered r.number) none (reply_area (area_of header))

-- 24: an output is too short
abbrev pub short : ℕ → List ℕ → ℕ → List ℕ → Bool
short room message space options = ltb room (length message) || ltb space (length options)

-- the message that a report makes
abbrev pub message_by : Report → List ℕ → List ℕ → List ℕ
message_by r header payload = message_of r.kind r.code r.pointer header payload

-- what is decided: 2; then that nothing is sent; then 24; else the message and the reply's options area go out
pub data Outcome : Type 0 where
  refused : BuildError → Outcome
  quiet : Outcome
  goes : List ℕ → List ℕ → Outcome

abbrev pub room_for : List ℕ → List ℕ → ℕ → ℕ → Outcome
room_for message options room space = cond (short room message space options) (refused Short) (goes message options)

unfoldable pub outcome : Report → List ℕ → List ℕ → ℕ → ℕ → Outcome
outcome r header payload room space =
    cond (unsound r header) (refused Unsound)
    (elim (sent r header) [ none ↦ quiet | some options ↦ room_for (message_by r header payload) options room space ])

-- what is answered, and what is written: octets behind what is written stay, and nothing is written by a refusal and where nothing is sent
abbrev pub built_of : Outcome → Answer
built_of (refused e) = Err e
built_of quiet = Ok None
built_of (goes message options) = Ok (Some (record { message = length message; options = length options }))

abbrev pub message_left : Outcome → List ℕ → List ℕ
message_left (refused e) out = out
message_left quiet out = out
message_left (goes message options) out = message ++ drop (length message) out

abbrev pub options_left : Outcome → List ℕ → List ℕ
options_left (refused e) out = out
options_left quiet out = out
options_left (goes message options) out = options ++ drop (length options) out
