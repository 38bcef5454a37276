-- Document 02, Wish 9: what is proved of building a message.
use Rattle.std.specs.Prelude.{ℕ, ◌≤◌, ◌≡◌, Bool, true, false, List, [], ◌⊎◌, ◌↔◌, length}
use Rattle.std.proofs.Math.Option.{none, some}
use Rattle.option.specs.Option.{valid}
use Rattle.std.specs.Prelude.{Ok, Some, None}
use Rattle.area.specs.Kinds.{Place, places}
use Rattle.area.specs.Area.{bad_area, walk_of, open_walk, option_at}
use Rattle.message.specs.Message.{reports, whole_header}
use Rattle.message.specs.Theorems.{GivenBack}
use Rattle.message_reply.specs.Reply.{reply_area}
use Rattle.message_reply.specs.Theorems.{Bars}
use Rattle.message_build.specs.declared.Report.{Report}
use Rattle.message_build.specs.declared.BuildError.{BuildError}
use Rattle.message_build.specs.Build.{silent, unsound, unanswered, area_of, sent, Outcome, refused, quiet, goes, outcome, message_left, options_left}

-- what a message that goes out is: the refusal is answered, the reader gives its parts back, the reply's options area is that of the header's, and
-- both fit
pub record GoesOut (r : Report) (header payload : List ℕ) (room space : ℕ) (message options : List ℕ) : Type 0 where
  pub sound : unsound r header ≡ false
  pub heard : silent r ≡ false
  pub answered : unanswered r.number ≡ false
  pub back : GivenBack r.kind r.code r.pointer header payload message
  pub reply : reply_area (area_of header) ≡ some options
  pub fits : (length message ≤ room) × (length options ≤ space)

-- an area that carries the label of the option 134 at an octet of another: that option is valid and stands first in it, and check 1 and the walk at every
-- port are passed
pub record Labelled (area : List ℕ) (at : ℕ) (options : List ℕ) : Type 0 where
  pub readable : valid (option_at at area) ≡ true
  pub same : option_at 0 options ≡ option_at at area
  pub met : (on : Bool) → walk_of on options ≡ Ok (places (Some 0) None)
  pub sized : bad_area options ≡ false

pub record Answers : Type 0 where
  -- nothing is sent exactly when the refusal is silent, is one that is not answered, or the header's area bars a reply
  pub nothing : (r : Report) (header : List ℕ) → (sent r header ≡ none) ↔ ((silent r ≡ true) ⊎ ((unanswered r.number ≡ true) ⊎ Bars (area_of header)))
  -- 2 exactly where the header is not whole, or the report is neither silent nor one that a message carries
  pub two : (r : Report) (header : List ℕ) → (unsound r header ≡ true) ↔ ((whole_header header ≡ false) ⊎ ((silent r ≡ false) × (reports r.kind r.pointer ≡ false)))
  -- demand 1: whatever is refused, and where nothing is sent, both outputs stay as they were
  pub untouched : (o : Outcome) (e : BuildError) (message options : List ℕ) → (o ≡ refused e) ⊎ (o ≡ quiet) → (message_left o message ≡ message) × (options_left o options ≡ options)
  -- nothing leaves unlabelled for a datagram that was labelled: where its walk, check 4 left out, meets an option 134, the area that goes out with the
  -- message has that option, octet for octet, and a walk over it meets it first
  pub labelled : (r : Report) (header payload : List ℕ) (room space : ℕ) (message options : List ℕ) (at : ℕ) (basic : Place)
      → outcome r header payload room space ≡ goes message options → open_walk (area_of header) ≡ Ok (places (Some at) basic) → Labelled (area_of header) at options
  -- and one that was not is answered without a label
  pub unlabelled : (r : Report) (header payload : List ℕ) (room space : ℕ) (message options : List ℕ) (basic : Place)
      → outcome r header payload room space ≡ goes message options → open_walk (area_of header) ≡ Ok (places None basic) → options ≡ []
  -- what goes out
  pub out : (r : Report) (header payload : List ℕ) (room space : ℕ) (message options : List ℕ) → outcome r header payload room space ≡ goes message options
      → GoesOut r header payload room space message options
