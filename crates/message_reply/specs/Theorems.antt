-- Document 02, Wish 9: what is proved of the reply's options area.
use Rattle.std.specs.Prelude.{ℕ, ◌≡◌, Bool, true, false, List, [], ◌⊎◌, ◌↔◌}
use Rattle.std.proofs.Math.Option.{none, some}
use Rattle.std.specs.Prelude.{Ok, Err, Some, None}
use Rattle.area.specs.Kinds.{Place, places, fault}
use Rattle.area.specs.Area.{bad_area, walk_of, open_walk, option_at}
use Rattle.option.specs.Option.{valid}
use Rattle.message_reply.specs.Reply.{padded, reply_area}

-- an area that bars a reply: its walk, check 4 left out, meets 3 or 5, or meets an option 134 that is not valid
pub data Bars (area : List ℕ) : Type 0 where
  broken : (number at : ℕ) → open_walk area ≡ Err (fault number at) → Bars area
  invalid : (at : ℕ) (basic : Place) → open_walk area ≡ Ok (places (Some at) basic) → valid (option_at at area) ≡ false → Bars area

-- what the area of a reply has: no option 134, where the header has none; or the header's own, which is valid, octet for octet. Its walk meets 3, 4 and 5
-- at no port
pub data Carries (area reply : List ℕ) : Type 0 where
  unlabelled : (basic : Place) → open_walk area ≡ Ok (places None basic) → ((on : Bool) → walk_of on reply ≡ Ok (places None None)) → Carries area reply
  labelled : (at : ℕ) (basic : Place) → open_walk area ≡ Ok (places (Some at) basic) → valid (option_at at area) ≡ true
      → ((on : Bool) → walk_of on reply ≡ Ok (places (Some 0) None)) → option_at 0 reply ≡ option_at at area → Carries area reply

pub record Replies : Type 0 where
  -- nothing is sent exactly for these
  pub barred : (area : List ℕ) → (reply_area area ≡ none) ↔ Bars area
  -- without an option 134 the reply has none
  pub bare : (area : List ℕ) (basic : Place) → open_walk area ≡ Ok (places None basic) → reply_area area ≡ some []
  -- a valid option 134 is copied octet for octet, with zeros to a multiple of 4
  pub copied : (area : List ℕ) (at : ℕ) (basic : Place) → open_walk area ≡ Ok (places (Some at) basic) → valid (option_at at area) ≡ true
      → reply_area area ≡ some (padded (option_at at area))
  -- check 1 does not apply to it, nor do 3 to 5; and it carries the header's label
  pub sized : (area reply : List ℕ) → reply_area area ≡ some reply → bad_area reply ≡ false
  pub carries : (area reply : List ℕ) → reply_area area ≡ some reply → Carries area reply
  -- the walk refuses with 3 and 5 alone; where the walk of a port that reads option 130 does not meet 4, it is that walk
  pub numbers : (area : List ℕ) (number at : ℕ) → open_walk area ≡ Err (fault number at) → (number ≡ 3) ⊎ (number ≡ 5)
  pub alike : (area : List ℕ) → ((at : ℕ) → walk_of true area ≡ Err (fault 4 at) → ⊥) → open_walk area ≡ walk_of true area
