-- Worked areas, in one table: the areas of offending headers, and the options area of the reply to each; none where nothing is sent.
use Rattle.std.specs.Prelude.{ℕ, ◌≡◌, List, [], ◌∷◌, map}
use Rattle.std.proofs.Math.Option.{Option, none, some}
use Rattle.message_reply.specs.Reply.{reply_area}

pub record Example : Type 0 where
  pub area : List ℕ
  pub reply : Option (List ℕ)

abbrev pub gives : List ℕ → Option (List ℕ) → Example
gives area reply = record { area = area; reply = reply }

-- the option 134 has 10 octets: tag 1, domain 5 or 0 (which is valid in form), level 3, no categories
abbrev pub examples : List Example
examples =
    -- no option 134: answered without one
    gives [] (some [])
    ∷ gives (7 ∷ 4 ∷ 0 ∷ 0 ∷ []) (some [])
    ∷ gives (0 ∷ 134 ∷ 1 ∷ 0 ∷ []) (some [])
    -- a valid one, behind a type 1 octet, behind an option 133, and of domain 0
    ∷ gives (134 ∷ 10 ∷ 0 ∷ 0 ∷ 0 ∷ 5 ∷ 1 ∷ 4 ∷ 0 ∷ 3 ∷ 0 ∷ 0 ∷ []) (some (134 ∷ 10 ∷ 0 ∷ 0 ∷ 0 ∷ 5 ∷ 1 ∷ 4 ∷ 0 ∷ 3 ∷ 0 ∷ 0 ∷ []))
    ∷ gives (1 ∷ 134 ∷ 10 ∷ 0 ∷ 0 ∷ 0 ∷ 5 ∷ 1 ∷ 4 ∷ 0 ∷ 3 ∷ 0 ∷ []) (some (134 ∷ 10 ∷ 0 ∷ 0 ∷ 0 ∷ 5 ∷ 1 ∷ 4 ∷ 0 ∷ 3 ∷ 0 ∷ 0 ∷ []))
    ∷ gives (133 ∷ 2 ∷ 134 ∷ 10 ∷ 0 ∷ 0 ∷ 0 ∷ 5 ∷ 1 ∷ 4 ∷ 0 ∷ 3 ∷ []) (some (134 ∷ 10 ∷ 0 ∷ 0 ∷ 0 ∷ 5 ∷ 1 ∷ 4 ∷ 0 ∷ 3 ∷ 0 ∷ 0 ∷ []))
    ∷ gives (134 ∷ 10 ∷ 0 ∷ 0 ∷ 0 ∷ 0 ∷ 1 ∷ 4 ∷ 0 ∷ 3 ∷ 133 ∷ 2 ∷ []) (some (134 ∷ 10 ∷ 0 ∷ 0 ∷ 0 ∷ 0 ∷ 1 ∷ 4 ∷ 0 ∷ 3 ∷ 0 ∷ 0 ∷ []))
    -- one option 130 is passed over
    ∷ gives (130 ∷ 3 ∷ 90 ∷ 0 ∷ []) (some [])
    -- 3: cut off; 5: a second option 134, and a second option 130; an option 134 that is too short, and one of tag 3
    ∷ gives (134 ∷ 10 ∷ 0 ∷ 0 ∷ []) none
    ∷ gives (134 ∷ 2 ∷ 134 ∷ 2 ∷ []) none
    ∷ gives (130 ∷ 2 ∷ 130 ∷ 2 ∷ []) none
    ∷ gives (134 ∷ 4 ∷ 0 ∷ 0 ∷ []) none
    ∷ gives (134 ∷ 10 ∷ 0 ∷ 0 ∷ 0 ∷ 5 ∷ 3 ∷ 4 ∷ 0 ∷ 3 ∷ 0 ∷ 0 ∷ []) none
    ∷ []

abbrev pub WorkedReplies : Type 0
WorkedReplies = map (λ (e : Example). reply_area e.area) examples ≡ map (λ (e : Example). e.reply) examples
