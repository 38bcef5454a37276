-- Document 02, Wish 9: the options area of the reply to a datagram, by the options area of that datagram's header: its valid option 134, copied.
use Rattle.std.specs.Prelude.{ℕ, ◌+◌, ◌-◌, cond, List, ◌++◌, length, get_or, take, drop, replicate}
use Rattle.std.proofs.Math.Option.{Option, none, some}
use Rattle.std.specs.Prelude.{Ok, Err, Some, None}
use Rattle.area.specs.Kinds.{Place}
use Rattle.area.specs.Area.{open_walk, option_at}
use Rattle.area_leaving.specs.Kept.{round_up}
use Rattle.option.specs.Option.{valid}
use Rattle.message_reply.specs.Copied.{Reply, copy}

-- without an option 134 no octet is copied; a valid one is, from its place on; where it is not valid, nothing is sent
abbrev pub reply_at : Place → List ℕ → Reply
reply_at None area = Some (copy 0 0)
reply_at (Some p) area = cond (valid (option_at p area)) (Some (copy p (get_or area (p + 1) 0))) None

-- nothing is sent where the walk, check 4 left out, meets 3 or 5
unfoldable pub reply_of : List ℕ → Reply
reply_of area = elim (open_walk area) [ Ok met ↦ reply_at met.label area | Err r ↦ None ]

-- zeros to a multiple of 4
abbrev pub padded : List ℕ → List ℕ
padded o = o ++ replicate (round_up (length o) - length o) 0

-- the options area of the reply; none where nothing is sent
abbrev pub replied : Reply → List ℕ → Option (List ℕ)
replied None area = none
replied (Some c) area = some (padded (take c.count (drop c.at area)))

unfoldable pub reply_area : List ℕ → Option (List ℕ)
reply_area area = replied (reply_of area) area
