-- Document 01, "The order of checks"; document 02, Wishes 3 and 9: one option of the walk is judged by 3, 4 and 5.
use Rattle.std.specs.Prelude.{ℕ, Bool, true, false}
use Rattle.area.specs.declared.Kind.{Kind}
use Rattle.area.specs.declared.Kind.TheVariants.{End, NoOperation, Basic, Extended, Cipso, Other}
use Rattle.std.specs.Prelude.{Ok, Err, Some, None}
use Rattle.area.specs.Kinds.{Place, Size, Walk, places, fault}

-- a second option 134 is refused
abbrev pub judge_label : ℕ → Place → Place → Walk
judge_label at None basic = Ok (places (Some at) basic)
judge_label at (Some p) basic = Err (fault 5 at)

-- an option 130 is refused where the arriving port does not read it; where it does, a second one is
abbrev pub judge_basic : Bool → ℕ → Place → Place → Walk
judge_basic false at label basic = Err (fault 4 at)
judge_basic true at label None = Ok (places label (Some at))
judge_basic true at label (Some p) = Err (fault 5 at)

-- an option 133 is refused, save where it is passed over as any other
abbrev pub judge_extended : Bool → ℕ → Place → Place → Walk
judge_extended false at label basic = Err (fault 4 at)
judge_extended true at label basic = Ok (places label basic)

-- one option at an octet, with the places of the options 134 and 130 that were met before: 3, then 4, then 5. Which kinds 4 refuses, the walk is told:
-- `on` says whether option 130 is read, `lax` whether option 133 is passed over
abbrev pub judge : Bool → Bool → Kind → Size → ℕ → Place → Place → Walk
judge on lax k None at label basic = Err (fault 3 at)
judge on lax End (Some n) at label basic = Ok (places label basic)
judge on lax NoOperation (Some n) at label basic = Ok (places label basic)
judge on lax Basic (Some n) at label basic = judge_basic on at label basic
judge on lax Extended (Some n) at label basic = judge_extended lax at label basic
judge on lax Cipso (Some n) at label basic = judge_label at label basic
judge on lax Other (Some n) at label basic = Ok (places label basic)
