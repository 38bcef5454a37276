-- What crossing under a table that was checked once answers, of whatever it is given, and what the lent keys hold then. `specs/Theorems.antt` says what that is of a sound table.
use Rattle.std.specs.Prelude.{Bool, cond, ◌&&◌, List, ℕ, ◌%◌, leb, take, get_or, Option, None, Some, Ok, Err}
use Rattle.lists.specs.Lists.{copied}
use Rattle.label_keys.specs.Keys.{key_runs}
use Rattle.table.specs.declared.Row.{Row}
use Rattle.renumber_search.specs.Search.{searched_of, searched_keys}
use Rattle.decision.specs.declared.Passed.{Passed}
use Rattle.decision.specs.Verdict.{Verdict, stopped, going}

-- what the search says, of a level with a partner
abbrev pub carried_verdict : Option ℕ → ℕ → Verdict
carried_verdict None to = stopped 16 3 9 0
carried_verdict (Some n) to = going (to % 256) n

-- there is a table for the two domains, and the level has a partner
abbrev pub leads : Passed → Bool → List ℕ → Bool
leads p there partners = there && leb (get_or partners p.level 256) 255

-- with equal domains the verdict stays; else 16, or the level and the numbers of the far domain
unfoldable pub crossed_acts : Verdict → Bool → Bool → List ℕ → List Row → List ℕ → ℕ → Verdict
crossed_acts (Ok p) same there partners rows own room =
    cond same (Ok p)
    (cond (leads p there partners) (carried_verdict (searched_of rows (key_runs (take p.count own)) room) (get_or partners p.level 256)) (stopped 16 3 9 0))
crossed_acts (Err r) same there partners rows own room = Err r

-- the far keys then: with equal domains as many of the own as there is room for, else what the search leaves
unfoldable pub acts_keys : Verdict → Bool → Bool → List ℕ → List Row → List ℕ → List ℕ → List ℕ
acts_keys (Ok p) same there partners rows own far =
    cond same (copied own far) (cond (leads p there partners) (searched_keys rows (key_runs (take p.count own)) far) far)
acts_keys (Err r) same there partners rows own far = cond same (copied own far) far
