-- What crossing to the leaving port's domain answers, and what the lent keys hold then.
use Rattle.std.specs.Prelude.{Bool, cond, ◌&&◌, ◌||◌, List, ℕ, leb, eqb, length, take, Ok, Err}
use Rattle.lists.specs.Lists.{copied}
use Rattle.label_keys.specs.Keys.{key_runs}
use Rattle.table.specs.Table.{Lent, table_sound}
use Rattle.renumber_keys.specs.declared.CarryError.TheVariants.{Unsound, NoNumber}
use Rattle.renumber_keys.specs.Carry.{CarryAnswer, image_of, carried_keys, carry_of}
use Rattle.decision.specs.declared.Refusal.{Refusal}
use Rattle.decision.specs.Verdict.{Verdict, stopped, going}

-- 2 of the table, before 3 to 21
unfoldable pub tabled_by : Refusal → Lent → List (List ℕ) → Verdict
tabled_by r table levels = cond (leb r.number 2 || table_sound table levels) (Err r) (stopped 2 0 0 0)

-- 2 of the table, then 16; `from` and `to` say whether the table's domains are the two ports'
unfoldable pub numbered_by : CarryAnswer → Bool → Bool → Verdict
numbered_by (Err Unsound) from to = stopped 2 0 0 0
numbered_by (Err NoNumber) from to = stopped 16 3 9 0
numbered_by (Ok c) from to = cond (from && to) (going c.level c.count) (stopped 16 3 9 0)

-- with equal domains the verdict stays; with others the table is looked at, and carries the keys where no check applies
unfoldable pub crossed_by : Verdict → ℕ → ℕ → Lent → List (List ℕ) → List ℕ → ℕ → Verdict
crossed_by (Ok p) domain leaving table levels own room =
    cond (eqb domain leaving) (Ok p)
    (numbered_by (carry_of (key_runs (take p.count own)) p.level table levels room) (eqb table.from domain) (eqb table.to leaving))
crossed_by (Err r) domain leaving table levels own room = cond (eqb domain leaving) (Err r) (tabled_by r table levels)

-- the far keys then: with equal domains as many of the own as there is room for
unfoldable pub crossed_keys : Verdict → ℕ → ℕ → Lent → List (List ℕ) → List ℕ → List ℕ → List ℕ
crossed_keys (Ok p) domain leaving table levels own far =
    cond (eqb domain leaving) (copied own far)
    (carried_keys (carry_of (key_runs (take p.count own)) p.level table levels (length far)) (image_of table (key_runs (take p.count own))) far)
crossed_keys (Err r) domain leaving table levels own far = cond (eqb domain leaving) (copied own far) far
