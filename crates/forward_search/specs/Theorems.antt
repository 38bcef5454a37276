-- Under a sound table, with its partners listed, crossing is what it is where the table is checked each time.
use Rattle.std.specs.Prelude.{true, ◌&&◌, List, ◌≡◌, ℕ, ◌+◌, ◌≤◌, eqb, length, take, IsOk, IfOk}
use Rattle.label_keys.specs.Keys.{key_runs}
use Rattle.table.specs.Table.{Lent, used_rows, table_sound}
use Rattle.decision.specs.Verdict.{Verdict}
use Rattle.renumber_keys.specs.Carry.{label_runs}
use Rattle.renumber_partners.specs.Partners.{partners_in}
use Rattle.forward_cross.specs.Crossed.{crossed_by, crossed_keys}
use Rattle.forward_search.specs.Acts.{crossed_acts, acts_keys}

module _ (r : Verdict) (domain leaving : ℕ) (t : Lent) (ls : List (List ℕ)) (own was far : List ℕ) where
  abbrev pub acts : Verdict
  acts = crossed_acts r (eqb domain leaving) (eqb t.from domain && eqb t.to leaving) (partners_in (take t.pairs ls) was) (used_rows t) own (length far)

  abbrev pub keys : List ℕ
  keys = acts_keys r (eqb domain leaving) (eqb t.from domain && eqb t.to leaving) (partners_in (take t.pairs ls) was) (used_rows t) own far

  -- the verdict is the same; where it goes on, the keys are those that the other leaves in a list that holds these already
  pub record Crosses : Type 0 where
    pub verdict : acts ≡ crossed_by r domain leaving t ls own (length far)
    pub far_keys : IsOk acts → keys ≡ crossed_keys r domain leaving t ls own keys
    pub sized : length keys ≡ length far

pub record ActsCross : Type 0 where
  pub crosses : (r : Verdict) (domain leaving : ℕ) (t : Lent) (ls : List (List ℕ)) (own was far : List ℕ) → table_sound t ls ≡ true → 256 ≤ length was → IfOk r (λ p. p.level ≤ 255)
      → IfOk r (λ p. label_runs (key_runs (take p.count own)) ≡ true) → 120 + t.count ≤ length far → Crosses r domain leaving t ls own was far
