-- What the private functions answer; no public contract names these.
use Rattle.std.specs.Prelude.{◌≡◌, true, false, List, ℕ, ◌+◌, length}
use Rattle.lists.specs.Lists.{paint}
use Rattle.renumber_search.specs.Search.{RunCut, Cuts, over}

-- one run, whose pieces are written from place w on
pub record RunIsCut (c : RunCut) (row w at count : ℕ) (was far : List ℕ) : Type 0 where
  pub whole : c.whole ≡ true
  pub here : at ≡ row + c.passed
  pub many : count ≡ w + length c.keys
  pub written : far ≡ paint w c.keys was

-- the same where a category lies in no row: the pieces before it are written
pub record RunFails (c : RunCut) (w : ℕ) (was far : List ℕ) : Type 0 where
  pub fails : c.whole ≡ false
  pub written : far ≡ paint w c.keys was

-- all runs, whose pieces are written from the head on
pub record AllCut (c : Cuts) (count : ℕ) (was far : List ℕ) : Type 0 where
  pub whole : c.whole ≡ true
  pub many : count ≡ length c.keys
  pub written : far ≡ over c.keys was

pub record AllFail (c : Cuts) (was far : List ℕ) : Type 0 where
  pub fails : c.whole ≡ false
  pub written : far ≡ over c.keys was
