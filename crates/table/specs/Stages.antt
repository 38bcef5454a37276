-- What the private functions answer; no public contract names these.
use Rattle.std.specs.Prelude.{◌≡◌, Bool, true, not, ◌&&◌, List, [], ◌∷◌, ◌++◌, ℕ, ◌+◌, ◌*◌, leb, eqb, length, drop}
use Rattle.table.specs.declared.Row.{Row}
use Rattle.table.specs.declared.Table.{Table}
use Rattle.table.specs.Table.{target_end, rising, targets_apart}
use Rattle.table.specs.Order.{order_keys, row_order}

-- each row's targets begin above the end of those before, the first at `f` or above
abbrev pub chain : ℕ → List Row → Bool
chain f [] = true
chain f (r ∷ rs) = leb f r.target && chain (target_end r + 1) rs

-- all of a table's soundness but that of its rows, of which so many numbers are lent, and of its level pairs; the last part is what the types say
unfoldable pub fields_sound : Table → ℕ → Bool
fields_sound t held =
    not (eqb t.from 0)
    && (not (eqb t.to 0)
    && (leb t.pairs 256 && (leb t.count 1024 && (eqb held (t.count * 3) && (leb t.from 4294967295 && leb t.to 4294967295)))))

-- what the pass over the rows answers, and what it writes
pub record RowsRise (rs : List Row) (sources targets : Bool) (was order : List ℕ) : Type 0 where
  pub rise : sources ≡ rising 0 rs
  pub ordered : sources ≡ true → targets ≡ chain 0 rs
  pub written : sources ≡ true → order ≡ order_keys 0 rs ++ drop (length rs) was

-- what the test of the rows answers, and what it writes
pub record RowsOrder (rs : List Row) (n : ℕ) (r : Bool) (was order : List ℕ) : Type 0 where
  pub sound : r ≡ (rising 0 rs && targets_apart rs)
  pub written : r ≡ true → order ≡ row_order rs ++ drop n was
