-- `file_table::most_pairs` meets its contract.
use borrow.Author.Tests.{lt-leb, le-leb}
use native.Mathlib.Omega.{arith}
use Rattle.file_table.proofs.most_pairs.Goals as goal

pub returns-then-version-lt2 : goal.returns-then-version-lt2
returns-then-version-lt2 c = (simp (lt-leb _ _ c.if-version-lt2.true), omega arith)

pub returns : goal.returns
returns c = (simp (le-leb _ _ c.if-version-lt2.false), omega arith)
