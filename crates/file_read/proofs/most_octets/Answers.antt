-- `file_read::most_octets` meets its contract.
use borrow.Author.Tests.{lt-leb, le-leb}
use Rattle.file_read.proofs.most_octets.Goals as goal

pub returns-then-version-lt2 : goal.returns-then-version-lt2
returns-then-version-lt2 c = simp (lt-leb _ _ c.if-version-lt2.true)

pub returns : goal.returns
returns c = simp (le-leb _ _ c.if-version-lt2.false)
