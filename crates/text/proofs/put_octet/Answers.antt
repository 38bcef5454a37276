-- `text::put_octet` meets its contract.
use mathlib.Core.Path.{refl, sym}
use borrow.Author.Tests.{lt-ltb, le-ltb}
use lib.Seq.{set_out}
use Rattle.text.specs.Put.{put, place_after}
use Rattle.text.proofs.put_octet.Goals as goal

pub returns-then-n-out : goal.returns-then-n-out
unfolding put place_after
returns-then-n-out c = record { buffer = refl; place = simp (lt-ltb _ _ c.if-n-out.true) }

pub returns : goal.returns
unfolding put place_after
returns c = record { buffer = sym (set_out _ _ _ c.if-n-out.false); place = simp (le-ltb _ _ c.if-n-out.false) }
