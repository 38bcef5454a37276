-- `renumber_search::join_keys` meets its contract.
use lib.ListN.{length}
use Rattle.renumber_search.proofs.Joining.{Joining}
use Rattle.renumber_search.proofs.join_keys.Given as goal

abbrev pub invariant-loop-i : goal.invariant-loop-i
invariant-loop-i l = Joining l.initial.keys (length l.initial.keys) l.keys l.last l.w l.i
