-- `renumber_partners::fill_partners` meets its contract. The loop's invariant: the pairs that were seen, from the last on, are listed.
use mathlib.Core.List.{map, reverse}
use Rattle.renumber_partners.proofs.Tabled.{Listing}
use Rattle.renumber_partners.proofs.fill_partners.Given as goal

abbrev pub invariant-loop-pair : goal.invariant-loop-pair
invariant-loop-pair l = Listing (reverse (map (λ y. y.now) l.yielded)) l.fn.partners l.partners
