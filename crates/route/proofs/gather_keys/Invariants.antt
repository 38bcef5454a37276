-- `route::gather_keys` meets its contract.
use mathlib.Core.Path.{◌≡◌}
use mathlib.Core.Bool.{true}
use mathlib.Core.List.{◌++◌}
use Prim.Native.Nat.{◌≤◌, ◌*◌}
use lib.ListN.{length, take, drop}
use Rattle.route.specs.Route.{routes_of, every}
use Rattle.route.specs.Stages.{prefix_sound, keys_of}
use Rattle.route.proofs.gather_keys.Given as goal

abbrev pub invariant-loop-numbers : goal.invariant-loop-numbers
invariant-loop-numbers l =
    record {
      room : l.n ≤ l.numbers-index;
      long : length l.keys ≡ 256;
      sound : every prefix_sound (routes_of (drop (4 * l.numbers-index) l.routes)) ≡ true;
      gathered : keys_of l.hosts (routes_of l.routes) ≡ take l.n l.keys ++ keys_of l.hosts (routes_of (drop (4 * l.numbers-index) l.routes));
    }
