-- What the types say, and what that leaves of each test.
use mathlib.Core.Bool.{Bool, true, false, and-true}
use mathlib.Core.List.{List, [], ◌∷◌}
use mathlib.Core.Path.{◌≡◌, refl, sym}
use Prim.Native.Nat.{ℕ, suc, ◌≤◌, ◌<◌}
use native.Mathlib.Omega.{arith}
use lib.ListN.{length, get_or}
use borrow.Author.Tests.{eq-eqb, le-leb}
use Rattle.label.specs.declared.Label.{Label}
use Rattle.basic.specs.declared.Way.{Way}
use Rattle.port.specs.declared.Port.{Port}
use Rattle.table_levels.specs.Levels.{unused_pairs, levels_sound, pairs_sound}
use Rattle.table.specs.declared.Renumbering.{Renumbering}
use Rattle.table.specs.Renumbering.{levels_of, typed_pairs}
use Rattle.file_port.specs.PortFormat.{no_spelling}
use Rattle.file_port.specs.Theorems.{small, typed_way}
use Rattle.file_set.specs.Set.{zero_table, unused_table}

-- level pairs none of which is in use
pub pairs_zero : (ls : List (List ℕ)) → pairs_sound ls 0 ≡ unused_pairs ls
unfolding levels_sound
pairs_zero ls = and-true (unused_pairs ls)

pub unused_table_lem : (r : Renumbering) → typed_pairs r ≡ true → zero_table r.table (levels_of r) ≡ unused_table r
unfolding unused_table
unused_table_lem r b = rw b (sym (and-true (zero_table r.table (levels_of r))))

-- flag fields that keep to 16 bits
pub small_all : (fs : List ℕ) → ((k : ℕ) → get_or fs k 0 < 65536) → true ≡ small fs
small_all [] h = refl
small_all (f ∷ fs) h =
    let b : f ≤ 65535 = omega (arith, h 0) in
    rw (le-leb f 65535 b) (small_all fs (λ k. h (suc k)))

pub way_all : (w : Way) (t : Bool) → length w.flags ≡ 256 → t ≡ small w.flags → t ≡ typed_way w
unfolding typed_way
way_all w t n e = rw (eq-eqb _ _ n) e

-- what an array holds past its end, of which nothing is known
abbrev pub out_label : Label
out_label = record { domain = 0; level = 0; count = 0; runs = [] }

abbrev out_way : Way
out_way = record { lowest = 0; highest = 0; count = 0; flags = [] }

abbrev pub out_port : Port
out_port =
    record {
      domain = 0;
      lowest = out_label;
      highest = out_label;
      required = false;
      assigned = out_label;
      basic = record { on = false; receiving = out_way; sending = out_way };
      spellings = no_spelling;
      unlabelled = false;
      default = out_label;
      strict = false;
    }
