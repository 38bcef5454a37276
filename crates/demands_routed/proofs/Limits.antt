-- The limits of a box, over lengths alone.
use mathlib.Core.Path.{◌≡◌, refl, ◌∙◌, ap}
use mathlib.Core.Bool.{Bool, true, false, not, ◌&&◌}
use mathlib.Core.List.{List}
use Prim.Native.Nat.{ℕ, ◌*◌, ◌%◌}
use native.Mathlib.Omega.{arith}
use lib.Dec.{leb, eqb}
use lib.ListN.{length}
use borrow.Author.Tests.{le-leb, lt-leb, eq-eqb, ne_eqb}
use Rattle.table.specs.Table.{Lent, rows_sound, typed, table_sound}
use Rattle.table_levels.specs.Levels.{levels_sound}
use Rattle.route.specs.Route.{routes_sound}
use Rattle.route_ports.specs.Ports.{ports_sound, domains_of}
use Rattle.table_choose.specs.Tables.{tables_sound}
use Rattle.route_decide.specs.Routing.{Routing, arriving_listed, box_sound}
use Rattle.demands_routed.specs.Limits.{Limits, TableLimits}

-- a conjunction is false where any of its parts is
module _ (p t a r : Bool) where
  no_ports : p ≡ false → (p && (t && (a && r))) ≡ false
  no_ports e = rw e

  no_tables : t ≡ false → (p && (t && (a && r))) ≡ false
  no_tables e = rw e (go p)
    where
      go : (p : Bool) → (p && false) ≡ false
      go true = refl
      go false = refl

  no_routes : r ≡ false → (p && (t && (a && r))) ≡ false
  no_routes e = rw e (go p t a)
    where
      go : (p t a : Bool) → (p && (t && (a && false))) ≡ false
      go true true true = refl
      go true true false = refl
      go true false a = refl
      go false t a = refl

unsound_ports : (b : Routing) → ports_sound b.ports ≡ false → box_sound b ≡ false
unfolding box_sound
unsound_ports b e = no_ports (ports_sound b.ports) (tables_sound b.tables b.rows) (arriving_listed b) (routes_sound (domains_of b.ports) b.routes) e

unsound_tables : (b : Routing) → tables_sound b.tables b.rows ≡ false → box_sound b ≡ false
unfolding box_sound
unsound_tables b e = no_tables (ports_sound b.ports) (tables_sound b.tables b.rows) (arriving_listed b) (routes_sound (domains_of b.ports) b.routes) e

unsound_routes : (b : Routing) → routes_sound (domains_of b.ports) b.routes ≡ false → box_sound b ≡ false
unfolding box_sound
unsound_routes b e = no_routes (ports_sound b.ports) (tables_sound b.tables b.rows) (arriving_listed b) (routes_sound (domains_of b.ports) b.routes) e

pub limits : Limits
unfolding ports_sound tables_sound routes_sound
limits =
    record {
      ports64 = λ b e s. rw (le-leb (length b.ports) 64 (omega arith), s);
      ports65 = λ b e. unsound_ports b (rw (lt-leb (length b.ports) 64 (omega arith)));
      tables8 = λ b e s n. rw (le-leb b.tables.count 8 (omega arith), s, n);
      tables9 = λ b e. unsound_tables b (rw (lt-leb b.tables.count 8 (omega arith)));
      routes256 = λ b e s d. (let w : length b.routes % 4 ≡ 0 = omega arith in rw (le-leb (length b.routes) 1024 (omega arith), eq-eqb (length b.routes % 4) 0 w, s, d));
      routes257 = λ b e. unsound_routes b (rw (lt-leb (length b.routes) 1024 (omega arith)));
    }

-- what stands behind any test that fails
fails_here : (a b : Bool) → b ≡ false → (a && b) ≡ false
fails_here true b e = e
fails_here false b e = refl

module _ (t : Lent) (ls : List (List ℕ)) where
  abbrev from_there : Bool
  from_there = not (eqb t.from 0)

  abbrev to_there : Bool
  to_there = not (eqb t.to 0)

  abbrev whole : Bool
  whole = eqb (length t.rows) (t.count * 3) && (levels_sound ls t.pairs && (rows_sound t && typed t ls))

  no_pairs : leb t.pairs 256 ≡ false → table_sound t ls ≡ false
  unfolding table_sound
  no_pairs e = fails_here from_there _ (fails_here to_there _ (rw e))

  no_rows : leb t.count 1024 ≡ false → table_sound t ls ≡ false
  unfolding table_sound
  no_rows e = fails_here from_there _ (fails_here to_there _ (fails_here (leb t.pairs 256) _ (rw e)))

  no_numbers : eqb (length t.rows) (t.count * 3) ≡ false → table_sound t ls ≡ false
  unfolding table_sound
  no_numbers e = fails_here from_there _ (fails_here to_there _ (fails_here (leb t.pairs 256) _ (fails_here (leb t.count 1024) _ (rw e))))

  most_sound : t.pairs ≡ 256 → t.count ≡ 1024 → length t.rows ≡ 3072 → (t.from ≡ 0 → ⊥) → (t.to ≡ 0 → ⊥)
      → levels_sound ls 256 ≡ true → rows_sound t ≡ true → typed t ls ≡ true → table_sound t ls ≡ true
  unfolding table_sound
  most_sound p c n a b l r w =
      let s : levels_sound ls t.pairs ≡ true = ap (levels_sound ls) p ∙ l in
      rw (ne_eqb t.from 0 a, ne_eqb t.to 0 b, le-leb t.pairs 256 (omega arith), le-leb t.count 1024 (omega arith), eq-eqb (length t.rows) (t.count * 3) (omega arith), s, r, w)

pub table_limits : TableLimits
table_limits =
    record {
      most = most_sound;
      pairs257 = λ t ls e. no_pairs t ls (lt-leb t.pairs 256 (omega arith));
      rows1025 = λ t ls e. no_rows t ls (lt-leb t.count 1024 (omega arith));
      short = λ t ls e. no_numbers t ls (ne_eqb (length t.rows) (t.count * 3) (λ h. omega arith));
      over = λ t ls e. no_numbers t ls (ne_eqb (length t.rows) (t.count * 3) (λ h. omega arith));
    }
