-- A set has octets in a file of a version exactly when it is sound and the version can say it.
use mathlib.Core.Bool.{Bool, true, false, not, ◌&&◌, ◌||◌, true≢false}
use mathlib.Core.List.{List, [], ◌∷◌, ◌++◌, map}
use mathlib.Core.Path.{◌≡◌, refl, sym, ap, subst, ◌∙◌}
use Prim.Native.Nat.{ℕ, zero, suc, ◌-◌, ◌≤◌}
use native.Mathlib.Omega.{arith}
use lib.Dec.{leb, eqb}
use lib.ListN.{length, take, drop, replicate, take-append-drop, length-map}
use lib.Seq.{length-take-le, take_at, drop_at}
use borrow.Author.Tests.{le-leb, leb-true, eq-eqb, eqb-true, not-true}
use Rattle.label.specs.Label.{is_zero, zero_label}
use Rattle.label.proofs.Bools.{and_left, and_right, and_both}
use Rattle.option.specs.declared.Spellings.{Spellings}
use Rattle.option.specs.Permitted.{some_of}
use Rattle.basic.specs.Settings.{basic_off, is_off, basic_sound, way_zero}
use Rattle.basic.proofs.Settings.{off_is}
use Rattle.port.specs.declared.Port.{Port}
use Rattle.port.specs.Port.{port_sound}
use Rattle.table_levels.specs.Levels.{no_pair}
use Rattle.table.specs.declared.Renumbering.{Renumbering}
use Rattle.table.specs.Table.{row_numbers}
use Rattle.table.specs.Renumbering.{no_renumbering, levels_of, typed_pairs, LentTable, lent_sound}
use Rattle.table.proofs.Lent.{numbers_length}
use Rattle.table_choose.specs.Tables.{share, tables_from, left_over, all_tables_sound, tables_sound}
use Rattle.file_format.specs.Format.{Sound, Each, same}
use Rattle.file_format.specs.Places.{padded, places_fit}
use Rattle.file_format.proofs.Places.{padded_again, padded_length, fits_unused, fit_padded}
use Rattle.file_port.specs.PortFormat.{port_format, no_spelling, no_port}
use Rattle.file_port.specs.Theorems.{typed_way, typed_port, port_sayable}
use Rattle.file_port.proofs.Soundness.{is_zero_lem, places, way_places, ports_said, port_typed}
use Rattle.file_table.specs.TableFormat.{TableFields, table_format, head_of, fields_of, table_sayable}
use Rattle.file_table.proofs.Soundness.{tables_said, unused_pairs_lem}
use Rattle.file_set.specs.declared.Set.{Set}
use Rattle.file_set.specs.Set.{zero_port, zero_table, used_port, unused_port, unused_table, typed_set, tables_in, set_sound}
use Rattle.file_read.specs.SetFormat.{ports_format, tables_format, Records, set_format, rows_of, set_of, records_of}
use Rattle.file_read.specs.File.{ports_sayable, tables_sayable}

-- Ports.

no_spelling_lem : (s : Spellings) → some_of s ≡ false → s ≡ no_spelling
no_spelling_lem s e = go s.shortest s.ten s.numbers s.pairs e
  where
    go : (a b c d : Bool) → (a || (b || (c || d))) ≡ false → ◌≡◌ {A = Spellings} (record { shortest = a; ten = b; numbers = c; pairs = d }) no_spelling
    go false false false false e = refl
    go true b c d e = absurd (true≢false e)
    go false true c d e = absurd (true≢false e)
    go false false true d e = absurd (true≢false e)
    go false false false true e = absurd (true≢false e)

port_unused : (p : Port) → unused_port p ≡ true → p ≡ no_port
unfolding unused_port zero_port
port_unused p e =
    let n = places p (and_right (zero_port p) _ e) in
    let a : Bool = eqb p.domain 0 in
    let l : Bool = is_zero p.lowest in
    let h : Bool = is_zero p.highest in
    let r : Bool = not p.required in
    let g : Bool = is_zero p.assigned in
    let o : Bool = is_off p.basic in
    let s : Bool = not (some_of p.spellings) in
    let u : Bool = not p.unlabelled in
    let t : Bool = not p.strict in
    let v = and_left (zero_port p) _ e in
    let w1 = and_left ((((((((a && l) && h) && r) && g) && o) && s) && u) && t) _ v in
    let w = and_left (((((((a && l) && h) && r) && g) && o) && s) && u) _ w1 in
    let x = and_left ((((((a && l) && h) && r) && g) && o) && s) _ w in
    let y = and_left (((((a && l) && h) && r) && g) && o) _ x in
    let z = and_left ((((a && l) && h) && r) && g) _ y in
    let z1 = and_left (((a && l) && h) && r) _ z in
    let z2 = and_left ((a && l) && h) _ z1 in
    let z3 = and_left (a && l) _ z2 in
    let d : p.domain ≡ 0 = eqb-true _ _ (and_left a _ z3) in
    let lo : p.lowest ≡ zero_label = is_zero_lem p.lowest n.lowest (and_right a _ z3) in
    let hi : p.highest ≡ zero_label = is_zero_lem p.highest n.highest (and_right (a && l) _ z2) in
    let re : p.required ≡ false = not-true _ (and_right ((a && l) && h) _ z1) in
    let gi : p.assigned ≡ zero_label = is_zero_lem p.assigned n.assigned (and_right (((a && l) && h) && r) _ z) in
    let ba : p.basic ≡ basic_off = off_is p.basic (way_places p.basic.receiving n.receiving) (way_places p.basic.sending n.sending) (and_right ((((a && l) && h) && r) && g) _ y) in
    let sp : p.spellings ≡ no_spelling = no_spelling_lem p.spellings (not-true _ (and_right (((((a && l) && h) && r) && g) && o) _ x)) in
    let un : p.unlabelled ≡ false = not-true _ (and_right ((((((a && l) && h) && r) && g) && o) && s) _ w) in
    let st : p.strict ≡ false = not-true _ (and_right (((((((a && l) && h) && r) && g) && o) && s) && u) _ w1) in
    let de : p.default ≡ zero_label = is_zero_lem p.default n.default (and_right ((((((((a && l) && h) && r) && g) && o) && s) && u) && t) _ v) in
    λ i. record { domain = d i; lowest = lo i; highest = hi i; required = re i; assigned = gi i; basic = ba i; spellings = sp i; unlabelled = un i; default = de i; strict = st i }

ports_each : (version n : ℕ) (ps : List Port) → places_fit used_port unused_port n ps ≡ true → ports_sayable version (take n ps) ≡ true → Each (λ st p. Sound (port_format version) p) same 0 (take n ps)
unfolding used_port
ports_each version zero ps e q = tt
ports_each version (suc n) [] e q = tt
ports_each version (suc n) (p ∷ ps) e q =
    let u = and_left (used_port p) _ e in (
      ports_said.says version p (and_right (port_sound p) _ u) (and_left (port_sound p) _ u) (and_left (port_sayable version p) _ q),
      ports_each version n ps (and_right (used_port p) _ e) (and_right (port_sayable version p) _ q),
    )

port_said : (version : ℕ) (p : Port) → Sound (port_format version) p → used_port p ≡ true
unfolding used_port
port_said version p h = rw ((ports_said.said version p h).0, port_typed version p h)

each_sayable : (version : ℕ) (ps : List Port) → Each (λ st p. Sound (port_format version) p) same 0 ps → ports_sayable version ps ≡ true
each_sayable version [] h = refl
each_sayable version (p ∷ ps) h = and_both (ports_said.said version p h.0).1 (each_sayable version ps h.1)

no_port_lem : unused_port no_port ≡ true
unfolding unused_port zero_port typed_port typed_way is_zero is_off basic_sound way_zero
no_port_lem = refl

-- Tables.

table_unused : (r : Renumbering) → unused_table r ≡ true → r ≡ no_renumbering
unfolding unused_table zero_table typed_pairs
table_unused r e =
    let t = r.table in
    let a : Bool = eqb t.from 0 in
    let b : Bool = eqb t.to 0 in
    let p : Bool = eqb t.pairs 0 in
    let q : Bool = eqb t.count 0 in
    let z = and_left (zero_table t (levels_of r)) _ e in
    let y = and_right (zero_table t (levels_of r)) _ e in
    let z1 = and_left (((a && b) && p) && q) _ z in
    let u = and_right (((a && b) && p) && q) _ z in
    let z2 = and_left ((a && b) && p) _ z1 in
    let z3 = and_left (a && b) _ z2 in
    let m : length r.levels ≡ 256 = eqb-true _ _ (and_left (eqb (length r.levels) 256) _ y) in
    let ef : t.from ≡ 0 = eqb-true _ _ (and_left a _ z3) in
    let et : t.to ≡ 0 = eqb-true _ _ (and_right a _ z3) in
    let ep : t.pairs ≡ 0 = eqb-true _ _ (and_right (a && b) _ z2) in
    let ec : t.count ≡ 0 = eqb-true _ _ (and_right ((a && b) && p) _ z1) in
    let el : r.levels ≡ replicate 256 no_pair = unused_pairs_lem r.levels u (and_right (eqb (length r.levels) 256) _ y) ∙ ap (λ (n : ℕ). replicate n no_pair) m in
    λ i. record { table = record { from = ef i; to = et i; pairs = ep i; count = ec i }; levels = el i }

no_table : unused_table no_renumbering ≡ true
unfolding unused_table zero_table typed_pairs
no_table = refl

abbrev all_typed : List Renumbering → Bool
all_typed [] = true
all_typed (r ∷ rs) = typed_pairs r && all_typed rs

typed_used : (n : ℕ) (ts : List Renumbering) → places_fit typed_pairs unused_table n ts ≡ true → all_typed (take n ts) ≡ true
typed_used zero ts e = refl
typed_used (suc n) [] e = refl
typed_used (suc n) (t ∷ ts) e = and_both (and_left (typed_pairs t) _ e) (typed_used n ts (and_right (typed_pairs t) _ e))

-- tables with their rows, as fields and back
record Round (version : ℕ) (hs : List Renumbering) (rows : List ℕ) : Type 0 where
  each : Each (λ st t. Sound (table_format version) t) same 0 (map fields_of (tables_from hs rows))
  heads : map head_of (map fields_of (tables_from hs rows)) ≡ hs
  numbers : rows_of (map fields_of (tables_from hs rows)) ≡ rows

none : (xs : List ℕ) → length xs ≡ 0 → [] ≡ xs
none [] e = refl
none (x ∷ xs) e = absurd (omega arith)

tables_round : (version : ℕ) (hs : List Renumbering) (rows : List ℕ) → all_typed hs ≡ true → all_tables_sound (tables_from hs rows) ≡ true → length (left_over hs rows) ≡ 0
    → tables_sayable version (tables_from hs rows) ≡ true → Round version hs rows
tables_round version [] rows t e l s = record { each = tt; heads = refl; numbers = none rows l }
tables_round version (h ∷ hs) rows t e l s =
    let x : LentTable = record { item = h; rows = take (share h) rows } in
    let y = tables_said.says version x (and_left (typed_pairs h) _ t) (and_left (lent_sound x) _ e) (and_left (table_sayable version x) _ s) in
    let r = tables_round version hs (drop (share h) rows) (and_right (typed_pairs h) _ t) (and_right (lent_sound x) _ e) l (and_right (table_sayable version x) _ s) in
    let eh : head_of (fields_of x) ≡ h = ap (λ (z : LentTable). z.item) y.again in
    let er : row_numbers (fields_of x).rows ≡ take (share h) rows = ap (λ (z : LentTable). z.rows) y.again in
    record {
      each = (y.format, r.each);
      heads = λ i. eh i ∷ r.heads i;
      numbers = (λ i. er i ++ r.numbers i) ∙ take-append-drop (share h) rows;
    }

-- fields that a format says, as tables and back
record Made (version : ℕ) (ts : List TableFields) : Type 0 where
  sound : all_tables_sound (tables_from (map head_of ts) (rows_of ts)) ≡ true
  left : left_over (map head_of ts) (rows_of ts) ≡ []
  sayable : tables_sayable version (tables_from (map head_of ts) (rows_of ts)) ≡ true
  typed : Each (λ st r. typed_pairs r ≡ true) same 0 (map head_of ts)
  again : map fields_of (tables_from (map head_of ts) (rows_of ts)) ≡ ts

tables_made : (version : ℕ) (ts : List TableFields) → Each (λ st t. Sound (table_format version) t) same 0 ts → Made version ts
tables_made version [] h = record { sound = refl; left = refl; sayable = refl; typed = tt; again = refl }
tables_made version (t ∷ ts) h =
    let y = tables_said.said version t h.0 in
    let r = tables_made version ts h.1 in
    let n : length (row_numbers t.rows) ≡ share (head_of t) = numbers_length t.rows in
    let a : take (share (head_of t)) (row_numbers t.rows ++ rows_of ts) ≡ row_numbers t.rows = take_at (row_numbers t.rows) (rows_of ts) (share (head_of t)) n in
    let b : drop (share (head_of t)) (row_numbers t.rows ++ rows_of ts) ≡ rows_of ts = drop_at (row_numbers t.rows) (rows_of ts) (share (head_of t)) n in
    record {
      sound = rw (a, b) (and_both y.sound r.sound);
      left = ap (left_over (map head_of ts)) b ∙ r.left;
      sayable = rw (a, b) (and_both y.sayable r.sayable);
      typed = (y.typed, r.typed);
      again = rw (a, b) (λ i. y.again i ∷ r.again i);
    }

-- Sets.

pub record Parts (s : Set) (rows : List ℕ) : Type 0 where
  pub ports_held : s.portcount ≤ 16
  pub tables_held : s.tablecount ≤ 8
  pub ports : places_fit used_port unused_port s.portcount s.ports ≡ true
  pub tables : places_fit typed_pairs unused_table s.tablecount s.tables ≡ true
  pub tables_sound_held : all_tables_sound (tables_from (take s.tablecount s.tables) rows) ≡ true
  pub left : length (left_over (take s.tablecount s.tables) rows) ≡ 0
  pub port_places : length s.ports ≡ 16
  pub table_places : length s.tables ≡ 8

pub parts : (s : Set) (rows : List ℕ) → set_sound s rows ≡ true → Parts s rows
unfolding set_sound typed_set tables_sound
parts s rows e =
    let a : Bool = leb s.portcount 16 in
    let p : Bool = places_fit used_port unused_port s.portcount s.ports in
    let t : Bool = places_fit typed_pairs unused_table s.tablecount s.tables in
    let ts : Bool = tables_sound (tables_in s) rows in
    let y = and_right (((a && p) && t) && ts) _ e in
    let e1 = and_left (((a && p) && t) && ts) _ e in
    let x = and_right ((a && p) && t) _ e1 in
    let e2 = and_left ((a && p) && t) _ e1 in
    let e3 = and_left (a && p) _ e2 in
    let x1 = and_right (leb s.tablecount 8) _ x in
    record {
      ports_held = leb-true _ _ (and_left a _ e3);
      tables_held = leb-true _ _ (and_left (leb s.tablecount 8) _ x);
      ports = and_right a _ e3;
      tables = and_right (a && p) _ e2;
      tables_sound_held = and_left (all_tables_sound (tables_from (take s.tablecount s.tables) rows)) _ x1;
      left = eqb-true _ _ (and_right (all_tables_sound (tables_from (take s.tablecount s.tables) rows)) _ x1);
      port_places = eqb-true _ _ (and_left (eqb (length s.ports) 16) _ y);
      table_places = eqb-true _ _ (and_right (eqb (length s.ports) 16) _ y);
    }

-- what a sound set says in a version
pub record SetSays (version : ℕ) (s : Set) (rows : List ℕ) : Type 0 where
  pub format : Sound (set_format version) (records_of s rows)
  pub set : set_of (records_of s rows) ≡ s
  pub numbers : rows_of (records_of s rows).1 ≡ rows

pub set_says : (version : ℕ) (s : Set) (rows : List ℕ) → set_sound s rows ≡ true → ports_sayable version (take s.portcount s.ports) ≡ true
    → tables_sayable version (tables_from (take s.tablecount s.tables) rows) ≡ true → SetSays version s rows
unfolding Sound set_format ports_format tables_format
set_says version s rows e q w =
    let p = parts s rows e in
    let r = tables_round version (take s.tablecount s.tables) rows (typed_used s.tablecount s.tables p.tables) p.tables_sound_held p.left w in
    let np : length (take s.portcount s.ports) ≡ s.portcount = length-take-le s.portcount s.ports (omega (arith, p.ports_held, p.port_places)) in
    let nt : length (take s.tablecount s.tables) ≡ s.tablecount = length-take-le s.tablecount s.tables (omega (arith, p.tables_held, p.table_places)) in
    let nf : length (map fields_of (tables_from (take s.tablecount s.tables) rows)) ≡ s.tablecount =
    sym (length-map (map fields_of (tables_from (take s.tablecount s.tables) rows)) head_of) ∙ ap length r.heads ∙ nt in
    let fp : padded 16 no_port (take s.portcount s.ports) ≡ s.ports =
    padded_again 16 s.portcount no_port s.ports p.port_places p.ports_held (fits_unused used_port unused_port no_port port_unused s.portcount s.ports p.ports) in
    let ft : padded 8 no_renumbering (take s.tablecount s.tables) ≡ s.tables =
    padded_again 8 s.tablecount no_renumbering s.tables p.table_places p.tables_held (fits_unused typed_pairs unused_table no_renumbering table_unused s.tablecount s.tables p.tables) in
    record {
      format = (
        (ports_each version s.portcount s.ports p.ports q, omega (arith, np, p.ports_held), omega (arith, np, p.ports_held)),
        (r.each, omega (arith, nf, p.tables_held), omega (arith, nf, p.tables_held)),
      );
      set =
          λ i. record { portcount = np i; ports = fp i; tablecount = nf i; tables = (ap (padded 8 no_renumbering) r.heads ∙ ft) i };
      numbers = r.numbers;
    }

-- what records that a format says come to
pub record SetSaid (version : ℕ) (r : Records) : Type 0 where
  pub sound : set_sound (set_of r) (rows_of r.1) ≡ true
  pub ports : ports_sayable version (take (set_of r).portcount (set_of r).ports) ≡ true
  pub tables : tables_sayable version (tables_from (take (set_of r).tablecount (set_of r).tables) (rows_of r.1)) ≡ true
  pub again : records_of (set_of r) (rows_of r.1) ≡ r

pub set_said : (version : ℕ) (r : Records) → Sound (set_format version) r → SetSaid version r
unfolding Sound set_format ports_format tables_format set_sound typed_set tables_sound
set_said version r h =
    let ps : List Port = r.0 in
    let ts : List TableFields = r.1 in
    let m = tables_made version r.1 h.1.0 in
    let l : length (map head_of r.1) ≡ length r.1 = length-map r.1 head_of in
    let n8 : length (map head_of r.1) ≤ 8 = omega (arith, h.1.1) in
    let tp : take (length r.0) (padded 16 no_port r.0) ≡ r.0 = take_at r.0 (replicate (16 - length r.0) no_port) (length r.0) refl in
    let tt' : take (length r.1) (padded 8 no_renumbering (map head_of r.1)) ≡ map head_of r.1 = take_at (map head_of r.1) (replicate (8 - length (map head_of r.1)) no_renumbering) (length r.1) l in
    let ft : places_fit typed_pairs unused_table (length r.1) (padded 8 no_renumbering (map head_of r.1)) ≡ true =
    subst (λ (k : ℕ). places_fit typed_pairs unused_table k (padded 8 no_renumbering (map head_of r.1)) ≡ true) l
    (fit_padded typed_pairs unused_table (λ x. typed_pairs x ≡ true) same no_renumbering (λ x q. q) no_table (8 - length (map head_of r.1)) (map head_of r.1) 0 m.typed) in
    let lz : length (left_over (map head_of r.1) (rows_of r.1)) ≡ 0 = ap length m.left in
    record {
      sound =
          rw (
            le-leb (length r.0) 16 h.0.1,
            fit_padded used_port unused_port (λ p. Sound (port_format version) p) same no_port (port_said version) no_port_lem (16 - length r.0) r.0 0 h.0.0,
            ft,
            le-leb (length r.1) 8 h.1.1,
            tt',
            m.sound,
            eq-eqb (length (left_over (map head_of r.1) (rows_of r.1))) 0 lz,
            eq-eqb (length (padded 16 no_port r.0)) 16 (padded_length 16 no_port r.0 h.0.1),
            eq-eqb (length (padded 8 no_renumbering (map head_of r.1))) 8 (padded_length 8 no_renumbering (map head_of r.1) n8),
          );
      ports = rw tp (each_sayable version r.0 h.0.0);
      tables = rw tt' m.sayable;
      again = λ i. (tp i, (ap (λ (z : List Renumbering). map fields_of (tables_from z (rows_of r.1))) tt' ∙ m.again) i);
    }
