-- The octets of a sound set, as its writer goes through them, and how many there are.
use mathlib.Core.Bool.{cond}
use mathlib.Core.List.{List, [], ◌∷◌, ◌++◌, map, append_assoc, append-nil}
use mathlib.Core.Path.{◌≡◌, refl, sym, ap, subst, ◌∙◌}
use Prim.Native.Nat.{ℕ, suc, ◌+◌, ◌-◌, ◌≤◌, ◌<◌}
use native.Mathlib.Omega.{arith}
use native.Mathlib.Numerals.{add-one}
use lib.Dec.{leb}
use lib.ListN.{length, take, drop, get_or, length-append, length-map, drop_of_length-le}
use lib.Seq.{take-suc, drop-cons, length-take-le}
use Rattle.lists.specs.Lists.{paint}
use Rattle.port.specs.declared.Port.{Port}
use Rattle.table.specs.declared.Renumbering.{Renumbering}
use Rattle.table.specs.Renumbering.{LentTable}
use Rattle.table.proofs.Renumberings.{out_table}
use Rattle.table_choose.specs.Tables.{share, tables_from}
use Rattle.table_choose.proofs.Laws.{part_is, rest_is}
use Rattle.file_format.specs.declared.Output.{Output}
use Rattle.file_format.specs.Format.{digits, in_turn, octets, alike, same, Wrote, Added}
use Rattle.file_format.specs.Laws.{flat}
use Rattle.file_format.proofs.Writing.{flat_turn, added_then, added_none}
use Rattle.file_port.specs.PortFormat.{port_format}
use Rattle.file_table.specs.TableFormat.{table_format, fields_of}
use Rattle.file_set.specs.declared.Set.{Set}
use Rattle.file_read.specs.SetFormat.{ports_format, tables_format, set_format, records_of}
use Rattle.file_read.specs.File.{file_format, total_of, file_octets}
use Rattle.file_read.proofs.Sets.{Parts}
use Rattle.file_write.specs.Stages.{port_octets, table_octets}

pub size_more : {A : Type 0} (g : A → List ℕ) (l : List A) (i : ℕ) (d : A) → i < length l → length (flat g (take (i + 1) l)) ≡ length (flat g (take i l)) + length (g (get_or l i d))
size_more {A} g l i d h = rw (add-one, take-suc l i d h) (go (take i l))
  where
    go : (xs : List A) → length (flat g (xs ++ (get_or l i d ∷ []))) ≡ length (flat g xs) + length (g (get_or l i d))
    go [] = omega (arith, length-append (g (get_or l i d)) [])
    go (x ∷ xs) =
        let r : length (flat g (xs ++ (get_or l i d ∷ []))) ≡ length (flat g xs) + length (g (get_or l i d)) = go xs in
        omega (arith, length-append (g x) (flat g (xs ++ (get_or l i d ∷ []))), length-append (g x) (flat g xs))

-- Tables in turn: the next one with its part of the rows, and the others.
module _ (ts : List Renumbering) (i : ℕ) (ns : List ℕ) (at end : ℕ) where
  pub next_table : i < length ts → at ≤ length ns → end ≡ cond (leb (share (get_or ts i out_table)) (length ns - at)) (at + share (get_or ts i out_table)) (length ns)
      → tables_from (drop i ts) (drop at ns) ≡ record { item = get_or ts i out_table; rows = take (end - at) (drop at ns) } ∷ tables_from (drop (i + 1) ts) (drop end ns)
  next_table l a e =
      let r = get_or ts i out_table in
      let next : drop i ts ≡ r ∷ drop (i + 1) ts = rw add-one (drop-cons ts i out_table l) in
      ap (λ (z : List Renumbering). tables_from z (drop at ns)) next
      ∙ ap (λ (z : List ℕ). record { item = r; rows = z } ∷ tables_from (drop (i + 1) ts) (drop (share r) (drop at ns))) (sym (part_is ns at (share r) end a e))
      ∙ ap (λ (z : List ℕ). record { item = r; rows = take (end - at) (drop at ns) } ∷ tables_from (drop (i + 1) ts) z) (sym (rest_is ns at (share r) end a e))

-- no table is left
pub none_left : (ts : List Renumbering) (i : ℕ) (ns : List ℕ) → length ts ≤ i → tables_from (drop i ts) ns ≡ []
none_left ts i ns h = ap (λ (z : List Renumbering). tables_from z ns) (drop_of_length-le ts {i = i} h)

-- the rest that is to be written, after what was written
pub record Goes (before : Output) (whole rest : List ℕ) (after : Output) : Type 0 where
  pub done : List ℕ
  pub split : whole ≡ done ++ rest
  pub wrote : Added before done after

flat_map : {A C : Type 0} (g : C → List ℕ) (f : A → C) (xs : List A) → flat g (map f xs) ≡ flat (λ x. g (f x)) xs
flat_map g f [] = refl
flat_map g f (x ∷ xs) = ap (λ (z : List ℕ). g (f x) ++ z) (flat_map g f xs)

pub tables_length : (hs : List Renumbering) (ns : List ℕ) → length (tables_from hs ns) ≡ length hs
tables_length [] ns = refl
tables_length (h ∷ hs) ns = ap suc (tables_length hs (drop (share h) ns))

ports_octets : (ps : List Port) → in_turn (λ st p. octets (alike (port_format 3) st) p) same 0 ps ≡ flat port_octets ps
unfolding port_octets
ports_octets ps = flat_turn (λ st p. octets (alike (port_format 3) st) p) same port_octets (λ st p. refl) 0 ps

tables_octets : (xs : List LentTable) → in_turn (λ st t. octets (alike (table_format 3) st) t) same 0 (map fields_of xs) ≡ flat table_octets xs
unfolding table_octets
tables_octets xs =
    flat_turn (λ st t. octets (alike (table_format 3) st) t) same (λ t. octets (table_format 3) t) (λ st t. refl) 0 (map fields_of xs)
    ∙ flat_map (λ t. octets (table_format 3) t) fields_of xs

pub all_octets : (version : ℕ) (s : Set) (rows : List ℕ)
    → octets (set_format version) (records_of s rows)
    ≡ (digits 1 (length (records_of s rows).0) ++ in_turn (λ st p. octets (alike (port_format version) st) p) same 0 (records_of s rows).0)
    ++ (digits 1 (length (records_of s rows).1) ++ in_turn (λ st t. octets (alike (table_format version) st) t) same 0 (records_of s rows).1)
unfolding octets set_format ports_format tables_format
all_octets version s rows = refl

module _ (s : Set) (rows : List ℕ) (p : Parts s rows) where
  pub set_octets : octets (set_format 3) (records_of s rows)
      ≡ (digits 1 s.portcount ++ flat port_octets (take s.portcount s.ports)) ++ (digits 1 s.tablecount ++ flat table_octets (tables_from (take s.tablecount s.tables) rows))
  set_octets =
      let a : length (take s.portcount s.ports) ≡ s.portcount = length-take-le s.portcount s.ports (omega (arith, p.ports_held, p.port_places)) in
      let b : length (take s.tablecount s.tables) ≡ s.tablecount = length-take-le s.tablecount s.tables (omega (arith, p.tables_held, p.table_places)) in
      let c : length (map fields_of (tables_from (take s.tablecount s.tables) rows)) ≡ s.tablecount =
      length-map (tables_from (take s.tablecount s.tables) rows) fields_of ∙ tables_length (take s.tablecount s.tables) rows ∙ b in
      all_octets 3 s rows ∙ rw (ports_octets (take s.portcount s.ports), tables_octets (tables_from (take s.tablecount s.tables) rows), a, c)

  pub total_is : total_of 3 s rows ≡ 5 + length (flat port_octets (take s.portcount s.ports)) + length (flat table_octets (tables_from (take s.tablecount s.tables) rows))
  total_is =
      rw set_octets (omega (arith, length-append (flat port_octets (take s.portcount s.ports)) (digits 1 s.tablecount ++ flat table_octets (tables_from (take s.tablecount s.tables) rows))))

pub file_octets_lem : (s : Set) (rows : List ℕ) → file_octets 3 s rows ≡ (digits 2 (total_of 3 s rows) ++ digits 1 3) ++ octets (set_format 3) (records_of s rows)
unfolding file_octets file_format octets
file_octets_lem s rows = refl

pub file_length : (s : Set) (rows : List ℕ) → length (file_octets 3 s rows) ≡ total_of 3 s rows
file_length s rows = rw file_octets_lem (omega arith)

-- all fields written one after the other are the file
pub fields_written : (s : Set) (rows : List ℕ) → Parts s rows → {a b : Output}
    → Added a
    ((digits 2 (total_of 3 s rows) ++ digits 1 3)
    ++ ((digits 1 s.portcount ++ flat port_octets (take s.portcount s.ports)) ++ (digits 1 s.tablecount ++ flat table_octets (tables_from (take s.tablecount s.tables) rows))))
    b
    → Added a (file_octets 3 s rows) b
fields_written s rows p {a} {b} w =
    subst (λ (xs : List ℕ). Added a xs b) (sym (file_octets_lem s rows ∙ ap (λ (k : List ℕ). (digits 2 (total_of 3 s rows) ++ digits 1 3) ++ k) (set_octets s rows p))) w

-- where there is room for it, the file stands at the head of the output
pub file_there : (s : Set) (rows out out' : List ℕ) (n : ℕ) → Wrote 0 (file_octets 3 s rows) out out' n → total_of 3 s rows ≤ length out → out' ≡ paint 0 (file_octets 3 s rows) out
file_there s rows out out' n w h = (w.wrote (omega (arith, file_length s rows))).0

-- a turn of the loops over the tables
module _ (ts : List Renumbering) (i : ℕ) (ns : List ℕ) (at end : ℕ) (l : i < length ts) (a : at ≤ length ns)
    (e : end ≡ cond (leb (share (get_or ts i out_table)) (length ns - at)) (at + share (get_or ts i out_table)) (length ns)) where
  abbrev this : LentTable
  this = record { item = get_or ts i out_table; rows = take (end - at) (drop at ns) }

  abbrev others : List ℕ
  others = flat table_octets (tables_from (drop (i + 1) ts) (drop end ns))

  flat_next : flat table_octets (tables_from (drop i ts) (drop at ns)) ≡ table_octets this ++ others
  flat_next = ap (flat table_octets) (next_table ts i ns at end l a e)

  pub size_turn : (whole size k : ℕ) → whole ≡ size + length (flat table_octets (tables_from (drop i ts) (drop at ns))) → k ≡ length (table_octets this) → whole ≡ size + k + length others
  size_turn whole size k w q = let m : length (flat table_octets (tables_from (drop i ts) (drop at ns))) ≡ length (table_octets this) + length others = ap length flat_next ∙ length-append (table_octets this) others in omega arith

  pub goes_turn : {a b c : Output} {whole : List ℕ} → Goes a whole (flat table_octets (tables_from (drop i ts) (drop at ns))) b → Added b (table_octets this) c → Goes a whole others c
  goes_turn g w =
      record {
        done = g.done ++ table_octets this;
        split = g.split ∙ ap (λ (z : List ℕ). g.done ++ z) flat_next ∙ sym (append_assoc g.done (table_octets this) others);
        wrote = added_then g.wrote w;
      }

pub goes_ends : {a b : Output} {whole rest : List ℕ} → Goes a whole rest b → rest ≡ [] → Added a whole b
goes_ends {a} {b} {whole} {rest} g e = subst (λ (z : List ℕ). Added a z b) (sym (g.split ∙ ap (λ (z : List ℕ). g.done ++ z) e ∙ append-nil g.done)) g.wrote

pub goes_begins : {a : Output} {whole : List ℕ} → Goes a whole whole a
goes_begins = record { done = []; split = refl; wrote = added_none }
