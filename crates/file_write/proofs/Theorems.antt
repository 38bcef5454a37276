-- The theorems of `specs/Theorems.antt`.
use mathlib.Core.Bool.{Bool, true, false, cond, not, ◌&&◌}
use mathlib.Core.List.{List, [], ◌∷◌}
use mathlib.Core.Path.{◌≡◌, refl, sym, ap, subst, ◌∙◌}
use Prim.Native.Nat.{ℕ, zero, suc, ◌+◌, ◌≤◌, ◌<◌}
use native.Mathlib.Omega.{arith}
use lib.Dec.{leb}
use lib.ListN.{length, take, drop, get_or}
use lib.Seq.{take_at, drop_at}
use borrow.Author.Tests.{le-leb, lt-leb}
use Rattle.label.proofs.Bools.{and_left, and_right, and_both}
use Rattle.lists.specs.Lists.{paint}
use Rattle.port.specs.declared.Port.{Port}
use Rattle.port.specs.Port.{is_plain}
use Rattle.table.specs.Renumbering.{levels_of, LentTable, lent_of, lent_sound}
use Rattle.table.proofs.Sound.{sound}
use Rattle.table_choose.specs.Tables.{tables_from, all_tables_sound}
use Rattle.file_format.specs.Format.{octets}
use Rattle.file_format.specs.Laws.{Octets}
use Rattle.file_port.specs.Theorems.{port_sayable}
use Rattle.file_table.specs.TableFormat.{table_sayable}
use Rattle.file_set.specs.declared.Set.{Set}
use Rattle.file_set.specs.Set.{set_sound}
use Rattle.file_read.specs.declared.FileRead.{FileRead}
use Rattle.file_read.specs.File.{file_format, file_reading, file_room, ports_sayable, tables_sayable, total_of, sayable, file_octets}
use Rattle.file_read.specs.Theorems as theorems
use Rattle.file_read.proofs.Sets.{parts}
use Rattle.file_read.proofs.Theorems.{accepted_only, given_back}
use Rattle.std.specs.Prelude.{Ok, Err}
use Rattle.file_write.specs.declared.WriteError.TheVariants.{Short, Unsound, Long}
use Rattle.file_write.specs.Written.{written_of, number_of, file_output}
use Rattle.file_write.specs.Theorems.{Tells, WrittenBack, OneFileIn, OneFileEach, all_plain, none_strict, all_small, Sayable, Answers}
use Rattle.file_write.proofs.First.{small_first}
use Rattle.file_write.proofs.Sizes.{file_length}

-- Which sets a version can say.

all_ports : (ps : List Port) → ports_sayable 3 ps ≡ true
unfolding port_sayable
all_ports [] = refl
all_ports (p ∷ ps) = all_ports ps

loose_ports : (ps : List Port) → ports_sayable 2 ps ≡ none_strict ps
unfolding port_sayable
loose_ports [] = refl
loose_ports (p ∷ ps) = ap (λ (b : Bool). not p.strict && b) (loose_ports ps)

-- of a version from 2 on
all_tables : (version : ℕ) (xs : List LentTable) → 2 ≤ version → all_tables_sound xs ≡ true → tables_sayable version xs ≡ true
unfolding table_sayable
all_tables version [] v e = refl
all_tables version (x ∷ xs) v e =
    let t = sound (lent_of x) (levels_of x.item) (and_left (lent_sound x) _ e) in
    let a : table_sayable version x ≡ true = rw (le-leb 2 version v) (and_both (le-leb x.item.table.pairs 256 t.pairs_held) (le-leb x.item.table.count 1024 t.rows_held)) in
    and_both a (all_tables version xs v (and_right (lent_sound x) _ e))

plain_ports : (ps : List Port) → ports_sayable 1 ps ≡ all_plain ps
unfolding port_sayable
plain_ports [] = refl
plain_ports (p ∷ ps) = ap (λ (b : Bool). is_plain p && b) (plain_ports ps)

small_tables : (xs : List LentTable) → tables_sayable 1 xs ≡ all_small xs
unfolding table_sayable
small_tables [] = refl
small_tables (x ∷ xs) = ap (λ (b : Bool). (leb x.item.table.pairs 16 && leb x.item.table.count 64) && b) (small_tables xs)

-- a test that the one before it implies
implied : (a b c : Bool) → (b ≡ true → c ≡ true) → (a && (b && c)) ≡ (a && b)
implied false b c h = refl
implied true false c h = refl
implied true true c h = h refl

first_says : (s : Set) (rows : List ℕ) → set_sound s rows ≡ true
    → sayable 1 s rows ≡ (all_plain (take s.portcount s.ports) && all_small (tables_from (take s.tablecount s.tables) rows))
unfolding sayable
first_says s rows e =
    rw (plain_ports (take s.portcount s.ports), small_tables (tables_from (take s.tablecount s.tables) rows))
    (implied (all_plain (take s.portcount s.ports)) (all_small (tables_from (take s.tablecount s.tables) rows)) (leb (total_of 1 s rows) 32768)
    (λ h. le-leb (total_of 1 s rows) 32768 (omega (arith, small_first s rows e h))))

second_says : (s : Set) (rows : List ℕ) → set_sound s rows ≡ true → sayable 2 s rows ≡ (none_strict (take s.portcount s.ports) && leb (total_of 2 s rows) 61440)
unfolding sayable
second_says s rows e =
    rw (loose_ports (take s.portcount s.ports), all_tables 2 (tables_from (take s.tablecount s.tables) rows) (omega arith) (parts s rows e).tables_sound_held)

third_says : (s : Set) (rows : List ℕ) → set_sound s rows ≡ true → sayable 3 s rows ≡ leb (total_of 3 s rows) 61440
unfolding sayable
third_says s rows e =
    rw (all_ports (take s.portcount s.ports), all_tables 3 (tables_from (take s.tablecount s.tables) rows) (omega arith) (parts s rows e).tables_sound_held)

pub which_sayable : Sayable
which_sayable = record { first = first_says; second = second_says; third = third_says }

-- One file in each version.

tells_back : (version : ℕ) → 1 ≤ version → version ≤ 3 → (s : Set) (rows : List ℕ) → set_sound s rows ≡ true → sayable version s rows ≡ true → Tells (file_octets version s rows) s rows
tells_back version least most s rows e q =
    record {
      answer = λ room h. (given_back version least most s rows room e q h).answer;
      room_after = λ room h. (given_back version least most s rows room e q h).room_after ∙ rw (le-leb (0 + length rows) (length room) (omega arith));
    }

-- the version stands at place 2
version_at : (version : ℕ) → 1 ≤ version → version ≤ 3 → (s : Set) (rows : List ℕ) → get_or (file_octets version s rows) 2 0 ≡ version
unfolding file_octets file_format octets
version_at zero least most s rows = absurd (omega arith)
version_at (suc zero) least most s rows = refl
version_at (suc (suc zero)) least most s rows = refl
version_at (suc (suc (suc zero))) least most s rows = refl
version_at (suc (suc (suc (suc v)))) least most s rows = absurd (omega arith)

module _ (o : List ℕ) (w : Octets o) (s : Set) (rows : List ℕ) (t : Tells o s rows) where
  told : file_reading o (length rows) ≡ record { verdict = 0; at = 0; used = length rows; set = s }
  told = t.answer rows (omega arith)

  rows_told : take (file_reading o (length rows)).used (file_room o rows) ≡ rows
  rows_told =
      ap (λ (z : FileRead). take z.used (file_room o rows)) told
      ∙ ap (take (length rows)) (t.room_after rows (omega arith))
      ∙ take_at rows (drop (0 + length rows) rows) (length rows) refl

  the_file : theorems.OneFile o s rows
  the_file =
      subst (λ (z : Set). theorems.OneFile o z rows) (ap (λ (z : FileRead). z.set) told)
      (subst (λ (z : List ℕ). theorems.OneFile o (file_reading o (length rows)).set z) rows_told (accepted_only o w rows (ap (λ (z : FileRead). z.verdict) told)))

  version_is : get_or o 2 0 ≡ the_file.version
  version_is = ap (λ (z : List ℕ). get_or z 2 0) the_file.file ∙ version_at the_file.version the_file.least the_file.most s rows

  only_file : o ≡ file_octets (get_or o 2 0) s rows
  only_file = the_file.file ∙ ap (λ (v : ℕ). file_octets v s rows) (sym version_is)

  only_sayable : (set_sound s rows ≡ true) × (sayable (get_or o 2 0) s rows ≡ true)
  only_sayable = (the_file.sound, ap (λ (v : ℕ). sayable v s rows) version_is ∙ the_file.sayable)

one_file : (version : ℕ) → 1 ≤ version → version ≤ 3 → OneFileIn version
one_file version least most s rows e q =
    record {
      tells = tells_back version least most s rows e q;
      only = λ o w v t. only_file o w s rows t ∙ ap (λ (k : ℕ). file_octets k s rows) v;
    }

pub one_file_each : OneFileEach
one_file_each = record { first = one_file 1 (omega arith) (omega arith); second = one_file 2 (omega arith) (omega arith); third = one_file 3 (omega arith) (omega arith); others = only_sayable }

-- What was written.

-- what the answer that octets were written says of the tests before it
record Passed (a b c : Bool) (t n : ℕ) : Type 0 where
  sound_set : a ≡ true
  short : b ≡ true
  fits : c ≡ true
  count : t ≡ n

passed : (a b c : Bool) (t n : ℕ) → cond a (cond b (cond c (Ok t) (Err Short)) (Err Long)) (Err Unsound) ≡ Ok n → Passed a b c t n
passed true true true t n e = record { sound_set = refl; short = refl; fits = refl; count = cc }
passed true true false t n e = let z : ◌≡◌ {A = ℕ} 0 1 = cc in absurd (omega arith)
passed true false c t n e = let z : ◌≡◌ {A = ℕ} 0 1 = cc in absurd (omega arith)
passed false b c t n e = let z : ◌≡◌ {A = ℕ} 0 1 = cc in absurd (omega arith)

module _ (s : Set) (rows out : List ℕ) (n : ℕ) (e : written_of s rows (length out) ≡ Ok n) where
  tests : Passed (set_sound s rows) (leb (total_of 3 s rows) 61440) (leb (total_of 3 s rows) (length out)) (total_of 3 s rows) n
  unfolding written_of
  tests = passed (set_sound s rows) (leb (total_of 3 s rows) 61440) (leb (total_of 3 s rows) (length out)) (total_of 3 s rows) n e

  sized : length (file_octets 3 s rows) ≡ n
  sized = file_length s rows ∙ tests.count

  output_is : file_output s rows out ≡ paint 0 (file_octets 3 s rows) out
  unfolding file_output
  output_is = rw (tests.sound_set, tests.short, tests.fits)

  file_is : take n (file_output s rows out) ≡ file_octets 3 s rows
  file_is = ap (take n) output_is ∙ take_at (file_octets 3 s rows) (drop (0 + length (file_octets 3 s rows)) out) n sized

  past_is : drop n (file_output s rows out) ≡ drop n out
  past_is =
      let z : 0 + length (file_octets 3 s rows) ≡ n = omega (arith, sized) in
      ap (drop n) output_is ∙ drop_at (file_octets 3 s rows) (drop (0 + length (file_octets 3 s rows)) out) n sized ∙ ap (λ (k : ℕ). drop k out) z

pub written_back : WrittenBack
written_back s rows out n e =
    let p = tests s rows out n e in
    rw (file_is s rows out n e) (tells_back 3 (omega arith) (omega arith) s rows p.sound_set (third_says s rows p.sound_set ∙ p.short))

-- nothing is written without the number 0
nothing_written : (a b c : Bool) (t : ℕ) (xs out : List ℕ) → (number_of (cond a (cond b (cond c (Ok t) (Err Short)) (Err Long)) (Err Unsound)) ≡ 0 ∷ [] → ⊥) → cond (a && (b && c)) xs out ≡ out
nothing_written true true true t xs out h = absurd (h refl)
nothing_written true true false t xs out h = refl
nothing_written true false c t xs out h = refl
nothing_written false b c t xs out h = refl

module _ (s : Set) (rows : List ℕ) (room : ℕ) where
  is_unsound : set_sound s rows ≡ false → number_of (written_of s rows room) ≡ 2 ∷ []
  unfolding written_of
  is_unsound e = rw e

  is_long : set_sound s rows ≡ true → 61440 < total_of 3 s rows → number_of (written_of s rows room) ≡ []
  unfolding written_of
  is_long e h = rw (e, lt-leb (total_of 3 s rows) 61440 h)

  is_short : set_sound s rows ≡ true → total_of 3 s rows ≤ 61440 → room < total_of 3 s rows → number_of (written_of s rows room) ≡ 1 ∷ []
  unfolding written_of
  is_short e h l = rw (e, le-leb (total_of 3 s rows) 61440 h, lt-leb (total_of 3 s rows) room l)

  is_done : set_sound s rows ≡ true → total_of 3 s rows ≤ 61440 → total_of 3 s rows ≤ room → written_of s rows room ≡ Ok (total_of 3 s rows)
  unfolding written_of
  is_done e h l = rw (e, le-leb (total_of 3 s rows) 61440 h, le-leb (total_of 3 s rows) room l)

is_refused : (s : Set) (rows out : List ℕ) → (number_of (written_of s rows (length out)) ≡ 0 ∷ [] → ⊥) → file_output s rows out ≡ out
unfolding written_of file_output
is_refused s rows out h =
    nothing_written (set_sound s rows) (leb (total_of 3 s rows) 61440) (leb (total_of 3 s rows) (length out)) (total_of 3 s rows) (paint 0 (file_octets 3 s rows) out) out h

pub answers : Answers
answers = record { unsound = is_unsound; long = is_long; short = is_short; done = is_done; refused = is_refused; past = past_is }
