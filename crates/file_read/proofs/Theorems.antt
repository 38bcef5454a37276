-- Document 02, Wishes 1 and 8: what was written is read back, one set has one file in each version that can say it.
use mathlib.Core.Bool.{Bool, true, false, cond, ◌&&◌}
use mathlib.Core.List.{List, [], ◌∷◌, ◌++◌}
use mathlib.Core.Path.{◌≡◌, refl, sym, ap, subst, ◌∙◌}
use mathlib.Core.Logic.{◌⊎◌, inl, inr}
use Prim.Native.Nat.{ℕ, zero, suc, ◌+◌, ◌≤◌, ◌<◌}
use native.Mathlib.Omega.{arith}
use native.Mathlib.Nat.{zero-add}
use lib.Dec.{leb, ltb, eqb}
use lib.ListN.{length, take, drop, get_or}
use lib.Seq.{take_at}
use borrow.Author.Tests.{le-leb, lt-leb, lt-ltb, eq-eqb, eqb-true, leb-true, leb-false}
use Rattle.label.proofs.Bools.{less_or, and_left, and_right, and_both}
use Rattle.file_format.specs.Format.{Found, got, bad, value_at, number_at, octets, read_at, Sound, written}
use Rattle.file_format.specs.Laws.{Octets, Stands, Printed}
use Rattle.file_format.proofs.Numbers.{number_cut, number_under, number_over, number_good}
use Rattle.file_format.proofs.Formats.{read_back, only_printed}
use Rattle.table_choose.specs.Tables.{tables_from}
use Rattle.file_set.specs.declared.Set.{Set}
use Rattle.file_read.specs.declared.FileRead.{FileRead}
use Rattle.file_read.specs.SetFormat.{Records, set_format, rows_of, set_of, records_of}
use Rattle.file_read.specs.File.{most_octets, file_format, accepted, file_refused, unknown, outgrown, file_answer, file_reading, room_behind, file_room, ports_sayable, tables_sayable, total_of, sayable, file_octets}
use Rattle.file_read.specs.Theorems.{GivenBack, OneFile, Accepted, RoomKept, LengthFirst, Named}
use Rattle.file_read.proofs.Sets.{set_says, set_said}

-- A list stands in itself, and only it does.

stands_shift : (xs : List ℕ) (at y : ℕ) (s : List ℕ) → Stands xs at s → Stands xs (suc at) (y ∷ s)
stands_shift [] at y s p = tt
stands_shift (x ∷ xs) at y s p = (omega (arith, p.0), p.1, stands_shift xs (suc at) y s p.2)

stands_unshift : (xs : List ℕ) (at y : ℕ) (s : List ℕ) → Stands xs (suc at) (y ∷ s) → Stands xs at s
stands_unshift [] at y s p = tt
stands_unshift (x ∷ xs) at y s p = (omega (arith, p.0), p.1, stands_unshift xs (suc at) y s p.2)

stands_self : (s : List ℕ) → Stands s 0 s
stands_self [] = tt
stands_self (x ∷ s) = (omega arith, refl, stands_shift s 0 x s (stands_self s))

stands_all : (xs s : List ℕ) → length xs ≡ length s → Stands xs 0 s → s ≡ xs
stands_all [] [] e p = refl
stands_all [] (y ∷ s) e p = absurd (omega arith)
stands_all (x ∷ xs) [] e p = absurd (omega arith)
stands_all (x ∷ xs) (y ∷ s) e p =
    let h : y ≡ x = p.1 in
    let t : s ≡ xs = stands_all xs s (omega arith) (stands_unshift xs 0 y s p.2) in
    λ i. h i ∷ t i

file_any : (t u a b : ℕ) (r : Records) → octets (file_format t) ((a, b), r) ≡ octets (file_format u) ((a, b), r)
unfolding octets file_format
file_any t u a b r = refl

any_length : (t a b : ℕ) (r : Records) → length (octets (file_format t) ((a, b), r)) ≡ 3 + length (octets (set_format b) r)
unfolding octets file_format
any_length t a b r = omega arith

small_file : (version : ℕ) → most_octets version ≤ 61440
small_file version = go (leb 2 version)
  where
    go : (b : Bool) → cond b 61440 32768 ≤ 61440
    go true = omega arith
    go false = omega arith

sound_file : (total version : ℕ) (r : Records) → 1 ≤ version → version ≤ 3 → total ≤ most_octets version → Sound (set_format version) r → Sound (file_format total) ((total, version), r)
unfolding Sound file_format
sound_file total version r a b t h =
    let k : total ≤ 61440 = omega (arith, small_file version) in
    ((((omega arith, omega arith, omega arith), (a, b, omega arith)), le-leb total (most_octets version) t), h)

-- what a sound head says
record Head (total : ℕ) (v : (ℕ × ℕ) × Records) : Type 0 where
  length_is : v.0.0 ≡ total
  least : 1 ≤ v.0.1
  most : v.0.1 ≤ 3
  fits : leb total (most_octets v.0.1) ≡ true
  records : Sound (set_format v.0.1) v.1

head_is : (total : ℕ) (v : (ℕ × ℕ) × Records) → Sound (file_format total) v → Head total v
unfolding Sound file_format
head_is total v h = record { length_is = omega (arith, h.0.0.0.0, h.0.0.0.1); least = h.0.0.1.0; most = h.0.0.1.1; fits = h.0.1; records = h.1 }

-- where a file is accepted, all its fields were read, it ends with them, and the rows have room
record Read (total room : ℕ) (x : Found ((ℕ × ℕ) × Records)) : Type 0 where
  value : (ℕ × ℕ) × Records
  place : ℕ
  found : x ≡ got value place
  ends : place ≡ total
  room_held : length (rows_of value.1.1) ≤ room

accepted_read : (total room : ℕ) (x : Found ((ℕ × ℕ) × Records)) → (file_answer total room x).verdict ≡ 0 → Read total room x
unfolding file_answer
accepted_read total room (got v n) e = go (eqb n total) refl e
  where
    held : n ≡ total → (b : Bool) → leb (length (rows_of v.1.1)) room ≡ b → (cond b (accepted v.1) outgrown).verdict ≡ 0 → Read total room (got v n)
    held q true t r = record { value = v; place = n; found = refl; ends = q; room_held = leb-true _ _ t }
    held q false t r = absurd (omega arith)

    go : (t : Bool) → eqb n total ≡ t → (cond t (cond (leb (length (rows_of v.1.1)) room) (accepted v.1) outgrown) (file_refused n)).verdict ≡ 0 → Read total room (got v n)
    go true t q = held (eqb-true _ _ t) (leb (length (rows_of v.1.1)) room) refl q
    go false t q = absurd (omega arith)
accepted_read total room (bad n) e = go (eqb n 2 && ltb 2 total) e
  where
    go : (t : Bool) → (cond t unknown (file_refused n)).verdict ≡ 0 → Read total room (bad n)
    go true q = absurd (omega arith)
    go false q = absurd (omega arith)

module _ (o : List ℕ) (w : Octets o) (room : List ℕ) (e : (file_reading o (length room)).verdict ≡ 0) where
  was_read : Read (length o) (length room) (read_at (file_format (length o)) o 0)
  unfolding file_reading
  was_read = accepted_read (length o) (length room) (read_at (file_format (length o)) o 0) e

  printed : Printed (file_format (length o)) o 0 was_read.value was_read.place
  printed = only_printed (file_format (length o)) o w 0 was_read.value was_read.place was_read.found

  reading_is : file_reading o (length room) ≡ accepted was_read.value.1
  unfolding file_reading file_answer
  reading_is = let r = was_read in rw (r.found, eq-eqb r.place (length o) r.ends, le-leb (length (rows_of r.value.1.1)) (length room) r.room_held)

  room_is : file_room o room ≡ written 0 (rows_of was_read.value.1.1) room
  unfolding file_room room_behind
  room_is = let r = was_read in rw (r.found, eq-eqb r.place (length o) r.ends)

  rows_are : take (length (rows_of was_read.value.1.1)) (file_room o room) ≡ rows_of was_read.value.1.1
  rows_are =
      let r = was_read in
      let xs : List ℕ = rows_of r.value.1.1 in
      let k : written 0 (rows_of was_read.value.1.1) room ≡ rows_of was_read.value.1.1 ++ drop (length (rows_of was_read.value.1.1)) room = rw (zero-add, le-leb (length (rows_of was_read.value.1.1)) (length room) r.room_held) in
      ap (take (length xs)) (room_is ∙ k) ∙ take_at xs (drop (length xs) room) (length xs) refl

  the_file : OneFile o (set_of was_read.value.1) (rows_of was_read.value.1.1)
  unfolding file_octets sayable
  the_file =
      let r = was_read in
      let p = printed in
      let v = r.value in
      let h = head_is (length o) v p.sound in
      let d = set_said v.0.1 v.1 h.records in
      let l : length (octets (file_format (length o)) v) ≡ length o = omega (arith, p.place, r.ends) in
      let q : length o ≡ 3 + length (octets (set_format v.0.1) v.1) = sym l ∙ any_length (length o) v.0.0 v.0.1 v.1 in
      let qt : length o ≡ total_of v.0.1 (set_of v.1) (rows_of v.1.1) = q ∙ ap (λ (z : Records). 3 + length (octets (set_format v.0.1) z)) (sym d.again) in
      let f : octets (file_format (length o)) v ≡ octets (file_format (total_of v.0.1 (set_of v.1) (rows_of v.1.1))) ((total_of v.0.1 (set_of v.1) (rows_of v.1.1), v.0.1), records_of (set_of v.1) (rows_of v.1.1)) =
      (λ i. octets (file_format (length o)) (((h.length_is ∙ qt) i, v.0.1), sym d.again i))
      ∙ file_any (length o) (total_of v.0.1 (set_of v.1) (rows_of v.1.1)) (total_of v.0.1 (set_of v.1) (rows_of v.1.1)) v.0.1 (records_of (set_of v.1) (rows_of v.1.1)) in
      let t : leb (total_of v.0.1 (set_of v.1) (rows_of v.1.1)) (most_octets v.0.1) ≡ true = subst (λ (z : ℕ). leb z (most_octets v.0.1) ≡ true) qt h.fits in
      record {
        version = v.0.1;
        least = h.least;
        most = h.most;
        file = stands_all (octets (file_format (length o)) v) o l p.stands ∙ f;
        sound = d.sound;
        sayable = and_both d.ports (and_both d.tables t);
      }

  one_file : OneFile o (file_reading o (length room)).set (take (file_reading o (length room)).used (file_room o room))
  one_file =
      let es : (file_reading o (length room)).set ≡ set_of was_read.value.1 = ap (λ (z : FileRead). z.set) reading_is in
      let eu : (file_reading o (length room)).used ≡ length (rows_of was_read.value.1.1) = ap (λ (z : FileRead). z.used) reading_is in
      let er : take (file_reading o (length room)).used (file_room o room) ≡ rows_of was_read.value.1.1 = ap (λ (k : ℕ). take k (file_room o room)) eu ∙ rows_are in
      subst (λ (z : Set). OneFile o z (take (file_reading o (length room)).used (file_room o room))) (sym es)
      (subst (λ (z : List ℕ). OneFile o (set_of was_read.value.1) z) (sym er) the_file)

pub accepted_only : Accepted
accepted_only o w room e = one_file o w room e

pub given_back : GivenBack
unfolding file_reading file_answer file_room room_behind file_octets sayable
given_back version least most s rows room e q h =
    let q1 = and_right (ports_sayable version (take s.portcount s.ports)) _ q in
    let y = set_says version s rows e (and_left (ports_sayable version (take s.portcount s.ports)) _ q) (and_left (tables_sayable version (tables_from (take s.tablecount s.tables) rows)) _ q1) in
    let f : total_of version s rows ≤ most_octets version = leb-true _ _ (and_right (tables_sayable version (tables_from (take s.tablecount s.tables) rows)) _ q1) in
    let t : ℕ = total_of version s rows in
    let v : (ℕ × ℕ) × Records = ((total_of version s rows, version), records_of s rows) in
    let o : List ℕ = octets (file_format (total_of version s rows)) ((total_of version s rows, version), records_of s rows) in
    let l : length (octets (file_format (total_of version s rows)) ((total_of version s rows, version), records_of s rows)) ≡ total_of version s rows = any_length (total_of version s rows) (total_of version s rows) version (records_of s rows) in
    let b : read_at (file_format (total_of version s rows)) (octets (file_format (total_of version s rows)) ((total_of version s rows, version), records_of s rows)) 0
    ≡ got ((total_of version s rows, version), records_of s rows) (0 + length (octets (file_format (total_of version s rows)) ((total_of version s rows, version), records_of s rows))) =
    read_back (file_format (total_of version s rows)) o 0 v (sound_file (total_of version s rows) version (records_of s rows) least most f y.format) (stands_self o) in
    let n : length (rows_of (records_of s rows).1) ≤ length room = omega (arith, ap length y.numbers) in
    record {
      answer =
          rw (l, b, l, zero-add, eq-eqb (total_of version s rows) (total_of version s rows) refl, le-leb (length (rows_of (records_of s rows).1)) (length room) n)
          (λ i. record { verdict = 0; at = 0; used = length (y.numbers i); set = y.set i });
      room_after = rw (l, b, l, zero-add, eq-eqb (total_of version s rows) (total_of version s rows) refl) (ap (λ (z : List ℕ). written 0 z room) y.numbers);
    }

pub room_kept : RoomKept
unfolding file_reading file_answer file_room room_behind
room_kept o room n = go (read_at (file_format (length o)) o 0) n
  where
    held : (xs : List ℕ) (r : Records) → rows_of r.1 ≡ xs → (b : Bool) → leb (length xs) (length room) ≡ b → ((cond b (accepted r) outgrown).verdict ≡ 0 → ⊥) → written 0 xs room ≡ room
    held xs r e true t m = absurd (m refl)
    held xs r e false t m = let l : length room < length xs = leb-false _ _ t in rw (lt-leb (0 + length xs) (length room) (omega arith))

    ended : (v : (ℕ × ℕ) × Records) (k : ℕ) (b : Bool) → eqb k (length o) ≡ b → ((cond b (cond (leb (length (rows_of v.1.1)) (length room)) (accepted v.1) outgrown) (file_refused k)).verdict ≡ 0 → ⊥)
        → cond b (written 0 (rows_of v.1.1) room) room ≡ room
    ended v k true t m = held (rows_of v.1.1) v.1 refl (leb (length (rows_of v.1.1)) (length room)) refl m
    ended v k false t m = refl

    go : (x : Found ((ℕ × ℕ) × Records)) → ((file_answer (length o) (length room) x).verdict ≡ 0 → ⊥) → room_behind (length o) x room ≡ room
    go (got v k) m = ended v k (eqb k (length o)) refl m
    go (bad k) m = refl

pub length_first : LengthFirst
unfolding file_reading file_answer file_format read_at
length_first o room n = go (less_or (length o) 2)
  where
    known : number_at 2 (length o) (length o) o 0 ≡ bad 0 → file_reading o room ≡ file_refused 0
    known e = rw e

    whole : 2 ≤ length o → (value_at o 0 2 < length o) ⊎ (length o ≤ value_at o 0 2) → file_reading o room ≡ file_refused 0
    whole h (inl l) = known (number_under o 0 2 (length o) (length o) h l)
    whole h (inr l) = known (number_over o 0 2 (length o) (length o) h l (above (length o) (value_at o 0 2) l n))
      where
        above : (a b : ℕ) → a ≤ b → (b ≡ a → ⊥) → a < b
        above a b l n = split (less_or a b)
          where
            split : (a < b) ⊎ (b ≤ a) → a < b
            split (inl k) = k
            split (inr k) = absurd (n (omega arith))

    go : (length o < 2) ⊎ (2 ≤ length o) → file_reading o room ≡ file_refused 0
    go (inl h) = known (number_cut o 0 2 (length o) (length o) h)
    go (inr h) = whole h (less_or (value_at o 0 2) (length o))

pub named : Named
unfolding file_reading file_answer file_format read_at
named o room e h n m k = go (get_or o 2 0) refl
  where
    first : number_at 2 (length o) (length o) o 0 ≡ got (value_at o 0 2) 2
    first = number_good o 0 2 (length o) (length o) (omega arith) (omega arith) (omega arith)

    known : number_at 1 1 3 o 2 ≡ bad 2 → file_reading o room ≡ unknown
    known q = rw (first, q, lt-ltb 2 (length o) h)

    go : (v : ℕ) → get_or o 2 0 ≡ v → file_reading o room ≡ unknown
    go zero q = known (number_under o 2 1 1 3 (omega arith) (omega (arith, q)))
    go (suc zero) q = absurd (n q)
    go (suc (suc zero)) q = absurd (m q)
    go (suc (suc (suc zero))) q = absurd (k q)
    go (suc (suc (suc (suc v)))) q = known (number_over o 2 1 1 3 (omega arith) (omega (arith, q)) (omega (arith, q)))
