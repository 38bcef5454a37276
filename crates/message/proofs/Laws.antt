-- Laws of messages: what is written, and what the reader's tests say.
use Prim.Native.Nat.{ℕ, zero, suc, ◌+◌, ◌-◌, ◌*◌, ◌%◌, ◌≤◌, ◌<◌, min}
use mathlib.Core.Path.{◌≡◌, refl, sym, ap, ◌∙◌}
use mathlib.Core.List.{List, [], ◌∷◌, ◌++◌}
use mathlib.Core.Bool.{Bool, true, false, ◌&&◌}
use mathlib.Core.Logic.{◌⊎◌, inl, inr}
use native.Mathlib.Decide.{dec_le}
use native.Mathlib.Omega.{arith}
use borrow.Author.Tests.{le-leb, lt-leb, leb-true, leb-false, eq-eqb, ne_eqb, eqb-true}
use lib.Dec.{leb, eqb}
use lib.ListN.{length, get_or, take, drop, length-append, length-take, length-drop}
use lib.Seq.{take_all, take_at, drop_at, length-take-le, get_or-take, drop-drop}
use Rattle.std.specs.Prelude.{Some, None}
use Rattle.lists.specs.Lists.{paint, copied}
use Rattle.lists.proofs.Laws.{tail_is, copied_whole, paint_two, paint_length, Back, back_copied}
use Rattle.message_checksum.specs.Checksum.{words_in, ones_from, checksum_of}
use Rattle.message_checksum.proofs.Laws.{blank_checksum}
use Rattle.message.specs.Message.{octets_with, message_of, reports, header_length, whole_header, kind_in, code_in, check_in, pointer_in, blanked, is_message, parts_of, written_of, message_after}
use Rattle.message.specs.Stages.{whole_quote, three_zeros, check_set}

-- The message with its checksum field zero, written by three copies.
module _ (kind code pointer : ℕ) (header payload out : List ℕ) (h : 8 + length header + length payload ≤ length out) where
  abbrev front : List ℕ
  front = kind ∷ code ∷ 0 ∷ 0 ∷ pointer ∷ 0 ∷ 0 ∷ 0 ∷ []

  pub blank_written : (one two three : List ℕ) → one ≡ copied front out
      → two ≡ copied header (take (length one - 8) (drop 8 one))
      → three ≡ copied payload (take (length (Back 8 (length one) one two) - (8 + length header)) (drop (8 + length header) (Back 8 (length one) one two)))
      → Back (8 + length header) (length (Back 8 (length one) one two)) (Back 8 (length one) one two) three
      ≡ octets_with 0 kind code pointer header payload ++ drop (8 + length header + length payload) out
  blank_written one two three e1 e2 e3 =
      let f : one ≡ front ++ drop 8 out = e1 ∙ copied_whole front out (omega arith) in
      let l : length one ≡ length out = ap length f ∙ (rw (length-append front (drop 8 out), length-drop) (omega arith)) in
      let b : Back 8 (length one) one two ≡ paint 8 header one = back_copied 8 header one two (omega arith) e2 in
      let m : length (Back 8 (length one) one two) ≡ length out = ap length b ∙ paint_length 8 header one (omega arith) ∙ l in
      let t : Back (8 + length header) (length (Back 8 (length one) one two)) (Back 8 (length one) one two) three ≡ paint (8 + length header) payload (Back 8 (length one) one two) =
      back_copied (8 + length header) payload (Back 8 (length one) one two) three (omega arith) e3 in
      let p : paint (8 + length header) payload (Back 8 (length one) one two) ≡ paint 8 (header ++ payload) one =
      ap (paint (8 + length header) payload) b ∙ paint_two 8 header payload one (omega arith) in
      let k : 8 + length (header ++ payload) ≡ 8 + length header + length payload = rw (length-append) (omega arith) in
      let x : take 8 one ≡ front = ap (take 8) f ∙ take_at front (drop 8 out) 8 refl in
      let y : drop (8 + length header + length payload) one ≡ drop (8 + length header + length payload) out =
      (let z : 8 + length header + length payload ≡ 8 + (length header + length payload) = omega arith in
      rw z (sym (drop-drop (length header + length payload) 8 one) ∙ ap (λ (s : List ℕ). drop (length header + length payload) s) (ap (drop 8) f ∙ drop_at front (drop 8 out) 8 refl)
      ∙ drop-drop (length header + length payload) 8 out)) in
      t ∙ p ∙ rw (k, x, y)

-- how many data octets are quoted
pub quoted_is : (payload : List ℕ) (n : ℕ) → n ≡ min (length payload) 8 → take n payload ≡ take 8 payload
quoted_is payload n e = elim (dec_le (length payload) 8) [
  | yes u ↦ (let q : n ≡ length payload = omega arith in rw (q, take_all (length payload) payload (omega arith), take_all 8 payload u))
  | no u ↦ (let q : n ≡ 8 = omega arith in rw q)
]

-- The checksum, written into a message whose field is zero.
module _ (kind code pointer : ℕ) (header payload : List ℕ) where
  pub with_length : (check : ℕ) (d : List ℕ) → length (octets_with check kind code pointer header d) ≡ 8 + length header + length d
  with_length check d = ap (λ (n : ℕ). suc (suc (suc (suc (suc (suc (suc (suc n)))))))) (length-append header d) ∙ omega arith

  pub message_length : length (message_of kind code pointer header payload) ≡ 8 + length header + length (take 8 payload)
  unfolding message_of
  message_length = with_length (checksum_of (octets_with 0 kind code pointer header (take 8 payload))) (take 8 payload)

  pub message_written : (n : ℕ) (out blank full : List ℕ) → n ≡ min (length payload) 8
      → blank ≡ octets_with 0 kind code pointer header (take n payload) ++ drop (8 + length header + length (take n payload)) out
      → full ≡ check_set (checksum_of (take (8 + length header + n) blank)) blank
      → full ≡ message_of kind code pointer header payload ++ drop (length (message_of kind code pointer header payload)) out
  unfolding message_of
  message_written n out blank full e b f =
      let q = quoted_is payload n e in
      let s : length (take n payload) ≡ n = length-take-le n payload (omega arith) in
      let size : length (octets_with 0 kind code pointer header (take 8 payload)) ≡ 8 + length header + n = with_length 0 (take 8 payload) ∙ omega (arith, ap length q) in
      let b8 : blank ≡ octets_with 0 kind code pointer header (take 8 payload) ++ drop (8 + length header + n) out =
      b ∙ rw (s, q) in
      let t : take (8 + length header + n) blank ≡ octets_with 0 kind code pointer header (take 8 payload) =
      ap (take (8 + length header + n)) b8 ∙ take_at (octets_with 0 kind code pointer header (take 8 payload)) (drop (8 + length header + n) out) (8 + length header + n) size in
      let m : length (message_of kind code pointer header payload) ≡ 8 + length header + n = message_length ∙ omega (arith, ap length q) in
      f ∙ (λ i. check_set (checksum_of (t i)) (b8 i)) ∙ ap (λ (k : ℕ). octets_with (checksum_of (octets_with 0 kind code pointer header (take 8 payload))) kind code pointer header (take 8 payload) ++ drop k out) (sym m)

-- what the writer answers and leaves
pub written_room : (m : List ℕ) (room : ℕ) → length m ≤ room → written_of m room ≡ length m
unfolding written_of
written_room m room h = rw (le-leb (length m) room h)

pub written_none : (m : List ℕ) (room : ℕ) → room < length m → written_of m room ≡ 0
unfolding written_of
written_none m room h = rw (lt-leb (length m) room h)

pub after_room : (m out : List ℕ) → length m ≤ length out → message_after m out ≡ m ++ drop (length m) out
unfolding message_after
after_room m out h = rw (le-leb (length m) (length out) h)

pub after_none : (m out : List ℕ) → length out < length m → message_after m out ≡ out
unfolding message_after
after_none m out h = rw (lt-leb (length m) (length out) h)

-- The header's length field: at least 5, or at least 20 octets.
pub five_twenty : (x : ℕ) → leb 5 x ≡ leb 20 (4 * x)
five_twenty x = go (leb 5 x) refl
  where
    go : (b : Bool) → leb 5 x ≡ b → b ≡ leb 20 (4 * x)
    go true p = let q : 5 ≤ x = leb-true _ _ p in sym (le-leb 20 (4 * x) (omega arith))
    go false p = let q : x < 5 = leb-false _ _ p in sym (lt-leb 20 (4 * x) (omega arith))

pub header_is : (h : List ℕ) → whole_header h ≡ (leb 20 (header_length h) && eqb (length h) (header_length h))
header_is h = ap (λ (b : Bool). b && eqb (length h) (header_length h)) (five_twenty (get_or h 0 0 % 16))

pub header_short : (h : List ℕ) → length h < 20 → whole_header h ≡ false
header_short h s = header_is h ∙ go (leb 20 (header_length h)) (eqb (length h) (header_length h)) refl refl
  where
    go : (a b : Bool) → leb 20 (header_length h) ≡ a → eqb (length h) (header_length h) ≡ b → (a && b) ≡ false
    go false b p q = refl
    go true false p q = refl
    go true true p q = let x : 20 ≤ header_length h = leb-true _ _ p in let y : length h ≡ header_length h = eqb-true _ _ q in absurd (omega arith)

-- What is quoted, by its length and its header's.
module _ (q : List ℕ) where
  -- the first octet of the header is that of the quote, unless the header has none
  first_octet : (k : ℕ) → (get_or (take k q) 0 0 ≡ get_or q 0 0) ⊎ (get_or (take k q) 0 0 ≡ 0)
  first_octet zero = inr refl
  first_octet (suc k) = inl (get_or-take (suc k) q 0 0 (omega arith))

  pub quote_small : header_length q < 20 → whole_quote q ≡ false
  unfolding whole_quote
  quote_small h = ap (λ (b : Bool). b && leb (length (drop (header_length q) q)) 8) (header_is (take (header_length q) q) ∙ ap (λ (b : Bool). b && eqb (length (take (header_length q) q)) (header_length (take (header_length q) q))) small)
    where
      by : (get_or (take (header_length q) q) 0 0 ≡ get_or q 0 0) ⊎ (get_or (take (header_length q) q) 0 0 ≡ 0) → leb 20 (header_length (take (header_length q) q)) ≡ false
      by (inl e) = rw e (lt-leb 20 (header_length q) h)
      by (inr e) = rw e

      small : leb 20 (header_length (take (header_length q) q)) ≡ false
      small = by (first_octet (header_length q))

  module _ (h : 20 ≤ header_length q) where
    same : header_length (take (header_length q) q) ≡ header_length q
    same = ap (λ (x : ℕ). 4 * (x % 16)) (get_or-take (header_length q) q 0 0 (omega arith))

    quote_by : whole_quote q ≡ (eqb (length (take (header_length q) q)) (header_length q) && leb (length q - header_length q) 8)
    unfolding whole_quote
    quote_by = rw (header_is (take (header_length q) q), same, le-leb 20 (header_length q) h, length-drop)

    pub quote_cut : length q < header_length q → whole_quote q ≡ false
    quote_cut k = quote_by ∙ rw (ne_eqb (length (take (header_length q) q)) (header_length q) (λ e. let l : length (take (header_length q) q) ≡ min (header_length q) (length q) = length-take (header_length q) q in omega arith))

    pub quote_whole : header_length q ≤ length q → whole_quote q ≡ leb (length q - header_length q) 8
    quote_whole k = quote_by ∙ rw (eq-eqb (length (take (header_length q) q)) (header_length q) (length-take-le (header_length q) q k))

-- what a quote that was accepted has
pub record Quote (q : List ℕ) : Type 0 where
  pub least : 20 ≤ header_length q
  pub inside : header_length q ≤ length q
  pub few : length q - header_length q ≤ 8

pub quote : (q : List ℕ) → whole_quote q ≡ true → Quote q
quote q e = elim (dec_le 20 (header_length q)) [
  | yes u ↦ elim (dec_le (header_length q) (length q)) [
    | yes v ↦ record { least = u; inside = v; few = leb-true _ _ (sym (quote_whole q u v) ∙ e) }
    | no v ↦ absurd (let z : ◌≡◌ {A = ℕ} 0 1 = cc (quote_cut q u (omega arith)) in omega arith)
  ]
  | no u ↦ absurd (let z : ◌≡◌ {A = ℕ} 0 1 = cc (quote_small q (omega arith)) in omega arith)
]

-- the checksum of octets whose field is taken as zero, from the sums of the parts beside the field
pub blank_sum : (o : List ℕ) → 4 ≤ length o → get_or o 0 0 < 256 → get_or o 1 0 < 256
    → checksum_of (blanked o) ≡ 65535 - ones_from (ones_from 0 (words_in (take 2 o))) (words_in (drop 4 o))
blank_sum (a ∷ b ∷ c ∷ d ∷ rest) h ha hb = blank_checksum a b rest ha hb
blank_sum (a ∷ b ∷ c ∷ []) h ha hb = absurd (omega arith)
blank_sum (a ∷ b ∷ []) h ha hb = absurd (omega arith)
blank_sum (a ∷ []) h ha hb = absurd (omega arith)
blank_sum [] h ha hb = absurd (omega arith)

-- The reader's tests.
module _ (o : List ℕ) where
  abbrev pub right_check : Bool
  right_check = eqb (check_in o) (checksum_of (blanked o))

  pub too_short : length o < 8 → is_message o ≡ false
  unfolding is_message
  too_short h = rw (lt-leb 8 (length o) h)

  pub message_by_lem : 8 ≤ length o
      → is_message o ≡ (reports (kind_in o) (pointer_in o) && (right_check && (three_zeros (get_or o 5 0) (get_or o 6 0) (get_or o 7 0) && whole_quote (drop 8 o))))
  unfolding is_message whole_quote
  message_by_lem h = rw (le-leb 8 (length o) h) (ap (λ (b : Bool). reports (kind_in o) (pointer_in o) && (right_check && b)) (regroup (eqb (get_or o 5 0) 0) (eqb (get_or o 6 0) 0) (eqb (get_or o 7 0) 0) _))
    where
      regroup : (a b c d : Bool) → (a && (b && (c && d))) ≡ ((a && (b && c)) && d)
      regroup true true c d = refl
      regroup true false c d = refl
      regroup false b c d = refl

  -- what a message that was accepted has
  pub record Accepted : Type 0 where
    pub long : 8 ≤ length o
    pub report : reports (kind_in o) (pointer_in o) ≡ true
    pub check : right_check ≡ true
    pub zeros : three_zeros (get_or o 5 0) (get_or o 6 0) (get_or o 7 0) ≡ true
    pub quoted : whole_quote (drop 8 o) ≡ true

  pub accepted : is_message o ≡ true → Accepted
  accepted e = elim (dec_le 8 (length o)) [
    | yes u ↦ go (reports (kind_in o) (pointer_in o)) right_check (three_zeros (get_or o 5 0) (get_or o 6 0) (get_or o 7 0)) (whole_quote (drop 8 o)) refl refl refl refl u (sym (message_by_lem u) ∙ e)
    | no u ↦ absurd (let z : ◌≡◌ {A = ℕ} 0 1 = cc (too_short (omega arith)) in omega arith)
  ]
    where
      go : (a b c d : Bool) → reports (kind_in o) (pointer_in o) ≡ a → right_check ≡ b → three_zeros (get_or o 5 0) (get_or o 6 0) (get_or o 7 0) ≡ c → whole_quote (drop 8 o) ≡ d
          → 8 ≤ length o → (a && (b && (c && d))) ≡ true → Accepted
      go true true true true p q r s u e = record { long = u; report = p; check = q; zeros = r; quoted = s }
      go true true true false p q r s u e = absurd (let z : ◌≡◌ {A = ℕ} 0 1 = cc in omega arith)
      go true true false d p q r s u e = absurd (let z : ◌≡◌ {A = ℕ} 0 1 = cc in omega arith)
      go true false c d p q r s u e = absurd (let z : ◌≡◌ {A = ℕ} 0 1 = cc in omega arith)
      go false b c d p q r s u e = absurd (let z : ◌≡◌ {A = ℕ} 0 1 = cc in omega arith)

  pub accepting : Accepted → is_message o ≡ true
  accepting a = message_by_lem a.long ∙ rw (a.report, a.check, a.zeros, a.quoted)

  -- the parts
  pub parts_none : is_message o ≡ false → parts_of o ≡ None
  unfolding parts_of
  parts_none e = rw e

  pub parts_some : is_message o ≡ true
      → parts_of o ≡ Some (record { kind = kind_in o; code = code_in o; pointer = pointer_in o; header = header_length (drop 8 o); payload = length o - 8 - header_length (drop 8 o) })
  unfolding parts_of
  parts_some e =
      let q = quote (drop 8 o) (accepted e).quoted in
      rw (e, length-take-le (header_length (drop 8 o)) (drop 8 o) q.inside, length-drop (header_length (drop 8 o)) (drop 8 o), length-drop 8 o)

-- fewer than 20 octets are no quote
pub quote_few : (q : List ℕ) → length q < 20 → whole_quote q ≡ false
quote_few q h = elim (dec_le 20 (header_length q)) [
  | yes u ↦ quote_cut q u (omega arith)
  | no u ↦ quote_small q (omega arith)
]

-- The reader's tests, one after the other.
module _ (o : List ℕ) (h : 8 ≤ length o) where
  pub no_report : reports (kind_in o) (pointer_in o) ≡ false → is_message o ≡ false
  no_report e = message_by_lem o h ∙ rw e

  module _ (r : reports (kind_in o) (pointer_in o) ≡ true) where
    pub wrong_check : right_check o ≡ false → is_message o ≡ false
    wrong_check e = message_by_lem o h ∙ rw (r, e)

    module _ (k : right_check o ≡ true) where
      pub not_zeros : three_zeros (get_or o 5 0) (get_or o 6 0) (get_or o 7 0) ≡ false → is_message o ≡ false
      not_zeros e = message_by_lem o h ∙ rw (r, k, e)

      pub by_quote : three_zeros (get_or o 5 0) (get_or o 6 0) (get_or o 7 0) ≡ true → is_message o ≡ whole_quote (take (length o - 8) (drop 8 o))
      by_quote e = message_by_lem o h ∙ rw (r, k, e, tail_is)

-- how many octets are quoted of the data
pub quoted_length : (payload : List ℕ) (n : ℕ) → n ≡ min (length payload) 8 → length (take 8 payload) ≡ n
quoted_length payload n e = length-take 8 payload ∙ omega arith
