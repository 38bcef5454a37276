-- The theorems of `specs/Theorems.antt`.
use Prim.Native.Nat.{ℕ, ◌+◌, ◌*◌, ◌/◌, ◌%◌, ◌≤◌, ◌<◌}
use mathlib.Core.Path.{◌≡◌, refl, sym, ap, ◌∙◌}
use mathlib.Core.List.{List, [], ◌∷◌, ◌++◌}
use mathlib.Core.Bool.{true, ◌&&◌}
use native.Mathlib.Nat.{div-add-mod'}
use native.Mathlib.Omega.{arith}
use borrow.Author.Tests.{le-leb, leb-true, eq-eqb, eqb-true}
use lib.Dec.{leb, eqb}
use lib.ListN.{length, take, drop, length-take, length-drop, take-append-drop, get_or-append}
use lib.Seq.{take_all, take_at, drop_at}
use Rattle.label.proofs.Bools.{and_left, and_right}
use Rattle.option.specs.Option.{Octets}
use Rattle.option.proofs.Octets.{octet_at_lem, octets_append, octets_take, octets_drop}
use Rattle.message_checksum.specs.Checksum.{ones_sum, checksum_of}
use Rattle.message_checksum.proofs.Theorems.{sums_to_ones}
use Rattle.message.specs.Message.{parts_of, octets_with, message_of, reports, header_length, whole_header, is_message, kind_in, code_in, pointer_in, header_in, payload_in}
use Rattle.message.specs.Stages.{whole_quote}
use Rattle.message.specs.Examples.{WorkedMessages}
use Rattle.message.specs.Theorems.{Reported, Built, GivenBack, Messages}
use Rattle.message.proofs.Laws.{Accepted, accepted, accepting, quote, header_is}

-- What is quoted behind a whole header.
module _ (header payload : List ℕ) (w : whole_header header ≡ true) where
  pub whole_least : 20 ≤ length header
  whole_least =
      let p : (leb 20 (header_length header) && eqb (length header) (header_length header)) ≡ true = sym (header_is header) ∙ w in
      let a : 20 ≤ header_length header = leb-true _ _ (and_left (leb 20 (header_length header)) (eqb (length header) (header_length header)) p) in
      let b : length header ≡ header_length header = eqb-true _ _ (and_right (leb 20 (header_length header)) (eqb (length header) (header_length header)) p) in
      omega arith

  whole_length : length header ≡ header_length header
  whole_length = eqb-true _ _ (and_right (leb 20 (header_length header)) (eqb (length header) (header_length header)) (sym (header_is header) ∙ w))

  quote_length : header_length (header ++ payload) ≡ length header
  quote_length = ap (λ (x : ℕ). 4 * (x % 16)) (get_or-append header payload 0 0 (omega (arith, whole_least))) ∙ sym whole_length

  quote_header : take (header_length (header ++ payload)) (header ++ payload) ≡ header
  quote_header = take_at header payload (header_length (header ++ payload)) (sym quote_length)

  quote_payload : drop (header_length (header ++ payload)) (header ++ payload) ≡ payload
  quote_payload = drop_at header payload (header_length (header ++ payload)) (sym quote_length)

  quote_holds : length payload ≤ 8 → whole_quote (header ++ payload) ≡ true
  unfolding whole_quote
  quote_holds h = rw (quote_header, quote_payload, w) (le-leb (length payload) 8 h)

-- What was built is given back.
module _ (kind code pointer : ℕ) (header payload : List ℕ) (r : reports kind pointer ≡ true) (w : whole_header header ≡ true) where
  abbrev few : List ℕ
  few = take 8 payload

  few_are : length (take 8 payload) ≤ 8
  few_are = rw length-take (omega arith)

  built_accepted : is_message (message_of kind code pointer header payload) ≡ true
  unfolding message_of
  built_accepted =
      accepting (message_of kind code pointer header payload)
      (record {
        long = omega arith;
        report = r;
        check = eq-eqb _ _ (div-add-mod' (checksum_of (octets_with 0 kind code pointer header (take 8 payload))) 256);
        zeros = refl;
        quoted = quote_holds header (take 8 payload) w few_are;
      })

  pub given_back : GivenBack kind code pointer header payload (message_of kind code pointer header payload)
  unfolding message_of
  given_back =
      record {
        accepted = built_accepted;
        kinds = refl;
        codes = refl;
        pointers = refl;
        headers = quote_header header (take 8 payload) w;
        payloads = quote_payload header (take 8 payload) w;
      }

-- two octets are those of their word
word_octets : (a b : ℕ) → b < 256 → ((a * 256 + b) / 256 ≡ a) × ((a * 256 + b) % 256 ≡ b)
word_octets a b h = (omega arith, omega arith)

-- What was accepted is the message of its parts.
only_by : (o : List ℕ) → Octets o → Accepted o → o ≡ message_of (kind_in o) (code_in o) (pointer_in o) (header_in o) (payload_in o)
unfolding message_of
only_by (a ∷ b ∷ c ∷ d ∷ p ∷ x ∷ y ∷ z ∷ q) oct t =
    let u : (eqb y 0 && eqb z 0) ≡ true = and_right (eqb x 0) (eqb y 0 && eqb z 0) t.zeros in
    let ex : 0 ≡ x = sym (eqb-true x 0 (and_left (eqb x 0) (eqb y 0 && eqb z 0) t.zeros)) in
    let ey : 0 ≡ y = sym (eqb-true y 0 (and_left (eqb y 0) (eqb z 0) u)) in
    let ez : 0 ≡ z = sym (eqb-true z 0 (and_right (eqb y 0) (eqb z 0) u)) in
    let k = quote q t.quoted in
    let n : ℕ = header_length q in
    let l : length (drop (header_length q) q) ≤ 8 = rw length-drop k.few in
    let e : take 8 (drop (header_length q) q) ≡ drop (header_length q) q = take_all 8 (drop (header_length q) q) l in
    let s : take (header_length q) q ++ take 8 (drop (header_length q) q) ≡ q = ap (λ (j : List ℕ). take (header_length q) q ++ j) e ∙ take-append-drop (header_length q) q in
    let f : c * 256 + d ≡ checksum_of (a ∷ b ∷ 0 ∷ 0 ∷ p ∷ x ∷ y ∷ z ∷ q) = eqb-true _ _ t.check in
    let g : checksum_of (octets_with 0 a b p (take (header_length q) q) (take 8 (drop (header_length q) q))) ≡ c * 256 + d =
    (λ i. checksum_of (a ∷ b ∷ 0 ∷ 0 ∷ p ∷ ex i ∷ ey i ∷ ez i ∷ s i)) ∙ sym f in
    let w = word_octets c d oct.1.1.1.0 in
    sym ((λ i. octets_with (g i) a b p (take (header_length q) q) (take 8 (drop (header_length q) q))) ∙ (λ i. a ∷ b ∷ w.0 i ∷ w.1 i ∷ p ∷ ex i ∷ ey i ∷ ez i ∷ s i))
only_by (a ∷ b ∷ c ∷ d ∷ p ∷ x ∷ y ∷ []) oct t = absurd (omega (arith, t.long))
only_by (a ∷ b ∷ c ∷ d ∷ p ∷ x ∷ []) oct t = absurd (omega (arith, t.long))
only_by (a ∷ b ∷ c ∷ d ∷ p ∷ []) oct t = absurd (omega (arith, t.long))
only_by (a ∷ b ∷ c ∷ d ∷ []) oct t = absurd (omega (arith, t.long))
only_by (a ∷ b ∷ c ∷ []) oct t = absurd (omega (arith, t.long))
only_by (a ∷ b ∷ []) oct t = absurd (omega (arith, t.long))
only_by (a ∷ []) oct t = absurd (omega (arith, t.long))
only_by [] oct t = absurd (omega (arith, t.long))

-- the quoted header of what was accepted is whole
whole_quoted : (q : List ℕ) → whole_quote q ≡ true → whole_header (take (header_length q) q) ≡ true
unfolding whole_quote
whole_quoted q e = and_left (whole_header (take (header_length q) q)) (leb (length (drop (header_length q) q)) 8) e

built : (o : List ℕ) → Octets o → is_message o ≡ true → Built o
built o oct e =
    let t = accepted o e in
    record {
      kind = kind_in o;
      code = code_in o;
      pointer = pointer_in o;
      header = header_in o;
      payload = payload_in o;
      reported = record {
        kinds = octet_at_lem o 0 oct;
        codes = octet_at_lem o 1 oct;
        pointers = octet_at_lem o 4 oct;
        headers = octets_take (header_length (drop 8 o)) (drop 8 o) (octets_drop 8 o oct);
        payloads = octets_drop (header_length (drop 8 o)) (drop 8 o) (octets_drop 8 o oct);
        report = t.report;
        whole = whole_quoted (drop 8 o) t.quoted;
      };
      octets = only_by o oct t;
    }

all_ones : (kind code pointer : ℕ) (header payload : List ℕ) → Reported kind code pointer header payload → ones_sum (message_of kind code pointer header payload) ≡ 65535
unfolding message_of
all_ones kind code pointer header payload r =
    let rest : Octets (pointer ∷ 0 ∷ 0 ∷ 0 ∷ (header ++ take 8 payload)) =
    (r.pointers, (omega arith, (omega arith, (omega arith, octets_append header (take 8 payload) r.headers (octets_take 8 payload r.payloads))))) in
    sums_to_ones kind code (pointer ∷ 0 ∷ 0 ∷ 0 ∷ (header ++ take 8 payload)) r.kinds r.codes rest

pub messages : Messages
messages =
    record {
      back = λ kind code pointer header payload r. given_back kind code pointer header payload r.report r.whole;
      only = λ o oct e. only_by o oct (accepted o e);
      exactly = λ o oct. (built o oct, λ b. ap is_message b.octets ∙ built_accepted b.kind b.code b.pointer b.header b.payload b.reported.report b.reported.whole);
      sums = all_ones;
    }

pub worked : WorkedMessages
unfolding ones_sum checksum_of message_of is_message parts_of
worked = (refl, refl, (λ kind code pointer header payload. refl, refl))
