-- `option_read::read_tag` meets its contract: each return is the check that decides there.
use native.Mathlib.Omega.{arith}
use Prim.Native.Nat.{ℕ, ◌+◌, ◌-◌}
use mathlib.Core.Path.{◌≡◌, refl, sym, ◌∙◌, ap}
use mathlib.Core.Bool.{true, ◌&&◌}
use mathlib.Core.List.{List}
use lib.ListN.{length, take, drop}
use lib.Dec.{leb}
use Rattle.option.specs.Option.{tag_of, tag_length_of}
use Rattle.option_read.specs.Reading.{fault, known_tag, good_length, categories_in}
use Rattle.option_read.specs.Stages.{PassOver}
use Rattle.std.specs.Prelude.{Err}
use Rattle.option_read_numbers.specs.Numbers.{Pass}
use Rattle.option_read.proofs.Loops.{bad_of, good_of}
use Rattle.option_read.proofs.Keys.{refused_tag, found_tag}
use Rattle.option_read.proofs.Checks.{Lengths, lengths, Past, categories_length, part_is, stops9, stops10, stops11, stops12, stops13, passes}
use Rattle.option_read.proofs.read_tag.Goals as goal
use Rattle.option_read.proofs.read_tag.Goals.{Else-octets-ne0}

abbrev octets-at : (c : goal.After-refuse) → List ℕ
octets-at c = c.args.octets.now

pub returns-then-not-known_tag : goal.returns-then-not-known_tag
returns-then-not-known_tag c =
    refused_tag (octets-at c) c.args.keys.now _ 9 6 (λ z. omega arith) (stops9 (octets-at c) (sym c.known_tag.ensures ∙ c.if-not-known_tag.true)) _ c.refuse.ensures refl

abbrev octets-at-After-refuse-then-not-good_length : (c : goal.After-refuse-then-not-good_length) → List ℕ
octets-at-After-refuse-then-not-good_length c = c.args.octets.now

known : (c : goal.After-refuse-then-not-good_length) → known_tag (tag_of (octets-at-After-refuse-then-not-good_length c)) ≡ true
known c = sym c.known_tag.ensures ∙ c.if-not-known_tag.false

-- the answer on the length, of the octet itself
sized : (c : goal.After-refuse-then-not-good_length) →
    let o = octets-at-After-refuse-then-not-good_length c in
    c.good_length.result ≡ (good_length (tag_of o) (tag_length_of o) && leb (tag_length_of o + 6) (length o))
sized c = rw c.length_in-size.ensures.0 at c.good_length.ensures

pub returns-then-not-good_length : goal.returns-then-not-good_length
returns-then-not-good_length c =
    refused_tag (octets-at-After-refuse-then-not-good_length c) c.args.keys.now _ 10 7 (λ z. omega arith) (stops10 (octets-at-After-refuse-then-not-good_length c) (known c) (sym (sized c) ∙ c.if-not-good_length.true)) _ c.refuse-then-not-good_length.ensures refl

abbrev octets-at-After-refuse-then-octets-ne0 : (c : goal.After-refuse-then-octets-ne0) → List ℕ
octets-at-After-refuse-then-octets-ne0 c = c.args.octets.now

known-After-refuse-then-octets-ne0 : (c : goal.After-refuse-then-octets-ne0) → known_tag (tag_of (octets-at-After-refuse-then-octets-ne0 c)) ≡ true
known-After-refuse-then-octets-ne0 c = sym c.known_tag.ensures ∙ c.if-not-known_tag.false

-- the answer on the length, of the octet itself
sized-After-refuse-then-octets-ne0 : (c : goal.After-refuse-then-octets-ne0) →
    let o = octets-at-After-refuse-then-octets-ne0 c in
    c.good_length.result ≡ (good_length (tag_of o) (tag_length_of o) && leb (tag_length_of o + 6) (length o))
sized-After-refuse-then-octets-ne0 c = rw c.length_in-size.ensures.0 at c.good_length.ensures

pub returns-then-octets-ne0 : goal.returns-then-octets-ne0
returns-then-octets-ne0 c =
    refused_tag (octets-at-After-refuse-then-octets-ne0 c) c.args.keys.now _ 11 8 (λ z. omega arith) (stops11 (octets-at-After-refuse-then-octets-ne0 c) (known-After-refuse-then-octets-ne0 c) (sym (sized-After-refuse-then-octets-ne0 c) ∙ c.if-not-good_length.false) c.if-octets-ne0.true) _ c.refuse-then-octets-ne0.ensures refl

-- octet 9 is 0, as it must be
module _ (c : Else-octets-ne0) where
  abbrev o : List ℕ
  o = c.args.octets.now

  abbrev size : ℕ
  size = c.length_in-size.result

  size-is : size ≡ tag_length_of o
  size-is = c.length_in-size.ensures.0

  past : Past o
  past =
      record {
        known = sym c.known_tag.ensures ∙ c.if-not-known_tag.false;
        sized = sym (rw size-is at c.good_length.ensures) ∙ c.if-not-good_length.false;
        aligned = c.if-octets-ne0.false;
      }

  -- what the length says
  len : Lengths (tag_of o) (tag_length_of o) (length o)
  len = lengths (tag_of o) (tag_length_of o) (length o) past.sized

  -- the part that is lent
  part : take (size + 6 - 10) (drop 10 o) ≡ categories_in o
  part = part_is o size size-is

  -- what the pass leaves, over the tag's own octets
  over : {keys keys' : List ℕ} {r r' : Pass} → PassOver (tag_of o) (take (size + 6 - 10) (drop 10 o)) keys keys' r → r ≡ r' → PassOver (tag_of o) (categories_in o) keys keys' r'
  over p e = rw (part, e) at p

pub returns-in-Err : goal.returns-in-Err
returns-in-Err c =
    let k = (goal.at.returns-in-Err c).Else-octets-ne0 in
    let pass = over k c.category_keys.ensures c.in-Err.is in
    refused_tag (o k) c.args.keys.now _ 12 (10 + c.in-Err.bad.at) (λ z. omega arith)
    (stops12 (o k) (past k) c.in-Err.bad.at (bad_of c.in-Err.bad pass).0 (bad_of c.in-Err.bad pass).1)
    _ c.refuse-in-Err.ensures pass.left

pub returns-then-end-n : goal.returns-then-end-n
returns-then-end-n c =
    let k = (goal.at.returns-then-end-n c).Else-octets-ne0 in
    let pass = over k c.category_keys.ensures c.in-Ok.is in
    refused_tag (o k) c.args.keys.now _ 13 (tag_length_of (o k) + 6) (λ z. omega arith)
    (stops13 (o k) (past k) (good_of c.in-Ok.count pass).1 (omega (arith, c.if-end-n.true, size-is k)))
    _ (c.refuse-then-end-n.ensures ∙ ap (λ (n : ℕ). Err (fault 13 (n + 6))) (size-is k)) pass.left

pub returns-else-end-n : goal.returns-else-end-n
returns-else-end-n c =
    let k = (goal.at.returns-else-end-n c).Else-octets-ne0 in
    let pass = over k c.category_keys.ensures c.in-Ok.is in
    found_tag (o k) c.args.keys.now _ c.in-Ok.count pass (λ n. omega (arith, categories_length (o k) (len k), (len k).least, (len k).even n))
    (passes (o k) (past k) (good_of c.in-Ok.count pass).1 (omega (arith, c.if-end-n.false, size-is k)))
