-- Document 01, "Option and tags"; the draft, section 3: what a valid CIPSO option is, and which label it means, over its octets alone.
use Rattle.std.specs.Prelude.{ℕ, ◌+◌, ◌*◌, ◌%◌, ◌<◌, ◌≡◌, List, [], ◌∷◌, Bool, true, ◌&&◌, ◌||◌, length, get_or, drop, leb, ltb, eqb}
use Rattle.label.specs.declared.Run.{Run}
use Rattle.label.specs.declared.Label.{Label}
use Rattle.label.specs.Runs.{run, covers}
use Rattle.label.specs.Label.{well_formed, member}
use Rattle.option.specs.Bitmap.{bit_at}

-- every number of the list is an octet
abbrev pub Octets : List ℕ → Type 0
Octets [] = Unit {0}
Octets (x ∷ xs) = (x < 256) × Octets xs

-- type 134, length (whole option), domain (4 octets, big-endian), then one tag: type, length (whole tag), alignment octet 0, level, categories
abbrev pub domain_of : List ℕ → ℕ
domain_of o = ((get_or o 2 0 * 256 + get_or o 3 0) * 256 + get_or o 4 0) * 256 + get_or o 5 0

abbrev pub tag_of : List ℕ → ℕ
tag_of o = get_or o 6 0

abbrev pub tag_length_of : List ℕ → ℕ
tag_length_of o = get_or o 7 0

abbrev pub level_of : List ℕ → ℕ
level_of o = get_or o 9 0

-- the categories of an option that ends with its tag: what stands after the level
abbrev pub body_of : List ℕ → List ℕ
body_of o = drop 10 o

-- two-octet numbers
abbrev pub numbers_in : List ℕ → List ℕ
numbers_in [] = []
numbers_in (a ∷ []) = []
numbers_in (a ∷ b ∷ s) = (a * 256 + b) ∷ numbers_in s

-- tag 2: each number is one category
abbrev pub singles : List ℕ → List Run
singles [] = []
singles (x ∷ xs) = run x x ∷ singles xs

-- strictly ascending from lo on (house: no repeats), none 65535
abbrev pub ascending : ℕ → List ℕ → Bool
ascending lo [] = true
ascending lo (x ∷ xs) = leb lo x && (ltb x 65535 && ascending (x + 1) xs)

-- tag 5: pairs, top then bottom; the last bottom may be left out and is then 0
abbrev pub pairs_in : List ℕ → List Run
pairs_in [] = []
pairs_in (t ∷ []) = run 0 t ∷ []
pairs_in (t ∷ b ∷ xs) = run b t ∷ pairs_in xs

-- each top below the bottom before it (the first below 65535), and not below its own bottom; touching pairs are valid
abbrev pub falling : ℕ → List Run → Bool
falling cap [] = true
falling cap (p ∷ ps) = ltb p.high cap && (leb p.low p.high && falling p.low ps)

abbrev pub is_even : ℕ → Bool
is_even n = eqb (n % 2) 0

-- the tag keeps to document 01's table: its length is 4 more than that of its categories (house: 7 pairs decide for tag 5)
unfoldable pub good_body : ℕ → List ℕ → Bool
good_body t b =
    (eqb t 1 && leb (length b) 30)
    || (eqb t 2 && (is_even (length b) && (leb (length b) 30 && ascending 0 (numbers_in b))))
    || (eqb t 5 && (is_even (length b) && (leb (length b) 28 && falling 65535 (pairs_in (numbers_in b)))))

-- the tag has the category: tag 1 those whose bit is 1, tag 2 its numbers, tag 5 every number from a bottom to its top
unfoldable pub body_has : ℕ → List ℕ → ℕ → Bool
body_has t b c =
    (eqb t 1 && bit_at b c) || (eqb t 2 && covers (singles (numbers_in b)) c) || (eqb t 5 && covers (pairs_in (numbers_in b)) c)

-- the form, one tag that keeps to the table, length 6 plus the tag's length; at most 40 octets follows (the longest tag has 34)
unfoldable pub valid : List ℕ → Bool
valid o =
    leb 10 (length o)
    && (eqb (get_or o 0 0) 134
    && (eqb (get_or o 1 0) (length o)
    && (eqb (tag_length_of o + 6) (length o)
    && (eqb (get_or o 8 0) 0
    && good_body (tag_of o) (body_of o)))))

-- the option has the category
abbrev pub has : List ℕ → ℕ → Bool
has o c = body_has (tag_of o) (body_of o) c

-- the option is valid and means the label: its domain (a label's is never 0), its level and exactly these categories
pub record Means (o : List ℕ) (l : Label) : Type 0 where
  pub octets : Octets o
  pub good : valid o ≡ true
  pub label : well_formed l ≡ true
  pub domain : domain_of o ≡ l.domain
  pub level : level_of o ≡ l.level
  pub members : (c : ℕ) → has o c ≡ member l c
