-- The theorems of `specs/Theorems.antt`.
use Prim.Native.Nat.{ℕ, ◌+◌, ◌-◌, ◌≤◌, ◌<◌}
use mathlib.Core.Path.{◌≡◌, refl, sym, ap, ◌∙◌}
use mathlib.Core.Bool.{Bool, true, false, not, ◌&&◌, ◌||◌}
use mathlib.Core.List.{List, [], ◌∷◌}
use native.Mathlib.Omega.{arith}
use borrow.Author.Tests.{not-false, ltb-true, ltb-false, eq-eqb, ne_eqb}
use lib.Dec.{leb, ltb, eqb}
use lib.ListN.{length, get_or}
use Rattle.label.specs.declared.Label.{Label}
use Rattle.option.specs.Option.{tag_of, body_of, numbers_in, pairs_in, falling, valid, Means}
use Rattle.option.specs.Permitted.{trimmed, tight, is_shortest, is_ten, is_numbers, is_pairs, permits, Permitted}
use Rattle.option.proofs.Meaning.{parts, Tagged, one, two, five, tagged}
use Rattle.label.proofs.Bools.{and_left, and_right}
use Rattle.option_slack.specs.Slack.{touching, zero_written, slack_bitmap, slack_pairs, slack_body, slack}
use Rattle.option.specs.Table.{all_four}
use Rattle.option.specs.declared.Spellings.{Spellings}
use Rattle.option_read.proofs.Valid.{body_is}
use Rattle.option_slack.specs.Theorems.{Slackness}

both : (a b : Bool) → (a && b) ≡ true → (a ≡ true) × (b ≡ true)
both a b e = (and_left a b e, and_right a b e)

-- the next top is below the bottom before it
next_below : (cap u : ℕ) (xs : List ℕ) → falling cap (pairs_in (u ∷ xs)) ≡ true → u < cap
next_below cap u [] e = ltb-true u cap (both _ _ e).0
next_below cap u (c ∷ xs) e = ltb-true u cap (both _ _ e).0

-- so it touches where it is not two or more below
touches : (u b : ℕ) → u < b → eqb (u + 1) b ≡ not (ltb (u + 1) b)
touches u b h = go (ltb (u + 1) b) refl
  where
    go : (t : Bool) → ltb (u + 1) b ≡ t → eqb (u + 1) b ≡ not t
    go true e = let l : u + 1 < b = ltb-true _ _ e in ne_eqb (u + 1) b (λ (q : u + 1 ≡ b). omega arith)
    go false e = let l : b ≤ u + 1 = ltb-false _ _ e in eq-eqb (u + 1) b (omega arith)

not_not : (a : Bool) → a ≡ not (not a)
not_not true = refl
not_not false = refl

one_or_more : (e l t z g : Bool) → e ≡ not l → (t || z) ≡ not g → ((e || t) || z) ≡ not (l && g)
one_or_more e true t z g p q = rw p q
one_or_more e false t z g p q = rw p

pairs_slack : (cap : ℕ) (xs : List ℕ) → falling cap (pairs_in xs) ≡ true → slack_pairs xs ≡ not (tight xs)
pairs_slack cap [] f = refl
pairs_slack cap (t ∷ []) f = refl
pairs_slack cap (t ∷ b ∷ []) f = not_not (eqb b 0)
pairs_slack cap (t ∷ b ∷ u ∷ xs) f =
    let below = (both (leb b t) (falling b (pairs_in (u ∷ xs))) (both (ltb t cap) (leb b t && falling b (pairs_in (u ∷ xs))) f).1).1 in
    one_or_more (eqb (u + 1) b) (ltb (u + 1) b) (touching (u ∷ xs)) (zero_written (u ∷ xs)) (tight (u ∷ xs))
    (touches u b (next_below b u xs below)) (pairs_slack b (u ∷ xs) below)

-- a bitmap is slack where it is in neither of its two forms
bitmap_slack : (a z ten : Bool) → ((not a && z) && not ten) ≡ not ((a || not z) || (ten || (false || false)))
bitmap_slack true z ten = refl
bitmap_slack false true true = refl
bitmap_slack false true false = refl
bitmap_slack false false ten = refl

-- by the tag's type
module _ (b : List ℕ) where
  body_one : slack_body 1 b ≡ not ((trimmed b) || (eqb (length b) 10 || (false || false)))
  unfolding slack_body
  body_one = or_none (slack_bitmap b) ∙ bitmap_slack (eqb (length b) 0) (eqb (get_or b (length b - 1) 0) 0) (eqb (length b) 10)
    where
      or_none : (x : Bool) → (x || false) ≡ x
      or_none true = refl
      or_none false = refl

  body_five : falling 65535 (pairs_in (numbers_in b)) ≡ true → slack_body 5 b ≡ not (tight (numbers_in b))
  unfolding slack_body
  body_five f = pairs_slack 65535 (numbers_in b) f

permits_by : (o : List ℕ) (t : ℕ) → tag_of o ≡ t
    → permits all_four o ≡ ((eqb t 1 && trimmed (body_of o)) || ((eqb t 1 && eqb (length (body_of o)) 10) || (eqb t 2 || (eqb t 5 && tight (numbers_in (body_of o))))))
unfolding permits
permits_by o t e = rw e

tag_one : (o : List ℕ) → tag_of o ≡ 1 → slack_body (tag_of o) (body_of o) ≡ not (permits all_four o)
tag_one o e = ap (λ (t : ℕ). slack_body t (body_of o)) e ∙ body_one (body_of o) ∙ ap not (sym (permits_by o 1 e))

tag_two : (o : List ℕ) → tag_of o ≡ 2 → slack_body (tag_of o) (body_of o) ≡ not (permits all_four o)
unfolding slack_body
tag_two o e = ap (λ (t : ℕ). slack_body t (body_of o)) e ∙ ap not (sym (permits_by o 2 e))

tag_five : (o : List ℕ) → tag_of o ≡ 5 → falling 65535 (pairs_in (numbers_in (body_of o))) ≡ true → slack_body (tag_of o) (body_of o) ≡ not (permits all_four o)
tag_five o e f = ap (λ (t : ℕ). slack_body t (body_of o)) e ∙ body_five (body_of o) f ∙ ap not (sym (permits_by o 5 e))

-- a good tag is of one of the three types
body_slack : (o : List ℕ) → Tagged (body_of o) (tag_of o) → slack_body (tag_of o) (body_of o) ≡ not (permits all_four o)
body_slack o g = go (tag_of o) refl g
  where
    go : (t : ℕ) → tag_of o ≡ t → Tagged (body_of o) t → slack_body (tag_of o) (body_of o) ≡ not (permits all_four o)
    go t e (one h) = tag_one o e
    go t e (two d h r) = tag_two o e
    go t e (five d h r) = tag_five o e r

-- a valid option ends with its tag
exactly_of : (o : List ℕ) → valid o ≡ true → slack o ≡ not (permits all_four o)
unfolding slack
exactly_of o v =
    let p = parts o v in
    ap (slack_body (tag_of o)) (body_is o p.tag_size) ∙ body_slack o (tagged (tag_of o) (body_of o) p.body)

-- what a set permits, all four do
more_permitted : (p : Spellings) (a b c d : Bool)
    → ((p.shortest && a) || ((p.ten && b) || ((p.numbers && c) || (p.pairs && d)))) ≡ true
    → (a || (b || (c || d))) ≡ true
more_permitted p a b c d e = go p.shortest a p.ten b p.numbers c p.pairs d e
  where
    go : (s a t b n c q d : Bool) → ((s && a) || ((t && b) || ((n && c) || (q && d)))) ≡ true → (a || (b || (c || d))) ≡ true
    go s true t b n c q d e = refl
    go s false t true n c q d e = refl
    go s false t false n true q d e = refl
    go s false t false n false q true e = refl
    go true false true false true false true false e = e
    go true false true false true false false false e = e
    go true false true false false false true false e = e
    go true false true false false false false false e = e
    go true false false false true false true false e = e
    go true false false false true false false false e = e
    go true false false false false false true false e = e
    go true false false false false false false false e = e
    go false false true false true false true false e = e
    go false false true false true false false false e = e
    go false false true false false false true false e = e
    go false false true false false false false false e = e
    go false false false false true false true false e = e
    go false false false false true false false false e = e
    go false false false false false false true false e = e
    go false false false false false false false false e = e

pub permits_all : (p : Spellings) (o : List ℕ) → permits p o ≡ true → permits all_four o ≡ true
unfolding permits
permits_all p o e = more_permitted p (is_shortest o) (is_ten o) (is_numbers o) (is_pairs o) e

pub slackness : Slackness
slackness = record { exactly = exactly_of; means = λ o l m. (passed_of o l m, permitted_of all_four o l); permitted = permitted_of }
  where
    passed_of : (o : List ℕ) (l : Label) → Means o l → slack o ≡ false → Permitted all_four o l
    passed_of o l m s = record { means = m; permitted = not-false (permits all_four o) (sym (exactly_of o m.good) ∙ s) }

    permitted_of : (p : Spellings) (o : List ℕ) (l : Label) → Permitted p o l → slack o ≡ false
    permitted_of p o l q = exactly_of o q.means.good ∙ ap not (permits_all p o q.permitted)
