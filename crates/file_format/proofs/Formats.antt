-- The two laws of every format: what was printed is read back, and what is read was printed. By induction over the format.
use mathlib.Core.Bool.{Bool, true, false, cond}
use mathlib.Core.List.{List, [], ◌∷◌, ◌++◌}
use mathlib.Core.Path.{◌≡◌, refl, sym, ap, subst}
use Prim.Native.Nat.{ℕ, zero, suc, ◌+◌, ◌*◌, ◌/◌, ◌%◌, ◌≤◌}
use native.Mathlib.Omega.{arith}
use native.Mathlib.Nat.{add-zero}
use lib.Dec.{eqb}
use lib.ListN.{length, length-append}
use Rattle.file_format.specs.Format.{Width, size, Format, number, flag, marks, ◌then◌, ◌such◌, fields, many, counted, digits, in_turn, bit, sum_of, marks_of, octets, Found, got, bad, after, number_at, many_at, read_at, Each, Sound}
use Rattle.file_format.specs.Laws.{Octets, Stands, Printed}
use Rattle.file_format.proofs.Numbers.{stands_append, stands_left, stands_right, size_some, number_back, NumberRead, number_only}

-- where something was found after two steps, something was found after the first
pub record Came {A B : Type 0} (x : Found A) (k : A → ℕ → Found B) (b : B) (n : ℕ) : Type 0 where
  pub value : A
  pub place : ℕ
  pub first : x ≡ got value place
  pub rest : k value place ≡ got b n

pub came : {A B : Type 0} (x : Found A) (k : A → ℕ → Found B) (b : B) (n : ℕ) → after x k ≡ got b n → Came x k b n
came (got a m) k b n e = record { value = a; place = m; first = refl; rest = e }
came (bad m) k b n e = absurd (let z : ◌≡◌ {A = ℕ} 0 1 = cc in omega arith)

length_two : (at : ℕ) (xs ys : List ℕ) → at + length (xs ++ ys) ≡ at + length xs + length ys
length_two at xs ys = omega (arith, length-append xs ys)

-- Lists, over what prints and reads one element.
module _ {A S : Type 0} (pr : S → A → List ℕ) (rd : S → ℕ → Found A) (so : S → A → Type 0) (next : S → A → S) (s : List ℕ) where
  many_back : ((st : S) (at : ℕ) (a : A) → so st a → Stands (pr st a) at s → rd st at ≡ got a (at + length (pr st a)))
      → (as' : List A) (st : S) (at : ℕ) → Each so next st as' → Stands (in_turn pr next st as') at s
      → many_at rd next (length as') st at ≡ got as' (at + length (in_turn pr next st as'))
  many_back h [] st at e p = rw add-zero
  many_back h (a ∷ as') st at e p =
      let xs : List ℕ = pr st a in
      let ys : List ℕ = in_turn pr next (next st a) as' in
      rw (h st at a e.0 (stands_left xs ys at s p), many_back h as' (next st a) (at + length (pr st a)) e.1 (stands_right xs ys at s p), length_two at (pr st a) (in_turn pr next (next st a) as'))

  pub record Listed (st : S) (at : ℕ) (as' : List A) (n m : ℕ) : Type 0 where
    pub sound : Each so next st as'
    pub stands : Stands (in_turn pr next st as') at s
    pub place : m ≡ at + length (in_turn pr next st as')
    pub count : length as' ≡ n

  pub record One (st : S) (at : ℕ) (a : A) (n : ℕ) : Type 0 where
    pub sound : so st a
    pub stands : Stands (pr st a) at s
    pub place : n ≡ at + length (pr st a)

  listed_is : (st : S) (at n : ℕ) (xs ys : List A) (j m : ℕ) → got xs j ≡ got ys m → Listed st at xs n j → Listed st at ys n m
  listed_is st at n xs ys j m e r =
      let ex : xs ≡ ys = cc in
      let ej : j ≡ m = cc in
      rw (ex, ej) at r

  listed_more : (st : S) (at : ℕ) (a : A) (k n : ℕ) (as' : List A) (m : ℕ) → One st at a k → Listed (next st a) k as' n m → Listed st at (a ∷ as') (suc n) m
  listed_more st at a k n as' m p r =
      record {
        sound = (p.sound, r.sound);
        stands = stands_append (pr st a) (in_turn pr next (next st a) as') at s p.stands (rw p.place at r.stands);
        place = omega (arith, length-append (pr st a) (in_turn pr next (next st a) as'), p.place, r.place);
        count = ap suc r.count;
      }

  many_only : ((st : S) (at : ℕ) (a : A) (n : ℕ) → rd st at ≡ got a n → One st at a n)
      → (n : ℕ) (st : S) (at : ℕ) (as' : List A) (m : ℕ) → many_at rd next n st at ≡ got as' m → Listed st at as' n m
  many_only h zero st at as' m e = listed_is st at 0 [] as' at m e (record { sound = tt; stands = tt; place = sym (add-zero at); count = refl })
  many_only h (suc n) st at as' m e =
      let c = came (rd st at) (λ a k. after (many_at rd next n (next st a) k) (λ bs j. got (a ∷ bs) j)) as' m e in
      let d = came (many_at rd next n (next st c.value) c.place) (λ bs j. got (c.value ∷ bs) j) as' m c.rest in
      listed_is st at (suc n) (c.value ∷ d.value) as' d.place m d.rest
      (listed_more st at c.value c.place n d.value d.place (h st at c.value c.place c.first) (many_only h n (next st c.value) c.place d.value d.place d.first))

-- Flags.

bit_eqb : (b : Bool) → eqb (bit b) 1 ≡ b
bit_eqb true = refl
bit_eqb false = refl

bit_small : (b : Bool) → bit b ≤ 1
bit_small true = omega arith
bit_small false = omega arith

eqb_bit : (x : ℕ) → x ≤ 1 → bit (eqb x 1) ≡ x
eqb_bit zero h = refl
eqb_bit (suc zero) h = refl
eqb_bit (suc (suc x)) h = absurd (omega arith)

-- Marks.

sum_marks : (m : Bool × (Bool × (Bool × Bool))) → marks_of (sum_of m) ≡ m
sum_marks m = go m.0 m.1.0 m.1.1.0 m.1.1.1
  where
    go : (a b c d : Bool) → marks_of (sum_of (a, (b, (c, d)))) ≡ (a, (b, (c, d)))
    go true true true true = refl
    go true true true false = refl
    go true true false true = refl
    go true true false false = refl
    go true false true true = refl
    go true false true false = refl
    go true false false true = refl
    go true false false false = refl
    go false true true true = refl
    go false true true false = refl
    go false true false true = refl
    go false true false false = refl
    go false false true true = refl
    go false false true false = refl
    go false false false true = refl
    go false false false false = refl

pub sum_small : (m : Bool × (Bool × (Bool × Bool))) → sum_of m ≤ 15
sum_small m = omega (arith, bit_small m.0, bit_small m.1.0, bit_small m.1.1.0, bit_small m.1.1.1)

marks_sum : (x : ℕ) → x ≤ 15 → sum_of (marks_of x) ≡ x
marks_sum x h =
    let a = eqb_bit (x % 2) (omega arith) in
    let b = eqb_bit (x / 2 % 2) (omega arith) in
    let c = eqb_bit (x / 2 / 2 % 2) (omega arith) in
    let d = eqb_bit (x / 2 / 2 / 2 % 2) (omega arith) in
    let p : x % 2 + x / 2 * 2 ≡ x = halves x in
    let q : x / 2 % 2 + x / 2 / 2 * 2 ≡ x / 2 = halves (x / 2) in
    let r : x / 2 / 2 % 2 + x / 2 / 2 / 2 * 2 ≡ x / 2 / 2 = halves (x / 2 / 2) in
    let t : x / 2 / 2 / 2 ≤ 1 = last in
    let u : x / 2 / 2 / 2 % 2 ≡ x / 2 / 2 / 2 = small (x / 2 / 2 / 2) t in
    rw (a, b, c, d) (omega (arith, p, q, r, u))
  where
    halves : (y : ℕ) → y % 2 + y / 2 * 2 ≡ y
    halves y = omega arith

    small : (y : ℕ) → y ≤ 1 → y % 2 ≡ y
    small y h = omega arith

    last : x / 2 / 2 / 2 ≤ 1
    last =
        let p : x / 2 ≤ 7 = omega arith in
        let q : x / 2 / 2 ≤ 3 = omega (arith, p) in
        omega (arith, q)

-- What was printed is read back.
pub read_back : {A : Type 0} (f : Format A) (s : List ℕ) (at : ℕ) (a : A) → Sound f a → Stands (octets f a) at s → read_at f s at ≡ got a (at + length (octets f a))
unfolding octets read_at Sound
read_back (number w least most) s at x h p = number_back (size w) least most s at x (size_some w) h.0 h.1 h.2 p
read_back flag s at b h p =
    rw (number_back 1 0 1 s at (bit b) (omega arith) (omega arith) (bit_small b) (omega (arith, bit_small b)) p, bit_eqb b)
read_back marks s at m h p =
    rw (number_back 1 0 15 s at (sum_of m) (omega arith) (omega arith) (sum_small m) (omega (arith, sum_small m)) p, sum_marks m)
read_back (f then g) s at q h p =
    let xs : List ℕ = octets f q.0 in
    let ys : List ℕ = octets (g q.0) q.1 in
    rw (read_back f s at q.0 h.0 (stands_left xs ys at s p), read_back (g q.0) s (at + length (octets f q.0)) q.1 h.1 (stands_right xs ys at s p), length_two at (octets f q.0) (octets (g q.0) q.1))
read_back (f such rule) s at a h p = rw (read_back f s at a h.0 p, h.1)
read_back (fields f make parts same) s at b h p = rw (read_back f s at (parts b) h.0 p, h.1)
read_back (many f next n st) s at as' h p =
    rw (← h.1) (many_back (λ st a. octets (f st) a) (λ st k. read_at (f st) s k) (λ st a. Sound (f st) a) next s (λ st k a e q. read_back (f st) s k a e q) as' st at h.0 p)
read_back (counted f next w most st) s at as' h p =
    let xs : List ℕ = digits (size w) (length as') in
    let ys : List ℕ = in_turn (λ st a. octets (f st) a) next st as' in
    rw (
      number_back (size w) 0 most s at (length as') (size_some w) (omega arith) h.1 h.2 (stands_left xs ys at s p),
      many_back (λ st a. octets (f st) a) (λ st k. read_at (f st) s k) (λ st a. Sound (f st) a) next s (λ st k a e q. read_back (f st) s k a e q) as' st (at + length (digits (size w) (length as'))) h.0 (stands_right xs ys at s p),
      length_two at (digits (size w) (length as')) (in_turn (λ st a. octets (f st) a) next st as'),
    )

-- What is read was printed, a word at a time.

number_printed : (w : Width) (least most : ℕ) (s : List ℕ) (at x n : ℕ) → NumberRead (size w) least most s at x n → Printed (number w least most) s at x n
unfolding octets Sound
number_printed w least most s at x n p = record { sound = (p.least_is, p.most_is, p.fits); stands = p.stands; place = p.place }

then_printed : {A B : Type 0} (f : Format A) (g : A → Format B) (s : List ℕ) (at : ℕ) (q : A × B) (n : ℕ) (a : A) (m : ℕ) (b : B) (k : ℕ)
    → got (a, b) k ≡ got q n → Printed f s at a m → Printed (g a) s m b k → Printed (f then g) s at q n
unfolding octets Sound
then_printed f g s at q n a m b k e pf pg =
    let eq : (a, b) ≡ q = cc in
    let en : k ≡ n = cc in
    rw (← eq, ← en)
    (record {
      sound = (pf.sound, pg.sound);
      stands = stands_append (octets f a) (octets (g a) b) at s pf.stands (rw pf.place at pg.stands);
      place = omega (arith, length-append (octets f a) (octets (g a) b), pf.place, pg.place);
    })

such_printed : {A : Type 0} (f : Format A) (rule : A → Bool) (s : List ℕ) (at : ℕ) (a : A) (n : ℕ) (b : A) (m : ℕ) (t : Bool)
    → rule b ≡ t → cond t (got b m) (bad at) ≡ got a n → Printed f s at b m → Printed (f such rule) s at a n
unfolding octets Sound
such_printed f rule s at a n b m true t e p =
    let ea : b ≡ a = cc in
    let en : m ≡ n = cc in
    rw (← ea, ← en) (record { sound = (p.sound, t); stands = p.stands; place = p.place })
such_printed f rule s at a n b m false t e p = absurd (let z : ◌≡◌ {A = ℕ} 0 1 = cc in omega arith)

fields_printed : {A B : Type 0} (f : Format A) (make : A → B) (parts : B → A) (same : (a : A) → parts (make a) ≡ a) (s : List ℕ) (at : ℕ) (b : B) (n : ℕ) (a : A) (m : ℕ)
    → got (make a) m ≡ got b n → Printed f s at a m → Printed (fields f make parts same) s at b n
unfolding octets Sound
fields_printed {A} f make parts same s at b n a m e p =
    let eb : make a ≡ b = cc in
    let en : m ≡ n = cc in
    let back : parts (make a) ≡ a = same a in
    rw (← eb, ← en)
    (record {
      sound = (subst (λ (x : A). Sound f x) (sym back) p.sound, ap make back);
      stands = subst (λ (x : A). Stands (octets f x) at s) (sym back) p.stands;
      place = subst (λ (x : A). m ≡ at + length (octets f x)) (sym back) p.place;
    })

flag_printed : (s : List ℕ) (at : ℕ) (b : Bool) (n x m : ℕ) → got (eqb x 1) m ≡ got b n → NumberRead 1 0 1 s at x m → Printed flag s at b n
unfolding octets Sound
flag_printed s at b n x m e p =
    let eb : eqb x 1 ≡ b = cc in
    let en : m ≡ n = cc in
    let back : bit (eqb x 1) ≡ x = eqb_bit x p.most_is in
    rw (← eb, ← en) (record { sound = tt; stands = rw back p.stands; place = p.place })

marks_printed : (s : List ℕ) (at : ℕ) (v : Bool × (Bool × (Bool × Bool))) (n x m : ℕ) → got (marks_of x) m ≡ got v n → NumberRead 1 0 15 s at x m → Printed marks s at v n
unfolding octets Sound
marks_printed s at v n x m e p =
    let ev : marks_of x ≡ v = cc in
    let en : m ≡ n = cc in
    let back : sum_of (marks_of x) ≡ x = marks_sum x p.most_is in
    rw (← ev, ← en) (record { sound = tt; stands = rw back p.stands; place = p.place })

module _ {A S : Type 0} (f : S → Format A) (next : S → A → S) (s : List ℕ) where
  abbrev ListedBy : S → ℕ → List A → ℕ → ℕ → Type 0
  ListedBy = Listed (λ st a. octets (f st) a) (λ st k. read_at (f st) s k) (λ st a. Sound (f st) a) next s

  one_printed : (st : S) (at : ℕ) (a : A) (n : ℕ) → Printed (f st) s at a n → One (λ st a. octets (f st) a) (λ st k. read_at (f st) s k) (λ st a. Sound (f st) a) next s st at a n
  one_printed st at a n p = record { sound = p.sound; stands = p.stands; place = p.place }

  many_printed : (st : S) (at : ℕ) (as' : List A) (n m : ℕ) → ListedBy st at as' n m → Printed (many f next n st) s at as' m
  unfolding octets Sound
  many_printed st at as' n m r = record { sound = (r.sound, r.count); stands = r.stands; place = r.place }

  counted_printed : (w : Width) (most : ℕ) (st : S) (at : ℕ) (as' : List A) (n k m : ℕ) → NumberRead (size w) 0 most s at n k → ListedBy st k as' n m → Printed (counted f next w most st) s at as' m
  unfolding octets Sound
  counted_printed w most st at as' n k m p r =
      let e : n ≡ length as' = sym r.count in
      let ys : List ℕ = in_turn (λ st a. octets (f st) a) next st as' in
      let ps : Stands (digits (size w) (length as')) at s = rw e at p.stands in
      let pp : k ≡ at + length (digits (size w) (length as')) = rw e at p.place in
      record {
        sound = (r.sound, omega (arith, p.most_is), omega (arith, p.fits));
        stands = stands_append (digits (size w) (length as')) ys at s ps (rw pp at r.stands);
        place = omega (arith, length-append (digits (size w) (length as')) (in_turn (λ st a. octets (f st) a) next st as'), pp, r.place);
      }

pub only_printed : {A : Type 0} (f : Format A) (s : List ℕ) → Octets s → (at : ℕ) (a : A) (n : ℕ) → read_at f s at ≡ got a n → Printed f s at a n
unfolding read_at
only_printed (number w least most) s o at x n e = number_printed w least most s at x n (number_only (size w) least most s at x o n e)
only_printed flag s o at b n e =
    let c = came (number_at 1 0 1 s at) (λ x k. got (eqb x 1) k) b n e in
    flag_printed s at b n c.value c.place c.rest (number_only 1 0 1 s at c.value o c.place c.first)
only_printed marks s o at v n e =
    let c = came (number_at 1 0 15 s at) (λ x k. got (marks_of x) k) v n e in
    marks_printed s at v n c.value c.place c.rest (number_only 1 0 15 s at c.value o c.place c.first)
only_printed (f then g) s o at q n e =
    let c = came (read_at f s at) (λ a m. after (read_at (g a) s m) (λ b k. got (a, b) k)) q n e in
    let d = came (read_at (g c.value) s c.place) (λ b k. got (c.value, b) k) q n c.rest in
    then_printed f g s at q n c.value c.place d.value d.place d.rest
    (only_printed f s o at c.value c.place c.first) (only_printed (g c.value) s o c.place d.value d.place d.first)
only_printed (f such rule) s o at a n e =
    let c = came (read_at f s at) (λ b m. cond (rule b) (got b m) (bad at)) a n e in
    such_printed f rule s at a n c.value c.place (rule c.value) refl c.rest (only_printed f s o at c.value c.place c.first)
only_printed (fields f make parts same) s o at b n e =
    let c = came (read_at f s at) (λ a m. got (make a) m) b n e in
    fields_printed f make parts same s at b n c.value c.place c.rest (only_printed f s o at c.value c.place c.first)
only_printed (many f next m st) s o at as' n e =
    many_printed f next s st at as' m n
    (many_only (λ st a. octets (f st) a) (λ st k. read_at (f st) s k) (λ st a. Sound (f st) a) next s (λ st k a j q. one_printed f next s st k a j (only_printed (f st) s o k a j q)) m st at as' n e)
only_printed (counted f next w most st) s o at as' n e =
    let c = came (number_at (size w) 0 most s at) (λ m k. many_at (λ st k. read_at (f st) s k) next m st k) as' n e in
    counted_printed f next s w most st at as' c.value c.place n (number_only (size w) 0 most s at c.value o c.place c.first)
    (many_only (λ st a. octets (f st) a) (λ st k. read_at (f st) s k) (λ st a. Sound (f st) a) next s (λ st k a j q. one_printed f next s st k a j (only_printed (f st) s o k a j q)) c.value st c.place as' n c.rest)
