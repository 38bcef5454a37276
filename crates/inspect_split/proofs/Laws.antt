-- Laws of cutting octets into records.
use Prim.Native.Nat.{ℕ, zero, suc, ◌+◌, ◌≤◌, ◌<◌}
use mathlib.Core.Path.{◌≡◌, refl, sym, ap, ◌∙◌}
use mathlib.Core.Bool.{Bool, true, false, cond, ◌&&◌}
use mathlib.Core.List.{List, [], ◌∷◌, ◌++◌, append_assoc, append-nil}
use native.Mathlib.Omega.{arith}
use borrow.Author.Tests.{leb-true, leb-false, le-leb, lt-leb, eqb-true, eq-eqb}
use lib.Dec.{leb, eqb}
use lib.ListN.{length, get_or, take, drop, length-append, take-append-drop, get_or-append}
use lib.Seq.{take-add, length-take-le}
use Rattle.option.specs.Option.{Octets}
use Rattle.inspect_split.specs.Records.{lead_of, whole_of, is_record, Split, keeping, behind, split_from, records_of, kept_of, followed}

-- what a test of the length comes to
pub whole_short : (s : List ℕ) → leb 2 (length s) ≡ false → whole_of s ≡ 0
unfolding whole_of
whole_short s e = rw e

pub whole_cut : (s : List ℕ) → leb (2 + lead_of s) (length s) ≡ false → whole_of s ≡ 0
unfolding whole_of
whole_cut s e = go (leb 2 (length s)) (leb (2 + lead_of s) (length s)) e
  where
    go : (a b : Bool) → b ≡ false → cond (a && b) (2 + lead_of s) 0 ≡ 0
    go true b q = rw q
    go false b q = refl

pub whole_all : (s : List ℕ) → leb 2 (length s) ≡ true → leb (2 + lead_of s) (length s) ≡ true → whole_of s ≡ 2 + lead_of s
unfolding whole_of
whole_all s e f = rw (e, f)

-- so: a record is at the front exactly when both tests pass
pub whole_not : (s : List ℕ) → 2 ≤ length s → whole_of s ≡ 0 → length s < 2 + lead_of s
unfolding whole_of
whole_not s h z = go (leb (2 + lead_of s) (length s)) refl
  where
    go : (t : Bool) → leb (2 + lead_of s) (length s) ≡ t → length s < 2 + lead_of s
    go true e = absurd (omega (arith, sym (whole_all s (le-leb 2 (length s) h) e) ∙ z))
    go false e = leb-false _ _ e

-- the same tests, as the code makes them
pub measured_short : (s : List ℕ) → length s < 2 → whole_of s ≡ 0
measured_short s h = whole_short s (lt-leb 2 (length s) h)

pub measured_cut : (s : List ℕ) (size : ℕ) → size ≡ 2 + lead_of s → length s < size → whole_of s ≡ 0
measured_cut s size e h = whole_cut s (lt-leb (2 + lead_of s) (length s) (omega arith))

pub measured_all : (s : List ℕ) (size : ℕ) → size ≡ 2 + lead_of s → size ≤ length s → size ≡ whole_of s
measured_all s size e h = e ∙ sym (whole_all s (le-leb 2 (length s) (omega arith)) (le-leb (2 + lead_of s) (length s) (omega arith)))

-- the two leading octets of a front are those of the whole
pub lead_front : (p q : List ℕ) → 2 ≤ length p → lead_of (p ++ q) ≡ lead_of p
lead_front p q h = rw (get_or-append p q 0 0 (omega arith), get_or-append p q 0 1 (omega arith))

pub record_sized : (p : List ℕ) → is_record p ≡ true → (2 ≤ length p) × (length p ≡ 2 + lead_of p)
unfolding is_record
record_sized p = go (leb 2 (length p)) (eqb (length p) (2 + lead_of p)) refl refl
  where
    go : (a b : Bool) → leb 2 (length p) ≡ a → eqb (length p) (2 + lead_of p) ≡ b → (a && b) ≡ true → (2 ≤ length p) × (length p ≡ 2 + lead_of p)
    go true true e f z = (leb-true _ _ e, eqb-true _ _ f)
    go true false e f z = absurd (let y : ◌≡◌ {A = ℕ} 0 1 = cc in omega arith)
    go false b e f z = absurd (let y : ◌≡◌ {A = ℕ} 0 1 = cc in omega arith)

pub sized_record : (p : List ℕ) → 2 ≤ length p → length p ≡ 2 + lead_of p → is_record p ≡ true
unfolding is_record
sized_record p h e = rw (le-leb 2 (length p) h, eq-eqb (length p) (2 + lead_of p) e)

-- octets that begin with a record are whole
record_front : (p q : List ℕ) → is_record p ≡ true → whole_of (p ++ q) ≡ 2 + lead_of p
record_front p q e =
    let z = record_sized p e in
    let l = lead_front p q z.0 in
    let two : leb 2 (length (p ++ q)) ≡ true = le-leb 2 (length (p ++ q)) (omega (arith, length-append p q)) in
    let all : leb (2 + lead_of (p ++ q)) (length (p ++ q)) ≡ true = le-leb (2 + lead_of (p ++ q)) (length (p ++ q)) (omega (arith, length-append p q, l)) in
    whole_all (p ++ q) two all ∙ ap (λ (k : ℕ). 2 + k) l

-- so no front of octets that are not whole is a record
partial_front : (p q : List ℕ) → whole_of (p ++ q) ≡ 0 → is_record p ≡ false
partial_front p q z = go (is_record p) refl
  where
    go : (t : Bool) → is_record p ≡ t → is_record p ≡ false
    go true e = absurd (omega (arith, sym (record_front p q e) ∙ z))
    go false e = e

-- Octets behind octets.
pub split_append : (held a b : List ℕ) → split_from held (a ++ b) ≡ followed (split_from held a) (split_from (split_from held a).kept b)
unfolding split_from
split_append held [] b = refl
split_append held (x ∷ a) b = go (is_record (held ++ (x ∷ []))) (split_append [] a b) (split_append (held ++ (x ∷ [])) a b)
  where
    go : (t : Bool)
        → split_from [] (a ++ b) ≡ followed (split_from [] a) (split_from (split_from [] a).kept b)
        → split_from (held ++ (x ∷ [])) (a ++ b) ≡ followed (split_from (held ++ (x ∷ [])) a) (split_from (split_from (held ++ (x ∷ [])) a).kept b)
        → cond t (behind (drop 2 (held ++ (x ∷ []))) (split_from [] (a ++ b))) (split_from (held ++ (x ∷ [])) (a ++ b))
        ≡ followed (cond t (behind (drop 2 (held ++ (x ∷ []))) (split_from [] a)) (split_from (held ++ (x ∷ [])) a))
        (split_from (cond t (behind (drop 2 (held ++ (x ∷ []))) (split_from [] a)) (split_from (held ++ (x ∷ [])) a)).kept b)
    go true p q = ap (behind (drop 2 (held ++ (x ∷ [])))) p
    go false p q = q

-- octets that are not whole are kept
pub split_partial : (h q : List ℕ) → whole_of (h ++ q) ≡ 0 → split_from h q ≡ keeping (h ++ q)
unfolding split_from
split_partial h [] z = rw append-nil
split_partial h (x ∷ q) z =
    let e : (h ++ (x ∷ [])) ++ q ≡ h ++ (x ∷ q) = append_assoc h (x ∷ []) q in
    let y : whole_of ((h ++ (x ∷ [])) ++ q) ≡ 0 = ap whole_of e ∙ z in
    rw (partial_front (h ++ (x ∷ [])) q y) (split_partial (h ++ (x ∷ [])) q y ∙ ap keeping e)

-- one record is cut off once its last octet is there
pub split_record : (h : List ℕ) (x : ℕ) (q : List ℕ) → is_record (h ++ (x ∷ q)) ≡ true → split_from h (x ∷ q) ≡ behind (drop 2 (h ++ (x ∷ q))) (keeping [])
unfolding split_from
split_record h x [] z = rw z
split_record h x (y ∷ q) z =
    let e : (h ++ (x ∷ [])) ++ (y ∷ q) ≡ h ++ (x ∷ y ∷ q) = append_assoc h (x ∷ []) (y ∷ q) in
    rw (early (is_record (h ++ (x ∷ []))) refl) (split_record (h ++ (x ∷ [])) y q (ap is_record e ∙ z) ∙ ap (λ (k : List ℕ). behind (drop 2 k) (keeping [])) e)
  where
    early : (t : Bool) → is_record (h ++ (x ∷ [])) ≡ t → is_record (h ++ (x ∷ [])) ≡ false
    early false f = f
    early true f =
        let e : (h ++ (x ∷ [])) ++ (y ∷ q) ≡ h ++ (x ∷ y ∷ q) = append_assoc h (x ∷ []) (y ∷ q) in
        let a = record_sized (h ++ (x ∷ [])) f in
        let b = record_sized (h ++ (x ∷ y ∷ q)) z in
        let l = lead_front (h ++ (x ∷ [])) (y ∷ q) a.0 in
        let m : lead_of ((h ++ (x ∷ [])) ++ (y ∷ q)) ≡ lead_of (h ++ (x ∷ y ∷ q)) = ap lead_of e in
        let n : length (h ++ (x ∷ y ∷ q)) ≡ length (h ++ (x ∷ [])) + length (y ∷ q) = ap length (sym e) ∙ length-append (h ++ (x ∷ [])) (y ∷ q) in
        absurd (omega (arith, a.1, b.1, l, m, n))

-- What is held from before stands in front.
pub split_held : (held s : List ℕ) → whole_of held ≡ 0 → split_from held s ≡ split_from [] (held ++ s)
split_held held s z = sym (split_append [] held s ∙ ap (λ (p : Split). followed p (split_from p.kept s)) (split_partial [] held z))

-- the first record of octets, and what follows it
pub split_next : (p s : List ℕ) → is_record p ≡ true → split_from [] (p ++ s) ≡ behind (drop 2 p) (split_from [] s)
split_next [] s e = absurd (omega (arith, (record_sized [] e).0))
split_next (x ∷ q) s e = split_append [] (x ∷ q) s ∙ ap (λ (p : Split). followed p (split_from p.kept s)) (split_record [] x q e)

-- what is kept has no whole record in front
more_partial : (held : List ℕ) (x : ℕ) → whole_of held ≡ 0 → is_record (held ++ (x ∷ [])) ≡ false → whole_of (held ++ (x ∷ [])) ≡ 0
more_partial held x z f = go (leb 2 (length (held ++ (x ∷ [])))) (leb (2 + lead_of (held ++ (x ∷ []))) (length (held ++ (x ∷ [])))) refl refl
  where
    go : (a b : Bool) → leb 2 (length (held ++ (x ∷ []))) ≡ a → leb (2 + lead_of (held ++ (x ∷ []))) (length (held ++ (x ∷ []))) ≡ b → whole_of (held ++ (x ∷ [])) ≡ 0
    go false b e g = whole_short (held ++ (x ∷ [])) e
    go true false e g = whole_cut (held ++ (x ∷ [])) g
    go true true e g =
        let h : 2 ≤ length (held ++ (x ∷ [])) = leb-true _ _ e in
        let k : 2 + lead_of (held ++ (x ∷ [])) ≤ length (held ++ (x ∷ [])) = leb-true _ _ g in
        let n : length (held ++ (x ∷ [])) ≡ length held + 1 = length-append held (x ∷ []) in
        absurd (apart h k n (λ (q : length (held ++ (x ∷ [])) ≡ 2 + lead_of (held ++ (x ∷ []))). differ (sized_record (held ++ (x ∷ [])) h q)))
      where
        differ : is_record (held ++ (x ∷ [])) ≡ true → ⊥
        differ t = let y : ◌≡◌ {A = ℕ} 0 1 = cc in omega arith

        apart : 2 ≤ length (held ++ (x ∷ [])) → 2 + lead_of (held ++ (x ∷ [])) ≤ length (held ++ (x ∷ [])) → length (held ++ (x ∷ [])) ≡ length held + 1
            → (length (held ++ (x ∷ [])) ≡ 2 + lead_of (held ++ (x ∷ [])) → ⊥) → ⊥
        apart h k n d = d (omega (arith, below))
          where
            below : length held ≤ 1 + lead_of (held ++ (x ∷ []))
            below = case_le (leb 2 (length held)) refl
              where
                case_le : (t : Bool) → leb 2 (length held) ≡ t → length held ≤ 1 + lead_of (held ++ (x ∷ []))
                case_le true u =
                    let two : 2 ≤ length held = leb-true _ _ u in
                    omega (arith, whole_not held two z, lead_front held (x ∷ []) two)
                case_le false u = let two : length held < 2 = leb-false _ _ u in omega arith

pub kept_partial : (held s : List ℕ) → whole_of held ≡ 0 → whole_of (split_from held s).kept ≡ 0
unfolding split_from
kept_partial held [] z = z
kept_partial held (x ∷ s) z = go (is_record (held ++ (x ∷ []))) refl (kept_partial [] s whole_none) (λ (y : whole_of (held ++ (x ∷ [])) ≡ 0). kept_partial (held ++ (x ∷ [])) s y)
  where
    whole_none : whole_of [] ≡ 0
    whole_none = whole_short [] refl

    go : (t : Bool) → is_record (held ++ (x ∷ [])) ≡ t → whole_of (split_from [] s).kept ≡ 0 → (whole_of (held ++ (x ∷ [])) ≡ 0 → whole_of (split_from (held ++ (x ∷ [])) s).kept ≡ 0)
        → whole_of (cond t (behind (drop 2 (held ++ (x ∷ []))) (split_from [] s)) (split_from (held ++ (x ∷ [])) s)).kept ≡ 0
    go true e p q = p
    go false e p q = q (more_partial held x z e)

-- where a record is at the front, its first `whole_of` octets are it
pub front_record : (s : List ℕ) → 0 < whole_of s → (whole_of s ≤ length s) × (2 ≤ whole_of s) × (is_record (take (whole_of s) s) ≡ true)
front_record s h = go (leb 2 (length s)) (leb (2 + lead_of s) (length s)) refl refl
  where
    go : (a b : Bool) → leb 2 (length s) ≡ a → leb (2 + lead_of s) (length s) ≡ b → (whole_of s ≤ length s) × (2 ≤ whole_of s) × (is_record (take (whole_of s) s) ≡ true)
    go false b e f = absurd (omega (arith, whole_short s e))
    go true false e f = absurd (omega (arith, whole_cut s f))
    go true true e f =
        let w : whole_of s ≡ 2 + lead_of s = whole_all s e f in
        let k : 2 + lead_of s ≤ length s = leb-true _ _ f in
        let n : length (take (whole_of s) s) ≡ whole_of s = length-take-le (whole_of s) s (omega arith) in
        let l : lead_of (take (whole_of s) s ++ drop (whole_of s) s) ≡ lead_of (take (whole_of s) s) = lead_front (take (whole_of s) s) (drop (whole_of s) s) (omega arith) in
        let m : lead_of (take (whole_of s) s ++ drop (whole_of s) s) ≡ lead_of s = ap lead_of (take-append-drop (whole_of s) s) in
        (omega arith, omega arith, sized_record (take (whole_of s) s) (omega arith) (omega (arith, n, l, m, w)))

-- so the first record is these octets without the two that lead it, and the others are those of what stands behind it
pub split_first : (s : List ℕ) → 0 < whole_of s → split_from [] s ≡ behind (drop 2 (take (whole_of s) s)) (split_from [] (drop (whole_of s) s))
split_first s h =
    ap (split_from []) (sym (take-append-drop (whole_of s) s)) ∙ split_next (take (whole_of s) s) (drop (whole_of s) s) (front_record s h).2

pub split_none : (s : List ℕ) → whole_of s ≡ 0 → split_from [] s ≡ keeping s
split_none s z = split_partial [] s z

-- a record has the two octets that lead it, and lies in the octets
pub whole_within : (s : List ℕ) → whole_of s ≤ length s
whole_within s = go (whole_of s) refl
  where
    go : (w : ℕ) → whole_of s ≡ w → whole_of s ≤ length s
    go zero e = omega arith
    go (suc w) e = (front_record s (omega arith)).0

pub whole_two : (s : List ℕ) → 0 < whole_of s → 2 ≤ whole_of s
whole_two s h = (front_record s h).1

-- Record after record: up to a place where nothing is held, and one more record; and where no record follows.
pub split_more : (s : List ℕ) (at : ℕ) → kept_of (take at s) ≡ [] → 0 < whole_of (drop at s)
    → split_from [] (take (at + whole_of (drop at s)) s) ≡ record { records = records_of (take at s) ++ (drop 2 (take (whole_of (drop at s)) (drop at s)) ∷ []); kept = [] }
unfolding split_from
split_more s at z h =
    let p = take (whole_of (drop at s)) (drop at s) in
    let one : split_from [] (p ++ []) ≡ behind (drop 2 p) (keeping []) = split_next p [] (front_record (drop at s) h).2 in
    ap (split_from []) (take-add at (whole_of (drop at s)) s)
    ∙ split_append [] (take at s) p
    ∙ ap (λ (k : List ℕ). followed (split_from [] (take at s)) (split_from k p)) z
    ∙ ap (λ (q : List ℕ). followed (split_from [] (take at s)) (split_from [] q)) (sym (append-nil p))
    ∙ ap (followed (split_from [] (take at s))) one

pub split_end : (s : List ℕ) (at : ℕ) → kept_of (take at s) ≡ [] → whole_of (drop at s) ≡ 0 → split_from [] s ≡ record { records = records_of (take at s); kept = drop at s }
split_end s at z h =
    ap (split_from []) (sym (take-append-drop at s))
    ∙ split_append [] (take at s) (drop at s)
    ∙ ap (λ (k : List ℕ). followed (split_from [] (take at s)) (split_from k (drop at s))) z
    ∙ ap (followed (split_from [] (take at s))) (split_none (drop at s) h)
    ∙ ap (λ (rs : List (List ℕ)). record { records = rs; kept = drop at s }) (append-nil (records_of (take at s)))

-- numbers that are octets wherever they stand
pub octets_of_lem : (s : List ℕ) → ((i : ℕ) → get_or s i 0 < 256) → Octets s
octets_of_lem [] h = tt
octets_of_lem (x ∷ s) h = (h 0, octets_of_lem s (λ (i : ℕ). h (suc i)))
