-- The theorems of `specs/Theorems.antt`.
use Prim.Native.Nat.{ℕ, suc, ◌+◌, ◌*◌, ◌/◌, ◌%◌, ◌≤◌, ◌<◌}
use mathlib.Core.Path.{◌≡◌, refl, sym, ap, ◌∙◌}
use mathlib.Core.Bool.{Bool, true, false, cond}
use mathlib.Core.List.{List, [], ◌∷◌, ◌++◌, append_assoc, append-nil}
use native.Mathlib.Omega.{arith}
use lib.ListN.{length, drop, length-append}
use Rattle.inspect_split.specs.Records.{lead_of, whole_of, is_record, Split, behind, split_from, kept_of, followed, split_pieces, joined_pieces, printed_by, framed, joined}
use borrow.Author.Tests.{leb-true, leb-false}
use lib.Dec.{leb}
use Rattle.option.specs.Option.{Octets}
use Rattle.inspect_split.specs.Theorems.{Splits, Cuts, Bounds}
use Rattle.inspect_split.proofs.Laws.{record_sized, sized_record, whole_short, whole_not, split_append, split_held, split_next, split_none, kept_partial}

whole_none : whole_of [] ≡ 0
whole_none = whole_short [] refl

-- 1. However the input is cut.

two_pieces : (a b : List ℕ) → split_from [] (a ++ b) ≡ followed (split_from [] a) (split_from [] (kept_of a ++ b))
two_pieces a b = split_append [] a b ∙ ap (followed (split_from [] a)) (split_held (kept_of a) b (kept_partial [] a whole_none))

pub pieces_from : (held : List ℕ) (ps : List (List ℕ)) → whole_of held ≡ 0 → split_pieces held ps ≡ split_from [] (held ++ joined_pieces ps)
pieces_from held [] z = sym (rw append-nil (split_none held z))
pieces_from held (p ∷ ps) z =
    ap (followed (split_from [] (held ++ p))) (pieces_from (kept_of (held ++ p)) ps (kept_partial [] (held ++ p) whole_none))
    ∙ sym (two_pieces (held ++ p) (joined_pieces ps))
    ∙ ap (split_from []) (append_assoc held p (joined_pieces ps))

pub cuts : Cuts
cuts =
    record {
      two = two_pieces;
      any = λ (ps : List (List ℕ)). pieces_from [] ps whole_none;
      lines = λ (line : List ℕ → List ℕ) (broken : List ℕ) (ps : List (List ℕ)). ap (printed_by line broken) (pieces_from [] ps whole_none);
    }

-- 2. What the records are.

framed_record : (r : List ℕ) → is_record (framed r) ≡ true
framed_record r = sized_record (framed r) (omega arith) (omega arith)

found_again : (rs : List (List ℕ)) (k : List ℕ) → whole_of k ≡ 0 → split_from [] (joined rs ++ k) ≡ record { records = rs; kept = k }
found_again [] k z = split_none k z
found_again (r ∷ rs) k z =
    ap (split_from []) (append_assoc (framed r) (joined rs) k) ∙ split_next (framed r) (joined rs ++ k) (framed_record r) ∙ ap (behind r) (found_again rs k z)

-- a record of octets, without those that lead it, framed again
framed_again : (p : List ℕ) → Octets p → is_record p ≡ true → framed (drop 2 p) ≡ p
framed_again [] o e = absurd (omega (arith, (record_sized [] e).0))
framed_again (a ∷ []) o e = absurd (omega (arith, (record_sized (a ∷ []) e).0))
framed_again (a ∷ b ∷ r) o e =
    let n : length r ≡ a * 256 + b = omega (arith, (record_sized (a ∷ b ∷ r) e).1) in
    let l : b < 256 = o.1.0 in
    let high : length r / 256 ≡ a = omega arith in
    let low : length r % 256 ≡ b = omega arith in
    ap (λ (h : ℕ). h ∷ (length r % 256) ∷ r) high ∙ ap (λ (h : ℕ). a ∷ h ∷ r) low

octets_more : (p : List ℕ) (x : ℕ) → Octets p → x < 256 → Octets (p ++ (x ∷ []))
octets_more [] x o h = (h, tt)
octets_more (y ∷ p) x o h = (o.0, octets_more p x o.1 h)

same_from : (held s : List ℕ) → Octets held → Octets s → joined (split_from held s).records ++ (split_from held s).kept ≡ held ++ s
unfolding split_from
same_from held [] oh os = sym (append-nil held)
same_from held (x ∷ s) oh os =
    go (is_record (held ++ (x ∷ []))) refl (same_from [] s tt os.1) (same_from (held ++ (x ∷ [])) s (octets_more held x oh os.0) os.1)
  where
    go : (t : Bool) → is_record (held ++ (x ∷ [])) ≡ t
        → joined (split_from [] s).records ++ (split_from [] s).kept ≡ s
        → joined (split_from (held ++ (x ∷ [])) s).records ++ (split_from (held ++ (x ∷ [])) s).kept ≡ (held ++ (x ∷ [])) ++ s
        → joined (cond t (behind (drop 2 (held ++ (x ∷ []))) (split_from [] s)) (split_from (held ++ (x ∷ [])) s)).records
        ++ (cond t (behind (drop 2 (held ++ (x ∷ []))) (split_from [] s)) (split_from (held ++ (x ∷ [])) s)).kept ≡ held ++ (x ∷ s)
    go true e p q =
        append_assoc (framed (drop 2 (held ++ (x ∷ [])))) (joined (split_from [] s).records) (split_from [] s).kept
        ∙ ap (λ (l : List ℕ). framed (drop 2 (held ++ (x ∷ []))) ++ l) p
        ∙ ap (λ (l : List ℕ). l ++ s) (framed_again (held ++ (x ∷ [])) (octets_more held x oh os.0) e)
        ∙ append_assoc held (x ∷ []) s
    go false e p q = q ∙ append_assoc held (x ∷ []) s

pub splits : Splits
splits =
    record {
      same = λ (s : List ℕ) (o : Octets s). same_from [] s tt o;
      kept = λ (s : List ℕ). kept_partial [] s whole_none;
      found = λ (rs : List (List ℕ)) (k : List ℕ) (z : whole_of k ≡ 0). (ap (λ (p : Split). p.records) (found_again rs k z), ap (λ (p : Split). p.kept) (found_again rs k z));
    }

-- 3. How much is kept.

octets_kept : (held s : List ℕ) → Octets held → Octets s → Octets (split_from held s).kept
unfolding split_from
octets_kept held [] oh os = oh
octets_kept held (x ∷ s) oh os = go (is_record (held ++ (x ∷ []))) (octets_kept [] s tt os.1) (octets_kept (held ++ (x ∷ [])) s (octets_more held x oh os.0) os.1)
  where
    go : (t : Bool) → Octets (split_from [] s).kept → Octets (split_from (held ++ (x ∷ [])) s).kept
        → Octets (cond t (behind (drop 2 (held ++ (x ∷ []))) (split_from [] s)) (split_from (held ++ (x ∷ [])) s)).kept
    go true p q = p
    go false p q = q

lead_small : (k : List ℕ) → Octets k → lead_of k ≤ 65535
lead_small [] o = omega arith
lead_small (a ∷ []) o = let l : a < 256 = o.0 in omega arith
lead_small (a ∷ b ∷ k) o = let l : a < 256 = o.0 in let m : b < 256 = o.1.0 in omega arith

partial_short : (k : List ℕ) → Octets k → whole_of k ≡ 0 → length k ≤ 65536
partial_short k o z = go (leb 2 (length k)) refl
  where
    go : (t : Bool) → leb 2 (length k) ≡ t → length k ≤ 65536
    go true e = let h : 2 ≤ length k = leb-true _ _ e in omega (arith, whole_not k h z, lead_small k o)
    go false e = let h : length k < 2 = leb-false _ _ e in omega arith

-- 4. How many records there are.

-- each record has two octets
records_all : (held s : List ℕ) → 2 * length (split_from held s).records ≤ length held + length s
unfolding split_from
records_all held [] = omega arith
records_all held (x ∷ s) = go (is_record (held ++ (x ∷ []))) refl (records_all [] s) (records_all (held ++ (x ∷ [])) s)
  where
    go : (t : Bool) → is_record (held ++ (x ∷ [])) ≡ t → 2 * length (split_from [] s).records ≤ 0 + length s
        → 2 * length (split_from (held ++ (x ∷ [])) s).records ≤ length (held ++ (x ∷ [])) + length s
        → 2 * length (cond t (behind (drop 2 (held ++ (x ∷ []))) (split_from [] s)) (split_from (held ++ (x ∷ [])) s)).records ≤ length held + suc (length s)
    go true e p q = omega (arith, (record_sized (held ++ (x ∷ [])) e).0, length-append held (x ∷ []))
    go false e p q = omega (arith, length-append held (x ∷ []))

-- of those behind what is held the first ends with an octet, and all others have two
records_behind : (held s : List ℕ) → 2 * length (split_from held s).records ≤ length s + 1
unfolding split_from
records_behind held [] = omega arith
records_behind held (x ∷ s) = go (is_record (held ++ (x ∷ []))) (records_all [] s) (records_behind (held ++ (x ∷ [])) s)
  where
    go : (t : Bool) → 2 * length (split_from [] s).records ≤ 0 + length s → 2 * length (split_from (held ++ (x ∷ [])) s).records ≤ length s + 1
        → 2 * length (cond t (behind (drop 2 (held ++ (x ∷ []))) (split_from [] s)) (split_from (held ++ (x ∷ [])) s)).records ≤ suc (length s) + 1
    go true p q = omega arith
    go false p q = omega arith

pub bounds : Bounds
bounds =
    record {
      partial = partial_short;
      kept = λ (s : List ℕ) (o : Octets s). partial_short (kept_of s) (octets_kept [] s tt o) (kept_partial [] s whole_none);
      records = λ (held piece : List ℕ) (z : whole_of held ≡ 0).
          omega (arith, records_behind held piece, ap (λ (p : Split). length p.records) (split_held held piece z));
    }
