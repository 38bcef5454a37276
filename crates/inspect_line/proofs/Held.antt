-- The lines of what is held, record after record.
use Prim.Native.Nat.{ℕ, zero, suc, ◌+◌, ◌-◌, ◌*◌, ◌≤◌, ◌<◌}
use mathlib.Core.Path.{◌≡◌, refl, sym, ap, ◌∙◌}
use mathlib.Core.List.{List, [], ◌∷◌, ◌++◌, append_assoc, append-nil}
use native.Mathlib.Omega.{arith}
use lib.ListN.{length, take, drop, length-drop}
use lib.Seq.{drop-drop, take-nil}
use Rattle.text.specs.declared.Line.{Line}
use Rattle.text.specs.Put.{Writes}
use Rattle.text.proofs.Laws.{writes_then, writes_none}
use Rattle.inspect_split.specs.Records.{whole_of, Split, split_from, records_of, kept_of, lines_of}
use Rattle.inspect_split.proofs.Laws.{whole_within, whole_two, split_more, split_end}
use Rattle.file_set.specs.declared.Set.{Set}
use Rattle.inspect_line.specs.Lines.{record_line, Inspects}

-- up to the place `at` nothing is held, and the lines of the records before it are put
pub record Going (line : List ℕ → List ℕ) (held : List ℕ) (before out : Line) (at size : ℕ) : Type 0 where
  pub lines : Writes before (lines_of line (records_of (take at held))) out
  pub clean : kept_of (take at held) ≡ []
  pub next : size ≡ whole_of (drop at held)

lines_append : (line : List ℕ → List ℕ) (a : List (List ℕ)) (r : List ℕ) → lines_of line (a ++ (r ∷ [])) ≡ lines_of line a ++ line r
lines_append line [] r = append-nil (line r)
lines_append line (x ∷ a) r = ap (λ (l : List ℕ). line x ++ l) (lines_append line a r) ∙ sym (append_assoc (line x) (lines_of line a) (line r))

pub drop_take : (n m : ℕ) (s : List ℕ) → drop n (take m s) ≡ take (m - n) (drop n s)
drop_take zero m s = let e : m ≡ m - 0 = omega arith in ap (λ (k : ℕ). take k s) e
drop_take (suc n) zero s = let e : 0 ≡ 0 - suc n = omega arith in ap (λ (k : ℕ). take k (drop (suc n) s)) e
drop_take (suc n) (suc m) [] = sym (take-nil (suc m - suc n))
drop_take (suc n) (suc m) (x ∷ s) = let e : m - n ≡ suc m - suc n = omega arith in drop_take n m s ∙ ap (λ (k : ℕ). take k (drop n s)) e

-- a size is 0, or has the two octets that lead the record: in one sum
pub sized : (s : List ℕ) (w : ℕ) → w ≡ whole_of s → 2 ≤ w + 2 * (1 - w)
sized s zero e = omega arith
sized s (suc w) e = let h : 0 < whole_of s = omega arith in omega (arith, whole_two s h)

pub inside : (s : List ℕ) (at w : ℕ) → at ≤ length s → w ≡ whole_of (drop at s) → at + w ≤ length s
inside s at w h e = omega (arith, whole_within (drop at s), length-drop at s)

pub start : (line : List ℕ → List ℕ) (held : List ℕ) (out : Line) (size : ℕ) → size ≡ whole_of held → Going line held out out 0 size
unfolding split_from
start line held out size e = record { lines = writes_none; clean = refl; next = e }

pub more : (line : List ℕ → List ℕ) (held : List ℕ) (before out : Line) (at size : ℕ) (after : Line) (size' : ℕ)
    → Going line held before out at size → 0 < size
    → Writes out (line (take (at + size - (at + 2)) (drop (at + 2) held))) after
    → size' ≡ whole_of (drop (at + size) held)
    → Going line held before after (at + size) size'
more line held before out at size after size' g h p e =
    let h' : 0 < whole_of (drop at held) = omega (arith, g.next) in
    let two : 2 ≤ whole_of (drop at held) = whole_two (drop at held) h' in
    let w = split_more held at g.clean h' in
    let q : at + size ≡ at + whole_of (drop at held) = ap (λ (i : ℕ). at + i) g.next in
    let d : at + size - (at + 2) ≡ whole_of (drop at held) - 2 = omega (arith, g.next) in
    let r : drop 2 (take (whole_of (drop at held)) (drop at held)) ≡ take (at + size - (at + 2)) (drop (at + 2) held)
    = drop_take 2 (whole_of (drop at held)) (drop at held) ∙ ap (take (whole_of (drop at held) - 2)) (drop-drop 2 at held) ∙ ap (λ (i : ℕ). take i (drop (at + 2) held)) (sym d) in
    let rs : records_of (take (at + size) held) ≡ records_of (take at held) ++ (take (at + size - (at + 2)) (drop (at + 2) held) ∷ [])
    = ap (λ (i : ℕ). records_of (take i held)) q ∙ ap (λ (x : Split). x.records) w ∙ ap (λ (x : List ℕ). records_of (take at held) ++ (x ∷ [])) r in
    let ls : lines_of line (records_of (take (at + size) held)) ≡ lines_of line (records_of (take at held)) ++ line (take (at + size - (at + 2)) (drop (at + 2) held))
    = ap (lines_of line) rs ∙ lines_append line (records_of (take at held)) (take (at + size - (at + 2)) (drop (at + 2) held)) in
    record {
      lines = rw ls (writes_then g.lines p);
      clean = ap (λ (i : ℕ). kept_of (take i held)) q ∙ ap (λ (x : Split). x.kept) w;
      next = e;
    }

pub done : (s : Set) (rows held : List ℕ) (before out : Line) (at size : ℕ) → Going (record_line s rows) held before out at size → size ≡ 0 → at ≤ length held
    → Inspects s rows held before out at
done s rows held before out at size g z h =
    let e = split_end held at g.clean (sym g.next ∙ z) in
    record {
      lines = rw (ap (λ (x : Split). lines_of (record_line s rows) x.records) e) g.lines;
      within = h;
      kept = sym (ap (λ (x : Split). x.kept) e);
    }
