-- The theorems of `specs/Theorems.antt`.
use Prim.Native.Nat.{ℕ, ◌+◌, ◌-◌, ◌%◌, ◌≤◌}
use mathlib.Core.Path.{◌≡◌, refl, sym, ap, subst, ◌∙◌}
use mathlib.Core.Bool.{Bool, true, false}
use mathlib.Core.List.{List, []}
use mathlib.Core.Option.{none, some}
use native.Mathlib.Omega.{arith}
use borrow.Author.Tests.{le-ltb, eq-eqb}
use lib.ListN.{length, get_or, take, replicate, length-append, length-replicate, get_or-append}
use lib.Seq.{take-append_seam}
use Rattle.std.specs.Prelude.{Ok, Err, Some, None}
use Rattle.area.specs.Kinds.{Place, Walk, places, fault}
use Rattle.area.specs.Area.{bad_area, Met, met_from, met_of, judged, walk_of, open_walk, option_at}
use Rattle.area.proofs.Front.{zeros_met, label_first}
use Rattle.area.proofs.Open.{open_refused, open_alike}
use Rattle.area_leaving.specs.Kept.{round_up}
use Rattle.option.specs.Option.{good_body, valid}
use Rattle.option.proofs.Meaning.{parts, valid_most}
use Rattle.message_reply.specs.Copied.{Reply, copy}
use Rattle.message_reply.specs.Reply.{reply_of, padded, replied, reply_area}
use Rattle.message_reply.specs.Theorems.{Bars, broken, invalid, Carries, unlabelled, labelled, Replies}
use Rattle.message_reply.specs.Examples.{WorkedReplies}
use Rattle.message_reply.proofs.Laws.{reply_refused, reply_sound}

pub padded_length : (o : List ℕ) → length (padded o) ≡ round_up (length o)
padded_length o = rw (length-append, length-replicate) (omega arith)

-- what the area of the reply is, by what is copied
pub area_by : (area : List ℕ) (r : Reply) → reply_of area ≡ r → reply_area area ≡ replied r area
unfolding reply_area
area_by area r e = ap (λ (x : Reply). replied x area) e

module _ (area : List ℕ) where
  bare_is : (basic : Place) → open_walk area ≡ Ok (places None basic) → reply_area area ≡ some []
  bare_is basic e = area_by area (Some (copy 0 0)) (reply_sound area None basic e)

  copied_is : (at : ℕ) (basic : Place) → open_walk area ≡ Ok (places (Some at) basic) → valid (option_at at area) ≡ true → reply_area area ≡ some (padded (option_at at area))
  copied_is at basic e v = area_by area (Some (copy at (get_or area (at + 1) 0))) (reply_sound area (Some at) basic e ∙ rw v)

  invalid_is : (at : ℕ) (basic : Place) → open_walk area ≡ Ok (places (Some at) basic) → valid (option_at at area) ≡ false → reply_area area ≡ none
  invalid_is at basic e v = area_by area None (reply_sound area (Some at) basic e ∙ rw v)

  broken_is : (number at : ℕ) → open_walk area ≡ Err (fault number at) → reply_area area ≡ none
  broken_is number at e = area_by area None (reply_refused area number at e)

  sent : (x : List ℕ) → reply_area area ≡ some x → reply_area area ≡ none → ⊥
  sent x e f = let z : ◌≡◌ {A = ℕ} 0 1 = cc in omega arith

  bars : reply_area area ≡ none → Bars area
  bars n = go (open_walk area) refl
    where
      by : (at : ℕ) (basic : Place) (b : Bool) → valid (option_at at area) ≡ b → open_walk area ≡ Ok (places (Some at) basic) → Bars area
      by at basic true v e = absurd (sent (padded (option_at at area)) (copied_is at basic e v) n)
      by at basic false v e = invalid at basic e v

      placed : (label basic : Place) → open_walk area ≡ Ok (places label basic) → Bars area
      placed None basic e = absurd (sent [] (bare_is basic e) n)
      placed (Some at) basic e = by at basic (valid (option_at at area)) refl e

      go : (w : Walk) → open_walk area ≡ w → Bars area
      go (Err r) e = broken r.number r.at e
      go (Ok w) e = placed w.label w.basic e

  barring : Bars area → reply_area area ≡ none
  barring (broken number at e) = broken_is number at e
  barring (invalid at basic e v) = invalid_is at basic e v

-- The area of a reply with the header's option in it.
module _ (o : List ℕ) (v : valid o ≡ true) where
  abbrev behind : ℕ
  behind = round_up (length o) - length o

  walk_is : (on : Bool) → walk_of on (padded o) ≡ Ok (places (Some 0) None)
  walk_is on =
      let p = parts o v in
      label_first on o (replicate behind 0) p.kind p.size (omega (arith, p.long))
      ∙ ap (λ (ms : List Met). judged on false ms (Some 0) None) (zeros_met behind (length o))

  first_is : option_at 0 (padded o) ≡ o
  first_is =
      let p = parts o v in
      let n : get_or (padded o) 1 0 ≡ length o = get_or-append o (replicate behind 0) 0 1 (omega (arith, p.long)) ∙ p.size in
      ap (λ (i : ℕ). take i (padded o)) n ∙ take-append_seam o (replicate behind 0)

  size_is : bad_area (padded o) ≡ false
  size_is =
      let l : length (padded o) ≡ round_up (length o) = padded_length o in
      let m : length o ≤ 40 = valid_most o v in
      let a : length (padded o) % 4 ≡ 0 = rw l (omega arith) in
      rw (le-ltb 40 (length (padded o)) (omega arith), eq-eqb (length (padded o) % 4) 0 a)

module _ (area reply : List ℕ) (e : reply_area area ≡ some reply) where
  same : (x : List ℕ) → reply_area area ≡ some x → x ≡ reply
  same x f = let k : some x ≡ some reply = sym f ∙ e in cc

  -- by the walk of the header's area
  by_walk : (P : List ℕ → Type 0) → ((basic : Place) → open_walk area ≡ Ok (places None basic) → P [])
      → ((at : ℕ) (basic : Place) → open_walk area ≡ Ok (places (Some at) basic) → valid (option_at at area) ≡ true → P (padded (option_at at area))) → P reply
  by_walk P none_there one_there = go (open_walk area) refl
    where
      by : (at : ℕ) (basic : Place) (b : Bool) → valid (option_at at area) ≡ b → open_walk area ≡ Ok (places (Some at) basic) → P reply
      by at basic true v w = subst P (same (padded (option_at at area)) (copied_is area at basic w v)) (one_there at basic w v)
      by at basic false v w = absurd (sent area reply e (invalid_is area at basic w v))

      placed : (label basic : Place) → open_walk area ≡ Ok (places label basic) → P reply
      placed None basic w = subst P (same [] (bare_is area basic w)) (none_there basic w)
      placed (Some at) basic w = by at basic (valid (option_at at area)) refl w

      go : (w : Walk) → open_walk area ≡ w → P reply
      go (Err r) w = absurd (sent area reply e (broken_is area r.number r.at w))
      go (Ok m) w = placed m.label m.basic w

  sized_is : bad_area reply ≡ false
  sized_is = by_walk (λ (x : List ℕ). bad_area x ≡ false) (λ basic w. refl) (λ at basic w v. size_is (option_at at area) v)

  carries_is : Carries area reply
  unfolding walk_of met_of met_from
  carries_is =
      by_walk (Carries area) (λ basic w. unlabelled basic w (λ on. refl))
      (λ at basic w v. labelled at basic w v (λ on. walk_is (option_at at area) v on) (first_is (option_at at area) v))

pub replies : Replies
replies =
    record {
      barred = λ area. (bars area, barring area);
      bare = bare_is;
      copied = copied_is;
      sized = sized_is;
      carries = carries_is;
      numbers = open_refused;
      alike = open_alike;
    }

pub worked : WorkedReplies
unfolding met_from met_of open_walk reply_of reply_area good_body valid
worked = refl
