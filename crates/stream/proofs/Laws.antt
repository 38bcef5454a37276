-- Laws of the input's window and of places.
use Rattle.std.proofs.Common.{ℕ, suc, ◌+◌, ◌-◌, ◌≤◌, ◌<◌, ◌≡◌, refl, sym, ap, ◌∙◌, Bool, true, false, cond, ◌&&◌, List, [], ◌++◌, arith, Continue}
use borrow.Author.Tests.{leb-true, le-leb}
use lib.Dec.{leb}
use lib.ListN.{length, take, drop, length-take, length-drop, take-append-drop}
use lib.Seq.{take_at, length-take-le}
use Rattle.std.specs.List.{copy_within}
use Rattle.stream.specs.declared.input.Window.{Window}
use Rattle.stream.specs.declared.place.Place.{Place}
use Rattle.stream.specs.Input.{lying, held_count, held, Holds, HoldsPiece}
use Rattle.stream.specs.Place.{Answer, going_place, stopped_place, waiting_of, flushed, Flushes, Spares, Feeds}

-- a window in its buffer, as `lie` answers it
module _ (xs : List ℕ) (w v : Window) (lies : v ≡ lying (length xs) w) (inside : (v.at ≤ v.end) × (v.end ≤ length xs)) where
  pub held_count_lem : held_count xs w ≡ v.end - v.at
  unfolding held_count
  held_count_lem = rw lies

  held_is : held xs w ≡ take (v.end - v.at) (drop v.at xs)
  unfolding held held_count
  held_is = rw lies

  pub holds_enough : (n : ℕ) → n ≤ v.end - v.at → Holds xs w n xs v
  holds_enough n h =
      record {
        rest = [];
        sized = refl;
        inside = inside;
        enough = λ k. (refl, lies);
        front = λ k. absurd (omega (arith, held_count_lem));
        first = λ k. absurd (omega (arith, held_count_lem));
      }

  pub holds_read : (n : ℕ) (ys zs : List ℕ) (last : ℕ) → v.end - v.at < n → ys ≡ copy_within xs v.at v.end 0 → length ys ≡ length xs
      → v.end - v.at ≤ last → last ≤ length zs → length zs ≡ length ys → take (v.end - v.at) zs ≡ take (v.end - v.at) ys
      → Holds xs w n zs (record { at = 0; end = last })
  holds_read n ys zs last h m l a b e t =
      let k = v.end - v.at in
      let f : length (take k (drop v.at xs)) ≡ k = simp (length-take, length-drop) (omega arith) in
      let g : take k zs ≡ take k (drop v.at xs) = t ∙ ap (take k) m ∙ take_at (take k (drop v.at xs)) (drop (0 + k) xs) k f in
      record {
        rest = drop k zs;
        sized = e ∙ l;
        inside = (omega arith, b);
        enough = λ q. absurd (omega (arith, held_count_lem));
        front = λ q. sym (take-append-drop k zs) ∙ ap (λ (z : List ℕ). z ++ drop k zs) (g ∙ sym held_is);
        first = λ q. (refl, omega (arith, held_count_lem));
      }

  -- a piece behind what is held
  pub holds_piece : (most : ℕ) (ys zs : List ℕ) (got : ℕ) → ys ≡ copy_within xs v.at v.end 0 → length ys ≡ length xs
      → v.end - v.at + got ≤ length zs → got ≤ most → length zs ≡ length ys → take (v.end - v.at) zs ≡ take (v.end - v.at) ys
      → HoldsPiece xs w most zs (record { at = v.end - v.at; end = v.end - v.at + got })
  holds_piece most ys zs got m l b g e t =
      let h = holds_read (suc (v.end - v.at)) ys zs (v.end - v.at + got) (omega arith) m l (omega arith) b e t in
      let k : held_count xs w < suc (v.end - v.at) = omega (arith, held_count_lem) in
      record {
        rest = h.rest;
        sized = h.sized;
        front = h.front k;
        begins = sym held_count_lem;
        inside = (omega arith, b);
        short = omega arith;
      }

-- what a place comes to
module _ (xs : List ℕ) (p : Place) (v : Window) (lies : v ≡ lying (length xs) p.window) (inside : (v.at ≤ v.end) × (v.end ≤ length xs)) where
  pub feeds_enough : (n : ℕ) → n ≤ v.end - v.at → Feeds xs p n xs (going_place v p.waiting)
  feeds_enough n h =
      record {
        sent = true;
        sized = refl;
        inside = inside;
        enough = λ k. (refl, ap (λ (u : Window). going_place u p.waiting) lies);
        unsent = λ k. absurd (omega (arith, held_count_lem xs p.window v lies inside));
        fed = λ k. absurd (omega (arith, held_count_lem xs p.window v lies inside));
      }

  pub feeds_unsent : (n : ℕ) → v.end - v.at < n → Feeds xs p n xs (stopped_place 0)
  feeds_unsent n h =
      record {
        sent = false;
        sized = refl;
        inside = (omega arith, omega arith);
        enough = λ k. absurd (omega (arith, held_count_lem xs p.window v lies inside));
        unsent = λ k e. (refl, refl);
        fed = λ k e. absurd (let z : ◌≡◌ {A = ℕ} 0 1 = cc in omega arith);
      }

  pub feeds_read : (n : ℕ) (ys : List ℕ) (u : Window) → v.end - v.at < n → Holds xs p.window n ys u → Feeds xs p n ys (going_place u 0)
  feeds_read n ys u h r =
      record {
        sent = true;
        sized = r.sized;
        inside = r.inside;
        enough = λ k. absurd (omega (arith, held_count_lem xs p.window v lies inside));
        unsent = λ k e. absurd (let z : ◌≡◌ {A = ℕ} 0 1 = cc in omega arith);
        fed = λ k e. (r, refl, refl);
      }

flushed_waiting : (p : Place) (sent : Bool) → waiting_of (flushed p sent) ≡ 0
flushed_waiting p true = refl
flushed_waiting p false = refl

pub spares_fits : (out : List ℕ) (p : Place) (room : ℕ) → p.waiting + room ≤ length out → Spares out p room (Continue p)
spares_fits out p room h = record { sent = true; fits = λ k. refl; full = λ k. absurd (omega arith); spare = λ k. h }

pub spares_full : (out : List ℕ) (p : Place) (room : ℕ) (r : Answer) → length out < p.waiting + room → Flushes p r → Spares out p room r
spares_full out p room r h f =
    let e : waiting_of r ≡ 0 = ap waiting_of f.place ∙ flushed_waiting p f.sent in
    record { sent = f.sent; fits = λ k. absurd (omega arith); full = λ k. f.place; spare = λ k. omega arith }

-- as many octets are held as the window has
pub held_length : (xs : List ℕ) (w : Window) → length (held xs w) ≡ held_count xs w
unfolding held held_count lying
held_length xs w = go (leb w.at w.end) (leb w.end (length xs)) refl refl
  where
    go : (a b : Bool) → leb w.at w.end ≡ a → leb w.end (length xs) ≡ b
        → length (take ((cond (a && b) w (record { at = 0; end = 0 })).end - (cond (a && b) w (record { at = 0; end = 0 })).at) (drop (cond (a && b) w (record { at = 0; end = 0 })).at xs))
        ≡ (cond (a && b) w (record { at = 0; end = 0 })).end - (cond (a && b) w (record { at = 0; end = 0 })).at
    go true true e f =
        let h : w.end ≤ length xs = leb-true _ _ f in
        length-take-le (w.end - w.at) (drop w.at xs) (omega (arith, length-drop w.at xs))
    go true false e f = refl
    go false b e f = refl

-- a window that lies in its buffer
pub held_lying : (xs : List ℕ) (at end : ℕ) → at ≤ end → end ≤ length xs → held xs (record { at = at; end = end }) ≡ take (end - at) (drop at xs)
unfolding held held_count lying
held_lying xs at end h k = rw (le-leb at end h, le-leb end (length xs) k)

-- nothing is held of an empty window
pub held_none : (xs : List ℕ) → held xs (record { at = 0; end = 0 }) ≡ []
held_none xs = held_lying xs 0 0 (omega arith) (omega arith)
