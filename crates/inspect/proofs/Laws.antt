-- One turn: nothing more where a write failed, the end of the input, or a piece.
use Prim.Native.Nat.{ℕ, zero, suc, ◌+◌, ◌-◌, ◌*◌, ◌≤◌, ◌<◌}
use mathlib.Core.Path.{◌≡◌, refl, sym, ap, ◌∙◌}
use mathlib.Core.Bool.{Bool, true, false, cond}
use Rattle.std.proofs.Common.{Continue}
use mathlib.Core.List.{List, [], ◌∷◌, ◌++◌}
use native.Mathlib.Omega.{arith}
use lib.ListN.{length, get_or, take, drop, length-append, length-take, length-drop}
use lib.Seq.{take_at, length-take-le, take-append-le}
use Rattle.option.specs.Option.{Octets}
use Rattle.text.specs.Put.{Puts}
use Rattle.text.specs.Line.{broken_line}
use Rattle.text.specs.Theorems.{Whole}
use Rattle.text.proofs.Laws.{put_length}
use Rattle.text.proofs.Theorems.{puts_whole}
use Rattle.stream.specs.declared.input.Window.{Window}
use Rattle.stream.specs.declared.place.Place.{Place}
use Rattle.stream.specs.Input.{held, held_count, HoldsPiece}
use Rattle.stream.specs.Place.{Answer, first_place, going_place, stopped_place, window_of, more_of, flushed, Flushes}
use Rattle.stream.proofs.Laws.{held_length, held_lying, held_none}
use Rattle.file_set.specs.declared.Set.{Set}
use Rattle.inspect_split.specs.Records.{whole_of, split_from, records_of, kept_of, lines_of, last_line}
use Rattle.inspect_split.proofs.Laws.{octets_of_lem}
use Rattle.inspect_split.proofs.Theorems.{splits, bounds}
use Rattle.inspect_line.specs.Lines.{record_line}
use Rattle.inspect_line.proofs.Held.{drop_take}
use Rattle.inspect_line.proofs.Theorems.{room}
use Rattle.inspect.specs.Turn.{waiting, Ends, Turns}

clash : true ≡ false → ⊥
clash e = let z : ◌≡◌ {A = ℕ} 0 1 = cc in omega arith

-- what stands from the front of a buffer on where all of it was put
put_front : (out after octets : List ℕ) (n : ℕ) → length octets ≤ length out → Puts out 0 octets after n → take n after ≡ octets
put_front out after octets n h p =
    let w = puts_whole out 0 octets after n (omega arith) p in
    let e : length octets ≡ n = omega (arith, w.place) in
    ap (take n) w.buffer ∙ take_at octets (drop (0 + length octets) out) n e

-- 1. The end of the input.

pub ends_clean : (out : List ℕ) (left : ℕ) → left ≡ 0 → Ends left out (stopped_place 0)
ends_clean out left e = record { more = refl; window = refl; clean = λ z. refl; cut = λ h. absurd (omega arith) }

pub ends_cut : (out after : List ℕ) (left n : ℕ) → (left ≡ 0 → ⊥) → length out ≡ 22528 → Puts out 0 broken_line after n → Ends left after (stopped_place n) × (length after ≡ 22528)
ends_cut out after left n h l p = (
  record { more = refl; window = refl; clean = λ z. absurd (h z); cut = λ z. put_front out after broken_line n (omega arith) p },
  ap length p.buffer ∙ put_length out 0 broken_line ∙ l,
)

-- 2. What is held: octets, no whole record in front, and so room for a piece behind them.

octets_take : (n : ℕ) (s : List ℕ) → Octets s → Octets (take n s)
octets_take zero s o = tt
octets_take (suc n) [] o = tt
octets_take (suc n) (x ∷ s) o = (o.0, octets_take n s o.1)

octets_drop : (n : ℕ) (s : List ℕ) → Octets s → Octets (drop n s)
octets_drop zero s o = o
octets_drop (suc n) [] o = tt
octets_drop (suc n) (x ∷ s) o = octets_drop n s o.1

none_held : (after : List ℕ) (w : Window) → w ≡ record { at = 0; end = 0 } → held after w ≡ []
none_held after w e = ap (held after) e ∙ held_none after

whole_none : whole_of [] ≡ 0
unfolding split_from
whole_none = splits.kept []

-- 3. The three ways of a turn.

module _ (s : Set) (rows before : List ℕ) (p : Place) where
  -- a window of which nothing is held leaves room
  nothing : (after : List ℕ) (w : Window) → length after ≡ 69632 → w ≡ record { at = 0; end = 0 } → (whole_of (held after w) ≡ 0) × (held_count after w + 4096 ≤ length after)
  nothing after w l e =
      (ap whole_of (none_held after w e) ∙ whole_none, omega (arith, sym (held_length after w) ∙ ap length (none_held after w e)))

  pub turn_unsent : (out : List ℕ) (r : Answer) → length before ≡ 69632 → length out ≡ 22528 → Flushes p r → more_of r ≡ false → Turns s rows before p before out r
  turn_unsent out r lb lo f h = go f.sent f.place
    where
      go : (b : Bool) → r ≡ flushed p b → Turns s rows before p before out r
      go true e = absurd (clash (sym (ap more_of e) ∙ h))
      go false e =
          let n = nothing before (window_of r) lb (ap window_of e) in
          record {
            sent = false;
            piece = [];
            short = omega arith;
            unsent = λ t. e;
            lines = λ t. absurd (clash (sym t));
            kept = λ t. absurd (clash (sym t));
            last = λ t. absurd (clash (sym t));
            sized = (lb, lo);
            partial = n.0;
            room = n.1;
          }

  -- a write that did not fail leaves the window as it was
  pub same_window : (f : Place) (r : Answer) → Flushes p r → r ≡ Continue f → f.window ≡ p.window
  same_window f r x h = go x.sent x.place
    where
      go : (b : Bool) → r ≡ flushed p b → f.window ≡ p.window
      go true e = ap window_of (sym h ∙ e)
      go false e = absurd (clash (ap more_of (sym h ∙ e)))

  left_over : (l : List ℕ) (out : List ℕ) (r : Answer) → Ends (length l) out r → waiting out r ≡ last_line broken_line l
  left_over [] out r e = e.clean refl
  left_over (x ∷ l) out r e = e.cut (omega arith)

  pub turn_ended : (w : Window) (after out : List ℕ) (v : Window) (r : Answer) → length before ≡ 69632 → w ≡ p.window → HoldsPiece before w 4096 after v → v.end ≤ v.at
      → Ends v.end out r → length out ≡ 22528 → Turns s rows before p after out r
  turn_ended w after out v r lb ew h k e lo =
      let la : length after ≡ 69632 = h.sized ∙ lb in
      let n = nothing after (window_of r) la e.window in
      let c : v.end ≡ length (held before p.window) = omega (arith, h.begins, h.inside.0, held_length before w, ap (λ (x : Window). length (held before x)) ew) in
      record {
        sent = true;
        piece = [];
        short = omega arith;
        unsent = λ t. absurd (clash t);
        lines = λ t z. absurd (omega arith);
        kept = λ t z. absurd (omega arith);
        last = λ t z. (e.more, left_over (held before p.window) out r (ap_ends c e));
        sized = (la, lo);
        partial = n.0;
        room = n.1;
      }
    where
      ap_ends : {a b : ℕ} → a ≡ b → Ends a out r → Ends b out r
      ap_ends {a} {b} q x = rw (sym q) x

  module _ (w : Window) (after out filled : List ℕ) (v : Window) (used place : ℕ)
      (lb : length before ≡ 69632) (lo : length out ≡ 22528) (z : whole_of (held before p.window) ≡ 0) (ew : w ≡ p.window)
      (h : HoldsPiece before w 4096 after v) (k : v.at < v.end) (octets : (i : ℕ) → get_or after i 0 < 256)
      (lines : Puts out 0 (lines_of (record_line s rows) (records_of (take v.end after))) filled place)
      (within : used ≤ length (take v.end after)) (kept : drop used (take v.end after) ≡ kept_of (take v.end after)) where
    abbrev came : List ℕ
    came = take (v.end - v.at) h.rest

    front_is : take v.end after ≡ held before p.window ++ came
    front_is =
        let n : length (held before w) ≡ v.at = held_length before w ∙ sym h.begins in
        let e : v.end ≡ v.at + (v.end - v.at) = omega arith in
        ap (take v.end) h.front ∙ take_past (held before w) h.rest v.end v.at n h.inside.0 ∙ ap (λ (x : Window). held before x ++ take (v.end - v.at) h.rest) ew
      where
        take_past : (a b : List ℕ) (n m : ℕ) → length a ≡ m → m ≤ n → take n (a ++ b) ≡ a ++ take (n - m) b
        take_past [] b n m e l = let q : n ≡ n - m = omega arith in ap (λ (x : ℕ). take x b) q
        take_past (x ∷ a) b zero m e l = absurd (omega arith)
        take_past (x ∷ a) b (suc n) m e l =
            let q : n - length a ≡ suc n - m = omega arith in
            ap (λ (y : List ℕ). x ∷ y) (take_past a b n (length a) refl (omega arith) ∙ ap (λ (y : ℕ). a ++ take y b) q)

    came_short : length came ≤ 4096
    came_short = omega (arith, length-take (v.end - v.at) h.rest, h.short)

    used_in : used ≤ v.end
    used_in = omega (arith, within, length-take-le v.end after h.inside.1)

    window_held : held after (record { at = used; end = v.end }) ≡ kept_of (held before p.window ++ came)
    window_held =
        held_lying after used v.end used_in h.inside.1
        ∙ sym (drop_take used v.end after)
        ∙ kept
        ∙ ap kept_of front_is

    lines_wait : take place filled ≡ lines_of (record_line s rows) (records_of (held before p.window ++ came))
    lines_wait =
        let n : length (lines_of (record_line s rows) (records_of (take v.end after))) ≤ length out
        = omega (arith, room.lines s rows (held before p.window) came z came_short, ap (λ (x : List ℕ). length (lines_of (record_line s rows) (records_of x))) front_is) in
        put_front out filled (lines_of (record_line s rows) (records_of (take v.end after))) place n lines
        ∙ ap (λ (x : List ℕ). lines_of (record_line s rows) (records_of x)) front_is

    partial_held : whole_of (held after (record { at = used; end = v.end })) ≡ 0
    partial_held = ap whole_of window_held ∙ splits.kept (held before p.window ++ came)

    room_behind_lem : held_count after (record { at = used; end = v.end }) + 4096 ≤ length after
    room_behind_lem =
        let o : Octets (held after (record { at = used; end = v.end })) = octets_held in
        omega (arith, h.sized, held_length after (record { at = used; end = v.end }), bounds.partial (held after (record { at = used; end = v.end })) o partial_held)
      where
        octets_held : Octets (held after (record { at = used; end = v.end }))
        octets_held =
            rw (held_lying after used v.end used_in h.inside.1) (octets_take (v.end - used) (drop used after) (octets_drop used after (octets_of_lem after octets)))

    pub turn_went : Turns s rows before p after filled (going_place (record { at = used; end = v.end }) place)
    turn_went =
        record {
          sent = true;
          piece = came;
          short = came_short;
          unsent = λ t. absurd (clash t);
          lines = λ t q. lines_wait;
          kept = λ t q. (refl, window_held);
          last = λ t q. absurd (some q);
          sized = (h.sized ∙ lb, ap length lines.buffer ∙ put_length out 0 _ ∙ lo);
          partial = partial_held;
          room = room_behind_lem;
        }
      where
        some : length came ≡ 0 → ⊥
        some q = omega (arith, length-take-le (v.end - v.at) h.rest behind)
          where
            behind : v.end - v.at ≤ length h.rest
            behind = omega (arith, ap length h.front, length-append (held before w) h.rest, held_length before w, h.begins, h.inside.1)

-- before the first turn nothing is held
pub begun : (input : List ℕ) (p : Place) → p ≡ first_place → whole_of (held input p.window) ≡ 0
begun input p e = ap whole_of (none_held input p.window (ap (λ (x : Place). x.window) e)) ∙ whole_none
