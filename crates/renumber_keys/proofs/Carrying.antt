-- Laws of carrying, for a caller: what is answered of a sound table and a label's runs, and what the lent list then holds.
use mathlib.Core.Path.{◌≡◌, refl, sym, ◌∙◌, ap}
use mathlib.Core.Bool.{Bool, true, false, cond, ◌&&◌, and-false, and_assoc, true≢false}
use mathlib.Core.List.{List, [], ◌∷◌, ◌++◌, map}
use mathlib.Core.Logic.{◌↔◌}
use Prim.Native.Nat.{ℕ, suc, ◌+◌, ◌*◌, ◌/◌, ◌%◌, ◌≤◌, ◌<◌}
use native.Mathlib.Omega.{arith}
use lib.Dec.{leb}
use lib.ListN.{length, take, drop, get_or, length-map, length-append, length-drop, take-append-drop}
use lib.Seq.{length-take-le, take_at, take_all}
use borrow.Author.Tests.{le-leb, lt-leb, leb-true}
use Rattle.std.specs.Prelude.{None, Some, Ok, Err, is_ok}
use Rattle.std.specs.Option.{is_some}
use Rattle.label.specs.declared.Run.{Run}
use Rattle.label.specs.declared.Label.{Label}
use Rattle.label.specs.Runs.{spaced}
use Rattle.label.specs.Label.{used, well_formed}
use Rattle.label_keys.specs.Keys.{key_run, key_runs, run_key}
use Rattle.label.proofs.Bools.{never, and_left, and_right}
use Rattle.label.proofs.Labels.{formed, used_length}
use Rattle.label_keys.proofs.Keys.{keys_runs}
use Rattle.table.specs.declared.Row.{Row}
use Rattle.table.specs.Table.{Lent, no_row, used_rows, bare_sound, table_sound, rising, targets_apart}
use Rattle.table_levels.specs.Levels.{Partner, pairs_sound, partner_of, known, level_or0, sound_partner}
use Rattle.table.specs.Numbers.{numbered, in_image}
use Rattle.table.specs.Order.{row_order, row_at, in_order}
use Rattle.table.proofs.Order.{order_turn, order_length, sound_bare}
use Rattle.table.proofs.Sound.{sound, sound_rows}
use Rattle.renumber_keys.specs.declared.Carried.{Carried}
use Rattle.renumber_keys.specs.declared.CarryError.{CarryError}
use Rattle.renumber_keys.specs.declared.CarryError.TheVariants.{Unsound, NoNumber}
use Rattle.renumber_keys.specs.Sets.{runs_of}
use Rattle.renumber_keys.specs.Carry.{CarryAnswer, image_of, label_runs, carried_as, carried_to, carried_keys, carry_of}
use Rattle.renumber_keys.specs.Stages.{join_from, join_all, join_onto, row_pieces, pieces, Cut, parts_of, Inside, Joined, carried_by}
use Rattle.label_ranges.specs.Ranges.{stretched}
use Rattle.renumber_keys.proofs.Sets.{set_spaced}
use Rattle.renumber_keys.proofs.Pass.{numbered_yes}
use Rattle.renumber_keys.proofs.Join.{onto_all}
use Rattle.renumber_keys.proofs.Pieces.{gathered_runs, order_few}

-- A label's runs.
pub record LabelRuns (rs : List Run) : Type 0 where
  pub few : length rs ≤ 120
  pub gaps : spaced 0 rs ≡ true

pub runs_label : (rs : List Run) → label_runs rs ≡ true → LabelRuns rs
unfolding label_runs
runs_label rs e = record { few = leb-true _ _ (and_left (leb (length rs) 120) _ e); gaps = and_right (leb (length rs) 120) _ e }

pub label_runs_lem : (l : Label) → well_formed l ≡ true → label_runs (used l) ≡ true
unfolding label_runs
label_runs_lem l w =
    let f = formed l w in
    simp (le-leb (length (used l)) 120 (omega (arith, used_length l f, f.held)), f.runs)

-- What is answered.
module _ (rs : List Run) (v : ℕ) (t : Lent) (ls : List (List ℕ)) (room : ℕ) where
  pub carry_checked : table_sound t ls ≡ true → label_runs rs ≡ true → 120 + t.count ≤ room
      → carry_of rs v t ls room ≡ carried_to (partner_of (take t.pairs ls) v) (numbered (used_rows t) rs) (image_of t rs)
  unfolding carry_of
  carry_checked s f h = simp (s, f, le-leb (120 + t.count) room h)

  pub carry_unsound : table_sound t ls ≡ false → carry_of rs v t ls room ≡ Err Unsound
  unfolding carry_of
  carry_unsound s = simp s

  -- what was found of the level pairs says as much
  pub by_pairs : (p : Partner) → Some p ≡ sound_partner ls t.pairs v → carried_by p rs t room ≡ carry_of rs v t ls room
  unfolding carry_of carried_by
  by_pairs p k = go (pairs_sound ls t.pairs) refl k
    where
      go : (b : Bool) → pairs_sound ls t.pairs ≡ b → Some p ≡ cond b (Some (partner_of (take t.pairs ls) v)) None → carried_by p rs t room ≡ carry_of rs v t ls room
      go true q k =
          let e : table_sound t ls ≡ bare_sound t = sound_bare t ls ∙ rw q in
          let f : p ≡ partner_of (take t.pairs ls) v = cc in
          rw (e, f)
      go false q k = absurd (true≢false (ap is_some k))

  pub no_pairs : None ≡ sound_partner ls t.pairs v → Err Unsound ≡ carry_of rs v t ls room
  no_pairs k = go (pairs_sound ls t.pairs) refl k
    where
      go : (b : Bool) → pairs_sound ls t.pairs ≡ b → None ≡ cond b (Some (partner_of (take t.pairs ls) v)) None → Err Unsound ≡ carry_of rs v t ls room
      go true q k = absurd (true≢false (sym (ap is_some k)))
      go false q k = sym (carry_unsound (sound_bare t ls ∙ rw q))

module _ (p : Partner) (rs : List Run) (t : Lent) (room : ℕ) where
  pub by_checked : bare_sound t ≡ true → label_runs rs ≡ true → 120 + t.count ≤ room → carried_by p rs t room ≡ carried_to p (numbered (used_rows t) rs) (image_of t rs)
  unfolding carried_by
  by_checked s f h = simp (s, f, le-leb (120 + t.count) room h)

  pub by_short : room < 120 + t.count → Err Unsound ≡ carried_by p rs t room
  unfolding carried_by
  by_short h = sym (simp (lt-leb (120 + t.count) room h, and-false))

  -- the first two tests, as they are made
  module _ (a b : Bool) (y : a ≡ bare_sound t) (z : b ≡ label_runs rs) where
    pub by_refused : (a && b) ≡ false → Err Unsound ≡ carried_by p rs t room
    unfolding carried_by
    by_refused e = sym (rw (← y, ← z, ← and_assoc a b (leb (120 + t.count) room), e))

    pub by_passed : (a && b) ≡ true → (bare_sound t ≡ true) × (label_runs rs ≡ true)
    by_passed e = (sym y ∙ and_left a _ e, sym z ∙ and_right a _ e)

module _ (p : Partner) (whole : Bool) (image : List Run) where
  pub carried_yes : (known p && whole) ≡ true → carried_to p whole image ≡ carried_as (level_or0 p) (length image)
  unfolding carried_to
  carried_yes e = rw e

  pub carried_no : (known p && whole) ≡ false → carried_to p whole image ≡ Err NoNumber
  unfolding carried_to
  carried_no e = rw e

  -- the ways to these two
  pub carried_missing : p ≡ None → Err NoNumber ≡ carried_to p whole image
  unfolding carried_to
  carried_missing e = sym (rw e)

  pub carried_unnumbered : whole ≡ false → Err NoNumber ≡ carried_to p whole image
  carried_unnumbered e = sym (carried_no (rw (e, and-false)))

  pub carried_found : (v count : ℕ) → p ≡ Some v → whole ≡ true → count ≡ length image → carried_as v count ≡ carried_to p whole image
  unfolding carried_to
  carried_found v count e w n = sym (rw (e, w, n))

  carried_never_two : carried_to p whole image ≡ Err Unsound → ⊥
  unfolding carried_to
  carried_never_two = go (known p && whole)
    where
      go : (b : Bool) → cond b (carried_as (level_or0 p) (length image)) (Err NoNumber) ≡ Err Unsound → ⊥
      go true e = true≢false (ap is_ok e)
      go false e = let z : ◌≡◌ {A = ℕ} 0 1 = cc in omega arith

-- 2 tells of the table alone, where the runs are a label's and the list is long enough
pub carry_two : (rs : List Run) (v : ℕ) (t : Lent) (ls : List (List ℕ)) (room : ℕ) → label_runs rs ≡ true → 120 + t.count ≤ room
    → (carry_of rs v t ls room ≡ Err Unsound) ↔ (table_sound t ls ≡ false)
carry_two rs v t ls room f h = (go (table_sound t ls) refl, carry_unsound rs v t ls room)
  where
    go : (b : Bool) → table_sound t ls ≡ b → carry_of rs v t ls room ≡ Err Unsound → b ≡ false
    go true s e =
        absurd (carried_never_two (partner_of (take t.pairs ls) v) (numbered (used_rows t) rs) (image_of t rs) (sym (carry_checked rs v t ls room s f h) ∙ e))
    go false s e = refl

-- What the list holds.
module _ (image : List Run) (far : List ℕ) where
  pub carried_keys_lem : (c : CarryAnswer) (d : Carried) → c ≡ Ok d → carried_keys c image far ≡ map run_key image ++ drop (length image) far
  unfolding carried_keys
  carried_keys_lem c d e = rw e

  pub refused_same : (e : CarryError) → far ≡ carried_keys (Err e) image far
  unfolding carried_keys
  refused_same e = refl

  -- of no run no key is written
  pub none_written : (d : Carried) → image ≡ [] → far ≡ carried_keys (Ok d) image far
  unfolding carried_keys
  none_written d z = sym (rw z)

  pub carried_runs : (c : CarryAnswer) (d : Carried) → c ≡ Ok d → spaced 0 image ≡ true → key_runs (take (length image) (carried_keys c image far)) ≡ image
  carried_runs c d e s =
      ap (λ (z : List ℕ). key_runs (take (length image) z)) (carried_keys_lem c d e)
      ∙ ap key_runs (take_at (map run_key image) (drop (length image) far) (length image) (length-map image run_key))
      ∙ keys_runs 0 image s

  pub carried_length : (c : CarryAnswer) → length image ≤ length far → length (carried_keys c image far) ≡ length far
  unfolding carried_keys
  carried_length (Ok d) h = length-append (map run_key image) (drop (length image) far) ∙ omega (arith, length-map image run_key, length-drop (length image) far)
  carried_length (Err e) h = refl

-- The numbers of a set.
pub image_spaced : (t : Lent) (rs : List Run) → spaced 0 (image_of t rs) ≡ true
image_spaced t rs = set_spaced (in_image (used_rows t) rs)

join_few : (k : ℕ) (ks : List ℕ) → length (join_from k ks) ≤ length ks + 1
join_few k [] = omega arith
join_few k (x ∷ xs) = go (leb (x / 65536) (k % 65536 + 1)) (join_few (stretched k x) xs) (join_few x xs)
  where
    go : (b : Bool) → length (join_from (stretched k x) xs) ≤ length xs + 1 → length (join_from x xs) ≤ length xs + 1
        → length (cond b (join_from (stretched k x) xs) (k ∷ join_from x xs)) ≤ length (x ∷ xs) + 1
    go true p q = omega arith
    go false p q = omega arith

pub all_few : (ks : List ℕ) → length (join_all ks) ≤ length ks
all_few [] = omega arith
all_few (k ∷ ks) = omega (arith, join_few k ks)

pub pieces_none : (rs : List Row) → pieces rs [] ≡ []
pieces_none [] = refl
pieces_none (r ∷ rs) = pieces_none rs

-- No run has no number, and lacks none.
pub none_numbered : (rows : List Row) → numbered rows [] ≡ true
none_numbered rows = numbered_yes rows [] (λ c e. absurd (never (sym e)))

pub none_image : (rows : List Row) → length rows ≤ 65536 → rising 0 rows ≡ true → targets_apart rows ≡ true → runs_of (in_image rows []) ≡ []
none_image rows few e a = sym (gathered_runs rows [] few e a refl) ∙ ap (λ (z : List ℕ). key_runs (join_onto [] z)) (pieces_none (in_order rows))

-- The pieces of the rows in the order of their targets, joined: what both passes have written.
pub record Gathered (rows : List Row) (runs : List Run) (was : List ℕ) (count : ℕ) (keys : List ℕ) : Type 0 where
  pub held : count ≤ 120 + length rows
  pub joined : take count keys ≡ join_onto [] (pieces (in_order rows) runs)
  pub rest : drop count keys ≡ drop count was

parts_pieces : (rows : List Row) (runs : List Run) (start cut : List ℕ)
    → ((q : ℕ) → q < length rows → drop (get_or start q 0) (take (get_or start (q + 1) 0) cut) ≡ row_pieces (get_or rows q no_row) runs)
    → (ks : List ℕ) → ((k : ℕ) → k < length ks → get_or ks k 0 % 65536 < length rows) → parts_of ks start cut ≡ pieces (map (row_at rows) ks) runs
parts_pieces rows runs start cut each [] there = refl
parts_pieces rows runs start cut each (x ∷ ks) there = rw (each (x % 65536) (there 0 (omega arith)), parts_pieces rows runs start cut each ks (λ k h. there (suc k) (omega arith)))

module _ (rows : List Row) (runs : List Run) (cut start : List ℕ) (few : length rows ≤ 1024) (e : rising 0 rows ≡ true) (c : Cut rows runs true cut start) (m : ℕ) (order : List ℕ) (along : take m order ≡ row_order rows) where
  place : (k : ℕ) → k < length (row_order rows) → get_or (row_order rows) k 0 % 65536 < length rows
  place k l =
      (order_turn rows (length rows) (row_order rows) k (omega arith) e (take_all (length rows) (row_order rows) (omega (arith, order_length rows))) refl (omega (arith, order_length rows))).place

  pub parts_are : parts_of (take m order) start cut ≡ pieces (in_order rows) runs
  parts_are = rw along (parts_pieces rows runs start cut (c.each refl) (row_order rows) place)

  pub parts_inside : length rows < length start → Inside (take m order) start cut
  parts_inside h = rw along (λ k l. (omega (arith, place k l), c.inside refl (get_or (row_order rows) k 0 % 65536) (place k l)))

  module _ (s : spaced 0 runs ≡ true) (n : length runs ≤ 120) where
    pub parts_few : length (parts_of (take m order) start cut) ≤ 120 + length rows
    parts_few = omega (arith, ap length parts_are, order_few rows runs (omega arith) e s)

    pub gathered_of : (was : List ℕ) (count : ℕ) (keys : List ℕ) → Joined (parts_of (take m order) start cut) was count keys → Gathered rows runs was count keys
    gathered_of was count keys j = record { held = omega (arith, j.few, parts_few); joined = j.joined ∙ ap (join_onto []) parts_are; rest = j.rest }

-- the keys of the runs that keys stand for are these
pub there_back : (ks : List ℕ) → map run_key (key_runs ks) ≡ ks
there_back [] = refl
there_back (k ∷ ks) = let z : k / 65536 * 65536 + k % 65536 ≡ k = omega arith in λ i. z i ∷ there_back ks i

-- Rows that rise, with targets apart, and spaced runs.
module _ (rows : List Row) (runs : List Run) (few : length rows ≤ 65536) (e : rising 0 rows ≡ true) (a : targets_apart rows ≡ true) (s : spaced 0 runs ≡ true) where
  image_length : length (runs_of (in_image rows runs)) ≡ length (join_onto [] (pieces (in_order rows) runs))
  image_length = ap length (sym (gathered_runs rows runs few e a s)) ∙ length-map (join_onto [] (pieces (in_order rows) runs)) key_run

  image_bound : length (runs_of (in_image rows runs)) ≤ length rows + length runs
  image_bound = omega (arith, image_length, ap length (onto_all (pieces (in_order rows) runs)), all_few (pieces (in_order rows) runs), order_few rows runs few e s)

  module _ (was : List ℕ) (count : ℕ) (keys : List ℕ) (g : Gathered rows runs was count keys) (room : 120 + length rows ≤ length keys) where
    -- the keys that were gathered are those of the image
    gathered_keys : take count keys ≡ map run_key (runs_of (in_image rows runs))
    gathered_keys = g.joined ∙ sym (there_back (join_onto [] (pieces (in_order rows) runs))) ∙ ap (map run_key) (gathered_runs rows runs few e a s)

    pub gathered_count : count ≡ length (runs_of (in_image rows runs))
    gathered_count = sym (length-take-le count keys (omega (arith, g.held))) ∙ ap length gathered_keys ∙ length-map (runs_of (in_image rows runs)) run_key

    pub gathered_list : keys ≡ map run_key (runs_of (in_image rows runs)) ++ drop (length (runs_of (in_image rows runs))) was
    gathered_list =
        sym (take-append-drop count keys)
        ∙ ap (λ (z : List ℕ). z ++ drop count keys) gathered_keys
        ∙ ap (λ (z : List ℕ). map run_key (runs_of (in_image rows runs)) ++ z) (g.rest ∙ ap (λ (z : ℕ). drop z was) gathered_count)

pub image_few : (t : Lent) (ls : List (List ℕ)) (rs : List Run) → table_sound t ls ≡ true → label_runs rs ≡ true → length (image_of t rs) ≤ 120 + t.count
image_few t ls rs s f =
    let g = sound t ls s in
    let k = sound_rows t g.rows in
    let r = runs_label rs f in
    omega (arith, g.counted, g.rows_held, r.few, image_bound (used_rows t) rs (omega (arith, g.counted, g.rows_held)) k.rise k.apart r.gaps)
