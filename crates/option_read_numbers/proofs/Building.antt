-- One law for every reader: what a piece does to the keys under construction. The runs are those of `push_run`, in their places.
use Prim.Native.Nat.{ℕ, suc, ◌+◌, ◌-◌, ◌*◌, ◌≤◌, ◌<◌}
use mathlib.Core.Path.{◌≡◌, refl, ap, sym, ◌∙◌}
use mathlib.Core.List.{List, [], ◌∷◌, ◌++◌, map, map-append, append_assoc}
use mathlib.Core.Bool.{Bool, true, false, ◌&&◌, cond}
use lib.ListN.{length, set, get_or, drop, length-append, length-map, length-set}
use lib.Seq.{set-append_seam}
use lib.Dec.{ltb, eqb}
use native.Mathlib.Omega.{arith}
use borrow.Author.Tests.{lt-ltb, eq-eqb, eqb-true, eqb-false, ltb-true}
use Rattle.label.specs.declared.Run.{Run}
use Rattle.label.specs.Runs.{run, push_run, top_of}
use Rattle.label_keys.specs.Keys.{run_key}
use Rattle.label.proofs.Bools.{and_left, and_right, not_yes}
use Rattle.label.proofs.Canon.{Below}
use Rattle.label_keys.proofs.Keys.{front_store}
use Rattle.label.proofs.Push.{push_some}
use Rattle.option_read_numbers.specs.declared.Last.{Last}
use Rattle.option_read_numbers.specs.Stages.{last_low, last_of, after_piece, touches_last, count_after, keys_after_number}
use Rattle.option_read_numbers.specs.Numbers.{at_front}

-- The last run of a list.

low_snoc : (xs : List Run) (r : Run) → last_low (xs ++ r ∷ []) ≡ r.low
low_snoc [] r = refl
low_snoc (x ∷ []) r = refl
low_snoc (x ∷ y ∷ xs) r = low_snoc (y ∷ xs) r

top_snoc : (xs : List Run) (r : Run) → top_of (xs ++ r ∷ []) ≡ r.high + 1
top_snoc [] r = refl
top_snoc (x ∷ []) r = refl
top_snoc (x ∷ y ∷ xs) r = top_snoc (y ∷ xs) r

-- A piece joins the last run, or is one run more.
pub data Pushed (rs : List Run) (l h : ℕ) : List Run → Type 0 where
  joins : (xs : List Run) (r : Run) → rs ≡ xs ++ r ∷ [] → r.high + 1 ≡ l → Pushed rs l h (xs ++ run r.low h ∷ [])
  adds : (0 < length rs → top_of rs ≡ l → ⊥) → Pushed rs l h (rs ++ run l h ∷ [])

pub pushed : (rs : List Run) (l h : ℕ) → Pushed rs l h (push_run rs l h)
pushed [] l h = adds (λ n e. absurd (omega arith))
pushed (r ∷ []) l h = go (eqb (r.high + 1) l) refl
  where
    go : (t : Bool) → eqb (r.high + 1) l ≡ t → Pushed (r ∷ []) l h (cond t (run r.low h ∷ []) (r ∷ run l h ∷ []))
    go true e = joins [] r refl (eqb-true _ _ e)
    go false e = adds (λ n q. eqb-false _ _ e q)
pushed (r ∷ s ∷ rs) l h = lift (push_run (s ∷ rs) l h) (pushed (s ∷ rs) l h)
  where
    lift : (ps : List Run) → Pushed (s ∷ rs) l h ps → Pushed (r ∷ s ∷ rs) l h (r ∷ ps)
    lift ps (joins xs q e t) = joins (r ∷ xs) q (ap (λ (z : List Run). r ∷ z) e) t
    lift ps (adds n) = adds (λ m e. n (omega arith) e)

-- What is remembered of the last run is so after the piece.
pub piece_last : (rs : List Run) (l h : ℕ) → after_piece (last_of rs) l h ≡ last_of (push_run rs l h)
piece_last rs l h = go (push_run rs l h) (pushed rs l h)
  where
    go : (ps : List Run) → Pushed rs l h ps → after_piece (last_of rs) l h ≡ last_of ps
    go ps (joins xs r e t) =
        let n : length rs ≡ length xs + 1 = ap length e ∙ length-append xs (r ∷ []) in
        let m : length (xs ++ run r.low h ∷ []) ≡ length xs + 1 = length-append xs (run r.low h ∷ []) in
        let top : top_of rs ≡ l = ap top_of e ∙ top_snoc xs r ∙ t in
        let low : last_low rs ≡ r.low = ap last_low e ∙ low_snoc xs r in
        rw (lt-ltb 0 (length rs) (omega arith), eq-eqb (top_of rs) l top)
        (λ i. record { count = (n ∙ sym m) i; low = (low ∙ sym (low_snoc xs (run r.low h))) i; next = sym (top_snoc xs (run r.low h)) i })
    go ps (adds no_touch) =
        let test : (ltb 0 (length rs) && eqb (top_of rs) l) ≡ false = not_yes _ (λ q. no_touch (ltb-true _ _ (and_left (ltb 0 (length rs)) _ q)) (eqb-true _ _ (and_right (ltb 0 (length rs)) _ q))) in
        rw test
        (λ i. record { count = sym (length-append rs (run l h ∷ [])) i; low = sym (low_snoc rs (run l h)) i; next = sym (top_snoc rs (run l h)) i })

-- The store at the last key in use, or after it.
pub piece_stored : (rs : List Run) (l h : ℕ) (was : List ℕ) → length (push_run rs l h) ≤ length was
    → set (at_front (map run_key rs) was) (length (push_run rs l h) - 1) (run_key (run (last_low (push_run rs l h)) h)) ≡ at_front (map run_key (push_run rs l h)) was
piece_stored rs l h was = go (push_run rs l h) (pushed rs l h)
  where
    go : (ps : List Run) → Pushed rs l h ps → length ps ≤ length was
        → set (at_front (map run_key rs) was) (length ps - 1) (run_key (run (last_low ps) h)) ≡ at_front (map run_key ps) was
    go ps (joins xs r e t) k =
        let y : Run = run r.low h in
        let ks : List ℕ = map run_key xs in
        let m : length (xs ++ y ∷ []) ≡ length xs + 1 = length-append xs (y ∷ []) in
        let n : length (map run_key (xs ++ r ∷ [])) ≡ length (map run_key (xs ++ y ∷ [])) =
        length-map (xs ++ r ∷ []) run_key ∙ length-append xs (r ∷ []) ∙ sym m ∙ sym (length-map (xs ++ y ∷ []) run_key) in
        let at : length (xs ++ y ∷ []) - 1 ≡ length ks = omega (arith, length-map xs run_key) in
        let zs : List ℕ = drop (length (map run_key (xs ++ y ∷ []))) was in
        rw (e, n, at, low_snoc xs y)
        (ap (λ (z : List ℕ). set (z ++ zs) (length ks) (run_key y)) (map-append run_key xs (r ∷ []))
        ∙ ap (λ (z : List ℕ). set z (length ks) (run_key y)) (append_assoc ks (run_key r ∷ []) zs)
        ∙ set-append_seam ks (run_key r) zs (run_key y)
        ∙ sym (append_assoc ks (run_key y ∷ []) zs)
        ∙ ap (λ (z : List ℕ). z ++ zs) (sym (map-append run_key xs (y ∷ []))))
    go ps (adds no_touch) k =
        let m : length (rs ++ run l h ∷ []) ≡ length rs + 1 = length-append rs (run l h ∷ []) in
        let at : length (rs ++ run l h ∷ []) - 1 ≡ length (map run_key rs) = omega (arith, length-map rs run_key) in
        rw (at, low_snoc rs (run l h), map-append run_key rs (run l h ∷ [])) (front_store (map run_key rs) was (run_key (run l h)) (omega (arith, length-map rs run_key)))

-- a piece below a limit leaves the runs below it
push_limit : (n l h : ℕ) (rs : List Run) → h < n → Below n rs → Below n (push_run rs l h)
push_limit n l h [] k b = (k, tt)
push_limit n l h (r ∷ []) k b = go (eqb (r.high + 1) l)
  where
    go : (t : Bool) → Below n (cond t (run r.low h ∷ []) (r ∷ run l h ∷ []))
    go true = (k, tt)
    go false = (b.0, (k, tt))
push_limit n l h (r ∷ s ∷ rs) k b = (b.0, push_limit n l h (s ∷ rs) k b.1)

-- Keys under construction, and what is remembered of the last run.
pub record Stands (was : List ℕ) (rs : List Run) (keys : List ℕ) (last : Last) : Type 0 where
  pub keys_are : keys ≡ at_front (map run_key rs) was
  pub last_is : last ≡ last_of rs
  pub small : Below 65536 rs

pub stands_nil : (was : List ℕ) → Stands was [] was (record { count = 0; low = 0; next = 0 })
stands_nil was = record { keys_are = refl; last_is = refl; small = tt }

pub stands_count : {was keys : List ℕ} {rs : List Run} {last : Last} → Stands was rs keys last → last.count ≡ length rs
stands_count s = ap (λ (x : Last). x.count) s.last_is

pub stands_next : {was keys : List ℕ} {rs : List Run} {last : Last} → Stands was rs keys last → last.next ≡ top_of rs
stands_next s = ap (λ (x : Last). x.next) s.last_is

-- what the code does with a piece
module _ {was keys : List ℕ} {rs : List Run} {last : Last} (s : Stands was rs keys last) (l h : ℕ) (after : Last) (e : after ≡ after_piece last l h) where
  pub piece_is : after ≡ last_of (push_run rs l h)
  piece_is = e ∙ ap (λ (x : Last). after_piece x l h) s.last_is ∙ piece_last rs l h

  pub piece_count : after.count ≡ length (push_run rs l h)
  piece_count = ap (λ (x : Last). x.count) piece_is

  pub piece_some : 0 < after.count
  piece_some = omega (arith, piece_count, push_some l h rs)

  pub stands_push : length (push_run rs l h) ≤ length was → h < 65536 → (key : ℕ) → key ≡ run_key (run after.low h)
      → Stands was (push_run rs l h) (set keys (after.count - 1) key) after
  stands_push k b key q =
      record {
        keys_are = rw (s.keys_are, q, piece_is) (piece_stored rs l h was k);
        last_is = piece_is;
        small = push_limit 65536 l h rs b s.small;
      }

-- Tag 2: the runs are known by their keys; of the last one only the category after it is remembered.

pub touch_some : (count next x : ℕ) → touches_last count next x ≡ true → (0 < count) × (next ≡ x)
touch_some count next x q = (ltb-true _ _ (and_left (ltb 0 count) _ q), eqb-true _ _ (and_right (ltb 0 count) _ q))

-- the low that is not remembered is none above it
pub record Numbered (was : List ℕ) (rs : List Run) (keys : List ℕ) (count next : ℕ) : Type 0 where
  pub stands : Stands was rs keys (record { count = count; low = last_low rs; next = next })
  pub ordered : last_low rs ≤ next

pub numbered_nil : (was : List ℕ) → Numbered was [] was 0 0
numbered_nil was = record { stands = stands_nil was; ordered = omega arith }

-- the last key: its run's low, and the high before the next category
last_key : (rs : List Run) (zs : List ℕ) → 0 < length rs → get_or (map run_key rs ++ zs) (length rs - 1) 0 + 1 ≡ last_low rs * 65536 + top_of rs
last_key [] zs h = absurd (omega arith)
last_key (r ∷ []) zs h = omega arith
last_key (r ∷ s ∷ rs) zs h = let n : length (r ∷ s ∷ rs) - 1 ≡ suc (length (s ∷ rs) - 1) = omega arith in rw n (last_key (s ∷ rs) zs (omega arith))

module _ {was keys : List ℕ} {rs : List Run} {count next : ℕ} (t : Numbered was rs keys count next) where
  last_key_is : 0 < count → get_or keys (count - 1) 0 + 1 ≡ last_low rs * 65536 + next
  last_key_is h = rw (t.stands.keys_are, stands_count t.stands, stands_next t.stands) (last_key rs (drop (length (map run_key rs)) was) (omega (arith, stands_count t.stands)))

  -- it has room for one category more
  pub last_key_most : 0 < count → next < 65536 → get_or keys (count - 1) 0 < 4294967295
  last_key_most h b = omega (arith, last_key_is h, t.ordered)

  module _ (x : ℕ) (room : length (push_run rs x x) ≤ length was) (small : x < 65536) where
    grown : (n l key : ℕ) → ◌≡◌ {A = Last} (record { count = n; low = l; next = x + 1 }) (after_piece (record { count = count; low = last_low rs; next = next }) x x)
        → key ≡ run_key (run l x) → l ≤ x → Numbered was (push_run rs x x) (set keys (n - 1) key) n (x + 1)
    grown n l key e q h =
        let after : Last = record { count = n; low = l; next = x + 1 } in
        let low : l ≡ last_low (push_run rs x x) = ap (λ (z : Last). z.low) (piece_is t.stands x x after e) in
        record { stands = rw (← low) (stands_push t.stands x x after e room small key q); ordered = omega arith }

    pub number_push : (r : ℕ) → r ≡ count_after count next x → (keys' : List ℕ) → keys' ≡ keys_after_number keys count next x → Numbered was (push_run rs x x) keys' r (x + 1)
    number_push r e keys' f = go (touches_last count next x) refl e f
      where
        go : (b : Bool) → touches_last count next x ≡ b → r ≡ cond b count (count + 1)
            → keys' ≡ cond b (set keys (count - 1) (get_or keys (count - 1) 0 + 1)) (set keys count (run_key (run x x))) → Numbered was (push_run rs x x) keys' r (x + 1)
        go true q a k =
            let some = touch_some count next x q in
            let key : get_or keys (count - 1) 0 + 1 ≡ run_key (run (last_low rs) x) = last_key_is some.0 ∙ ap (λ (z : ℕ). last_low rs * 65536 + z) some.1 in
            rw (a, k) (grown count (last_low rs) _ (rw q) key (omega (arith, t.ordered, some.1)))
        go false q a k =
            let at : count + 1 - 1 ≡ count = omega arith in
            rw (a, k) (rw at at (grown (count + 1) x _ (rw q) refl (omega arith)))

-- no number makes the list longer
pub number_length : (keys keys' : List ℕ) (count next x : ℕ) → keys' ≡ keys_after_number keys count next x → length keys' ≡ length keys
number_length keys keys' count next x = go (touches_last count next x)
  where
    go : (b : Bool) → keys' ≡ cond b (set keys (count - 1) (get_or keys (count - 1) 0 + 1)) (set keys count (run_key (run x x))) → length keys' ≡ length keys
    go true e = rw e (simp length-set)
    go false e = rw e (simp length-set)
