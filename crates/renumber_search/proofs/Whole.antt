-- Laws of the whole: the pieces cut, put in order and joined.
use mathlib.Core.Path.{◌≡◌, sym, ◌∙◌, ap}
use mathlib.Core.Bool.{true, false}
use mathlib.Core.List.{List, [], ◌++◌, append_assoc}
use Prim.Native.Nat.{ℕ, ◌+◌, ◌-◌, ◌/◌, ◌≤◌, min}
use native.Mathlib.Omega.{arith}
use lib.Dec.{leb}
use lib.ListN.{length, take, drop, length-map, length-take, length-append}
use lib.Seq.{take_at, drop_at, drop-append-le}
use borrow.Author.Tests.{leb-true}
use Rattle.std.specs.Prelude.{None, Some}
use Rattle.label.specs.declared.Run.{Run}
use Rattle.label.proofs.Bools.{and_left, and_right}
use Rattle.label_keys.specs.Keys.{key_runs}
use Rattle.lists_sort.specs.Order.{sort_keys}
use Rattle.lists_sort.proofs.Laws.{sort_length}
use Rattle.table.specs.declared.Row.{Row}
use Rattle.table.specs.Table.{rows_from}
use Rattle.table.proofs.Lent.{rows_length}
use Rattle.renumber_keys.specs.Stages.{join_all}
use Rattle.renumber_keys.proofs.Carrying.{all_few}
use Rattle.renumber_search.specs.Search.{cuts_from, room_for, over, searched_of, searched_keys}
use Rattle.renumber_search.specs.Stages.{AllCut, AllFail}

-- The test of the room, as it is made.
module _ (own : List ℕ) (n m : ℕ) (is : m ≡ min n (length own)) (rows : List ℕ) (room : ℕ) where
  pub room_is : room_for m (length rows / 3) room ≡ room_for (length (key_runs (take n own))) (length (rows_from rows)) room
  room_is =
      let a : length (key_runs (take n own)) ≡ m = rw (length-map, length-take) (sym is) in
      rw (a, rows_length rows)

  pub room_left : room_for m (length rows / 3) room ≡ true → length (take m own) + length (rows_from rows) ≤ room
  room_left e =
      let a : m ≤ room = leb-true _ _ (and_left (leb m room) _ e) in
      let b : length rows / 3 ≤ room - m = leb-true _ _ (and_right (leb m room) _ e) in
      omega (arith, rows_length rows, length-take m own)

-- a list that was written over another's head
pub head_taken : (xs out : List ℕ) (k : ℕ) → k ≡ length xs → take k (over xs out) ≡ xs
head_taken xs out k e = take_at xs (drop (length xs) out) k (sym e)

pub head_dropped : (xs out : List ℕ) (k : ℕ) → k ≡ length xs → drop k (over xs out) ≡ drop k out
head_dropped xs out k e = drop_at xs (drop (length xs) out) k (sym e) ∙ ap (λ (i : ℕ). drop i out) (sym e)

-- as many as before they were put in order
pub sorted_many : (xs : List ℕ) → length (sort_keys xs) ≡ length xs
sorted_many xs = sort_length [] xs ∙ omega arith

module _ (rows : List Row) (runs : List Run) (far : List ℕ) where
  pub no_room : room_for (length runs) (length rows) (length far) ≡ false → (None ≡ searched_of rows runs (length far)) × (far ≡ searched_keys rows runs far)
  unfolding searched_of searched_keys
  no_room e = (sym (rw e), sym (rw e))

  module _ (room : room_for (length runs) (length rows) (length far) ≡ true) (cut : List ℕ) where
    pub not_whole : AllFail (cuts_from rows 0 runs) far cut → (None ≡ searched_of rows runs (length far)) × (cut ≡ searched_keys rows runs far)
    unfolding searched_of searched_keys
    not_whole c = (sym (rw (room, c.fails)), c.written ∙ sym (rw (room, c.fails)))

    module _ (k : ℕ) (c : AllCut (cuts_from rows 0 runs) k far cut) where
      -- as many places as there are pieces
      pub cut_room : k ≤ length cut
      cut_room = omega (arith, c.many, ap length c.written, length-append (cuts_from rows 0 runs).keys (drop (length (cuts_from rows 0 runs).keys) far))

      module _ (front : List ℕ) (s : front ≡ sort_keys (take k cut)) where
        abbrev ks : List ℕ
        ks = (cuts_from rows 0 runs).keys

        many : k ≡ length (sort_keys ks)
        many = c.many ∙ sym (sorted_many ks)

        sorted_is : front ++ drop k cut ≡ over (sort_keys ks) far
        sorted_is =
            ap (λ (z : List ℕ). z ++ drop k cut) s
            ∙ ap (λ (z : List ℕ). sort_keys (take k z) ++ drop k z) c.written
            ∙ ap (λ (z : List ℕ). sort_keys z ++ drop k (over ks far)) (head_taken ks far k c.many)
            ∙ ap (λ (z : List ℕ). sort_keys ks ++ z) (head_dropped ks far k c.many ∙ ap (λ (i : ℕ). drop i far) many)

        taken_is : take k (front ++ drop k cut) ≡ sort_keys ks
        taken_is = ap (take k) sorted_is ∙ head_taken (sort_keys ks) far k many

        pub sorted_room : k ≤ length (front ++ drop k cut)
        sorted_room = omega (arith, many, ap length sorted_is, length-append (sort_keys ks) (drop (length (sort_keys ks)) far))

        -- joined within the part that was put in order
        joined_is : over (join_all (sort_keys ks)) (sort_keys ks) ++ drop k (over (sort_keys ks) far) ≡ over (join_all (sort_keys ks)) (over (sort_keys ks) far)
        joined_is =
            let j : List ℕ = join_all (sort_keys ks) in
            let rest : List ℕ = drop (length (sort_keys ks)) far in
            ap (λ (z : List ℕ). over j (sort_keys ks) ++ z) (head_dropped (sort_keys ks) far k many ∙ ap (λ (i : ℕ). drop i far) many)
            ∙ append_assoc j (drop (length j) (sort_keys ks)) rest
            ∙ ap (λ (z : List ℕ). j ++ z) (sym (drop-append-le (length j) (sort_keys ks) rest (all_few (sort_keys ks))))

        pub carried_whole : (count : ℕ) (joined : List ℕ) → count ≡ length (join_all (take k (front ++ drop k cut)))
            → joined ≡ over (join_all (take k (front ++ drop k cut))) (take k (front ++ drop k cut))
            → (Some count ≡ searched_of rows runs (length far)) × (joined ++ drop k (front ++ drop k cut) ≡ searched_keys rows runs far)
        unfolding searched_of searched_keys
        carried_whole count joined e f = (
          ap Some (e ∙ ap (λ (z : List ℕ). length (join_all z)) taken_is) ∙ sym (rw (room, c.whole)),
          ap (λ (z : List ℕ). z ++ drop k (front ++ drop k cut)) (f ∙ ap (λ (z : List ℕ). over (join_all z) z) taken_is)
              ∙ ap (λ (z : List ℕ). over (join_all (sort_keys ks)) (sort_keys ks) ++ drop k z) sorted_is
              ∙ joined_is
              ∙ sym (rw (room, c.whole)),
        )
