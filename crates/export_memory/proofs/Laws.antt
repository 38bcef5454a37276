-- What a call on lent numbers comes to where the list is too short, and where it is not.
use Prim.Native.Nat.{ℕ, ◌≤◌, ◌<◌}
use Rattle.std.proofs.Common.{⊎_elim}
use Rattle.std.proofs.lemmas.Bool.{cases_lt}
use mathlib.Core.Path.{◌≡◌, refl, ap, ◌∙◌}
use mathlib.Core.Bool.{Bool, false}
use mathlib.Core.List.{List, ◌++◌}
use borrow.Author.Tests.{le-ltb, lt-ltb}
use lib.ListN.{length, drop}
use Rattle.memory.specs.declared.Memory.{Memory}
use Rattle.memory.specs.declared.Recall.{Recall}
use Rattle.export_memory.specs.Export.{memory_in, number_by, known_by, count_by_call, addresses_by}

-- a call, and what it answers and leaves
pub record Called (call : Memory → Recall) (n : ℕ) (xs : List ℕ) (r n' : ℕ) (xs' : List ℕ) (k : Bool) : Type 0 where
  pub number : r ≡ number_by call n xs
  pub count : n' ≡ count_by_call call n xs
  pub addresses : xs' ≡ addresses_by call n xs
  pub known : k ≡ known_by call n xs

pub called_short : (call : Memory → Recall) (n : ℕ) (xs : List ℕ) → length xs < 64 → Called call n xs 1 n xs false
unfolding number_by known_by count_by_call addresses_by
called_short call n xs h =
    let e = lt-ltb _ _ h in
    record { number = rw e; count = rw e; addresses = rw e; known = rw e }

pub called_whole : (call : Memory → Recall) (n : ℕ) (xs xs' : List ℕ) (m : Memory) (r : Recall) → 64 ≤ length xs
    → m ≡ memory_in n xs → r ≡ call m → xs' ≡ r.memory.addresses ++ drop 64 xs
    → Called call n xs r.number r.memory.count xs' r.known
unfolding number_by known_by count_by_call addresses_by
called_whole call n xs xs' m r h q e p =
    let f = le-ltb _ _ h in
    let g : r ≡ call (memory_in n xs) = e ∙ ap call q in
    record {
      number = rw f (ap (λ (x : Recall). x.number) g);
      count = rw f (ap (λ (x : Recall). x.memory.count) g);
      addresses = rw f (p ∙ ap (λ (x : Recall). x.memory.addresses ++ drop 64 xs) g);
      known = rw f (ap (λ (x : Recall). x.known) g);
    }

-- a call that changes the memory, by what is left where the list is too short and where it is not
pub called : (call : Memory → Recall) (n : ℕ) (xs : List ℕ) (r n' : ℕ) (xs' : List ℕ) (k : Bool)
    → (length xs < 64 → (r ≡ 1) × (n' ≡ n) × (xs' ≡ xs) × (k ≡ false))
    → (64 ≤ length xs → (a : Recall) × (a ≡ call (memory_in n xs)) × (r ≡ a.number) × (n' ≡ a.memory.count) × (xs' ≡ a.memory.addresses ++ drop 64 xs) × (k ≡ a.known))
    → Called call n xs r n' xs' k
called call n xs r n' xs' k short whole = ⊎_elim few enough (cases_lt (length xs) 64)
  where
    few : length xs < 64 → Called call n xs r n' xs' k
    few h =
        let s = short h in
        let a = called_short call n xs h in
        record { number = s.0 ∙ a.number; count = s.1 ∙ a.count; addresses = s.2 ∙ a.addresses; known = s.3 ∙ a.known }

    enough : 64 ≤ length xs → Called call n xs r n' xs' k
    enough h =
        let w = whole h in
        let a = called_whole call n xs xs' (memory_in n xs) w.0 h refl w.1 w.4 in
        record { number = w.2 ∙ a.number; count = w.3 ∙ a.count; addresses = a.addresses; known = w.5 ∙ a.known }
