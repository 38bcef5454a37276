-- Laws of writing: the flag octets of a flag field, the answer, and what the stores leave.
use Prim.Native.Nat.{ℕ, ◌+◌, ◌*◌, ◌/◌, ◌%◌, ◌≤◌, ◌<◌}
use mathlib.Core.Path.{◌≡◌, refl, sym, ap, subst, ◌∙◌}
use mathlib.Core.Bool.{Bool, true, false}
use mathlib.Core.List.{List, [], ◌∷◌, ◌++◌}
use native.Mathlib.Omega.{arith}
use lib.Dec.{eqb}
use lib.ListN.{length, set, drop}
use borrow.Author.Tests.{eqb-true, eqb-false, eq-eqb, ne_eqb, lt-ltb, le-ltb, le-leb}
use Rattle.std.specs.Prelude.{Result, Ok, Err}
use Rattle.basic.specs.declared.BasicError.{BasicError}
use Rattle.basic.specs.declared.BasicError.TheVariants.{Short, Bad}
use Rattle.basic.specs.Levels.{is_level}
use Rattle.basic.specs.Alone.{flag_octets_for, basic_option, writable, basic_writing, basic_out}

-- The flag octets: none, one or two.
pub data FlagsFor (f : ℕ) : Type 0 where
  no_flags_lem : f ≡ 0 → FlagsFor f
  first_only : (f ≡ 0 → ⊥) → f % 128 ≡ 0 → FlagsFor f
  both_octets : (f % 128 ≡ 0 → ⊥) → FlagsFor f

pub flags_for : (f : ℕ) → FlagsFor f
flags_for f = go (eqb f 0) refl (eqb (f % 128) 0) refl
  where
    go : (s : Bool) → eqb f 0 ≡ s → (t : Bool) → eqb (f % 128) 0 ≡ t → FlagsFor f
    go true p t q = no_flags_lem (eqb-true f 0 p)
    go false p true q = first_only (eqb-false f 0 p) (eqb-true (f % 128) 0 q)
    go false p false q = both_octets (eqb-false (f % 128) 0 q)

flags_none : (f : ℕ) → f ≡ 0 → flag_octets_for f ≡ []
unfolding flag_octets_for
flags_none f e = rw (eq-eqb f 0 e)

flags_one : (f : ℕ) → (f ≡ 0 → ⊥) → f % 128 ≡ 0 → flag_octets_for f ≡ (f / 128 * 2) ∷ []
unfolding flag_octets_for
flags_one f d e = rw (ne_eqb f 0 d, eq-eqb (f % 128) 0 e)

flags_two : (f : ℕ) → (f % 128 ≡ 0 → ⊥) → flag_octets_for f ≡ (f / 128 * 2 + 1) ∷ (f % 128 * 2) ∷ []
unfolding flag_octets_for
flags_two f d =
    let z : f ≡ 0 → ⊥ = λ e. d (omega arith) in
    rw (ne_eqb f 0 z, ne_eqb (f % 128) 0 d)

-- The answer.

pub writes_short : (v f n : ℕ) → n < 5 → basic_writing v f n ≡ Err Short
unfolding basic_writing
writes_short v f n h = rw (lt-ltb n 5 h)

pub writes_bad : (v f n : ℕ) → 5 ≤ n → writable v f ≡ false → basic_writing v f n ≡ Err Bad
unfolding basic_writing
writes_bad v f n h e = rw (le-ltb n 5 h, e)

pub writes_done : (v f n : ℕ) → 5 ≤ n → writable v f ≡ true → basic_writing v f n ≡ Ok (length (basic_option v f))
unfolding basic_writing
writes_done v f n h e = rw (le-ltb n 5 h, e)

pub can_write : (v f : ℕ) → is_level v ≡ true → f ≤ 16383 → writable v f ≡ true
can_write v f e h = rw (e, le-leb f 16383 h)

-- What a refusal and a written option answer and leave.
abbrev pub Leaves : ℕ → ℕ → List ℕ → Result ℕ BasicError → List ℕ → Type 0
Leaves v f out r out' = (r ≡ basic_writing v f (length out)) × (out' ≡ basic_out v f out)

pub refused_by : (v f : ℕ) (out : List ℕ) (e : BasicError) → basic_writing v f (length out) ≡ Err e → Leaves v f out (Err e) out
unfolding basic_out
refused_by v f out e w = (sym w, rw (w, basic_out))

pub done_by : (v f : ℕ) (out : List ℕ) → basic_writing v f (length out) ≡ Ok (length (basic_option v f))
    → Leaves v f out (Ok (length (basic_option v f))) (basic_option v f ++ drop (length (basic_option v f)) out)
unfolding basic_out
done_by v f out w = (sym w, rw (w, basic_out))

-- Five octets or more.
pub data Five : List ℕ → Type 0 where
  five : {a b c d e : ℕ} {o : List ℕ} → Five (a ∷ b ∷ c ∷ d ∷ e ∷ o)

pub has_five : (o : List ℕ) → 5 ≤ length o → Five o
has_five [] h = absurd (omega arith)
has_five (a ∷ []) h = absurd (omega arith)
has_five (a ∷ b ∷ []) h = absurd (omega arith)
has_five (a ∷ b ∷ c ∷ []) h = absurd (omega arith)
has_five (a ∷ b ∷ c ∷ d ∷ []) h = absurd (omega arith)
has_five (a ∷ b ∷ c ∷ d ∷ e ∷ o) h = five

-- The stores, in the code's order.
stored_bare : (o : List ℕ) (v : ℕ) → Five o → set (set (set o 0 130) 2 v) 1 3 ≡ (130 ∷ 3 ∷ v ∷ []) ++ drop 3 o
stored_bare o v five = refl

-- The option by its flag octets.
with_flags : (v f : ℕ) (xs : List ℕ) → flag_octets_for f ≡ xs → basic_option v f ≡ 130 ∷ (3 + length xs) ∷ v ∷ xs
with_flags v f xs e = ap (λ (ys : List ℕ). 130 ∷ (3 + length ys) ∷ v ∷ ys) e

pub option_none : (v f : ℕ) → f ≡ 0 → basic_option v f ≡ 130 ∷ 3 ∷ v ∷ []
option_none v f e = with_flags v f [] (flags_none f e)

pub option_one : (v f : ℕ) → (f ≡ 0 → ⊥) → f % 128 ≡ 0 → basic_option v f ≡ 130 ∷ 4 ∷ v ∷ (f / 128 * 2) ∷ []
option_one v f d e = with_flags v f ((f / 128 * 2) ∷ []) (flags_one f d e)

pub option_two : (v f : ℕ) → (f % 128 ≡ 0 → ⊥) → basic_option v f ≡ 130 ∷ 5 ∷ v ∷ (f / 128 * 2 + 1) ∷ (f % 128 * 2) ∷ []
option_two v f d = with_flags v f ((f / 128 * 2 + 1) ∷ (f % 128 * 2) ∷ []) (flags_two f d)

-- the option s is written
done_as : (v f : ℕ) (out s : List ℕ) → basic_option v f ≡ s → basic_writing v f (length out) ≡ Ok (length (basic_option v f))
    → Leaves v f out (Ok (length s)) (s ++ drop (length s) out)
done_as v f out s e n = subst (λ (t : List ℕ). Leaves v f out (Ok (length t)) (t ++ drop (length t) out)) e (done_by v f out n)

module _ (v f : ℕ) (out : List ℕ) (long : 5 ≤ length out) (n : basic_writing v f (length out) ≡ Ok (length (basic_option v f))) where
  pub leaves_bare : f ≡ 0 → Leaves v f out (Ok 3) (set (set (set out 0 130) 2 v) 1 3)
  leaves_bare e =
      let l = done_as v f out _ (option_none v f e) n in
      (l.0, stored_bare out v (has_five out long) ∙ l.1)
