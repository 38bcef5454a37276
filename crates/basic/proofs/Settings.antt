-- Laws of the settings.
use Prim.Native.Nat.{ℕ, zero, suc, ◌+◌, ◌<◌}
use mathlib.Core.Path.{◌≡◌, refl, sym, ◌∙◌, ap}
use mathlib.Core.Bool.{Bool, true, false, not, ◌&&◌, ◌||◌, and-true, or-false}
use mathlib.Core.List.{List, [], ◌∷◌}
use mathlib.Core.Logic.{⊎_elim}
use native.Mathlib.Omega.{arith}
use native.Mathlib.Numerals.{add-one}
use lib.Dec.{eqb}
use lib.Bits.{bit_or, or_add_and, and_le_l, and_le_r}
use lib.ListN.{length, get_or, take, replicate}
use borrow.Author.Tests.{eqb-true, eq-eqb, not-true}
use Rattle.label.proofs.Bools.{never, and_left, and_right, and_both, or_cases, or_true_right, same_yes}
use Rattle.basic.specs.declared.Way.{Way}
use Rattle.basic.specs.declared.Basic.{Basic}
use Rattle.basic.specs.Settings.{no_way, basic_off, unused, way_sound, way_zero, basic_sound, is_off, among}

-- x | y is 0 exactly when both are
or_zero : (x y : ℕ) → eqb (bit_or x y) 0 ≡ (eqb x 0 && eqb y 0)
or_zero x y =
    same_yes (eqb (bit_or x y) 0) (eqb x 0 && eqb y 0)
    (λ e.
    let z : bit_or x y ≡ 0 = eqb-true _ _ e in
    let p : x ≡ 0 = omega (arith, or_add_and x y, and_le_r x y) in
    let q : y ≡ 0 = omega (arith, or_add_and x y, and_le_l x y) in
    and_both (eq-eqb x 0 p) (eq-eqb y 0 q))
    (λ e.
    let p : x ≡ 0 = eqb-true x 0 (and_left (eqb x 0) _ e) in
    let q : y ≡ 0 = eqb-true y 0 (and_right (eqb x 0) _ e) in
    eq-eqb (bit_or x y) 0 (omega (arith, or_add_and x y)))

and_assoc : (a b c : Bool) → (a && (b && c)) ≡ ((a && b) && c)
and_assoc true b c = refl
and_assoc false b c = refl

-- one more place
pub unused_more : (fs : List ℕ) (i : ℕ) → i < length fs → unused (take (i + 1) fs) ≡ (unused (take i fs) && eqb (get_or fs i 0) 0)
unused_more [] i h = absurd (omega arith)
unused_more (x ∷ xs) zero h = and-true (eqb x 0)
unused_more (x ∷ xs) (suc i) h =
    rw add-one (ap (λ (b : Bool). eqb x 0 && b) (rw add-one at (unused_more xs i (omega arith))) ∙ and_assoc (eqb x 0) (unused (take i xs)) (eqb (get_or xs i 0) 0))

pub any_zero : (any x : ℕ) (rest : Bool) → eqb any 0 ≡ rest → eqb (bit_or any x) 0 ≡ (rest && eqb x 0)
any_zero any x rest e = or_zero any x ∙ ap (λ (b : Bool). b && eqb x 0) e

pub among_more : (fs : List ℕ) (f i : ℕ) → i < length fs → among (take (i + 1) fs) f ≡ (among (take i fs) f || eqb (get_or fs i 0) f)
among_more [] f i h = absurd (omega arith)
among_more (x ∷ xs) f zero h = or-false (eqb x f)
among_more (x ∷ xs) f (suc i) h = grind (arith, among_more xs f i)

-- a member stands at a place
pub among_says : (fs : List ℕ) (f : ℕ) → among fs f ≡ true → (k : ℕ) × (k < length fs) × (get_or fs k 0 ≡ f)
among_says [] f e = absurd (never (sym e))
among_says (x ∷ xs) f e =
    ⊎_elim
    (λ p. (zero, omega arith, eqb-true x f p))
    (λ p. let m = among_says xs f p in (suc m.0, omega (arith, m.1), m.2))
    (or_cases (eqb x f) (among xs f) e)

pub among_said : (fs : List ℕ) (f k : ℕ) → k < length fs → get_or fs k 0 ≡ f → among fs f ≡ true
among_said [] f k h e = absurd (omega arith)
among_said (x ∷ xs) f zero h e = rw (eq-eqb x f e)
among_said (x ∷ xs) f (suc k) h e = or_true_right (eqb x f) (among_said xs f k (omega arith) e)

-- settings that are switched off and all 0 are one value
pub unused_zeros : (fs : List ℕ) → unused fs ≡ true → fs ≡ replicate (length fs) 0
unused_zeros [] e = refl
unused_zeros (x ∷ xs) e = rw (eqb-true x 0 (and_left (eqb x 0) _ e)) (ap (λ (l : List ℕ). 0 ∷ l) (unused_zeros xs (and_right (eqb x 0) _ e)))

way_none : (w : Way) → length w.flags ≡ 256 → way_zero w ≡ true → w ≡ no_way
unfolding way_zero
way_none w n e =
    let e1 = and_right (eqb w.lowest 0) _ e in
    let e2 = and_right (eqb w.highest 0) _ e1 in
    let low = eqb-true w.lowest 0 (and_left (eqb w.lowest 0) _ e) in
    let high = eqb-true w.highest 0 (and_left (eqb w.highest 0) _ e1) in
    let count = eqb-true w.count 0 (and_left (eqb w.count 0) _ e2) in
    let fields = unused_zeros w.flags (and_right (eqb w.count 0) _ e2) ∙ ap (λ (k : ℕ). replicate k 0) n in
    λ i. record { lowest = low i; highest = high i; count = count i; flags = fields i }

pub off_is : (b : Basic) → length b.receiving.flags ≡ 256 → length b.sending.flags ≡ 256 → is_off b ≡ true → b ≡ basic_off
unfolding is_off basic_sound
off_is b m n e =
    let off : b.on ≡ false = not-true _ (and_left (not b.on) _ e) in
    let z : (way_zero b.receiving && way_zero b.sending) ≡ true = rw off at (and_right (not b.on) _ e) in
    let r = way_none b.receiving m (and_left (way_zero b.receiving) _ z) in
    let s = way_none b.sending n (and_right (way_zero b.receiving) _ z) in
    λ i. record { on = off i; receiving = r i; sending = s i }

-- switched on and sound, both ways are
pub on_ways : (b : Basic) → b.on ≡ true → basic_sound b ≡ true → (way_sound b.receiving ≡ true) × (way_sound b.sending ≡ true)
unfolding basic_sound
on_ways b e s =
    let z : (way_sound b.receiving && way_sound b.sending) ≡ true = rw e at s in
    (and_left (way_sound b.receiving) _ z, and_right (way_sound b.receiving) _ z)
