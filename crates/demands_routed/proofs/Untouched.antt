-- What a refusal leaves untouched, entry by entry.
use mathlib.Core.Path.{◌≡◌, refl, sym, ◌∙◌, ap}
use mathlib.Core.Bool.{Bool, true, false, cond, true≢false}
use mathlib.Core.List.{List, ◌++◌}
use mathlib.Core.Option.{Option, none, some}
use Prim.Native.Nat.{ℕ, ◌/◌, ◌≤◌, ◌<◌}
use lib.Dec.{leb, ltb, eqb}
use lib.ListN.{length, take, drop, take-append-drop}
use borrow.Author.Tests.{eq-eqb, ne_eqb, lt-ltb, le-leb}
use Rattle.std.specs.Prelude.{Result, Ok, Err}
use Rattle.std.specs.Result.{is_err}
use Rattle.label.specs.declared.Label.{Label}
use Rattle.option.specs.declared.Spellings.{Spellings}
use Rattle.option_read_bitmap.specs.declared.BitmapError.{BitmapError}
use Rattle.option_read_bitmap.specs.Bitmap.{number_of, row_of as bitmap_row_of, bitmap_found, bitmap_keys}
use Rattle.option_read.specs.Reading.{reading_for}
use Rattle.option_read.specs.Keys.{key_reading_for, keys_after}
use Rattle.option_spell.specs.Spelling.{spelling_number, spelling_answer, spelling_out}
use Rattle.basic.proofs.OptionTheorems.{writes_basic}
use Rattle.table.specs.Table.{Lent, table_sound}
use Rattle.renumber_reverse.specs.declared.ReverseError.{ReverseError}
use Rattle.renumber_reverse.specs.Reverse as turned
use Rattle.renumber_reverse.specs.Reverse.{reversed_of, with_rows}
use Rattle.decision.specs.declared.Refusal.{Refusal}
use Rattle.decision.specs.Decision.{silenced, decided}
use Rattle.arrive.specs.Checks.{first_of}
use Rattle.forward_rules.specs.Crossing.{Forwarding}
use Rattle.forward_rules.specs.Forward.{forward_checks, forward_of, output_of, written}
use Rattle.route_decide.specs.Routing.{Routing, routing_checks, routing_of, routed_output}
use Rattle.forward_batch.specs.Batch.{Gateway, forwarding_in, with_head, slot_of}
use Rattle.demands_routed.specs.Untouched.{Untouched}

-- a number that is not 0 chooses what was there
kept_by : (n : ℕ) (new was : List ℕ) → (n ≡ 0 → ⊥) → cond (eqb n 0) new was ≡ was
kept_by n new was h = rw (ne_eqb n 0 h)

spell_untouched : (p : Spellings) (l : Label) (out : List ℕ) → ((spelling_answer p l (length out)).number ≡ 0 → ⊥) → spelling_out p l out ≡ out
unfolding spelling_answer spelling_out
spell_untouched p l out h = kept_by (spelling_number p l (length out)) _ out (λ e. h (rw (eq-eqb (spelling_number p l (length out)) 0 e)))

bitmap_untouched : (b keys : List ℕ) → (number_of (bitmap_found b (length keys)) ≡ 0 → ⊥) → bitmap_keys b keys ≡ keys
unfolding bitmap_found bitmap_keys
bitmap_untouched b keys = go (ltb (length keys) 120) refl (ltb 30 (length b)) refl
  where
    go : (s : Bool) → ltb (length keys) 120 ≡ s → (l : Bool) → ltb 30 (length b) ≡ l → (number_of (bitmap_found b (length keys)) ≡ 0 → ⊥) → bitmap_keys b keys ≡ keys
    go true p l q h = rw p
    go false p true q h = rw (p, q)
    go false p false q h = absurd (h (rw (p, q)))

bitmap_number_of : (r : Result ℕ BitmapError) → (bitmap_row_of r).number ≡ number_of r
bitmap_number_of (Ok n) = refl
bitmap_number_of (Err e) = refl

keys_untouched : (d : ℕ) (o keys : List ℕ) → length keys < 120 → keys_after d o keys ≡ keys
unfolding keys_after
keys_untouched d o keys h = rw (lt-ltb (length keys) 120 h)

early_untouched : (d : ℕ) (o keys : List ℕ) → 7 ≤ (key_reading_for d o (length keys)).number → (key_reading_for d o (length keys)).number ≤ 11 → keys_after d o keys ≡ keys
unfolding key_reading_for keys_after
early_untouched d o keys = go (ltb (length keys) 120) refl
  where
    go : (b : Bool) → ltb (length keys) 120 ≡ b → 7 ≤ (key_reading_for d o (length keys)).number → (key_reading_for d o (length keys)).number ≤ 11 → keys_after d o keys ≡ keys
    go true e l h = rw e
    go false e l h =
        let l' : 7 ≤ (reading_for d o).number = rw e at l in
        let h' : (reading_for d o).number ≤ 11 = rw e at h in
        rw (e, le-leb 7 (reading_for d o).number l', le-leb (reading_for d o).number 11 h')

reverse_untouched : (t : Lent) (ls : List (List ℕ)) (room : List ℕ) (e : ReverseError) → reversed_of t ls (length room / 3) ≡ Err e → with_rows t ls room ≡ room
unfolding reversed_of with_rows
reverse_untouched t ls room e = go (table_sound t ls) refl (leb t.count (length room / 3)) refl
  where
    go : (s : Bool) → table_sound t ls ≡ s → (b : Bool) → leb t.count (length room / 3) ≡ b → reversed_of t ls (length room / 3) ≡ Err e → with_rows t ls room ≡ room
    go false p b q h = rw p
    go true p false q h = rw (p, q)
    go true p true q h =
        let z : is_err (reversed_of t ls (length room / 3)) ≡ false = rw (p, q) in
        absurd (true≢false (sym (ap is_err h) ∙ z))

reverse_row_untouched : (t : Lent) (ls : List (List ℕ)) (room : List ℕ) → ((turned.row_of (reversed_of t ls (length room / 3))).number ≡ 0 → ⊥) → with_rows t ls room ≡ room
unfolding reversed_of with_rows
reverse_row_untouched t ls room = go (table_sound t ls) refl (leb t.count (length room / 3)) refl
  where
    go : (s : Bool) → table_sound t ls ≡ s → (b : Bool) → leb t.count (length room / 3) ≡ b → ((turned.row_of (reversed_of t ls (length room / 3))).number ≡ 0 → ⊥) → with_rows t ls room ≡ room
    go false p b q h = rw p
    go true p false q h = rw (p, q)
    go true p true q h = absurd (h (rw (p, q)))

-- a decision whose number is not 0 has a refusal, which writes nothing
written_by : (quiet : Bool) (r : Option Refusal) (l : Label) (n : ℕ) (s kept out : List ℕ) → ((decided quiet r l n).number ≡ 0 → ⊥) → written r s kept out ≡ out
written_by quiet none l n s kept out h = absurd (h refl)
written_by quiet (some r) l n s kept out h = refl

forward_untouched : (f : Forwarding) (out : List ℕ) → ((forward_of f).number ≡ 0 → ⊥) → output_of f out ≡ out
unfolding forward_of output_of
forward_untouched f out h = written_by (silenced f.facts) (first_of (forward_checks f)) _ _ _ _ out h

decide_untouched : (b : Routing) (out : List ℕ) → ((routing_of b).number ≡ 0 → ⊥) → routed_output b out ≡ out
unfolding routing_of routed_output
decide_untouched b out h = written_by (silenced b.facts) (first_of (routing_checks b)) _ _ _ _ out h

batch_untouched : (g : Gateway) (r slot : List ℕ) → ((forward_of (forwarding_in g r)).number ≡ 0 → ⊥) → slot_of g r slot ≡ with_head (forward_of (forwarding_in g r)) slot
unfolding slot_of
batch_untouched g r slot h =
    ap (λ (z : List ℕ). with_head (forward_of (forwarding_in g r)) (take 24 slot ++ z)) (forward_untouched (forwarding_in g r) (drop 24 slot) h)
    ∙ ap (with_head (forward_of (forwarding_in g r))) (take-append-drop 24 slot)

pub untouched : Untouched
untouched =
    record {
      spell = spell_untouched;
      basic = writes_basic.refused;
      basic_row = λ v f out h. (writes_basic.refused_row v f out h).1;
      bitmap = bitmap_untouched;
      bitmap_row = λ b keys h. bitmap_untouched b keys (λ z. h (bitmap_number_of (bitmap_found b (length keys)) ∙ z));
      keys = keys_untouched;
      early = early_untouched;
      reverse = reverse_untouched;
      reverse_row = reverse_row_untouched;
      forward = forward_untouched;
      decide = decide_untouched;
      batch = batch_untouched;
    }
