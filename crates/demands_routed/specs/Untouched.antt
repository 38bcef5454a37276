-- Demand 1, "and the output buffer is untouched": for every entry with a lent buffer, a refusal leaves every octet or number of it as it was. Document 02: "like every call
-- added later, it keeps lent room past what it writes".
-- Working room is no output: what `read_keys` leaves in its list of keys after a number from 12 on is what it had read by then (`keys_after` says which), and the lists of
-- `sort_keys`, of merging and of the keys between stages are lent to be written over; their contracts say what they hold.
use Rattle.std.specs.Prelude.{◌≡◌, List, ℕ, ◌/◌, ◌≤◌, ◌<◌, length, Err}
use Rattle.label.specs.declared.Label.{Label}
use Rattle.option.specs.declared.Spellings.{Spellings}
use Rattle.option_read_bitmap.specs.Bitmap.{number_of, row_of as bitmap_row_of, bitmap_found, bitmap_keys}
use Rattle.option_read.specs.Keys.{key_reading_for, keys_after}
use Rattle.option_spell.specs.Spelling.{spelling_answer, spelling_out}
use Rattle.basic.specs.declared.BasicError.{BasicError}
use Rattle.basic.specs.Alone.{writing_row, basic_writing, basic_out}
use Rattle.table.specs.Table.{Lent}
use Rattle.renumber_reverse.specs.declared.ReverseError.{ReverseError}
use Rattle.renumber_reverse.specs.Reverse as turned
use Rattle.renumber_reverse.specs.Reverse.{reversed_of, with_rows}
use Rattle.forward_rules.specs.Crossing.{Forwarding}
use Rattle.forward_rules.specs.Forward.{forward_of, output_of}
use Rattle.route_decide.specs.Routing.{Routing, routing_of, routed_output}
use Rattle.forward_batch.specs.Batch.{Gateway, forwarding_in, with_head, slot_of}

pub record Untouched : Type 0 where
  pub spell : (p : Spellings) (l : Label) (out : List ℕ) → ((spelling_answer p l (length out)).number ≡ 0 → ⊥) → spelling_out p l out ≡ out
  pub basic : (v f : ℕ) (out : List ℕ) (e : BasicError) → basic_writing v f (length out) ≡ Err e → basic_out v f out ≡ out
  pub basic_row : (v f : ℕ) (out : List ℕ) → ((writing_row (basic_writing v f (length out))).number ≡ 0 → ⊥) → basic_out v f out ≡ out
  pub bitmap : (b keys : List ℕ) → (number_of (bitmap_found b (length keys)) ≡ 0 → ⊥) → bitmap_keys b keys ≡ keys
  pub bitmap_row : (b keys : List ℕ) → ((bitmap_row_of (bitmap_found b (length keys))).number ≡ 0 → ⊥) → bitmap_keys b keys ≡ keys
  -- of an option's keys: too short a list, and 3 and 7 to 11
  pub keys : (d : ℕ) (o keys : List ℕ) → length keys < 120 → keys_after d o keys ≡ keys
  pub early : (d : ℕ) (o keys : List ℕ) → 7 ≤ (key_reading_for d o (length keys)).number → (key_reading_for d o (length keys)).number ≤ 11 → keys_after d o keys ≡ keys
  pub reverse : (t : Lent) (ls : List (List ℕ)) (room : List ℕ) → (e : ReverseError) → reversed_of t ls (length room / 3) ≡ Err e → with_rows t ls room ≡ room
  pub reverse_row : (t : Lent) (ls : List (List ℕ)) (room : List ℕ) → ((turned.row_of (reversed_of t ls (length room / 3))).number ≡ 0 → ⊥) → with_rows t ls room ≡ room
  pub forward : (f : Forwarding) (out : List ℕ) → ((forward_of f).number ≡ 0 → ⊥) → output_of f out ≡ out
  pub decide : (b : Routing) (out : List ℕ) → ((routing_of b).number ≡ 0 → ⊥) → routed_output b out ≡ out
  -- a slot of the batch: all but its head, the five numbers
  pub batch : (g : Gateway) (r slot : List ℕ) → ((forward_of (forwarding_in g r)).number ≡ 0 → ⊥) → slot_of g r slot ≡ with_head (forward_of (forwarding_in g r)) slot
