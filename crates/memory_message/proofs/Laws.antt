-- Laws of complaints.
use Prim.Native.Nat.{ℕ, ◌+◌, ◌*◌, ◌≤◌, ◌<◌}
use mathlib.Core.Path.{◌≡◌, refl, sym, ap, ◌∙◌}
use mathlib.Core.Bool.{Bool, true, false, ◌&&◌}
use mathlib.Core.List.{List}
use native.Mathlib.Omega.{arith}
use lib.Dec.{eqb}
use lib.ListN.{length, get_or, take, drop, length-drop}
use lib.Seq.{get_or-take, get_or-drop}
use Rattle.std.specs.Prelude.{Option, Some, None}
use Rattle.message.specs.declared.Parts.{Parts}
use Rattle.message.specs.Message.{is_message, kind_in, code_in, pointer_in, header_length, header_in, parts_of}
use Rattle.message.proofs.Laws.{Quote, quote, accepted, parts_none, parts_some}
use Rattle.memory.specs.declared.Memory.{Memory}
use Rattle.memory.specs.Memory.{stands, unsound, note_of}
use Rattle.memory_message.specs.Complaint.{complains, destination_in, unread, complaint_of}

-- octets with no parts are no complaint
pub read_none : (o : List ℕ) → parts_of o ≡ None → complains o ≡ false
unfolding complains
read_none o e = go (is_message o) refl
  where
    go : (b : Bool) → is_message o ≡ b → (b && (eqb (kind_in o) 12 && (eqb (code_in o) 1 && eqb (pointer_in o) 134))) ≡ false
    go true h = absurd (let z : ◌≡◌ {A = ℕ} 0 1 = cc (parts_some o h) in omega arith)
    go false h = refl

-- the parts say whether it is a complaint
pub read_complains : (o : List ℕ) (p : Parts) → parts_of o ≡ Some p → (eqb p.kind 12 && (eqb p.code 1 && eqb p.pointer 134)) ≡ complains o
unfolding complains
read_complains o p e = go (is_message o) refl
  where
    says : Option Parts → Bool
    says None = false
    says (Some q) = eqb q.kind 12 && (eqb q.code 1 && eqb q.pointer 134)

    go : (b : Bool) → is_message o ≡ b
        → (eqb p.kind 12 && (eqb p.code 1 && eqb p.pointer 134)) ≡ (b && (eqb (kind_in o) 12 && (eqb (code_in o) 1 && eqb (pointer_in o) 134)))
    go true h = ap says (sym e ∙ parts_some o h)
    go false h = ap says (sym e ∙ parts_none o h)

-- a complaint is a message
pub complaint_message : (o : List ℕ) → complains o ≡ true → is_message o ≡ true
unfolding complains
complaint_message o e = go (is_message o) e
  where
    go : (b : Bool) → (b && (eqb (kind_in o) 12 && (eqb (code_in o) 1 && eqb (pointer_in o) 134))) ≡ true → b ≡ true
    go true q = refl
    go false q = q

-- it quotes a whole header, so that its destination is there
module _ (o : List ℕ) (e : is_message o ≡ true) where
  quoted : Quote (drop 8 o)
  quoted = quote (drop 8 o) (accepted o e).quoted

  pub message_long : 28 ≤ length o
  message_long = let q = quoted in omega (arith, length-drop 8 o)

  pub destination_is : destination_in (drop 8 o) ≡ destination_in (header_in o)
  destination_is =
      let q = quoted in
      let g : (i : ℕ) → i < 20 → get_or (take (header_length (drop 8 o)) (drop 8 o)) i 0 ≡ get_or (drop 8 o) i 0 = λ i h. get_or-take (header_length (drop 8 o)) (drop 8 o) i 0 (omega arith) in
      rw (g 16 (omega arith), g 17 (omega arith), g 18 (omega arith), g 19 (omega arith))

-- What is answered.
module _ (o : List ℕ) (m : Memory) where
  pub complaint_unsound : stands m ≡ false → complaint_of o m ≡ unsound m
  unfolding complaint_of
  complaint_unsound e = rw e

  pub complaint_unread : stands m ≡ true → complains o ≡ false → complaint_of o m ≡ unread m
  unfolding complaint_of
  complaint_unread e f = rw (e, f)

  pub complaint_noted : stands m ≡ true → complains o ≡ true → complaint_of o m ≡ note_of (destination_in (header_in o)) m
  unfolding complaint_of
  complaint_noted e f = rw (e, f)

-- the destination's octets in the message
pub destination_at : (o : List ℕ) → destination_in (drop 8 o) ≡ ((get_or o 24 0 * 256 + get_or o 25 0) * 256 + get_or o 26 0) * 256 + get_or o 27 0
destination_at o = rw (get_or-drop 8 o 16 0, get_or-drop 8 o 17 0, get_or-drop 8 o 18 0, get_or-drop 8 o 19 0)
