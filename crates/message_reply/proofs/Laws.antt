-- Laws of the option that is copied.
use Prim.Native.Nat.{ℕ, ◌+◌, ◌≤◌, ◌<◌}
use mathlib.Core.Path.{◌≡◌, refl, sym, ap, ◌∙◌}
use mathlib.Core.Bool.{Bool, true, false, cond}
use mathlib.Core.List.{List}
use native.Mathlib.Omega.{arith}
use borrow.Author.Tests.{lt-leb, le-ltb, eq-eqb, ne_eqb, eqb-true}
use lib.Dec.{eqb}
use lib.ListN.{length, get_or}
use Rattle.label.proofs.Bools.{same_yes}
use Rattle.option.specs.Option.{Octets, domain_of, valid}
use Rattle.option_read.specs.declared.Fault.{Fault}
use Rattle.option_read.specs.declared.KeysRead.{KeysRead}
use Rattle.option_read.specs.Reading.{framed, reading_for}
use Rattle.option_read.specs.Keys.{KeyReading, row_of, Refused, keyed, key_reading_for, ReadsKeys}
use Rattle.option_read.proofs.Theorems.{reads}
use Rattle.std.specs.Prelude.{Result, Ok, Err, is_ok, Some, None}
use Rattle.area.specs.Kinds.{Place, Walk, places, fault}
use Rattle.area.specs.declared.Kind.TheVariants.{Cipso}
use Rattle.area.specs.Area.{open_walk, option_at, WholeAt}
use Rattle.area.proofs.Laws.{whole_inside, open_placed}
use Rattle.message_reply.specs.declared.Copied.{Copied}
use Rattle.message_reply.specs.Copied.{Reply, copy}
use Rattle.message_reply.specs.Reply.{reply_at, reply_of}

-- an option of fewer than 10 octets is not valid
pub short_invalid : (o : List ℕ) → length o < 10 → valid o ≡ false
unfolding valid
short_invalid o h = rw (lt-leb 10 (length o) h)

-- a label is read where the number is 0
pub is_ok_row : (r : Result KeysRead Fault) → Refused r → is_ok r ≡ eqb (row_of r).number 0
is_ok_row (Ok k) h = refl
is_ok_row (Err f) h = sym (ne_eqb f.number 0 h)

-- read for its own domain, an option is refused exactly when it is not valid
pub read_valid : (d : ℕ) (o keys keys' : List ℕ) (r : KeyReading) → Octets o → framed o ≡ true → 120 ≤ length keys
    → d ≡ domain_of o → ReadsKeys d o keys keys' r → eqb r.number 0 ≡ valid o
unfolding key_reading_for
read_valid d o keys keys' r oct f h ed k =
    let a : key_reading_for d o (length keys) ≡ keyed (reading_for d o) = rw (le-ltb (length keys) 120 h) in
    let n : r.number ≡ (reading_for d o).number = ap (λ (x : KeyReading). x.number) (k.answer ∙ a) in
    let x = (reads.for d).exactly o oct f in
    same_yes (eqb r.number 0) (valid o) (λ e. (x.0 (sym n ∙ eqb-true r.number 0 e)).0) (λ e. eq-eqb r.number 0 (n ∙ x.1 (e, sym ed)))

-- What is copied, by what the walk answers.
module _ (area : List ℕ) where
  pub reply_refused : (n at : ℕ) → open_walk area ≡ Err (fault n at) → reply_of area ≡ None
  unfolding reply_of
  reply_refused n at e = rw (e, reply_of)

  pub reply_sound : (label basic : Place) → open_walk area ≡ Ok (places label basic) → reply_of area ≡ reply_at label area
  unfolding reply_of
  reply_sound label basic e = rw (e, reply_of)

-- what is copied lies in the area
pub copied_inside : (area : List ℕ) (at n : ℕ) → reply_of area ≡ Some (copy at n) → at + n ≤ length area
copied_inside area at n e = go (open_walk area) refl
  where
    by : (p : ℕ) (b : Bool) → WholeAt Cipso area p → cond b (Some (copy p (get_or area (p + 1) 0))) None ≡ Some (copy at n) → at + n ≤ length area
    by p true h q =
        let k : copy p (get_or area (p + 1) 0) ≡ copy at n = cc in
        let a : p ≡ at = ap (λ (x : Copied). x.at) k in
        let c : get_or area (p + 1) 0 ≡ n = ap (λ (x : Copied). x.count) k in
        omega (arith, (whole_inside Cipso area p h).inside)
    by p false h q = absurd (let z : ◌≡◌ {A = ℕ} 0 1 = cc in omega arith)

    go : (w : Walk) → open_walk area ≡ w → at + n ≤ length area
    go (Err r) q = absurd (let z : ◌≡◌ {A = ℕ} 0 1 = cc (reply_refused area r.number r.at q) in omega arith)
    go (Ok w) q = placed w.label w.basic q
      where
        placed : (label basic : Place) → open_walk area ≡ Ok (places label basic) → at + n ≤ length area
        placed None basic q =
            let s : ◌≡◌ {A = Reply} (Some (copy 0 0)) (Some (copy at n)) = sym (reply_sound area None basic q) ∙ e in
            let k : copy 0 0 ≡ copy at n = cc in
            let a : 0 ≡ at = ap (λ (x : Copied). x.at) k in
            let c : 0 ≡ n = ap (λ (x : Copied). x.count) k in
            omega arith
        placed (Some p) basic q = by p (valid (option_at p area)) (open_placed area (Some p) basic q).0 (sym (reply_sound area (Some p) basic q) ∙ e)
