-- Laws of the answers: each by the checks that led to it.
use Rattle.std.specs.Prelude.{None, Some, Ok, Err}
use Rattle.std.specs.Result.{is_err}
use mathlib.Core.Path.{◌≡◌, refl, sym, ◌∙◌, ap}
use mathlib.Core.Bool.{Bool, true, false, cond, and-false, true≢false}
use mathlib.Core.List.{List}
use Prim.Native.Nat.{ℕ, ◌+◌, ◌≤◌}
use native.Mathlib.Omega.{arith}
use lib.ListN.{length, take, length-map}
use lib.Seq.{take_all}
use borrow.Author.Tests.{le-leb, eq-eqb, ne_eqb}
use Rattle.label.specs.declared.Run.{Run}
use Rattle.label.specs.declared.Label.{Label}
use Rattle.label.specs.Label.{used, well_formed}
use Rattle.label_keys.specs.Keys.{key_runs, label_from}
use Rattle.label_keys.specs.Range.{set_in_range}
use Rattle.table.specs.Table.{Lent, used_rows, table_sound}
use Rattle.table_levels.specs.Levels.{Partner, partner_of}
use Rattle.table.specs.Numbers.{numbered}
use Rattle.table.proofs.Sound.{sound}
use Rattle.renumber_keys.specs.declared.Carried.{Carried}
use Rattle.renumber_keys.specs.declared.CarryError.{CarryError}
use Rattle.renumber_keys.specs.declared.CarryError.TheVariants as carrying
use Rattle.renumber_keys.specs.Carry.{CarryAnswer, image_of, label_runs, carried_to, carried_keys, carry_of}
use Rattle.renumber_keys.proofs.Carrying.{carry_checked, carry_unsound, carried_runs, image_spaced, image_few}
use Rattle.renumber.specs.declared.RenumberError.TheVariants.{Unsound, NoNumber, TooMany}
use Rattle.renumber.specs.Renumber.{Renumbered, error_of, fit_of, fitted, image_runs, when_numbered, renumbered_of, carried_of}
use Rattle.renumber.specs.Stages.{runs_renumbered}

-- an answer is a value or a refusal
no_error : {e : CarryError} {c : Carried} → ◌≡◌ {A = CarryAnswer} (Err e) (Ok c) → ⊥
no_error k = true≢false (ap is_err k)

ok_same : {c d : Carried} → ◌≡◌ {A = CarryAnswer} (Ok c) (Ok d) → c ≡ d
ok_same k = cc

-- a refusal of carrying, as renumbering says it
abbrev refused : CarryAnswer → Renumbered
refused (Ok c) = Err Unsound
refused (Err e) = Err (error_of e)

pub fit_done : (d v : ℕ) (ks : List ℕ) (l : Label) → length ks ≤ 120 → l ≡ label_from d v (key_runs (take (length ks) ks)) → Some l ≡ fit_of d v (key_runs ks)
unfolding label_from
fit_done d v ks l h e =
    let all : take (length ks) ks ≡ ks = take_all (length ks) ks (omega arith) in
    let k = rw all at e in
    rw k (simp (length-map, le-leb (length ks) 120 h))

-- What was carried, and what was not.
module _ (image : List Run) (f : ℕ → Renumbered) where
  missed : (e : CarryError) (p : Partner) (all : Bool) → Err e ≡ carried_to p all image → Err (error_of e) ≡ when_numbered NoNumber p all f
  unfolding carried_to
  missed e None all k = ap (λ (z : CarryAnswer). refused z) k
  missed e (Some v) true k = absurd (no_error k)
  missed e (Some v) false k = ap (λ (z : CarryAnswer). refused z) k

  found : (c : Carried) (p : Partner) (all : Bool) → Ok c ≡ carried_to p all image → f c.level ≡ when_numbered NoNumber p all f
  unfolding carried_to
  found c None all k = absurd (no_error (sym k))
  found c (Some v) true k = ap (λ (z : Carried). f z.level) (ok_same k)
  found c (Some v) false k = absurd (no_error (sym k))

found_count : (image : List Run) (c : Carried) (p : Partner) (all : Bool) → Ok c ≡ carried_to p all image → c.count ≡ length image
unfolding carried_to
found_count image c None all k = absurd (no_error (sym k))
found_count image c (Some v) true k = ap (λ (z : Carried). z.count) (ok_same k)
found_count image c (Some v) false k = absurd (no_error (sym k))

module _ (l : Label) (t : Lent) (ls : List (List ℕ)) where
  pub renumbered_unsound : table_sound t ls ≡ false → Err Unsound ≡ renumbered_of l t ls
  unfolding renumbered_of
  renumbered_unsound s = simp s

  pub renumbered_ill : well_formed l ≡ false → Err Unsound ≡ renumbered_of l t ls
  unfolding renumbered_of
  renumbered_ill w = simp (w, and-false)

  module _ (s : table_sound t ls ≡ true) (w : well_formed l ≡ true) where
    pub renumbered_foreign : (l.domain ≡ t.from → ⊥) → Err NoNumber ≡ renumbered_of l t ls
    unfolding renumbered_of
    renumbered_foreign d = simp (s, w, ne_eqb _ _ d)

    -- The answers, where the runs were carried.
    module _ (d : l.domain ≡ t.from) where
      pub renumbered_fitted : (v : ℕ) → partner_of (take t.pairs ls) l.level ≡ Some v → numbered (used_rows t) (used l) ≡ true → fitted TooMany t.to v (image_runs l t) ≡ renumbered_of l t ls
      unfolding renumbered_of
      renumbered_fitted v p n = simp (s, w, eq-eqb _ _ d, p, n)

      pub renumbered_runs : (rs : List Run) → rs ≡ used l → runs_renumbered rs l.level t ls ≡ renumbered_of l t ls
      unfolding runs_renumbered renumbered_of
      renumbered_runs rs q = rw q (simp (s, w, eq-eqb _ _ d))

  pub runs_unsound : (rs : List Run) → well_formed l ≡ true → l.domain ≡ t.from → rs ≡ used l → table_sound t ls ≡ false → runs_renumbered rs l.level t ls ≡ renumbered_of l t ls
  unfolding runs_renumbered renumbered_of
  runs_unsound rs w d q s = simp s

  pub runs_label : (rs : List Run) → well_formed l ≡ true → l.domain ≡ t.from → rs ≡ used l → runs_renumbered rs l.level t ls ≡ renumbered_of l t ls
  runs_label rs w d q = go (table_sound t ls) refl
    where
      go : (b : Bool) → table_sound t ls ≡ b → runs_renumbered rs l.level t ls ≡ renumbered_of l t ls
      go true s = renumbered_runs s w d rs q
      go false s = runs_unsound rs w d q s

  -- Toward a range.
  module _ (lowest highest : Label) (v : ℕ) (p : partner_of (take t.pairs ls) l.level ≡ Some v) where
    pub carried_outside : numbered (used_rows t) (used l) ≡ true → set_in_range lowest highest v (image_runs l t) ≡ false → Err 17 ≡ carried_of l t ls lowest highest
    unfolding carried_of
    carried_outside n r = simp (p, n, r)

    pub carried_fitted : numbered (used_rows t) (used l) ≡ true → set_in_range lowest highest v (image_runs l t) ≡ true → fitted 18 t.to v (image_runs l t) ≡ carried_of l t ls lowest highest
    unfolding carried_of
    carried_fitted n r = simp (p, n, r)

-- The answers of carrying all the keys of a label's runs.
module _ (own : List ℕ) (v : ℕ) (t : Lent) (ls : List (List ℕ)) (f : label_runs (key_runs own) ≡ true) (room : ℕ) (long : t.count ≤ 1024 → 120 + t.count ≤ room) where
  all : take (length own) own ≡ own
  all = take_all (length own) own (omega arith)

  of_all : {r : CarryAnswer} → r ≡ carry_of (key_runs (take (length own) own)) v t ls room → r ≡ carry_of (key_runs own) v t ls room
  of_all k = rw all at k

  here : {r : CarryAnswer} → r ≡ carry_of (key_runs (take (length own) own)) v t ls room → table_sound t ls ≡ true → r ≡ carried_to (partner_of (take t.pairs ls) v) (numbered (used_rows t) (key_runs own)) (image_of t (key_runs own))
  here k s = of_all k ∙ carry_checked (key_runs own) v t ls room s f (long (sound t ls s).rows_held)

  unsound : {r : CarryAnswer} → r ≡ carry_of (key_runs (take (length own) own)) v t ls room → table_sound t ls ≡ false → r ≡ Err carrying.Unsound
  unsound k s = of_all k ∙ carry_unsound (key_runs own) v t ls room s

  abbrev fits : ℕ → Renumbered
  fits w = fitted TooMany t.to w (image_of t (key_runs own))

  pub runs_missed : (e : CarryError) → Err e ≡ carry_of (key_runs (take (length own) own)) v t ls room → Err (error_of e) ≡ runs_renumbered (key_runs own) v t ls
  unfolding runs_renumbered
  runs_missed e k = go (table_sound t ls) refl
    where
      go : (b : Bool) → table_sound t ls ≡ b → Err (error_of e) ≡ cond b (when_numbered NoNumber (partner_of (take t.pairs ls) v) (numbered (used_rows t) (key_runs own)) fits) (Err Unsound)
      go true s = missed (image_of t (key_runs own)) fits e _ _ (here k s)
      go false s = ap (λ (z : CarryAnswer). refused z) (unsound k s)

  module _ (c : Carried) (k : Ok c ≡ carry_of (key_runs (take (length own) own)) v t ls room) where
    -- nothing is carried by an unsound table
    pub carried_sound : table_sound t ls ≡ true
    carried_sound = go (table_sound t ls) refl
      where
        go : (b : Bool) → table_sound t ls ≡ b → table_sound t ls ≡ true
        go true s = s
        go false s = absurd (no_error (sym (unsound k s)))

    pub runs_found : fitted TooMany t.to c.level (image_of t (key_runs own)) ≡ runs_renumbered (key_runs own) v t ls
    unfolding runs_renumbered
    runs_found =
        let s = carried_sound in
        found (image_of t (key_runs own)) fits c _ _ (here k s) ∙ sym (rw s)

    -- as many runs are written as the image has
    pub found_length : (c.count ≡ length (image_of t (key_runs own))) × (c.count ≤ room)
    found_length =
        let s = carried_sound in
        let n = found_count (image_of t (key_runs own)) c _ _ (here k s) in
        (n, omega (arith, n, image_few t ls (key_runs own) s f, long (sound t ls s).rows_held))

    -- and these are its keys
    pub found_keys : (r : CarryAnswer) → r ≡ Ok c → (far ks : List ℕ) → ks ≡ carried_keys r (image_of t (key_runs (take (length own) own))) far → key_runs (take c.count ks) ≡ image_of t (key_runs own)
    found_keys r i far ks e =
        ap (λ (z : ℕ). key_runs (take z ks)) found_length.0
        ∙ ap (λ (z : List ℕ). key_runs (take (length (image_of t (key_runs own))) z)) (rw all at e)
        ∙ carried_runs (image_of t (key_runs own)) far r c i (image_spaced t (key_runs own))
