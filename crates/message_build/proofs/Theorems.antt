-- The theorems of `specs/Theorems.antt`.
use Prim.Native.Nat.{ℕ, ◌≤◌}
use mathlib.Core.Path.{◌≡◌, refl, sym, ap, subst, ◌∙◌}
use mathlib.Core.Bool.{Bool, true, false, cond, not, ◌||◌}
use mathlib.Core.List.{List, []}
use mathlib.Core.Logic.{◌⊎◌, inl, inr}
use mathlib.Core.Option.{Option, none, some}
use native.Mathlib.Omega.{arith}
use borrow.Author.Tests.{ltb-false}
use lib.Dec.{ltb}
use lib.ListN.{length}
use Rattle.option.specs.Option.{good_body, valid}
use Rattle.message_checksum.specs.Checksum.{ones_sum, checksum_of}
use Rattle.message.specs.Message.{message_of, reports, whole_header}
use Rattle.message.proofs.Theorems.{given_back}
use Rattle.std.specs.Prelude.{Ok, Some, None}
use Rattle.area.specs.Kinds.{Place, places}
use Rattle.area.specs.Area.{met_from, met_of, open_walk, option_at}
use Rattle.area.proofs.KindLaws.{same_places}
use Rattle.message_reply.specs.Reply.{reply_of, reply_area}
use Rattle.message_reply.specs.Theorems.{Bars, Carries, unlabelled, labelled}
use Rattle.message_reply.proofs.Theorems.{replies}
use Rattle.message_build.specs.declared.Report.{Report}
use Rattle.message_build.specs.declared.BuildError.{BuildError}
use Rattle.message_build.specs.declared.BuildError.TheVariants.{Unsound, Short}
use Rattle.message_build.specs.Build.{silent, unsound, unanswered, area_of, sent, message_by, Outcome, refused, quiet, goes, room_for, outcome, message_left, options_left}
use Rattle.message_build.specs.Examples.{WorkedAnswers}
use Rattle.message_build.specs.Theorems.{GoesOut, Labelled, Answers}
use Rattle.message_build.proofs.Laws.{unsound_header, sound_silent, unsound_report, sound_header, sent_quiet, sent_reply, out_unsound, out_none, out_some}

-- When nothing is sent.
module _ (r : Report) (header : List ℕ) where
  abbrev Quiet : Type 0
  Quiet = (silent r ≡ true) ⊎ ((unanswered r.number ≡ true) ⊎ Bars (area_of header))

  to_quiet : sent r header ≡ none → Quiet
  to_quiet e = go (silent r) (unanswered r.number) refl refl
    where
      go : (a b : Bool) → silent r ≡ a → unanswered r.number ≡ b → Quiet
      go true b p q = inl p
      go false true p q = inr (inl q)
      go false false p q = let k : (silent r || unanswered r.number) ≡ false = rw (p, q) in inr (inr ((replies.barred (area_of header)).0 (sym (sent_reply r header k) ∙ e)))

  from_quiet : Quiet → sent r header ≡ none
  from_quiet (inl p) = sent_quiet r header (rw p)
  from_quiet (inr (inl q)) = sent_quiet r header (go (silent r))
    where
      go : (a : Bool) → (a || unanswered r.number) ≡ true
      go true = refl
      go false = q
  from_quiet (inr (inr b)) = by (silent r || unanswered r.number) refl
    where
      by : (a : Bool) → (silent r || unanswered r.number) ≡ a → sent r header ≡ none
      by true p = sent_quiet r header p
      by false p = sent_reply r header p ∙ (replies.barred (area_of header)).1 b

  abbrev Wrong : Type 0
  Wrong = (whole_header header ≡ false) ⊎ ((silent r ≡ false) × (reports r.kind r.pointer ≡ false))

  to_wrong : unsound r header ≡ true → Wrong
  to_wrong e = go (whole_header header) (silent r) (reports r.kind r.pointer) refl refl refl
    where
      go : (a b d : Bool) → whole_header header ≡ a → silent r ≡ b → reports r.kind r.pointer ≡ d → Wrong
      go false b d p q s = inl p
      go true true d p q s = absurd (let z : ◌≡◌ {A = ℕ} 0 1 = cc (sound_silent r header p q) in omega arith)
      go true false false p q s = inr (q, s)
      go true false true p q s = absurd (let k : unsound r header ≡ false = unsound_report r header p q ∙ ap not s in let z : ◌≡◌ {A = ℕ} 0 1 = cc in omega arith)

  from_wrong : Wrong → unsound r header ≡ true
  from_wrong (inl p) = unsound_header r header p
  from_wrong (inr (q, s)) = go (whole_header header) refl
    where
      go : (a : Bool) → whole_header header ≡ a → unsound r header ≡ true
      go true p = unsound_report r header p q ∙ ap not s
      go false p = unsound_header r header p

-- What goes out.
module _ (r : Report) (header payload : List ℕ) (room space : ℕ) (message options : List ℕ) where
  -- both fit
  fit : (m o : List ℕ) → room_for m o room space ≡ goes message options → (m ≡ message) × ((o ≡ options) × ((length m ≤ room) × (length o ≤ space)))
  fit m o e = go (ltb room (length m)) (ltb space (length o)) refl refl e
    where
      go : (a b : Bool) → ltb room (length m) ≡ a → ltb space (length o) ≡ b → cond (a || b) (refused Short) (goes m o) ≡ goes message options
          → (m ≡ message) × ((o ≡ options) × ((length m ≤ room) × (length o ≤ space)))
      go true b p q e = absurd (let z : ◌≡◌ {A = ℕ} 0 1 = cc in omega arith)
      go false true p q e = absurd (let z : ◌≡◌ {A = ℕ} 0 1 = cc in omega arith)
      go false false p q e = (cc, (cc, (ltb-false _ _ p, ltb-false _ _ q)))

  never_refused : (x : BuildError) → outcome r header payload room space ≡ goes message options → outcome r header payload room space ≡ refused x → ⊥
  never_refused x e f = let z : ◌≡◌ {A = ℕ} 0 1 = cc in omega arith

  never_quiet : outcome r header payload room space ≡ goes message options → outcome r header payload room space ≡ quiet → ⊥
  never_quiet e f = let z : ◌≡◌ {A = ℕ} 0 1 = cc in omega arith

  goes_out : outcome r header payload room space ≡ goes message options → GoesOut r header payload room space message options
  goes_out e = by (unsound r header) (sent r header) refl refl
    where
      carried : unsound r header ≡ false → silent r ≡ false → reports r.kind r.pointer ≡ true
      carried u s = go (reports r.kind r.pointer) refl
        where
          go : (b : Bool) → reports r.kind r.pointer ≡ b → b ≡ true
          go true p = refl
          go false p =
              absurd
              (let k : unsound r header ≡ true = unsound_report r header (sound_header r header u) s ∙ ap not p in
              let z : ◌≡◌ {A = ℕ} 0 1 = cc in
              omega arith)

      last : unsound r header ≡ false → (o : List ℕ) → sent r header ≡ some o → silent r ≡ false → unanswered r.number ≡ false → GoesOut r header payload room space message options
      last u o f s a =
          let g = fit (message_by r header payload) o (sym (out_some r header payload room space u o f) ∙ e) in
          let q : (silent r || unanswered r.number) ≡ false = rw (s, a) in
          record {
            sound = u;
            heard = s;
            answered = a;
            back = rw g.0 at (given_back r.kind r.code r.pointer header payload (carried u s) (sound_header r header u));
            reply = sym (sent_reply r header q) ∙ f ∙ ap some g.1.0;
            fits = (rw g.0 at g.1.1.0, rw g.1.0 at g.1.1.1);
          }

      heard : unsound r header ≡ false → (o : List ℕ) → sent r header ≡ some o → (a b : Bool) → silent r ≡ a → unanswered r.number ≡ b → GoesOut r header payload room space message options
      heard u o f true b p q = absurd (let k : sent r header ≡ none = from_quiet r header (inl p) in let z : ◌≡◌ {A = ℕ} 0 1 = cc in omega arith)
      heard u o f false true p q = absurd (let k : sent r header ≡ none = from_quiet r header (inr (inl q)) in let z : ◌≡◌ {A = ℕ} 0 1 = cc in omega arith)
      heard u o f false false p q = last u o f p q

      by : (a : Bool) (x : Option (List ℕ)) → unsound r header ≡ a → sent r header ≡ x → GoesOut r header payload room space message options
      by true x u f = absurd (never_refused Unsound e (out_unsound r header payload room space u))
      by false none u f = absurd (never_quiet e (out_none r header payload room space u f))
      by false (some o) u f = heard u o f (silent r) (unanswered r.number) refl refl

  -- what the reply carries, by what the header's area has
  carried_label : (at : ℕ) (basic : Place) → outcome r header payload room space ≡ goes message options → open_walk (area_of header) ≡ Ok (places (Some at) basic)
      → Labelled (area_of header) at options
  carried_label at basic e w = go (replies.carries (area_of header) options reply)
    where
      reply : reply_area (area_of header) ≡ some options
      reply = (goes_out e).reply

      go : Carries (area_of header) options → Labelled (area_of header) at options
      go (unlabelled b x y) = absurd (let q : None ≡ Some at = (same_places None b (Some at) basic (sym x ∙ w)).0 in let z : ◌≡◌ {A = ℕ} 0 1 = cc in omega arith)
      go (labelled p b x v y s) =
          let k : Some p ≡ Some at = (same_places (Some p) b (Some at) basic (sym x ∙ w)).0 in
          let i : p ≡ at = cc in
          record {
            readable = subst (λ (j : ℕ). valid (option_at j (area_of header)) ≡ true) i v;
            same = s ∙ ap (λ (j : ℕ). option_at j (area_of header)) i;
            met = y;
            sized = replies.sized (area_of header) options reply;
          }

  carried_none : (basic : Place) → outcome r header payload room space ≡ goes message options → open_walk (area_of header) ≡ Ok (places None basic) → options ≡ []
  carried_none basic e w = let k : some options ≡ some [] = sym (goes_out e).reply ∙ replies.bare (area_of header) basic w in cc

untouched_by : (o : Outcome) (e : BuildError) (message options : List ℕ) → (o ≡ refused e) ⊎ (o ≡ quiet) → (message_left o message ≡ message) × (options_left o options ≡ options)
untouched_by o e message options (inl p) = (ap (λ (x : Outcome). message_left x message) p, ap (λ (x : Outcome). options_left x options) p)
untouched_by o e message options (inr p) = (ap (λ (x : Outcome). message_left x message) p, ap (λ (x : Outcome). options_left x options) p)

pub answers : Answers
answers =
    record {
      nothing = λ r header. (to_quiet r header, from_quiet r header);
      two = λ r header. (to_wrong r header, from_wrong r header);
      untouched = untouched_by;
      labelled = λ r header payload room space message options at basic. carried_label r header payload room space message options at basic;
      unlabelled = λ r header payload room space message options basic. carried_none r header payload room space message options basic;
      out = goes_out;
    }

pub worked : WorkedAnswers
unfolding ones_sum checksum_of message_of met_from met_of open_walk good_body valid reply_of reply_area unsound sent outcome
worked = (refl, refl, (refl, refl), (refl, refl, refl))
