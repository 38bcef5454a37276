-- Every refusal of the box that is not silent, and not one that is never answered, is answered: its area bars no reply.
use Prim.Native.Nat.{ℕ, ◌+◌, ◌≤◌}
use mathlib.Core.Path.{◌≡◌, refl, sym, ap, ◌∙◌}
use mathlib.Core.Bool.{Bool, true, false, not, ◌&&◌, ◌||◌}
use mathlib.Core.List.{List, [], ◌∷◌}
use mathlib.Core.Logic.{⊎_elim}
use mathlib.Core.Option.{Option, none, some}
use native.Mathlib.Omega.{arith}
use borrow.Author.Tests.{le-leb, eqb-true, eqb-false}
use lib.Dec.{leb, eqb}
use lib.ListN.{get_or, drop}
use Rattle.label.specs.declared.Label.{Label}
use Rattle.decision.specs.declared.Refusal.{Refusal}
use Rattle.decision.specs.Decision.{decided}
use Rattle.option.specs.Option.{Octets}
use Rattle.option_read.proofs.Theorems.{reads}
use Rattle.option_slack.proofs.Strict.{strictly_reads}
use Rattle.std.specs.Prelude.{Ok, Err, Some, None}
use Rattle.area.specs.Kinds.{Place, Walk, places}
use Rattle.port.specs.declared.Port.{Port}
use Rattle.area.proofs.Laws.{area_refused, sound_placed}
use Rattle.arrive.specs.Checks.{silent as silent_as, faulty, option_at, read_at, when, first_of, walk_at, walk_refusal, walk_check, place_in, required_by, required_check, option_by, option_check}
use Rattle.arrive.proofs.Arrival.{placed_framed}
use Rattle.arrive.proofs.Pointer.{strict_number}
use Rattle.option.proofs.Octets.{octets_take, octets_drop}
use Rattle.message_reply.specs.Reply.{padded, reply_area}
use Rattle.area.proofs.Open.{sound_open}
use Rattle.message_reply.proofs.Theorems.{replies}
use Rattle.message_build.specs.declared.Report.{Report}
use Rattle.message_build.specs.Build.{silent, unanswered, area_of, sent}
use Rattle.message_build.proofs.Laws.{sent_reply}
use Rattle.demands_reported.specs.Reported.{report_of}

-- a refusal as it is reported
abbrev pub reported : Refusal → Report
reported r = record { number = r.number; kind = r.kind; code = r.code; pointer = r.pointer }

never : (x : List ℕ) (o : Option (List ℕ)) → o ≡ some x → o ≡ none → ⊥
never x o e f = let z : ◌≡◌ {A = ℕ} 0 1 = cc in omega arith

-- refusals that are not answered
quiet_walk : (n : ℕ) → 3 ≤ n → n ≤ 5 → unanswered n ≡ true
quiet_walk n h k = rw (le-leb 3 n h, le-leb n 5 k)

quiet_option : (n : ℕ) → 7 ≤ n → n ≤ 13 → unanswered n ≡ true
quiet_option n h k = go (leb 3 n && leb n 5)
  where
    go : (b : Bool) → (b || ((leb 7 n && leb n 13) || eqb n 23)) ≡ true
    go true = refl
    go false = rw (le-leb 7 n h, le-leb n 13 k)

-- The checks of the walk and of the option, at a port.
module _ (port : Port) (area : List ℕ) where
  -- past both, the area bars no reply
  past_both : Octets area → walk_check port area ≡ none → option_check port area ≡ none → reply_area area ≡ none → ⊥
  unfolding walk_check option_check
  past_both oct w o n = go (walk_at port area) refl w o
    where
      by : (p : ℕ) (b : Place) (t : Bool) → eqb (read_at port (option_at p area)).number 0 ≡ t → walk_at port area ≡ Ok (places (Some p) b)
          → when (not t) (faulty (read_at port (option_at p area)).number (p + (read_at port (option_at p area)).pointer)) ≡ none → ⊥
      by p b false q e o = let z : ◌≡◌ {A = ℕ} 0 1 = cc in omega arith
      by p b true q e o =
          let f = placed_framed area p (sound_placed port.basic.on area (Some p) b e).0 in
          let z = (strictly_reads.exactly port.strict port.domain (option_at p area)).0 (eqb-true _ _ q) in
          let v = ((reads.for port.domain).exactly (option_at p area) (octets_take (get_or area (p + 1) 0) (drop p area) (octets_drop p area oct)) f.framed).0 z.0 in
          never (padded (option_at p area)) (reply_area area) (replies.copied area p b (sound_open port.basic.on area (Some p) b e) v.0) n

      go : (x : Walk) → walk_at port area ≡ x → walk_refusal (walk_at port area) ≡ none → option_by (place_in (walk_at port area)) port area ≡ none → ⊥
      go (Err m) e w o = let k : some (faulty m.number m.at) ≡ none = sym (ap walk_refusal e) ∙ w in let z : ◌≡◌ {A = ℕ} 0 1 = cc in omega arith
      go (Ok m) e w o = placed m.label m.basic e o
        where
          placed : (l b : Place) → walk_at port area ≡ Ok (places l b) → option_by (place_in (walk_at port area)) port area ≡ none → ⊥
          placed None b e o = never [] (reply_area area) (replies.bare area b (sound_open port.basic.on area None b e)) n
          placed (Some p) b e o = by p b (eqb (read_at port (option_at p area)).number 0) refl e (sym (ap (λ (x : Walk). option_by (place_in x) port area) e) ∙ o)

  -- a walk's refusal, and an option's, is one that is not answered
  walk_quiet : (r : Refusal) → walk_check port area ≡ some r → unanswered r.number ≡ true
  unfolding walk_check
  walk_quiet r w = go (walk_at port area) refl w
    where
      go : (x : Walk) → walk_at port area ≡ x → walk_refusal (walk_at port area) ≡ some r → unanswered r.number ≡ true
      go (Ok m) e w = absurd (let k : none ≡ some r = sym (ap walk_refusal e) ∙ w in let z : ◌≡◌ {A = ℕ} 0 1 = cc in omega arith)
      go (Err m) e w =
          let q = area_refused port.basic.on area m.number m.at e in
          let k : some (faulty m.number m.at) ≡ some r = sym (ap walk_refusal e) ∙ w in
          let i : m.number ≡ r.number = cc in
          quiet_walk r.number (omega (arith, q.0)) (omega (arith, q.1))

  option_quiet : (r : Refusal) → option_check port area ≡ some r → unanswered r.number ≡ true
  unfolding option_check
  option_quiet r o = go (place_in (walk_at port area)) o
    where
      by : (p : ℕ) (t : Bool) → eqb (read_at port (option_at p area)).number 0 ≡ t
          → when (not t) (faulty (read_at port (option_at p area)).number (p + (read_at port (option_at p area)).pointer)) ≡ some r → unanswered r.number ≡ true
      by p true q o = absurd (let z : ◌≡◌ {A = ℕ} 0 1 = cc in omega arith)
      by p false q o =
          let i : (read_at port (option_at p area)).number ≡ r.number = cc in
          ⊎_elim (λ k. quiet_option r.number (omega (arith, k.0)) (omega (arith, k.1))) (λ k. ap unanswered (sym i ∙ k))
          (strict_number port.strict port.domain (option_at p area) (eqb-false _ _ q))

      go : (x : Place) → option_by x port area ≡ some r → unanswered r.number ≡ true
      go None o = absurd (let z : ◌≡◌ {A = ℕ} 0 1 = cc in omega arith)
      go (Some p) o = by p (eqb (read_at port (option_at p area)).number 0) refl o

  -- where a label is required and none is there, there is no option to be checked
  required_none : (r : Refusal) → required_check port area ≡ some r → option_check port area ≡ none
  unfolding required_check option_check
  required_none r e = go (place_in (walk_at port area)) e
    where
      go : (x : Place) → required_by x port ≡ some r → option_by x port area ≡ none
      go None e = refl
      go (Some p) e = absurd (let z : ◌≡◌ {A = ℕ} 0 1 = cc in omega arith)

  -- the checks of either job: two that are silent, these three, and the rest
  pub past_first : Octets area → (s t : Option Refusal) (rest : List (Option Refusal)) (r : Refusal)
      → ((x : Refusal) → s ≡ some x → silent (reported x) ≡ true) → ((x : Refusal) → t ≡ some x → silent (reported x) ≡ true)
      → first_of (s ∷ t ∷ walk_check port area ∷ required_check port area ∷ option_check port area ∷ rest) ≡ some r
      → silent (reported r) ≡ false → unanswered r.number ≡ false → reply_area area ≡ none → ⊥
  past_first oct s t rest r hs ht e q u n = go s t (walk_check port area) (required_check port area) (option_check port area) refl refl refl refl refl e
    where
      clash : (b : Bool) → b ≡ true → b ≡ false → ⊥
      clash b x y = let z : ◌≡◌ {A = ℕ} 0 1 = cc in omega arith

      go : (s' t' w k o : Option Refusal) → s ≡ s' → t ≡ t' → walk_check port area ≡ w → required_check port area ≡ k → option_check port area ≡ o
          → first_of (s' ∷ t' ∷ w ∷ k ∷ o ∷ rest) ≡ some r → ⊥
      go (some x) t' w k o es et ew ek eo f = let i : x ≡ r = cc in clash (silent (reported r)) (hs r (es ∙ ap some i)) q
      go none (some x) w k o es et ew ek eo f = let i : x ≡ r = cc in clash (silent (reported r)) (ht r (et ∙ ap some i)) q
      go none none (some x) k o es et ew ek eo f = let i : x ≡ r = cc in clash (unanswered r.number) (walk_quiet r (ew ∙ ap some i)) u
      go none none none (some x) o es et ew ek eo f = past_both oct ew (required_none x ek) n
      go none none none none (some x) es et ew ek eo f = let i : x ≡ r = cc in clash (unanswered r.number) (option_quiet r (eo ∙ ap some i)) u
      go none none none none none es et ew ek eo f = past_both oct ew eo n

-- what a check says is its refusal
pub when_silent : (b : Bool) (n : ℕ) (x : Refusal) → when b (silent_as n) ≡ some x → silent (reported x) ≡ true
when_silent true n x e = let i : silent_as n ≡ x = cc in ap (λ (y : Refusal). silent (reported y)) (sym i)
when_silent false n x e = absurd (let z : ◌≡◌ {A = ℕ} 0 1 = cc in omega arith)

-- a decision whose report is not silent is that of a refusal, and is sent where its area bars no reply
pub decided_answered : (header : List ℕ) (quiet : Bool) (c : Option Refusal) (l : Label) (n : ℕ)
    → ((r : Refusal) → c ≡ some r → silent (reported r) ≡ false → unanswered r.number ≡ false → reply_area (area_of header) ≡ none → ⊥)
    → silent (report_of (decided quiet c l n)) ≡ false → unanswered (decided quiet c l n).number ≡ false → sent (report_of (decided quiet c l n)) header ≡ none → ⊥
decided_answered header quiet none l n h q u e = let z : ◌≡◌ {A = ℕ} 0 1 = cc in omega arith
decided_answered header true (some r) l n h q u e = let z : ◌≡◌ {A = ℕ} 0 1 = cc in omega arith
decided_answered header false (some r) l n h q u e = h r refl q u (sym (sent_reply (reported r) header (rw (q, u))) ∙ e)
