-- The theorems of `specs/Theorems.antt`, from the laws over lists of runs.
use Prim.Native.Nat.{ℕ, ◌+◌, ◌-◌, ◌*◌, ◌≤◌, ◌<◌}
use mathlib.Core.Path.{◌≡◌, refl, ap, sym, ◌∙◌}
use mathlib.Core.List.{List, [], ◌∷◌}
use mathlib.Core.Bool.{Bool, true, false, cond, true≢false}
use mathlib.Core.Option.{none, some}
use mathlib.Core.Logic.{◌⊎◌, inl, inr, ⊎_elim, ◌↔◌}
use lib.ListN.{length}
use native.Mathlib.Omega.{arith}
use native.Mathlib.Decide.{dec_le}
use Rattle.label.specs.declared.Run.{Run}
use Rattle.label.specs.declared.Label.{Label}
use Rattle.label.specs.Runs.{covers, count_of, count_below, top_of}
use Rattle.label.specs.Label.{used, well_formed, member}
use Rattle.label.proofs.Canon.{Canon, top_clear, top_covered}
use Rattle.label.proofs.Count.{count_is, count_same}
use Rattle.label.proofs.Labels.{formed, member_is, same_label}
use Rattle.option.specs.declared.Spellings.{Spellings}
use Rattle.option.specs.declared.Form.{Form}
use Rattle.option.specs.Option.{tag_of, body_of, Means}
use Rattle.option.specs.Permitted.{usual, Permitted}
use Rattle.option.specs.Spelling.{from_zero, size1, size2, size5, form_for, spelled_by, padded, spelled_of}
use Rattle.option.specs.Theorems.{Spells, AtMost, Spellable, OneSpelling, Shortest, UsualSpellable, UsualSpelling}
use Rattle.option.proofs.Forms.{FormedRuns, SpellsRuns, means_runs, runs_means, permitted_runs, runs_permitted, formed_runs}
use Rattle.option.proofs.Choice.{Taken, take0, take1, take_ten, take2, take5, choice}
use Rattle.option.proofs.Meaning.{bounds, valid_most}
use Rattle.option.proofs.Theorems.{Held, held1, held_ten, held2, held5, usual_held, spelled_none, spelled_some, spelled_is, spelling_spells, spelling_means, held_of, held_shortest, held_first, none_held, none_permitted, read_back, same_output}
use Rattle.option.proofs.Only.{least_only}

size5_least : (rs : List Run) → 4 * length rs ≤ size5 rs + 2
size5_least rs = go (from_zero rs)
  where
    go : (z : Bool) → 4 * length rs ≤ 4 * length rs - cond z 2 0 + 2
    go true = omega arith
    go false = omega arith

size5_most : (rs : List Run) → size5 rs ≤ 4 * length rs
size5_most rs = omega arith

module _ (l : Label) (w : well_formed l ≡ true) where
  f : FormedRuns l.domain l.level (used l)
  f = formed_runs l w

  -- the tests of a form's room, as the documents say them
  count : count_below 65535 (member l) ≡ count_of (used l)
  count = count_same 65535 (member l) (covers (used l)) (member_is l w) ∙ count_is 65535 0 (used l) f.canon f.below

  low_top : (n : ℕ) → top_of (used l) ≤ n + 1 → AtMost n l
  low_top n h c k = member_is l w c ∙ top_clear 0 (used l) c f.canon (omega arith)

  top_low : (n : ℕ) → AtMost n l → top_of (used l) ≤ n + 1
  top_low n h = go (used l) f.canon (λ c k. sym (member_is l w c) ∙ h c k)
    where
      go : (rs : List Run) → Canon 0 rs → ((c : ℕ) → n < c → covers rs c ≡ false) → top_of rs ≤ n + 1
      go [] k g = omega arith
      go (r ∷ rs) k g = elim (dec_le (top_of (r ∷ rs)) (n + 1)) [ yes u ↦ u | no u ↦ absurd (true≢false (sym (top_covered 0 r rs k) ∙ g (top_of (r ∷ rs) - 1) (omega arith))) ]

  module _ (p : Spellings) where
    pub spells_runs : (s : List ℕ) → Spells p s l → SpellsRuns p s l.domain l.level (used l)
    spells_runs s q =
        record {
          permitted = permitted_runs p s l q.permitted;
          shortest = λ o m. q.shortest o (runs_permitted p o l w m);
          first = λ o m. q.first o (runs_permitted p o l w m);
        }

    pub runs_spells : (s : List ℕ) → SpellsRuns p s l.domain l.level (used l) → Spells p s l
    runs_spells s q =
        record {
          permitted = runs_permitted p s l w q.permitted;
          shortest = λ o m. q.shortest o (permitted_runs p o l m);
          first = λ o m. q.first o (permitted_runs p o l m);
        }

    pub spelled_spells : (s : List ℕ) → spelled_of p l ≡ some s ↔ Spells p s l
    spelled_spells s = (λ e. runs_spells s (spelling_spells p l.domain l.level (used l) f s e), back)
      where
        back : Spells p s l → spelled_of p l ≡ some s
        back q =
            let r = spells_runs s q in
            least_only p l.domain l.level (used l) f s r.permitted.means (held_of p l.domain l.level (used l) f s r.permitted) r.shortest r.first

    pub refused_none : spelled_of p l ≡ none ↔ ((o : List ℕ) → Permitted p o l → ⊥)
    refused_none =
        let n = none_permitted p l.domain l.level (used l) f in
        (λ e o m. n.0 e o (permitted_runs p o l m), λ h. n.1 (λ o m. h o (runs_permitted p o l w m)))

    pub spelled_or_none : (spelled_of p l ≡ none) ⊎ ((s : List ℕ) × (spelled_of p l ≡ some s))
    spelled_or_none = elim (dec_le 1 (form_for p (used l)).tag) [ yes u ↦ inr (spelled_by (form_for p (used l)) l.domain l.level (used l), spelled_some p l.domain l.level (used l) u) | no u ↦ inl (spelled_none p l.domain l.level (used l) (omega arith)) ]

    taken_spellable : (g : Form) → Taken p (size1 (used l)) (size2 (used l)) (size5 (used l)) g → 0 < g.tag → Spellable p l
    taken_spellable g (take1 e h) q = inl (e, low_top 239 (omega arith))
    taken_spellable g (take_ten e h) q = inr (inl (e, low_top 79 (omega arith)))
    taken_spellable g (take2 e h) q = inr (inr (inl (e, omega (arith, count))))
    taken_spellable g (take5 e h) q = inr (inr (inr (e, omega (arith, size5_least (used l)))))
    taken_spellable g take0 q = absurd (omega arith)

    spellable_held : Spellable p l → (n : ℕ) × ((t : ℕ) × Held p (used l) n t)
    spellable_held (inl q) = (30, (1, held1 q.0 (omega (arith, top_low 239 q.1)) (omega arith)))
    spellable_held (inr (inl q)) = (10, (1, held_ten q.0 (omega (arith, top_low 79 q.1)) refl))
    spellable_held (inr (inr (inl q))) = (30, (2, held2 q.0 (omega (arith, count, q.1)) (omega arith)))
    spellable_held (inr (inr (inr q))) = (28, (5, held5 q.0 (omega (arith, size5_most (used l), q.1)) (omega arith)))

    pub spelled_exists : ((s : List ℕ) × (spelled_of p l ≡ some s)) ↔ Spellable p l
    spelled_exists = (there, back)
      where
        there : ((s : List ℕ) × (spelled_of p l ≡ some s)) → Spellable p l
        there q = taken_spellable (form_for p (used l)) (choice p (used l)).taken (spelled_is p l.domain l.level (used l) q.0 q.1).1

        back : Spellable p l → (s : List ℕ) × (spelled_of p l ≡ some s)
        back h = ⊎_elim (λ e. (let q = spellable_held h in absurd (none_held p l.domain l.level (used l) f e q.0 q.1.0 q.1.1))) (λ q. q) spelled_or_none

  -- With tags 1, 2 and 5 permitted every valid option counts.
  usual_of : (o : List ℕ) → Means o l → Held usual (used l) (length (body_of o)) (tag_of o)
  usual_of o m = usual_held (used l) (length (body_of o)) (tag_of o) (bounds o l.domain l.level (used l) (means_runs o l m) f.canon)

  pub usual_spells : (s : List ℕ) → spelled_of usual l ≡ some s ↔ Shortest s l
  usual_spells s = (
    λ e. record {
      means = runs_means s l w (spelling_means usual l.domain l.level (used l) f s e);
      shortest = λ o m. held_shortest usual l.domain l.level (used l) f s e o (means_runs o l m) (usual_of o m);
      first = λ o m. held_first usual l.domain l.level (used l) f s e o (means_runs o l m) (usual_of o m);
    },
    λ q. least_only usual l.domain l.level (used l) f s (means_runs s l q.means) (usual_of s q.means) (λ o m. q.shortest o (runs_means o l w m.means)) (λ o m. q.first o (runs_means o l w m.means)),
  )

  pub usual_refused : spelled_of usual l ≡ none ↔ ((o : List ℕ) → Means o l → ⊥)
  usual_refused = (
    λ e o m. none_held usual l.domain l.level (used l) f e (length (body_of o)) (tag_of o) (usual_of o m),
    λ h. (refused_none usual).1 (λ o m. h o m.means),
  )

  usual_room : Spellable usual l ↔ UsualSpellable l
  usual_room = (there, back)
    where
      there : Spellable usual l → UsualSpellable l
      there (inl q) = inl q.1
      there (inr (inl q)) = absurd (true≢false (sym q.0))
      there (inr (inr (inl q))) = inr (inl q.1)
      there (inr (inr (inr q))) = inr (inr q.1)

      back : UsualSpellable l → Spellable usual l
      back (inl q) = inl (refl, q)
      back (inr (inl q)) = inr (inr (inl (refl, q)))
      back (inr (inr q)) = inr (inr (inr (refl, q)))

pub told : (p : Spellings) (a b : Label) (s t : List ℕ) → well_formed a ≡ true → well_formed b ≡ true → spelled_of p a ≡ some s → spelled_of p b ≡ some t → (padded s ≡ padded t ↔ (a ≡ b))
told p a b s t wa wb e g =
    let q = same_output p a.domain a.level (used a) (formed_runs a wa) b.domain b.level (used b) (formed_runs b wb) s t e g in (
      λ h. (let r = q.0 h in same_label a b (formed a wa) (formed b wb) r.0 r.1 r.2),
      λ h. q.1 (ap (λ (x : Label). x.domain) h, ap (λ (x : Label). x.level) h, ap used h),
    )

pub one_spelling : OneSpelling
one_spelling =
    record {
      spells = λ p l s w. spelled_spells l w p s;
      refused = λ p l w. refused_none l w p;
      exists = λ p l w. spelled_exists l w p;
      told = told;
      back = λ p l s w e. read_back p l.domain l.level (used l) (formed_runs l w) s (spelling_means p l.domain l.level (used l) (formed_runs l w) s e);
      fits = λ p l s w e. valid_most s ((spelled_spells l w p s).0 e).permitted.means.good;
    }

pub usual_spelling : UsualSpelling
usual_spelling =
    record {
      spells = λ l s w. usual_spells l w s;
      refused = λ l w. usual_refused l w;
      exists = λ l w. (λ e. (usual_room l w).0 ((spelled_exists l w usual).0 e), λ q. (spelled_exists l w usual).1 ((usual_room l w).1 q));
    }
