-- The ways through crossing: each answer, and what the far keys are then.
use mathlib.Core.Path.{◌≡◌, refl, sym, ◌∙◌, ap}
use mathlib.Core.Bool.{Bool, true, false, ◌&&◌}
use mathlib.Core.List.{List}
use Prim.Native.Nat.{ℕ}
use lib.Dec.{leb}
use lib.ListN.{length, take, get_or}
use Rattle.std.specs.Prelude.{Option, Ok, Err}
use Rattle.lists.specs.Lists.{copied}
use Rattle.label_keys.specs.Keys.{key_runs}
use Rattle.table.specs.declared.Row.{Row}
use Rattle.renumber_search.specs.Search.{searched_of, searched_keys}
use Rattle.decision.specs.declared.Passed.{Passed}
use Rattle.decision.specs.declared.Refusal.{Refusal}
use Rattle.decision.specs.Verdict.{Verdict, stopped}
use Rattle.forward_search.specs.Acts.{carried_verdict, leads, crossed_acts, acts_keys}

module _ (same there : Bool) (partners : List ℕ) (rows : List Row) (own far : List ℕ) where
  abbrev Acts : Verdict → Verdict → List ℕ → Type 0
  Acts a v keys = (v ≡ crossed_acts a same there partners rows own (length far)) × (keys ≡ acts_keys a same there partners rows own far)

  pub acts_same : same ≡ true → (a : Verdict) (keys : List ℕ) → keys ≡ copied own far → Acts a a keys
  unfolding crossed_acts acts_keys
  acts_same e (Ok p) keys k = (sym (rw e), k ∙ sym (rw e))
  acts_same e (Err r) keys k = (refl, k ∙ sym (rw e))

  module _ (e : same ≡ false) where
    pub acts_stopped : (r : Refusal) → Acts (Err r) (Err r) far
    unfolding crossed_acts acts_keys
    acts_stopped r = (refl, sym (rw e))

    module _ (q : Passed) (to : ℕ) (p : to ≡ get_or partners q.level 256) where
      lead_is : (there && leb to 255) ≡ leads q there partners
      lead_is = ap (λ (k : ℕ). there && leb k 255) p

      pub acts_none : (there && leb to 255) ≡ false → (v : Verdict) → v ≡ stopped 16 3 9 0 → Acts (Ok q) v far
      unfolding crossed_acts acts_keys
      acts_none l v w = let z : leads q there partners ≡ false = sym lead_is ∙ l in (w ∙ sym (rw (e, z)), sym (rw (e, z)))

      pub acts_searched : (there && leb to 255) ≡ true → (s : Option ℕ) → s ≡ searched_of rows (key_runs (take q.count own)) (length far)
          → (keys : List ℕ) → keys ≡ searched_keys rows (key_runs (take q.count own)) far → (v : Verdict) → v ≡ carried_verdict s to → Acts (Ok q) v keys
      unfolding crossed_acts acts_keys
      acts_searched l s es keys ek v ev =
          let z : leads q there partners ≡ true = sym lead_is ∙ l in
          (ev ∙ ap (λ (x : Option ℕ). carried_verdict x to) es ∙ ap (carried_verdict (searched_of rows (key_runs (take q.count own)) (length far))) p ∙ sym (rw (e, z)), ek ∙ sym (rw (e, z)))
