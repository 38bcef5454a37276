-- Document 01, "The sample program" and "Numbers to try": its two lines, and level 2.
use Rattle.std.specs.Prelude.{◌≡◌, List, [], ◌∷◌, ◌++◌, ℕ, replicate}
use Rattle.std.proofs.Math.ListN as lists
use Rattle.label.specs.Runs.{run}
use Rattle.label.specs.Label.{label_of}
use Rattle.decision.specs.Decision.{no_fact}
use Rattle.forward_rules.specs.Crossing.{Forwarding}
use Rattle.forward_rules.specs.Forward.{forward_of, output_of}
use Rattle.sample_records.specs.Sample.{arriving, leaving, table, levels}
use Rattle.demands.specs.Worked.{drop, pass}

abbrev pub sample : List ℕ → Forwarding
sample area = record { arriving = arriving; leaving = leaving; table = table; levels = levels; facts = no_fact; area = area; room = 40 }

-- 860c00000005020600030000, category 0 at level 3
abbrev pub first : List ℕ
first = 134 ∷ 12 ∷ 0 ∷ 0 ∷ 0 ∷ 5 ∷ 2 ∷ 6 ∷ 0 ∷ 3 ∷ 0 ∷ 0 ∷ []

pub record SampleLines : Type 0 where
  -- FORWARD 12 860c000000090206000403e8
  pub forward : forward_of (sample first) ≡ pass 12 (label_of 9 4 (run 1000 1000 ∷ []))
  pub octets : (out : List ℕ) → output_of (sample first) out ≡ 134 ∷ 12 ∷ 0 ∷ 0 ∷ 0 ∷ 9 ∷ 2 ∷ 6 ∷ 0 ∷ 4 ∷ 3 ∷ 232 ∷ (replicate 28 0 ++ lists.drop 40 out)
  -- DROP 6 12 1 134
  pub unlabelled : forward_of (sample []) ≡ drop 6 12 1 134
  -- "Level 2 in the sample: `DROP 16 3 9 0`"
  pub unnumbered : forward_of (sample (134 ∷ 10 ∷ 0 ∷ 0 ∷ 0 ∷ 5 ∷ 1 ∷ 4 ∷ 0 ∷ 2 ∷ 0 ∷ 0 ∷ [])) ≡ drop 16 3 9 0
