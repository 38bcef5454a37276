-- The meaning of an option over a domain, a level and a list of runs, as inductions want it, and the way from labels there and back.
use Prim.Native.Nat.{ℕ, ◌≤◌, ◌<◌}
use mathlib.Core.Path.{◌≡◌, sym, ◌∙◌}
use mathlib.Core.List.{List}
use mathlib.Core.Bool.{true}
use lib.ListN.{length}
use native.Mathlib.Omega.{arith}
use Rattle.label.specs.declared.Run.{Run}
use Rattle.label.specs.declared.Label.{Label}
use Rattle.label.specs.Runs.{covers}
use Rattle.label.specs.Label.{used, well_formed}
use Rattle.label.proofs.Canon.{Canon, Below, spaced_canon, spaced_below}
use Rattle.label.proofs.Labels.{formed, member_is}
use Rattle.option.specs.declared.Spellings.{Spellings}
use Rattle.option.specs.Option.{Octets, domain_of, level_of, tag_of, valid, has, Means}
use Rattle.option.specs.Permitted.{permits, Permitted}

pub record MeansRuns (o : List ℕ) (d v : ℕ) (rs : List Run) : Type 0 where
  pub octets : Octets o
  pub good : valid o ≡ true
  pub owned : 0 < d
  pub domain : domain_of o ≡ d
  pub level : level_of o ≡ v
  pub members : (c : ℕ) → has o c ≡ covers rs c

pub record FormedRuns (d v : ℕ) (rs : List Run) : Type 0 where
  pub owned : 0 < d
  pub domain : d < 4294967296
  pub level : v < 256
  pub canon : Canon 0 rs
  pub below : Below 65535 rs

-- a permitted spelling that means the runs
pub record PermittedRuns (p : Spellings) (o : List ℕ) (d v : ℕ) (rs : List Run) : Type 0 where
  pub means : MeansRuns o d v rs
  pub permitted : permits p o ≡ true

-- it is one, none that is is shorter, and none as short has an earlier tag
pub record SpellsRuns (p : Spellings) (s : List ℕ) (d v : ℕ) (rs : List Run) : Type 0 where
  pub permitted : PermittedRuns p s d v rs
  pub shortest : (o : List ℕ) → PermittedRuns p o d v rs → length s ≤ length o
  pub first : (o : List ℕ) → PermittedRuns p o d v rs → length o ≡ length s → tag_of s ≤ tag_of o

pub means_runs : (o : List ℕ) (l : Label) → Means o l → MeansRuns o l.domain l.level (used l)
means_runs o l m =
    let f = formed l m.label in
    record {
      octets = m.octets;
      good = m.good;
      owned = (let n = f.owned in omega arith);
      domain = m.domain;
      level = m.level;
      members = λ c. m.members c ∙ member_is l m.label c;
    }

pub runs_means : (o : List ℕ) (l : Label) → well_formed l ≡ true → MeansRuns o l.domain l.level (used l) → Means o l
runs_means o l w m =
    record {
      octets = m.octets;
      good = m.good;
      label = w;
      domain = m.domain;
      level = m.level;
      members = λ c. m.members c ∙ sym (member_is l w c);
    }

pub permitted_runs : (p : Spellings) (o : List ℕ) (l : Label) → Permitted p o l → PermittedRuns p o l.domain l.level (used l)
permitted_runs p o l m = record { means = means_runs o l m.means; permitted = m.permitted }

pub runs_permitted : (p : Spellings) (o : List ℕ) (l : Label) → well_formed l ≡ true → PermittedRuns p o l.domain l.level (used l) → Permitted p o l
runs_permitted p o l w m = record { means = runs_means o l w m.means; permitted = m.permitted }

pub formed_runs : (l : Label) → well_formed l ≡ true → FormedRuns l.domain l.level (used l)
formed_runs l w =
    let f = formed l w in
    record {
      owned = (let n = f.owned in omega arith);
      domain = omega (arith, f.domain);
      level = omega (arith, f.level);
      canon = spaced_canon 0 (used l) f.runs;
      below = spaced_below 0 (used l) f.runs;
    }
