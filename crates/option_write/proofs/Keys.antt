-- Laws of what is answered and left in the output: an output that is too short, no spelling, a spelling.
use Prim.Native.Nat.{ℕ, ◌≤◌, ◌<◌}
use mathlib.Core.Path.{◌≡◌, ap}
use mathlib.Core.List.{List, ◌++◌}
use mathlib.Core.Option.{Option, none, some}
use lib.ListN.{length, drop}
use borrow.Author.Tests.{lt-ltb, le-ltb}
use Rattle.label.specs.declared.Run.{Run}
use Rattle.label_keys.specs.Keys.{key_runs}
use Rattle.option.specs.declared.Spellings.{Spellings}
use Rattle.option.specs.Spelling.{spelling_of, padded}
use Rattle.option_form.specs.Spelled.{length_of}
use Rattle.option_form.specs.Keys.{keys_spelled}
use Rattle.option_form.proofs.Keys.{keys_spelled_lem}
use Rattle.option_write.specs.Keys.{in_front, laid, keys_count, keys_written, keys_laid}

module _ (p : Spellings) (d v : ℕ) (ks out : List ℕ) where
  pub keys_short : length out < 40 → (0 ≡ keys_count p d v ks (length out)) × (out ≡ keys_written p d v ks out) × (out ≡ keys_laid p d v ks out)
  unfolding keys_count keys_written keys_laid
  keys_short h = let e = lt-ltb (length out) 40 h in (rw e, rw e, rw e)

  module _ (long : 40 ≤ length out) where
    pub keys_none : keys_spelled p d v ks ≡ none → (0 ≡ keys_count p d v ks (length out)) × (out ≡ keys_written p d v ks out) × (out ≡ keys_laid p d v ks out)
    unfolding keys_count keys_written keys_laid
    keys_none e = let q = le-ltb (length out) 40 long in (rw (q, e), rw (q, e), rw (q, e))

    pub keys_some : (s : List ℕ) → keys_spelled p d v ks ≡ some s
        → (length s ≡ keys_count p d v ks (length out)) × (s ++ drop (length s) out ≡ keys_written p d v ks out) × (padded s ++ drop 40 out ≡ keys_laid p d v ks out)
    unfolding keys_count keys_written keys_laid
    keys_some s e = let q = le-ltb (length out) 40 long in (rw (q, e), rw (q, e), rw (q, e))

-- Keys of at most 120 given runs, and an output that is long enough: the option at its front, and the rest as it was, or zeros up to octet 39.
module _ (p : Spellings) (d v : ℕ) (ks : List ℕ) (rs : List Run) (out : List ℕ) (e : key_runs ks ≡ rs) (h : length rs ≤ 120) (long : 40 ≤ length out) where
  pub keys_put : (keys_count p d v ks (length out) ≡ length_of (spelling_of p d v rs)) × (keys_written p d v ks out ≡ in_front (spelling_of p d v rs) out)
  unfolding keys_count keys_written
  keys_put =
      let s : keys_spelled p d v ks ≡ spelling_of p d v rs = keys_spelled_lem p d v ks rs e h in
      (rw (le-ltb (length out) 40 long) (ap length_of s), rw (le-ltb (length out) 40 long) (ap (λ (o : Option (List ℕ)). in_front o out) s))

  pub keys_laid_lem : (keys_count p d v ks (length out) ≡ length_of (spelling_of p d v rs)) × (keys_laid p d v ks out ≡ laid (spelling_of p d v rs) out)
  unfolding keys_laid
  keys_laid_lem =
      let s : keys_spelled p d v ks ≡ spelling_of p d v rs = keys_spelled_lem p d v ks rs e h in
      (keys_put.0, rw (le-ltb (length out) 40 long) (ap (λ (o : Option (List ℕ)). laid o out) s))
