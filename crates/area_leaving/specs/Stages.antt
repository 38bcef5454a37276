-- What the private functions answer; no public contract names these.
use Rattle.std.specs.Prelude.{ℕ, List, Option, Some, None, get_or}
use Rattle.area.specs.declared.Kind.{Kind}
use Rattle.area.specs.Kinds.{Size, kind_of, size_of}
use Rattle.area.specs.Area.{span_of}
use Rattle.area_leaving.specs.declared.Over.{Over}
use Rattle.area_leaving.specs.Kept.{kept_len}

-- over n octets, of which the first m are kept
abbrev pub over : ℕ → ℕ → Over
over n m = record { n = n; kept = m }

abbrev pub over_of : Kind → Size → Option Over
over_of k None = None
over_of k (Some n) = Some (over n (kept_len k n))

-- what the walk does at the option that the list starts with
abbrev pub next_of : List ℕ → Option Over
next_of l = over_of (kind_of (get_or l 0 0)) (span_of (kind_of (get_or l 0 0)) (size_of l))
