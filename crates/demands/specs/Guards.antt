-- What document 01 says of every decision beyond the three demands: the count, the leaving area read again, pointers, datagrams without a label, and
-- the functions asked alone.
use Rattle.std.specs.Prelude.{◌≡◌, Bool, true, false, List, ℕ, ◌+◌, ◌%◌, ◌≤◌, ◌<◌, length, take}
use Rattle.std.proofs.Math.Option.{Option, none}
use Rattle.label.specs.declared.Label.{Label}
use Rattle.label.specs.Label.{leq}
use Rattle.option.specs.Option.{Octets}
use Rattle.option.specs.declared.Spellings.{Spellings}
use Rattle.option.specs.Theorems.{Spells}
use Rattle.std.specs.Prelude.{Ok, Some, None}
use Rattle.area.specs.Kinds.{Place, places}
use Rattle.area.specs.Area.{walk_of}
use Rattle.area_leaving.specs.Kept.{kept_of}
use Rattle.port.specs.declared.Port.{Port}
use Rattle.decision.specs.declared.Decision.{Decision}
use Rattle.arrive.specs.Checks.{walk_at, option_at, required_check, option_check, bad_basic_check, arriving_basic, arriving_label}
use Rattle.deliver.specs.Delivery.{Delivery, delivery_sizes, deliver_of}
use Rattle.forward_rules.specs.Crossing.{Forwarding, sizes}
use Rattle.forward_rules.specs.Forward.{forward_of, output_of}
use Rattle.demands.specs.Demands.{AreaSound}

-- "Zeros pad to a multiple of 4; the count is returned": of an option of s octets and k octets of kept options
pub record Counts (n s k : ℕ) : Type 0 where
  pub fourfold : n % 4 ≡ 0
  pub least : s + k ≤ n
  pub most : n < s + k + 4
  pub fits : n ≤ 40

-- an area that a datagram with this label, this option 130 and these kept options may leave with, toward a port of a domain that reads option 130 or
-- does not (`on`), with permitted spellings: it passes check 1 and, at any such port, strict or not, 3 to 13 and 23; its option 134 is the spelling of the label; its label,
-- option 130 and kept options are these
pub record Reads (a : List ℕ) (on : Bool) (domain : ℕ) (permitted : Spellings) (l : Label) (c : Option (List ℕ)) (ks : List ℕ) : Type 0 where
  pub area : AreaSound a
  pub walk : (basic : Place) × (walk_of on a ≡ Ok (places (Some 0) basic))
  pub spelled : Spells permitted (option_at 0 a) l
  pub required : (p : Port) → p.basic.on ≡ on → p.domain ≡ domain → required_check p a ≡ none
  pub option : (p : Port) → p.basic.on ≡ on → p.domain ≡ domain → option_check p a ≡ none
  pub label : (p : Port) → p.basic.on ≡ on → p.domain ≡ domain → arriving_label p a ≡ l
  pub basic : (p : Port) → p.basic.on ≡ on → arriving_basic p a ≡ c
  pub kept : kept_of a ≡ ks
  pub counted : Counts (length a) (length (option_at 0 a)) (length ks)

-- an area that a datagram with these kept options may leave with toward unlabelled hosts: it passes check 1 and, at any port that reads option 130 or
-- does not (`on`), 3 to 5; it has no option 134, and its kept options are these
pub record ReadsBare (a : List ℕ) (on : Bool) (ks : List ℕ) : Type 0 where
  pub area : AreaSound a
  pub walk : (basic : Place) × (walk_of on a ≡ Ok (places None basic))
  pub kept : kept_of a ≡ ks
  pub counted : Counts (length a) 0 (length ks)

-- the leaving area: as many octets of the output as the count says
abbrev pub leaving_area : Forwarding → List ℕ → List ℕ
leaving_area f out = take (forward_of f).count (output_of f out)

-- two datagrams past 3 to 5 and 19 without an option 134, with kept options in order, records and facts alike
pub record Unlabelled (f g : Forwarding) : Type 0 where
  pub arriving : f.arriving ≡ g.arriving
  pub leaving : f.leaving ≡ g.leaving
  pub table : f.table ≡ g.table
  pub levels : f.levels ≡ g.levels
  pub facts : f.facts ≡ g.facts
  pub kept : kept_of f.area ≡ kept_of g.area
  pub sized : (sizes f ≡ none) × (sizes g ≡ none)
  pub first : (basic : Place) × (walk_at f.arriving f.area ≡ Ok (places None basic))
  pub second : (basic : Place) × (walk_at g.arriving g.area ≡ Ok (places None basic))
  pub good : (bad_basic_check f.arriving f.area ≡ none) × (bad_basic_check g.arriving g.area ≡ none)

pub record UnlabelledDelivered (d e : Delivery) : Type 0 where
  pub port : d.port ≡ e.port
  pub host : d.host ≡ e.host
  pub facts : d.facts ≡ e.facts
  pub kept : kept_of d.area ≡ kept_of e.area
  pub sized : (delivery_sizes d ≡ none) × (delivery_sizes e ≡ none)
  pub first : (basic : Place) × (walk_at d.port d.area ≡ Ok (places None basic))
  pub second : (basic : Place) × (walk_at e.port e.area ≡ Ok (places None basic))
  pub good : (bad_basic_check d.port d.area ≡ none) × (bad_basic_check e.port e.area ≡ none)

-- a 12/0 report points into the area; pointers count from the header's start
pub record PointsInto (area : List ℕ) (d : Decision) : Type 0 where
  pub least : 20 ≤ d.pointer
  pub inside : d.pointer < 20 + length area

pub record Guards : Type 0 where
  pub count : (f : Forwarding) → f.leaving.unlabelled ≡ false → (forward_of f).number ≡ 0
      → (s : List ℕ) × Spells f.leaving.spellings s (forward_of f).label × Counts (forward_of f).count (length s) (length (kept_of f.area))
  -- the leaving area, read again at a port of the leaving domain that reads option 130 as the leaving port does
  pub again : (f : Forwarding) (out : List ℕ) → f.leaving.unlabelled ≡ false → (forward_of f).number ≡ 0
      → Reads (leaving_area f out) f.leaving.basic.on f.leaving.domain f.leaving.spellings (forward_of f).label (arriving_basic f.arriving f.area) (kept_of f.area)
  -- the leaving area toward unlabelled hosts: the kept options alone; its label is the default label
  pub bare : (f : Forwarding) (out : List ℕ) → f.leaving.unlabelled ≡ true → (forward_of f).number ≡ 0
      → ReadsBare (leaving_area f out) f.leaving.basic.on (kept_of f.area)
  pub default : (f : Forwarding) → f.leaving.unlabelled ≡ true → (forward_of f).number ≡ 0 → (forward_of f).label ≡ f.leaving.default
  -- forwarded again through equal domains with the same permitted spellings, toward labelled hosts, nothing changes
  pub same : (f g : Forwarding) (out out' : List ℕ)
      → f.leaving.unlabelled ≡ false
      → g.leaving.unlabelled ≡ false
      → (forward_of f).number ≡ 0
      → (forward_of g).number ≡ 0
      → g.area ≡ leaving_area f out
      → g.arriving.domain ≡ f.leaving.domain
      → g.leaving.domain ≡ f.leaving.domain
      → g.leaving.spellings ≡ f.leaving.spellings
      → (forward_of g ≡ forward_of f) × (leaving_area g out' ≡ leaving_area f out)
  -- pointers
  pub forward : (f : Forwarding) → (forward_of f).kind ≡ 12 → (forward_of f).code ≡ 0 → PointsInto f.area (forward_of f)
  pub deliver : (d : Delivery) → (deliver_of d).kind ≡ 12 → (deliver_of d).code ≡ 0 → PointsInto d.area (deliver_of d)
  -- equal decisions without a label
  pub decided : (f g : Forwarding) → Unlabelled f g → forward_of f ≡ forward_of g
  pub written : (f g : Forwarding) (out out' : List ℕ) → Unlabelled f g → (forward_of f).number ≡ 0 → leaving_area f out ≡ leaving_area g out'
  pub delivered : (d e : Delivery) → UnlabelledDelivered d e → deliver_of d ≡ deliver_of e
  -- labels compare before as they do after: two datagrams forwarded by the same records
  pub order : (f g : Forwarding)
      → Octets f.area
      → Octets g.area
      → f.arriving ≡ g.arriving
      → f.leaving ≡ g.leaving
      → f.table ≡ g.table
      → f.levels ≡ g.levels
      → (forward_of f).number ≡ 0
      → (forward_of g).number ≡ 0
      → leq (arriving_label f.arriving f.area) (arriving_label g.arriving g.area) ≡ leq (forward_of f).label (forward_of g).label
