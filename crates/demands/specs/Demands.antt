-- Demands 1, 2 and 3 of the customer, beside his sentences. "Any octets, port record or table get a reply, and the work ends": the public
-- functions have no `requires`, and their contracts equate what they answer with `forward_of`, `output_of`, `deliver_of`, `reading_of`,
-- `spelling_answer`, `spelling_out` and `renumbered_of` for every input; here is what these say.
use Rattle.std.specs.Prelude.{◌≡◌, Bool, true, false, List, [], ◌∷◌, ◌++◌, ◌↔◌, ℕ, ◌+◌, ◌%◌, ◌≤◌, length, take}
use Rattle.std.proofs.Math.Option.{Option, none, some}
use Rattle.label.specs.declared.Label.{Label}
use Rattle.label.specs.Label.{well_formed, in_range}
use Rattle.option.specs.Option.{Octets, tag_of, Means}
use Rattle.option.specs.declared.Spellings.{Spellings}
use Rattle.option.specs.Permitted.{usual, Permitted}
use Rattle.option.specs.Spelling.{padded}
use Rattle.option.specs.Theorems.{Spells, Shortest}
use Rattle.option_read.specs.Reading.{found, reading_of}
use Rattle.option_slack.specs.Slack.{slack}
use Rattle.option_spell.specs.Spelling.{spelling_answer, spelling_out}
use Rattle.std.specs.Prelude.{Ok, Some, None}
use Rattle.area.specs.Kinds.{Place, places}
use Rattle.basic.specs.Option.{BasicMeans}
use Rattle.basic.specs.Theorems.{BasicPermitted}
use Rattle.area_leaving.specs.Kept.{kept_of, round_up, leaving_of}
use Rattle.port.specs.declared.Port.{Port}
use Rattle.port.specs.Port.{port_sound, host_sound}
use Rattle.table.specs.Table.{table_sound}
use Rattle.renumber.specs.Theorems.{Far}
use Rattle.decision.specs.declared.Refusal.{Refusal}
use Rattle.decision.specs.Decision.{silenced, refused, done}
use Rattle.arrive.specs.Checks.{NoneApplies, walk_at, option_at, bad_basic_check, arriving_label, option_checks, range_check}
use Rattle.deliver.specs.Delivery.{Delivery, delivery_sizes, delivery_records, deliver_checks, deliver_of}
use Rattle.forward_rules.specs.Crossing.{Forwarding, sizes, records, leaving_basic_check, crossing, number_check}
use Rattle.forward_rules.specs.Forward.{forward_checks, forward_of, output_of}

-- Demand 1: "Bad input gets the first refusal that applies in document 01's order, with its ICMP type, code and pointer, and the output buffer
-- is untouched."

-- of the checks in order, x is the first refusal that applies
pub record FirstIs (checks : List (Option Refusal)) (x : Refusal) : Type 0 where
  pub before : List (Option Refusal)
  pub after : List (Option Refusal)
  pub order : checks ≡ before ++ (some x ∷ after)
  pub passed : NoneApplies before

pub record Demand1 : Type 0 where
  pub forward : (f : Forwarding) (x : Refusal) (out : List ℕ)
      → FirstIs (forward_checks f) x
      → (forward_of f ≡ refused (silenced f.facts) x) × (output_of f out ≡ out)
  pub deliver : (d : Delivery) (x : Refusal) → FirstIs (deliver_checks d) x → deliver_of d ≡ refused (silenced d.facts) x

-- Demand 2: "A datagram is forwarded exactly when its area, records and options are sound, its label (its own, or the port's if it has none and
-- none is required) lies in the arriving port's range, every part has a number in the far domain if the domains differ, the renumbered label lies
-- in the leaving port's range, and the result has a spelling and room. It leaves with that label and its other kept options in order."

-- the area is sound: at most 40 octets, a multiple of 4
pub record AreaSound (area : List ℕ) : Type 0 where
  pub few : length area ≤ 40
  pub fourfold : length area % 4 ≡ 0

-- Wish 10, "demand 2's sound options pass it": 23, which a strict port asks
abbrev pub PassesStrict : Port → List ℕ → Type 0
PassesStrict p o = p.strict ≡ true → slack o ≡ false

-- its options are sound, and this is its label: its walk refuses nothing and meets a valid option 134 that means the label in the port's domain and passes
-- 23, or meets none where none is required and the label is the port's
pub data LabelOf (p : Port) (area : List ℕ) (l : Label) : Type 0 where
  own : (at : ℕ) (basic : Place)
      → walk_at p area ≡ Ok (places (Some at) basic)
      → Means (option_at at area) l
      → l.domain ≡ p.domain
      → PassesStrict p (option_at at area)
      → LabelOf p area l
  assigned : (basic : Place) → walk_at p area ≡ Ok (places None basic) → p.required ≡ false → p.assigned ≡ l → LabelOf p area l

-- Wish 3, "the 130 option passes too". At the port where it arrives: the port has it switched off, so that the walk above meets none; or on, and the
-- walk meets a valid option 130 that means a level and flags which the port permits that way
pub data BasicArrives (p : Port) (area : List ℕ) : Type 0 where
  unread : p.basic.on ≡ false → BasicArrives p area
  read : (label : Place) (at v f : ℕ)
      → p.basic.on ≡ true
      → walk_at p area ≡ Ok (places label (Some at))
      → BasicMeans (option_at at area) v f
      → BasicPermitted p.basic.receiving v f
      → BasicArrives p area

-- at both ports of a forwarding: both have it switched off; or both on, and both permit what the option means
pub data BasicPasses (p q : Port) (area : List ℕ) : Type 0 where
  neither : p.basic.on ≡ false → q.basic.on ≡ false → BasicPasses p q area
  both : (label : Place) (at v f : ℕ)
      → p.basic.on ≡ true
      → q.basic.on ≡ true
      → walk_at p area ≡ Ok (places label (Some at))
      → BasicMeans (option_at at area) v f
      → BasicPermitted p.basic.receiving v f
      → BasicPermitted q.basic.sending v f
      → BasicPasses p q area

-- a datagram that arrives with label l leaves with label m, spelled as s; toward unlabelled hosts (Wish 6) m is their default label, no spelling is
-- asked for, and s has no octets
pub record Forwards (f : Forwarding) (l m : Label) (s : List ℕ) : Type 0 where
  pub area : AreaSound f.area
  pub room : 40 ≤ f.room
  pub arriving : port_sound f.arriving ≡ true
  pub leaving : port_sound f.leaving ≡ true
  pub table : (f.arriving.domain ≡ f.leaving.domain → ⊥) → table_sound f.table f.levels ≡ true
  pub label : LabelOf f.arriving f.area l
  pub basic : BasicPasses f.arriving f.leaving f.area
  pub arrives : in_range f.arriving.lowest f.arriving.highest l ≡ true
  pub stays : f.arriving.domain ≡ f.leaving.domain → l ≡ m
  pub from : (f.arriving.domain ≡ f.leaving.domain → ⊥) → f.table.from ≡ f.arriving.domain
  pub to : (f.arriving.domain ≡ f.leaving.domain → ⊥) → f.table.to ≡ f.leaving.domain
  pub numbered : (f.arriving.domain ≡ f.leaving.domain → ⊥) → Far l f.table f.levels m
  pub leaves : f.leaving.unlabelled ≡ false → in_range f.leaving.lowest f.leaving.highest m ≡ true
  -- a spelling that the leaving port permits (document 02, Wish 5)
  pub spelled : f.leaving.unlabelled ≡ false → Spells f.leaving.spellings s m
  pub fits : f.leaving.unlabelled ≡ false → length s + length (kept_of f.area) ≤ 40
  pub default : f.leaving.unlabelled ≡ true → m ≡ f.leaving.default
  pub bare : f.leaving.unlabelled ≡ true → s ≡ []

-- a delivery with label l
pub record Delivers (d : Delivery) (l : Label) : Type 0 where
  pub area : AreaSound d.area
  pub port : port_sound d.port ≡ true
  pub host : host_sound d.host d.port.domain ≡ true
  pub label : LabelOf d.port d.area l
  pub basic : BasicArrives d.port d.area
  pub arrives : in_range d.port.lowest d.port.highest l ≡ true
  pub held : in_range d.host.lowest d.host.highest l ≡ true

-- the checks before 17
abbrev pub earlier_checks : Forwarding → List (Option Refusal)
earlier_checks f =
    sizes f
    ∷ records f
    ∷ (option_checks f.arriving f.area 9
    ++ (leaving_basic_check f
    ∷ range_check f.arriving f.area 9
    ∷ number_check (crossing f)
    ∷ []))

-- its label, renumbered: the same with equal domains, else the label in the far domain
pub record Becomes (f : Forwarding) (m : Label) : Type 0 where
  pub stays : f.arriving.domain ≡ f.leaving.domain → arriving_label f.arriving f.area ≡ m
  pub numbered : (f.arriving.domain ≡ f.leaving.domain → ⊥) → Far (arriving_label f.arriving f.area) f.table f.levels m

pub record Demand2 : Type 0 where
  -- forwarded only when the conditions hold
  pub only : (f : Forwarding) → Octets f.area → (forward_of f).number ≡ 0
      → (l : Label) × (m : Label) × (s : List ℕ) × Forwards f l m s
  -- and always then, with that label, the option in its one spelling and the kept options in order, zeros after them, and the count
  pub always : (f : Forwarding) (l m : Label) (s out : List ℕ) → Forwards f l m s
      → (forward_of f ≡ done m (round_up (length s + length (kept_of f.area))))
      × (output_of f out ≡ leaving_of s (kept_of f.area) out)
  -- "On such a port a datagram past all earlier checks is forwarded exactly when its renumbered label equals the default label; otherwise 17": 18
  -- isn't given, since the kept options always fit
  pub facing : (f : Forwarding) → f.leaving.unlabelled ≡ true → NoneApplies (earlier_checks f)
      → (((forward_of f).number ≡ 0) ↔ Becomes f f.leaving.default)
      × ((Becomes f f.leaving.default → ⊥) → (forward_of f).number ≡ 17)
      × ((forward_of f).number ≡ 0 → (forward_of f).label ≡ f.leaving.default)
  -- delivered exactly when none of the refusals applies, and with which label
  pub delivered : (d : Delivery) → Octets d.area → (deliver_of d).number ≡ 0 → (l : Label) × Delivers d l
  pub delivers : (d : Delivery) (l : Label) → Delivers d l → deliver_of d ≡ done l 0
  pub exactly : (d : Delivery) → ((deliver_of d).number ≡ 0) ↔ NoneApplies (deliver_checks d)

-- Demand 3: "One label, one spelling." As document 02, Wish 5, has it: "shortest among the permitted ones, ties in the order just listed;
-- refused a spelling exactly if no permitted one means the label; equal octets exactly for equal labels under the same set".

-- an area past 3 to 5 at the port whose option 134 is valid and means the label; Wish 10: "On a strict port demand 3's equal decision is claimed only for
-- options that pass 23"
abbrev pub MeansAt : Port → List ℕ → Label → Type 0
MeansAt p area l =
    (at : ℕ) × (basic : Place) × (walk_at p area ≡ Ok (places (Some at) basic)) × Means (option_at at area) l × PassesStrict p (option_at at area)

-- two forwardings of areas past checks 1 to 5 and 19 (Wish 3), and 23 at a strict port, whose options 134 are valid and mean one label of the arriving port's domain, with kept
-- options in order, records and facts alike; the outputs may differ
pub record Alike (f g : Forwarding) (l : Label) : Type 0 where
  pub arriving : f.arriving ≡ g.arriving
  pub leaving : f.leaving ≡ g.leaving
  pub table : f.table ≡ g.table
  pub levels : f.levels ≡ g.levels
  pub facts : f.facts ≡ g.facts
  pub kept : kept_of f.area ≡ kept_of g.area
  pub sized : (sizes f ≡ none) × (sizes g ≡ none)
  pub sound : (records f ≡ none) × (records g ≡ none)
  pub first : MeansAt f.arriving f.area l
  pub second : MeansAt g.arriving g.area l
  pub good : (bad_basic_check f.arriving f.area ≡ none) × (bad_basic_check g.arriving g.area ≡ none)
  pub domain : l.domain ≡ f.arriving.domain

pub record AlikeDelivered (d e : Delivery) (l : Label) : Type 0 where
  pub port : d.port ≡ e.port
  pub host : d.host ≡ e.host
  pub facts : d.facts ≡ e.facts
  pub kept : kept_of d.area ≡ kept_of e.area
  pub sized : (delivery_sizes d ≡ none) × (delivery_sizes e ≡ none)
  pub sound : (delivery_records d ≡ none) × (delivery_records e ≡ none)
  pub first : MeansAt d.port d.area l
  pub second : MeansAt e.port e.area l
  pub good : (bad_basic_check d.port d.area ≡ none) × (bad_basic_check e.port e.area ≡ none)
  pub domain : l.domain ≡ d.port.domain

-- tag 1 shortest alone, or tag 5 alone
abbrev pub one_form : Bool → Bool → Spellings
one_form shortest pairs = record { shortest = shortest; ten = false; numbers = false; pairs = pairs }

pub record Demand3 : Type 0 where
  -- given at least 40 octets to write in, every well-formed label is refused a spelling exactly when no permitted option means it
  pub refused : (p : Spellings) (l : Label) (out : List ℕ) → well_formed l ≡ true → 40 ≤ length out
      → ((spelling_answer p l (length out)).number ≡ 0 → ⊥) ↔ ((o : List ℕ) → Permitted p o l → ⊥)
  -- by number: "refused a spelling (18, asked alone ..) exactly if no permitted one means the label"
  pub eighteen : (p : Spellings) (l : Label) (out : List ℕ) → well_formed l ≡ true → 40 ≤ length out
      → ((spelling_answer p l (length out)).number ≡ 18) ↔ ((o : List ℕ) → Permitted p o l → ⊥)
  -- "tag 1 shortest" and "tag 5" permitted alone: every valid option of that tag that means the label has at least as many octets as the one written
  pub bitmap : (l : Label) (s o : List ℕ) → well_formed l ≡ true → Spells (one_form true false) s l → Means o l → tag_of o ≡ 1 → length s ≤ length o
  pub pairs : (l : Label) (s o : List ℕ) → well_formed l ≡ true → Spells (one_form false true) s l → Means o l → tag_of o ≡ 5 → length s ≤ length o
  -- whatever label the box spells, alone or in a leaving area toward labelled hosts, it writes the shortest permitted option that means it
  pub alone : (p : Spellings) (l : Label) (out : List ℕ) → well_formed l ≡ true → 40 ≤ length out → (spelling_answer p l (length out)).number ≡ 0
      → (s : List ℕ) × Spells p s l × ((spelling_answer p l (length out)).count ≡ length s) × (take 40 (spelling_out p l out) ≡ padded s)
  pub leaving : (f : Forwarding) (out : List ℕ) → Octets f.area → f.leaving.unlabelled ≡ false → (forward_of f).number ≡ 0
      → (s : List ℕ) × Spells f.leaving.spellings s (forward_of f).label × (take (length s) (output_of f out) ≡ s)
  -- Document 01's words, which hold where tags 1, 2 and 5 are permitted: "Given at least 40 octets to write in, every well-formed label is refused
  -- a spelling exactly when no valid option means it."
  pub usual_refused : (l : Label) (out : List ℕ) → well_formed l ≡ true → 40 ≤ length out
      → ((spelling_answer usual l (length out)).number ≡ 0 → ⊥) ↔ ((o : List ℕ) → Means o l → ⊥)
  -- "Whatever label the box spells, alone or in a leaving area, it writes the shortest valid option that means it: every other valid option that
  -- means it has at least as many octets, and equal lengths go to tag 1, then 2, then 5."
  pub usual_alone : (l : Label) (out : List ℕ) → well_formed l ≡ true → 40 ≤ length out → (spelling_answer usual l (length out)).number ≡ 0
      → (s : List ℕ) × Shortest s l × ((spelling_answer usual l (length out)).count ≡ length s) × (take 40 (spelling_out usual l out) ≡ padded s)
  pub usual_leaving : (f : Forwarding) (out : List ℕ) → Octets f.area → f.leaving.unlabelled ≡ false → f.leaving.spellings ≡ usual → (forward_of f).number ≡ 0
      → (s : List ℕ) × Shortest s (forward_of f).label × (take (length s) (output_of f out) ≡ s)
  -- "The option written, read alone, gives that label back, as does every valid option that means it."
  pub back : (o : List ℕ) (l : Label) → Means o l → reading_of o ≡ found l
  -- "Any two labels that have spellings, each given at least 40 octets, get equal first 40 octets exactly when they are one label", under one set
  pub told : (p : Spellings) (a b : Label) (out out' : List ℕ)
      → well_formed a ≡ true
      → well_formed b ≡ true
      → 40 ≤ length out
      → 40 ≤ length out'
      → (spelling_answer p a (length out)).number ≡ 0
      → (spelling_answer p b (length out')).number ≡ 0
      → (take 40 (spelling_out p a out) ≡ take 40 (spelling_out p b out')) ↔ (a ≡ b)
  -- "Take any two areas past checks 1 to 5 [and 19, and 23 on a strict port] whose options 134 are valid and mean one label .. they are decided alike: the same number, type, code,
  -- pointer, label and count and, if forwarded, the same first 40 octets of output."
  pub decided : (f g : Forwarding) (l : Label) → Alike f g l → forward_of f ≡ forward_of g
  pub written : (f g : Forwarding) (l : Label) (out out' : List ℕ) → Alike f g l → 40 ≤ length out → 40 ≤ length out' → (forward_of f).number ≡ 0
      → take 40 (output_of f out) ≡ take 40 (output_of g out')
  pub delivered : (d e : Delivery) (l : Label) → AlikeDelivered d e l → deliver_of d ≡ deliver_of e

pub record Demands : Type 0 where
  pub first : Demand1
  pub second : Demand2
  pub third : Demand3
