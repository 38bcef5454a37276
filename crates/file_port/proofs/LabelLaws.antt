-- Labels and ways that are read and written, and how many octets they have.
use mathlib.Core.Bool.{Bool, true, false, cond, not, ◌&&◌}
use mathlib.Core.List.{List, ◌++◌}
use mathlib.Core.Path.{◌≡◌, refl, ◌∙◌}
use Prim.Native.Nat.{ℕ, ◌+◌, ◌-◌, ◌*◌}
use native.Mathlib.Omega.{arith}
use lib.Dec.{leb, eqb}
use borrow.Author.Tests.{le-leb}
use lib.ListN.{length, take, drop, replicate, length-append}
use Rattle.label.specs.declared.Run.{Run}
use Rattle.label.specs.declared.Label.{Label}
use Rattle.label.specs.Label.{no_run, used, label_of}
use Rattle.basic.specs.declared.Way.{Way}
use Rattle.basic.specs.Levels.{is_level, rank_of, at_most}
use Rattle.file_format.specs.Format.{digits, bit, sum_of, octets, many, same}
use Rattle.file_format.proofs.Places.{used_is, front_used, front_padded}
use Rattle.file_format.specs.Laws.{flat}
use Rattle.file_format.proofs.Writing.{flat_turn, flat_length}
use Rattle.port.specs.declared.Port.{Port}
use Rattle.file_port.specs.PortFormat.{given_format, way_of, way_format, spelling_marks, spellings_format, plain_format, later_format, plain_of, later_of, third_port, port_format}
use Rattle.file_port.specs.LabelFormat.{run_format, next_floor, label_format}

-- a label whose runs were put into the first of its places is that of these runs
pub label_again : (d v n : ℕ) (part rest : List Run) → length part ≡ n → rest ≡ drop n (replicate 120 no_run)
    → ◌≡◌ {A = Label} (label_of d v (take n (part ++ rest))) (record { domain = d; level = v; count = n; runs = part ++ rest })
label_again d v n part rest size empty =
    rw (front_used 120 n no_run part rest size empty) (λ i. record { domain = d; level = v; count = size i; runs = front_padded 120 n no_run part rest size empty i })

-- the octets of a run do not depend on the run before it
abbrev pub run_octets : Run → List ℕ
run_octets r = digits 2 r.low ++ digits 2 r.high

pub runs_octets : (n : ℕ) (rs : List Run) → octets (many run_format next_floor n 0) rs ≡ flat run_octets rs
unfolding octets run_format
runs_octets n rs = flat_turn (λ st r. octets (run_format st) r) next_floor run_octets (λ st r. refl) 0 rs

-- the octets of a label, as its writer goes through them; they do not depend on the domain that a reader asks for
pub label_octets : (domain : ℕ) (l : Label) (n : ℕ) → length l.runs ≡ 120 → n ≡ cond (leb l.count 120) l.count 120
    → octets (label_format domain) l ≡ digits 4 l.domain ++ (digits 1 l.level ++ (digits 1 n ++ octets (many run_format next_floor n 0) (take n l.runs)))
unfolding octets label_format
label_octets domain l n h e =
    let u = used_is l.runs l.count n 120 h e in
    let a : length (used l) ≡ n = u.1 in
    let b : used l ≡ take n l.runs = u.0 in
    rw (a, b)

-- how many octets a label has
pub label_length : (domain : ℕ) (l : Label) → length l.runs ≡ 120 → length (octets (label_format domain) l) ≡ 6 + cond (leb l.count 120) l.count 120 * 4
label_length domain l h =
    let n : ℕ = cond (leb l.count 120) l.count 120 in
    let u : length (used l) ≡ cond (leb l.count 120) l.count 120 = (used_is l.runs l.count n 120 h refl).1 in
    let v : used l ≡ take (cond (leb l.count 120) l.count 120) l.runs = (used_is l.runs l.count n 120 h refl).0 in
    let f : length (flat run_octets (used l)) ≡ length (used l) * 4 = flat_length run_octets 4 (λ r. refl) (used l) in
    rw (label_octets domain l n h refl, runs_octets n (take n l.runs), ← v) (omega (arith, f, u))

pub any_domain : (d e : ℕ) (l : Label) → octets (label_format d) l ≡ octets (label_format e) l
unfolding octets label_format
any_domain d e l = refl

-- the octets of a way do not depend on whether option 130 is switched on
pub way_octets : (on : Bool) (w : Way) (n : ℕ) → length w.flags ≡ 256 → n ≡ cond (leb w.count 256) w.count 256
    → octets (way_format on) w ≡ digits 1 w.lowest ++ (digits 1 w.highest ++ (digits 2 n ++ flat (digits 2) (take n w.flags)))
unfolding octets way_format
way_octets on w n h e =
    let u = used_is w.flags w.count n 256 h e in
    let a : length (take w.count w.flags) ≡ n = u.1 in
    let b : take w.count w.flags ≡ take n w.flags = u.0 in
    rw (flat_turn (λ st x. digits 2 x) same (digits 2) (λ st x. refl) 0 (take w.count w.flags), a, b)

pub way_length : (on : Bool) (w : Way) → length w.flags ≡ 256 → length (octets (way_format on) w) ≡ 4 + cond (leb w.count 256) w.count 256 * 2
way_length on w h =
    let n : ℕ = cond (leb w.count 256) w.count 256 in
    let u : length (take w.count w.flags) ≡ cond (leb w.count 256) w.count 256 = (used_is w.flags w.count n 256 h refl).1 in
    let v : take w.count w.flags ≡ take (cond (leb w.count 256) w.count 256) w.flags = (used_is w.flags w.count n 256 h refl).0 in
    let f : length (flat (digits 2) (take w.count w.flags)) ≡ length (take w.count w.flags) * 2 = flat_length (digits 2) 2 (λ x. refl) (take w.count w.flags) in
    rw (way_octets on w n h refl, ← v) (omega (arith, f, u))

pub any_way : (a b : Bool) (w : Way) → octets (way_format a) w ≡ octets (way_format b) w
unfolding octets way_format
any_way a b w = refl

pub plain_octets : (p : Port)
    → octets plain_format (plain_of p)
    ≡ digits 4 p.domain ++ (octets (label_format p.domain) p.lowest ++ (octets (label_format p.domain) p.highest
    ++ (digits 1 (bit p.required) ++ octets (label_format (cond p.required 0 p.domain)) p.assigned)))
unfolding octets plain_format given_format
plain_octets p = refl

pub later_octets : (p : Port)
    → octets (later_format p.domain p.lowest p.highest) (later_of p)
    ≡ digits 1 (bit p.basic.on) ++ (octets (way_format p.basic.on) p.basic.receiving ++ (octets (way_format p.basic.on) p.basic.sending
    ++ (digits 1 (sum_of (spelling_marks p.spellings)) ++ (digits 1 (bit p.unlabelled) ++ octets (label_format (cond (not p.unlabelled) 0 p.domain)) p.default))))
unfolding octets later_format given_format spellings_format
later_octets p = refl

pub port_octets_lem : (p : Port)
    → octets (port_format 3) p
    ≡ octets plain_format (plain_of p) ++ (octets (later_format p.domain p.lowest p.highest) (later_of p) ++ digits 1 (bit p.strict))
unfolding octets port_format third_port
port_octets_lem p = refl

-- how many octets a port has
module _ (p : Port) (a b c d r s : ℕ) where
  pub port_length : length (octets (label_format p.domain) p.lowest) ≡ a → length (octets (label_format p.domain) p.highest) ≡ b
      → length (octets (label_format (cond p.required 0 p.domain)) p.assigned) ≡ c → length (octets (label_format (cond (not p.unlabelled) 0 p.domain)) p.default) ≡ d
      → length (octets (way_format p.basic.on) p.basic.receiving) ≡ r → length (octets (way_format p.basic.on) p.basic.sending) ≡ s
      → length (octets (port_format 3) p) ≡ 5 + a + b + c + 4 + r + s + d
  port_length ea eb ec ed er es =
      let x : length (octets plain_format (plain_of p)) ≡ 5 + a + b + c = rw (plain_octets p) (simp length-append (omega (arith, ea, eb, ec))) in
      let y : length (octets (later_format p.domain p.lowest p.highest) (later_of p)) ≡ 3 + r + s + d = rw (later_octets p) (simp length-append (omega (arith, er, es, ed))) in
      let l : List ℕ = octets (later_format p.domain p.lowest p.highest) (later_of p) in
      let z : length (octets (later_format p.domain p.lowest p.highest) (later_of p) ++ digits 1 (bit p.strict)) ≡ 4 + r + s + d = length-append l (digits 1 (bit p.strict)) ∙ omega arith in
      rw (port_octets_lem p) (length-append (octets plain_format (plain_of p)) (l ++ digits 1 (bit p.strict)) ∙ omega arith)

-- and so is a way
pub way_again : (l h n : ℕ) (part rest : List ℕ) → length part ≡ n → rest ≡ drop n (replicate 256 0)
    → ◌≡◌ {A = Way} (way_of l h (take n (part ++ rest))) (record { lowest = l; highest = h; count = n; flags = part ++ rest })
way_again l h n part rest size empty =
    rw (front_used 256 n 0 part rest size empty) (λ i. record { lowest = l; highest = h; count = size i; flags = front_padded 256 n 0 part rest size empty i })

-- the rule of a lowest level, as the code asks it
pub level_alone : (on : Bool) (v : ℕ) → cond on (at_most v v) (eqb v 0) ≡ cond on (is_level v) (eqb v 0)
unfolding at_most
level_alone true v = go (is_level v)
  where
    go : (t : Bool) → (t && (t && leb (rank_of v) (rank_of v))) ≡ t
    go true = le-leb (rank_of v) (rank_of v) (omega arith)
    go false = refl
level_alone false v = refl
