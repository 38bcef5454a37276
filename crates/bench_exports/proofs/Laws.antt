-- What the exported functions' answers come to where there is room, and where there is too little.
use Prim.Native.Nat.{ℕ, ◌≤◌, ◌<◌}
use mathlib.Core.Path.{◌≡◌, ap, ◌∙◌}
use mathlib.Core.Bool.{true, false, and-false}
use mathlib.Core.List.{List}
use borrow.Author.Tests.{le-leb, lt-leb}
use lib.ListN.{length}
use Rattle.table.specs.Table.{lent}
use Rattle.label.specs.declared.Label.{Label}
use Rattle.label_keys.specs.Keys.{with_keys}
use Rattle.option_read.specs.Reading.{Reading}
use Rattle.option_read.specs.Reading.{reading_of}
use Rattle.option.specs.Permitted.{usual}
use Rattle.option_spell.specs.Spelling.{Spelling}
use Rattle.option_spell.specs.Spelling.{spelling_answer, spelling_out}
use Rattle.decision.specs.declared.Decision.{Decision}
use Rattle.decision.specs.declared.Facts.{Facts}
use Rattle.forward_rules.specs.Crossing.{Forwarding}
use Rattle.forward_rules.specs.Forward.{forwarding_of}
use Rattle.forward_rules.specs.Forward.{forward_of, output_of}
use Rattle.port.specs.declared.Port.{Port}
use Rattle.table.specs.declared.Table.{Table}
use Rattle.sample_records.specs.Sample as sample
use Rattle.bench_exports.specs.Answers.{with_numbers, reading_numbers, spelling_numbers, decision_numbers, roomy, sample_forwarding, Reads, Spells, Forwards}

pub short_answer : (n : ℕ) (answer runs : List ℕ) → length answer < n → roomy n answer runs ≡ false
short_answer n answer runs h = simp (lt-leb _ _ h)

pub short_runs : (n : ℕ) (answer runs : List ℕ) → length runs < 120 → roomy n answer runs ≡ false
short_runs n answer runs h = simp (lt-leb _ _ h, and-false)

pub both_roomy : (n : ℕ) (answer runs : List ℕ) → n ≤ length answer → 120 ≤ length runs → roomy n answer runs ≡ true
both_roomy n answer runs h k = simp (le-leb _ _ h, le-leb _ _ k)

pub reads_nothing : (octets answer runs : List ℕ) → roomy 5 answer runs ≡ false → Reads octets answer runs answer runs 1
reads_nothing octets answer runs h = record { number = rw h; numbers = rw h; keys = rw h }

pub reads_whole : (octets answer runs answer' runs' : List ℕ) (r : Reading) → roomy 5 answer runs ≡ true
    → r ≡ reading_of octets → answer' ≡ with_numbers (reading_numbers r) answer → runs' ≡ with_keys r.label runs
    → Reads octets answer runs answer' runs' r.number
reads_whole octets answer runs answer' runs' r h e a k =
    record {
      number = rw h (ap (λ (x : Reading). x.number) e);
      numbers = rw h (a ∙ ap (λ (x : Reading). with_numbers (reading_numbers x) answer) e);
      keys = rw h (k ∙ ap (λ (x : Reading). with_keys x.label runs) e);
    }

pub spells_nothing : (l : Label) (out answer : List ℕ) → length answer < 2 → Spells l out answer out answer 1
spells_nothing l out answer h =
    let e = lt-leb _ _ h in
    record { number = simp e; numbers = simp e; octets = simp e }

pub spells_whole : (own l : Label) (out answer out' answer' : List ℕ) (s : Spelling) → own ≡ l → 2 ≤ length answer
    → s ≡ spelling_answer usual own (length out) → out' ≡ spelling_out usual own out → answer' ≡ with_numbers (spelling_numbers s) answer
    → Spells l out answer out' answer' s.number
spells_whole own l out answer out' answer' s q h e o a =
    let f = le-leb _ _ h in
    let g : s ≡ spelling_answer usual l (length out) = rw q at e in
    record {
      number = rw f (ap (λ (x : Spelling). x.number) g);
      numbers = rw f (a ∙ ap (λ (x : Spelling). with_numbers (spelling_numbers x) answer) g);
      octets = rw f (rw q at o);
    }

-- the records that the sample's functions answer are the sample's
pub sample_is : (a l : Port) (t : Table) (rows : List ℕ) (ls : List (List ℕ)) (facts : Facts) (area : List ℕ) (n : ℕ)
    → a ≡ sample.arriving → l ≡ sample.leaving → t ≡ sample.head → rows ≡ sample.rows → ls ≡ sample.levels
    → forwarding_of a l (lent t rows) ls facts area n ≡ sample_forwarding facts area n
sample_is a l t rows ls facts area n ea el et er els = rw (ea, el, et, er, els)

pub forwards_nothing : (f : Forwarding) (out answer runs : List ℕ) → roomy 8 answer runs ≡ false → Forwards f out answer runs out answer runs 1
forwards_nothing f out answer runs h = record { number = rw h; numbers = rw h; keys = rw h; octets = rw h }

pub forwards_whole : (own f : Forwarding) (out answer runs out' answer' runs' : List ℕ) (d : Decision) → own ≡ f → roomy 8 answer runs ≡ true
    → d ≡ forward_of own → out' ≡ output_of own out → answer' ≡ with_numbers (decision_numbers d) answer → runs' ≡ with_keys d.label runs
    → Forwards f out answer runs out' answer' runs' d.number
forwards_whole own f out answer runs out' answer' runs' d q h e o a k =
    let g : d ≡ forward_of f = rw q at e in
    record {
      number = rw h (ap (λ (x : Decision). x.number) g);
      numbers = rw h (a ∙ ap (λ (x : Decision). with_numbers (decision_numbers x) answer) g);
      keys = rw h (k ∙ ap (λ (x : Decision). with_keys x.label runs) g);
      octets = rw h (rw q at o);
    }
