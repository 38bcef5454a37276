-- Every 12/0 report points into the area.
use mathlib.Core.Path.{◌≡◌, refl}
use mathlib.Core.Bool.{Bool, true, false, cond, not, ◌&&◌, ◌||◌}
use mathlib.Core.List.{List, [], ◌∷◌}
use mathlib.Core.Logic.{⊎_elim}
use mathlib.Core.Option.{Option, none, some}
use Prim.Native.Nat.{ℕ, ◌+◌, ◌-◌, ◌≤◌, ◌<◌}
use native.Mathlib.Omega.{arith}
use lib.Dec.{ltb, eqb}
use lib.ListN.{length, length-take, length-drop}
use borrow.Author.Tests.{ltb-true, lt-ltb}
use Rattle.label.specs.declared.Label.{Label}
use Rattle.label.specs.Label.{in_range}
use Rattle.label.proofs.Bools.{and_right, less_or}
use Rattle.option.specs.Option.{tag_of}
use Rattle.option_read.specs.Reading.{Check, not_read, categories_in, bad_place, label_in}
use Rattle.option_read.specs.Reading as reading
use Rattle.option_slack.specs.Slack.{slack}
use Rattle.option_slack.specs.Strict.{strict_checks, strict_reading}
use Rattle.option_slack.proofs.Pairs.{slack_long}
use Rattle.std.specs.Prelude.{Ok, Err, Some, None, is_none}
use Rattle.area.specs.Kinds.{Place, Walk, places}
use Rattle.area.specs.Area.{bad_area, walk_of}
use Rattle.area.specs.declared.Kind.TheVariants.{Basic}
use Rattle.area.proofs.Laws.{area_refused, sound_placed, whole_inside}
use Rattle.basic.specs.Alone.{basic_reading}
use Rattle.area_leaving.specs.Kept.{kept_of}
use Rattle.port.specs.declared.Port.{Port}
use Rattle.port.specs.Port.{port_sound, host_sound, lowest_out, highest_out}
use Rattle.label_keys.specs.Range.{set_in_range}
use Rattle.decision.specs.declared.Refusal.{Refusal}
use Rattle.decision.specs.Decision.{silenced, decided}
use Rattle.arrive.specs.Checks.{silent, faulty, barred, when, first_of, walk_at, walk_refusal, walk_check, place_in, basic_in, option_at, read_at, required_by, required_check, option_by, option_check, bad_basic_by, bad_basic_check, arriving_basic, missing_basic_by, missing_basic_check, basic_passes, basic_range_check, arriving_label, range_check}
use Rattle.deliver.specs.Delivery.{Delivery, delivery_sizes, delivery_records, host_check, deliver_checks, deliver_of}
use Rattle.arrive.proofs.Arrival.{placed_framed}
use Rattle.forward_rules.specs.Crossing.{no_room, Forwarding, sizes, records, leaving_basic_check, crossing, stays, has_numbers, number_check, leaving_level, leaving_runs, leaving_check, leaving_option, spelling_check}
use Rattle.forward_rules.specs.Forward.{forward_checks, forward_of}
use Rattle.forward_rules.proofs.Forwards.{records_test}
use Rattle.demands.specs.Guards.{PointsInto}

-- Reading points into its option.
abbrev Under : ℕ → List Check → Type 0
Under b [] = Unit {0}
Under b (c ∷ cs) = (c.applies ≡ true → c.pointer < b) × Under b cs

first_under : (b : ℕ) (cs : List Check) (l : Label) → 0 < b → Under b cs → (reading.checked_reading cs l).pointer < b
first_under b [] l h u = h
first_under b (c ∷ cs) l h u = go c.applies refl (first_under b cs l h u.1)
  where
    go : (t : Bool) → c.applies ≡ t → (reading.checked_reading cs l).pointer < b → (cond t (not_read c.number c.pointer) (reading.checked_reading cs l)).pointer < b
    go true e r = u.0 e
    go false e r = r

reading_inside : (strict : Bool) (d : ℕ) (o : List ℕ) → 2 ≤ length o → (strict_reading strict d o).pointer < length o
unfolding strict_reading
reading_inside strict d o h = ⊎_elim short long (less_or (length o) 10)
  where
    short : length o < 10 → (strict_reading strict d o).pointer < length o
    short k = rw (lt-ltb (length o) 10 k) (omega arith)

    long : 10 ≤ length o → (strict_reading strict d o).pointer < length o
    long k =
        let few : length (categories_in o) ≤ length o - 10 = simp (length-take, length-drop) (omega arith) in
        first_under (length o) (strict_checks strict d o) (label_in o) (omega arith) (
          λ e. omega arith,
          (
            λ e. omega arith,
            (
              λ e. omega arith,
              (
                λ e. omega arith,
                (
                  λ e. omega arith,
                  (
                    λ e. (let b : bad_place (tag_of o) (categories_in o) < length (categories_in o) = ltb-true _ _ e in omega arith),
                    (λ e. slack_long o (and_right strict (slack o) e), (λ e. ltb-true _ _ e, tt)),
                  ),
                ),
              ),
            ),
          ),
        )

-- A refusal that points, points into the area.
abbrev Points : List ℕ → Option Refusal → Type 0
Points area none = Unit {0}
Points area (some r) = r.kind ≡ 12 → r.code ≡ 0 → (20 ≤ r.pointer) × (r.pointer < 20 + length area)

abbrev AllPoint : List ℕ → List (Option Refusal) → Type 0
AllPoint area [] = Unit {0}
AllPoint area (c ∷ cs) = Points area c × AllPoint area cs

points_first : (area : List ℕ) (cs : List (Option Refusal)) → AllPoint area cs → Points area (first_of cs)
points_first area [] a = tt
points_first area (some r ∷ cs) a = a.0
points_first area (none ∷ cs) a = points_first area cs a.1

points_when : (area : List ℕ) (b : Bool) (r : Refusal) → Points area (some r) → Points area (when b r)
points_when area true r h = h
points_when area false r h = tt

silent_points : (area : List ℕ) (b : Bool) (n : ℕ) → Points area (when b (silent n))
silent_points area b n = points_when area b (silent n) (λ k c. absurd (omega arith))

barred_points : (area : List ℕ) (b : Bool) (n code : ℕ) → Points area (when b (barred n code))
barred_points area b n code = points_when area b (barred n code) (λ k c. absurd (omega arith))

walk_points : (on : Bool) (area : List ℕ) (w : Walk) → walk_of on area ≡ w → Points area (walk_refusal w)
walk_points on area (Ok m) e = tt
walk_points on area (Err r) e = λ k c. (let q = area_refused on area r.number r.at e in omega (arith, q.2))

required_points : (area : List ℕ) (q : Place) (p : Port) → Points area (required_by q p)
required_points area None p = points_when area p.required _ (λ k c. absurd (omega arith))
required_points area (Some i) p = tt

option_points : (on : Bool) (p : Port) (area : List ℕ) (w : Walk) → walk_of on area ≡ w → Points area (option_by (place_in w) p area)
option_points on p area (Err r) e = tt
option_points on p area (Ok m) e = placed m.label m.basic e
  where
    placed : (l b : Place) → walk_of on area ≡ Ok (places l b) → Points area (option_by l p area)
    placed None b e = tt
    placed (Some i) b e =
        let f = placed_framed area i (sound_placed on area (Some i) b e).0 in
        let h : (read_at p (option_at i area)).pointer < length (option_at i area) = reading_inside p.strict p.domain (option_at i area) (omega (arith, f.size, f.least)) in
        points_when area (not (eqb (read_at p (option_at i area)).number 0))
        (faulty (read_at p (option_at i area)).number (i + (read_at p (option_at i area)).pointer))
        (λ k c. omega (arith, f.size, f.inside))

bad_points : (on : Bool) (area : List ℕ) (w : Walk) → walk_of on area ≡ w → Points area (bad_basic_by (basic_in w) area)
bad_points on area (Err r) e = tt
bad_points on area (Ok m) e = placed m.label m.basic e
  where
    placed : (l b : Place) → walk_of on area ≡ Ok (places l b) → Points area (bad_basic_by b area)
    placed l None e = tt
    placed l (Some i) e =
        let f = whole_inside Basic area i (sound_placed on area l (Some i) e).1 in
        points_when area (is_none (basic_reading (option_at i area))) (faulty 19 i) (λ k c. omega (arith, f.inside, f.least))

missing_points : (area : List ℕ) (o : Option (List ℕ)) (on : Bool) → Points area (missing_basic_by o on)
missing_points area none on = points_when area on _ (λ k c. absurd (omega arith))
missing_points area (some o) on = tt

-- 19 to 21 at the arriving port
basic_points : (p : Port) (area : List ℕ) (code : ℕ) → Points area (bad_basic_check p area) × Points area (missing_basic_check p area) × Points area (basic_range_check p area code)
unfolding bad_basic_check missing_basic_check basic_range_check
basic_points p area code = (
  bad_points p.basic.on area (walk_at p area) refl,
  missing_points area (arriving_basic p area) p.basic.on,
  barred_points area (not (basic_passes p.basic.on p.basic.receiving (arriving_basic p area))) 21 code,
)

range_points : (p : Port) (area : List ℕ) (code : ℕ) → Points area (range_check p area code)
unfolding range_check
range_points p area code = barred_points area (not (in_range p.lowest p.highest (arriving_label p area))) 14 code

forward_points : (f : Forwarding) → Points f.area (first_of (forward_checks f))
unfolding sizes records walk_check required_check option_check leaving_basic_check number_check leaving_check spelling_check
forward_points f =
    let b = basic_points f.arriving f.area 9 in
    points_first f.area (forward_checks f) (
      silent_points f.area (bad_area f.area || ltb f.room 40) 1,
      (
        silent_points f.area (not (records_test f)) 2,
        (
          walk_points f.arriving.basic.on f.area (walk_at f.arriving f.area) refl,
          (
            required_points f.area (place_in (walk_at f.arriving f.area)) f.arriving,
            (
              option_points f.arriving.basic.on f.arriving f.area (walk_at f.arriving f.area) refl,
              (
                b.0,
                (
                  b.1,
                  (
                    b.2,
                    (
                      barred_points f.area (not (basic_passes f.leaving.basic.on f.leaving.basic.sending (arriving_basic f.arriving f.area))) 21 9,
                      (
                        range_points f.arriving f.area 9,
                        (barred_points f.area (not (stays (crossing f) || has_numbers (crossing f))) 16 9, (barred_points f.area (not (set_in_range (lowest_out f.leaving) (highest_out f.leaving) (leaving_level (crossing f)) (leaving_runs (crossing f)))) 17 9, (barred_points f.area (ltb 120 (length (leaving_runs (crossing f))) || no_room (leaving_option (crossing f)) (kept_of f.area)) 18 9, tt))),
                      ),
                    ),
                  ),
                ),
              ),
            ),
          ),
        ),
      ),
    )

deliver_points : (d : Delivery) → Points d.area (first_of (deliver_checks d))
unfolding delivery_sizes delivery_records walk_check required_check option_check host_check
deliver_points d =
    let b = basic_points d.port d.area 10 in
    points_first d.area (deliver_checks d) (
      silent_points d.area (bad_area d.area) 1,
      (
        silent_points d.area (not (port_sound d.port && host_sound d.host d.port.domain)) 2,
        (
          walk_points d.port.basic.on d.area (walk_at d.port d.area) refl,
          (
            required_points d.area (place_in (walk_at d.port d.area)) d.port,
            (
              option_points d.port.basic.on d.port d.area (walk_at d.port d.area) refl,
              (
                b.0,
                (b.1, (b.2, (range_points d.port d.area 10, (barred_points d.area (not (in_range d.host.lowest d.host.highest (arriving_label d.port d.area))) 15 10, tt)))),
              ),
            ),
          ),
        ),
      ),
    )

decided_points : (area : List ℕ) (quiet : Bool) (o : Option Refusal) (l : Label) (n : ℕ) → Points area o
    → (decided quiet o l n).kind ≡ 12 → (decided quiet o l n).code ≡ 0 → PointsInto area (decided quiet o l n)
decided_points area quiet none l n h k c = absurd (omega arith)
decided_points area true (some r) l n h k c = absurd (omega arith)
decided_points area false (some r) l n h k c = let q = h k c in record { least = q.0; inside = q.1 }

pub forward_inside : (f : Forwarding) → (forward_of f).kind ≡ 12 → (forward_of f).code ≡ 0 → PointsInto f.area (forward_of f)
unfolding forward_of
forward_inside f k c = decided_points f.area (silenced f.facts) (first_of (forward_checks f)) _ _ (forward_points f) k c

pub deliver_inside : (d : Delivery) → (deliver_of d).kind ≡ 12 → (deliver_of d).code ≡ 0 → PointsInto d.area (deliver_of d)
unfolding deliver_of
deliver_inside d k c = decided_points d.area (silenced d.facts) (first_of (deliver_checks d)) _ _ (deliver_points d) k c
