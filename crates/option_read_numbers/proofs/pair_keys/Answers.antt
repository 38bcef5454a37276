-- `option_read_numbers::pair_keys` meets its contract.
use native.Mathlib.Omega.{arith}
use Prim.Native.Nat.{ℕ, ◌+◌, ◌-◌, ◌*◌, ◌/◌, ◌≤◌, ◌<◌}
use mathlib.Core.List.{List}
use mathlib.Core.Path.{◌≡◌, refl, sym, ◌∙◌, ap}
use lib.ListN.{length, length-set}
use lib.Dec.{ltb, eqb}
use mathlib.Core.Bool.{true, ◌||◌}
use Rattle.std.specs.Prelude.{Ok}
use Rattle.option_read_numbers.specs.declared.Last.{Last}
use Rattle.label.specs.declared.Run.{Run}
use Rattle.label.specs.Runs.{run, push_run}
use Rattle.label_keys.specs.Keys.{run_key}
use Rattle.option_read_numbers.specs.Numbers.{whole, first_bad_pair, pair_runs, bad_number_at, Passes}
use Rattle.option_read_numbers.specs.Stages.{after_piece, limit_at}
use Rattle.option.specs.Index.{range_runs, pairs_of, low_pair, high_pair, bad_pair, top_at, bottom_at}
use Rattle.option_read_numbers.proofs.Building.{Stands, stands_nil, stands_count, stands_push, piece_count, piece_some}
use Rattle.option_read_numbers.proofs.Loops.{range_most, range_next, range_none, range_room, left_none, limit_is, bad_pair_is, FirstFrom, first_start, first_next, first_found, pass_made, pass_bad, whole_pairs, whole_length}
use Rattle.option_read_numbers.proofs.pair_keys.Goals as goal
use Rattle.option_read_numbers.proofs.pair_keys.Goals.{After-add_piece-last}

-- the turn's pair, and what it adds
module _ (c : After-add_piece-last) where
  abbrev octets : List ℕ
  octets = c.args.octets.now

  abbrev b : List ℕ
  b = whole octets

  abbrev n : ℕ
  n = (length octets + 2) / 4

  abbrev j : ℕ
  j = c.loop-j.j

  abbrev rs : List Run
  rs = range_runs (low_pair b) (high_pair b) (n - j)

  stands : Stands c.args.keys.now rs c.loop-j.keys c.loop-j.last
  stands = c.loop-j.invariant.3

  abbrev low : ℕ
  low = low_pair b (n - j)

  abbrev high : ℕ
  high = high_pair b (n - j)

  at-pair : pairs_of b - 1 - (n - j) ≡ j - 1
  at-pair = omega (arith, whole_pairs octets, c.loop-j.auto.j)

  some : 0 < j
  some = omega arith

  bottom-is : c.loop-j.bottom ≡ bottom_at b (j - 1)
  bottom-is = c.loop-j.invariant.4 some

  low-is : c.loop-j.bottom ≡ low
  low-is = bottom-is ∙ ap (bottom_at b) (sym at-pair)

  top-is : c.number_at-top.result ≡ top_at b (j - 1)
  top-is = c.number_at-top.ensures.0

  high-is : c.number_at-top.result ≡ high
  high-is = top-is ∙ ap (top_at b) (sym at-pair)

  limit-is : c.limit_at-limit.result ≡ limit_at b (j - 1)
  limit-is = c.limit_at-limit.ensures.0

  bad-is : c.bad_pair.result ≡ bad_pair b (j - 1)
  bad-is = c.bad_pair.ensures ∙ (λ i. ltb (top-is i) (bottom-is i) || ltb (limit-is i) (top-is i + 1)) ∙ bad_pair_is b (j - 1) (omega (arith, top-is, c.number_at-top.ensures.1)) (omega (arith, limit-is, c.limit_at-limit.ensures.1))

  added : c.add_piece-last.result ≡ after_piece c.loop-j.last low high
  added = c.add_piece-last.ensures ∙ (λ i. after_piece c.loop-j.last (low-is i) (high-is i))

  room : length (push_run rs low high) ≤ 15
  room = omega (arith, range_room (low_pair b) (high_pair b) (n - j), c.requires.0)

  stored : (0 < c.add_piece-last.result.count) × (c.add_piece-last.result.count ≤ 15)
  stored = (piece_some stands low high _ added, omega (arith, piece_count stands low high _ added, room))

pub loop-j-init : goal.loop-j-init
loop-j-init c =
    let b' = c.args.octets.now in
    let z : (length b' + 2) / 4 - (length b' + 2) / 4 ≡ 0 = omega arith in
    (whole_pairs b', refl, first_start _ _, rw z (stands_nil _), c.last_bottom-bottom.ensures)

pub add_piece-last-requires : goal.add_piece-last-requires
add_piece-last-requires c =
    let l = c.loop-j in
    let b' = whole c.args.octets.now in
    let n' : ℕ = (length c.args.octets.now + 2) / 4 in
    let k : l.j - 1 + 1 ≡ l.j = omega arith in
    (omega (arith, stands_count l.invariant.3, range_most (low_pair b') (high_pair b') (n' - l.j), c.requires.0), ap (λ (z : ℕ). eqb z n') k ∙ left_none l.j n' l.auto.j ∙ range_none (low_pair b') (high_pair b') (n' - l.j) ∙ ap (λ (z : ℕ). eqb z 0) (sym (stands_count l.invariant.3)))

pub overflow_sub-at : goal.overflow_sub-at
overflow_sub-at c = omega (arith, stored (goal.at.overflow_sub-at c).After-add_piece-last)

pub offset_bounds-keys-at : goal.offset_bounds-keys-at
offset_bounds-keys-at c = omega (arith, stored (goal.at.offset_bounds-keys-at c).After-add_piece-last)

pub bounds-keys-at : goal.bounds-keys-at
bounds-keys-at c = omega (arith, stored (goal.at.bounds-keys-at c).After-add_piece-last)

pub loop-j-preserved : goal.loop-j-preserved
loop-j-preserved c =
    let d = (goal.at.loop-j-preserved c).After-add_piece-last in
    let l = c.loop-j in
    let e : n d - j d + 1 ≡ n d - (j d - 1) = omega (arith, l.auto.j) in (
      l.invariant.0,
      simp length-set l.invariant.1,
      first_next l.invariant.2 (j d - 1) (omega (arith, some d)) c.bad_pair.result (bad-is d) c.either-bad.result c.either-bad.ensures,
      rw (← e, ← range_next (low_pair (b d)) (high_pair (b d)) (n d - j d))
          (stands_push (stands d) (low d) (high d) _ (added d) (omega (arith, room d, c.requires.1)) (omega (arith, high-is d, c.number_at-top.ensures.1)) _ (c.key_of.ensures ∙ ap (λ (z : ℕ). run_key (run c.add_piece-last.result.low z)) (high-is d))),
      λ p. limit-is d ∙ limit_is (b d) (j d - 1) p,
    )

-- all pairs are read, and the first bad one is known
module _ (octets was keys : List ℕ) (j bad : ℕ) (last : Last) (z : j ≡ 0) (few : length octets ≤ 30)
    (f : FirstFrom (bad_pair (whole octets)) ((length octets + 2) / 4) j bad)
    (s : Stands was (range_runs (low_pair (whole octets)) (high_pair (whole octets)) ((length octets + 2) / 4 - j)) keys last) where
  all : (length octets + 2) / 4 - j ≡ pairs_of (whole octets)
  all = omega (arith, whole_pairs octets)

  first : bad ≡ first_bad_pair (whole octets)
  first =
      let g : FirstFrom (bad_pair (whole octets)) (pairs_of (whole octets)) 0 bad = rw (z, whole_pairs octets) at f in
      first_found g

  few-runs : length (range_runs (low_pair (whole octets)) (high_pair (whole octets)) ((length octets + 2) / 4 - j)) ≤ 15
  few-runs = omega (arith, range_most (low_pair (whole octets)) (high_pair (whole octets)) ((length octets + 2) / 4 - j))

  runs : range_runs (low_pair (whole octets)) (high_pair (whole octets)) ((length octets + 2) / 4 - j) ≡ pair_runs (whole octets)
  runs = ap (range_runs (low_pair (whole octets)) (high_pair (whole octets))) all

  one-bad : bad < (length octets + 2) / 4 → Passes true (pair_runs (whole octets)) (4 * first_bad_pair (whole octets)) (length (whole octets)) was keys (bad_number_at last.count (4 * bad))
  one-bad h = pass_bad s (pair_runs (whole octets)) runs few-runs (4 * first_bad_pair (whole octets)) (length (whole octets)) (4 * bad) (ap (λ (x : ℕ). 4 * x) first) (omega (arith, first, whole_length octets))

  none-bad : (length octets + 2) / 4 ≤ bad → Passes true (pair_runs (whole octets)) (4 * first_bad_pair (whole octets)) (length (whole octets)) was keys (Ok last.count)
  none-bad h = pass_made s (pair_runs (whole octets)) runs few-runs (4 * first_bad_pair (whole octets)) (length (whole octets)) (omega (arith, first, whole_length octets))

pub returns-then-bad-n : goal.returns-then-bad-n
returns-then-bad-n c =
    let l = c.loop-j in
    one-bad c.args.octets.now c.args.keys.now l.keys l.j l.bad l.last (omega arith) c.requires.0 l.invariant.2 l.invariant.3 (omega arith)

pub returns : goal.returns
returns c =
    let l = c.loop-j in
    none-bad c.args.octets.now c.args.keys.now l.keys l.j l.bad l.last (omega arith) c.requires.0 l.invariant.2 l.invariant.3 (omega arith)
