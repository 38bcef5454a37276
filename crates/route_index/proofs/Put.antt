-- Laws of the loops that write an index.
use mathlib.Core.Path.{◌≡◌, refl, sym, ◌∙◌, ap}
use mathlib.Core.Bool.{true, false}
use mathlib.Core.List.{List, [], ◌∷◌, ◌++◌, map, append_assoc, append-nil}
use Prim.Native.Nat.{ℕ, ◌+◌, ◌-◌, ◌*◌, ◌/◌, ◌≤◌, ◌<◌}
use native.Mathlib.Omega.{arith}
use lib.ListN.{length, take, drop, get_or, set, length-append, length-map, length-set, take-append-drop}
use lib.Seq.{drop-set-lt, drop-drop, append_snoc, length-take-le, take_at, drop_at}
use borrow.Author.Tests.{le-leb, lt-leb}
use Rattle.lists_sort.specs.Order.{sort_keys}
use Rattle.lists_sort.proofs.Laws.{sort_length}
use Rattle.lists_sort.proofs.Merge.{put}
use Rattle.route.specs.declared.Route.{Route}
use Rattle.route.specs.Route.{routes_of}
use Rattle.route.proofs.Laws.{route_at_lem, at_end}
use Rattle.route_index.specs.Index.{port_at, first_address, behind_address, edges_of, edges, index_of, held, edge_count, indexed}

-- what is the same from a place on is the same further on
later : (a b : List ℕ) (w r : ℕ) → w ≤ r → drop w a ≡ drop w b → drop r a ≡ drop r b
later a b w r h e =
    let z : w + (r - w) ≡ r = omega arith in
    ap (λ (k : ℕ). drop k a) (sym z) ∙ sym (drop-drop (r - w) w a) ∙ ap (drop (r - w)) e ∙ drop-drop (r - w) w b ∙ ap (λ (k : ℕ). drop k b) z

-- The edges of the routes before `at` are written, and no more.
pub record Edging (routes was index : List ℕ) (w at : ℕ) : Type 0 where
  pub inside : at ≤ length routes
  pub even : at + 2 ≡ w * 2
  pub fours : at ≡ at / 4 * 4
  pub sized : length index ≡ length was
  pub rest : drop w index ≡ drop w was
  pub whole : 0 ∷ edges_of (routes_of routes) ≡ take w index ++ edges_of (routes_of (drop at routes))

pub edging_start : (routes was : List ℕ) → 0 < length was → Edging routes (set was 0 0) (set was 0 0) 1 0
edging_start routes was h =
    record {
      inside = omega arith;
      even = refl;
      fours = refl;
      sized = refl;
      rest = refl;
      whole = ap (λ (z : List ℕ). z ++ edges_of (routes_of routes)) (sym (put was 0 0 h));
    }

module _ (routes was : List ℕ) (room : length routes / 4 * 2 + 1 ≤ length was) (index : List ℕ) (w at : ℕ) (s : Edging routes was index w at) (h : 4 ≤ length routes - at) where
  pub edging_room : w + 1 < length index
  edging_room = omega (arith, s.inside, s.even, s.fours, s.sized)

  pub edging_again : (a b : ℕ) → a ≡ first_address (get_or routes at 0) (get_or routes (at + 1) 0) → b ≡ behind_address (get_or routes at 0) (get_or routes (at + 1) 0)
      → Edging routes was (set (set index w a) (w + 1) b) (w + 2) (at + 4)
  edging_again a b p q =
      let n : length (set index w a) ≡ length index = length-set index w a in
      let l : w + 1 < length (set index w a) = omega (arith, edging_room) in
      let k : w < length index = omega (arith, edging_room) in
      let z : w + 1 + 1 ≡ w + 2 = omega arith in
      let t : take (w + 2) (set (set index w a) (w + 1) b) ≡ (take w index ++ (a ∷ [])) ++ (b ∷ []) =
      (rw z at (put (set index w a) (w + 1) b l)) ∙ ap (λ (y : List ℕ). y ++ (b ∷ [])) (put index w a k) in
      record {
        inside = omega (arith, s.inside);
        even = omega (arith, s.even);
        fours = omega (arith, s.fours);
        sized = length-set (set index w a) (w + 1) b ∙ n ∙ s.sized;
        rest = drop-set-lt (w + 2) (set index w a) (w + 1) b (omega arith) ∙ drop-set-lt (w + 2) index w a (omega arith) ∙ later index was w (w + 2) (omega arith) s.rest;
        whole = s.whole
            ∙ ap (λ (y : List ℕ). take w index ++ y) (ap edges_of (route_at_lem routes at (omega (arith, s.inside))) ∙ sym (λ i. p i ∷ q i ∷ edges_of (routes_of (drop (at + 4) routes))))
            ∙ sym (append_snoc (take w index) a (b ∷ edges_of (routes_of (drop (at + 4) routes))))
            ∙ sym (append_snoc (take w index ++ (a ∷ [])) b (edges_of (routes_of (drop (at + 4) routes))))
            ∙ ap (λ (y : List ℕ). y ++ edges_of (routes_of (drop (at + 4) routes))) (sym t);
      }

edging_end : (routes was index : List ℕ) (w at : ℕ) → length routes / 4 * 2 + 1 ≤ length was → Edging routes was index w at → length routes - at < 4
    → index ≡ (0 ∷ edges_of (routes_of routes)) ++ drop (length (0 ∷ edges_of (routes_of routes))) was
edging_end routes was index w at room s h =
    let e : 0 ∷ edges_of (routes_of routes) ≡ take w index = s.whole ∙ ap (λ (z : List ℕ). take w index ++ z) (ap edges_of (at_end routes at h)) ∙ append-nil (take w index) in
    let l : w ≤ length index = omega (arith, s.inside, s.even, s.fours, s.sized) in
    let n : length (0 ∷ edges_of (routes_of routes)) ≡ w = ap length e ∙ length-take-le w index l in
    sym (take-append-drop w index) ∙ ap (λ (z : List ℕ). z ++ drop w index) (sym e) ∙ ap (λ (z : List ℕ). (0 ∷ edges_of (routes_of routes)) ++ z) (s.rest ∙ ap (λ (k : ℕ). drop k was) (sym n))

-- with the first number that was written before them
pub edging_all : (routes was index : List ℕ) (w at : ℕ) → length routes / 4 * 2 + 1 ≤ length was → Edging routes (set was 0 0) index w at → length routes - at < 4
    → index ≡ (0 ∷ edges_of (routes_of routes)) ++ drop (length (0 ∷ edges_of (routes_of routes))) was
edging_all routes was index w at room s h =
    let n : length (set was 0 0) ≡ length was = length-set was 0 0 in
    edging_end routes (set was 0 0) index w at (omega arith) s h
    ∙ ap (λ (z : List ℕ). (0 ∷ edges_of (routes_of routes)) ++ z) (drop-set-lt (length (0 ∷ edges_of (routes_of routes))) was 0 0 (omega arith))

-- How many routes, and how many edges.
pub routes_length : (ns : List ℕ) → length (routes_of ns) ≡ length ns / 4
routes_length [] = refl
routes_length (a ∷ []) = refl
routes_length (a ∷ b ∷ []) = refl
routes_length (a ∷ b ∷ c ∷ []) = refl
routes_length (a ∷ b ∷ c ∷ d ∷ ns) = let e : length (routes_of ns) ≡ length ns / 4 = routes_length ns in omega arith

edges_length : (rs : List Route) → length (edges_of rs) ≡ length rs * 2
edges_length [] = refl
edges_length (r ∷ rs) = let e : length (edges_of rs) ≡ length rs * 2 = edges_length rs in omega arith

pub edges_many : (rs : List Route) → length (edges rs) ≡ length rs * 2 + 1
edges_many rs = sort_length [] (0 ∷ edges_of rs) ∙ omega (arith, edges_length rs)

-- The whole index.
module _ (routes was : List ℕ) (n : ℕ) (is : n ≡ length routes / 4 * 2 + 1) where
  abbrev rs : List Route
  rs = routes_of routes

  many : length rs * 2 + 1 ≡ n
  many = omega (arith, routes_length routes)

  pub index_none : length was / 2 < n → (0 ≡ edge_count rs (length was)) × (was ≡ indexed rs was)
  unfolding edge_count indexed
  index_none h =
      let e : held rs (length was) ≡ false = lt-leb (length rs * 2 + 1) (length was / 2) (omega (arith, many)) in
      (sym (rw e), sym (rw e))

  module _ (h : n ≤ length was / 2) (a b c : List ℕ) (ea : a ≡ (0 ∷ edges_of rs) ++ drop (length (0 ∷ edges_of rs)) was) (eb : b ≡ sort_keys (take n a) ++ drop n a)
      (ec : c ≡ take n b ++ (map (port_at rs) (take n b) ++ drop (n + n) b)) where
    all_edges : length (0 ∷ edges_of rs) ≡ n
    all_edges = omega (arith, edges_length rs, many)

    sorted_edges : b ≡ edges rs ++ drop n was
    sorted_edges =
        eb
        ∙ ap (λ (z : List ℕ). sort_keys (take n z) ++ drop n z) ea
        ∙ ap (λ (z : List ℕ). sort_keys z ++ drop n ((0 ∷ edges_of rs) ++ drop (length (0 ∷ edges_of rs)) was)) (take_at (0 ∷ edges_of rs) (drop (length (0 ∷ edges_of rs)) was) n all_edges)
        ∙ ap (λ (z : List ℕ). edges rs ++ z) (drop_at (0 ∷ edges_of rs) (drop (length (0 ∷ edges_of rs)) was) n all_edges ∙ ap (λ (k : ℕ). drop k was) all_edges)

    pub index_all : (n ≡ edge_count rs (length was)) × (c ≡ indexed rs was)
    unfolding edge_count indexed
    index_all =
        let e : held rs (length was) ≡ true = le-leb (length rs * 2 + 1) (length was / 2) (omega (arith, many)) in
        let m : length (edges rs) ≡ n = edges_many rs ∙ many in
        let t : take n b ≡ edges rs = ap (take n) sorted_edges ∙ take_at (edges rs) (drop n was) n m in
        let d : drop (n + n) b ≡ drop (n + n) was = sym (drop-drop n n b) ∙ ap (λ (z : List ℕ). drop n (drop n z)) sorted_edges ∙ ap (drop n) (drop_at (edges rs) (drop n was) n m) ∙ drop-drop n n was in
        let l : length (index_of rs) ≡ n + n = length-append (edges rs) (map (port_at rs) (edges rs)) ∙ omega (arith, m, length-map (edges rs) (port_at rs)) in (
          sym (rw e many),
          ec
              ∙ ap (λ (z : List ℕ). z ++ (map (port_at rs) z ++ drop (n + n) b)) t
              ∙ ap (λ (z : List ℕ). edges rs ++ (map (port_at rs) (edges rs) ++ z)) d
              ∙ sym (append_assoc (edges rs) (map (port_at rs) (edges rs)) (drop (n + n) was))
              ∙ ap (λ (k : ℕ). index_of rs ++ drop k was) (sym l)
              ∙ sym (rw e),
        )
