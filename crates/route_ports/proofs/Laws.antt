-- Looking at all ports of a list: one more, and the end. What holds of sound ports: none is missing, and each of them is sound.
use mathlib.Core.Path.{◌≡◌, refl, sym, ◌∙◌, ap}
use mathlib.Core.Bool.{Bool, true, false, ◌&&◌}
use mathlib.Core.List.{List, [], ◌∷◌, ◌++◌, map-append, append_assoc}
use mathlib.Core.Logic.{◌⊎◌, inl, inr}
use Prim.Native.Nat.{ℕ, zero, suc, ◌+◌, ◌-◌, ◌<◌, ◌≤◌}
use native.Mathlib.Omega.{arith}
use native.Mathlib.Numerals.{add-one}
use lib.Dec.{leb}
use lib.ListN.{length, take, set, replicate, get_or, length-append, length-map}
use lib.Seq.{take_all, take-suc, take-append-le, length-take-le, set_at, take_at}
use borrow.Author.Tests.{le-leb, lt-leb, leb-true}
use Rattle.label.proofs.Bools.{less_or, and_left, and_right}
use Rattle.port.specs.declared.Port.{Port}
use Rattle.port.specs.Port.{port_sound}
use Rattle.route_ports.specs.declared.Survey.{Survey}
use Rattle.route_ports.specs.Ports.{unlisted_port, port_at, all_sound, ports_sound, domains_of, survey_of}
use Rattle.route_ports.specs.Stages.{start_of, noted_by}

-- one port more at the end
sound_more : (xs : List Port) (p : Port) → all_sound (xs ++ (p ∷ [])) ≡ (all_sound xs && port_sound p)
sound_more [] p = go (port_sound p)
  where
    go : (b : Bool) → (b && true) ≡ b
    go true = refl
    go false = refl
sound_more (x ∷ xs) p = rw (sound_more xs p) (go (port_sound x) (all_sound xs) (port_sound p))
  where
    go : (a b c : Bool) → (a && (b && c)) ≡ ((a && b) && c)
    go true b c = refl
    go false b c = refl

module _ (xs : List Port) (p : Port) where
  longer_by : length (xs ++ (p ∷ [])) ≡ length xs + 1
  longer_by = length-append xs (p ∷ [])

  -- the rest of the places: one fewer
  places_left : length xs < 64 → replicate {A = ℕ} (64 - length xs) 0 ≡ 0 ∷ replicate (64 - length (xs ++ (p ∷ []))) 0
  places_left h =
      let e : 64 - length xs ≡ suc (64 - length (xs ++ (p ∷ []))) = let z : length (xs ++ (p ∷ [])) ≡ length xs + 1 = longer_by in omega arith in
      ap (λ (n : ℕ). replicate {A = ℕ} n 0) e

  noted_room : length xs < 64 → noted_by (survey_of xs) p ≡ survey_of (xs ++ (p ∷ []))
  unfolding survey_of ports_sound
  noted_room h =
      let l : length (xs ++ (p ∷ [])) ≡ length xs + 1 = longer_by in
      let t : take 64 xs ≡ xs = take_all 64 xs (omega arith) in
      let u : take 64 (xs ++ (p ∷ [])) ≡ xs ++ (p ∷ []) = take_all 64 (xs ++ (p ∷ [])) (omega arith) in
      let d : set (domains_of xs ++ replicate (64 - length xs) 0) (length xs) p.domain ≡ domains_of (xs ++ (p ∷ [])) ++ replicate (64 - length (xs ++ (p ∷ []))) 0 = written h in
      let b : leb 64 (length xs) ≡ false = lt-leb 64 (length xs) h in
      let a : leb (length xs) 64 ≡ true = le-leb (length xs) 64 (omega arith) in
      let c : leb (length (xs ++ (p ∷ []))) 64 ≡ true = le-leb (length (xs ++ (p ∷ []))) 64 (omega arith) in
      rw (t, u, b, a, c, d, l, sound_more xs p)
    where
      written : length xs < 64 → set (domains_of xs ++ replicate (64 - length xs) 0) (length xs) p.domain ≡ domains_of (xs ++ (p ∷ [])) ++ replicate (64 - length (xs ++ (p ∷ []))) 0
      written h =
          ap (λ (z : List ℕ). set (domains_of xs ++ z) (length xs) p.domain) (places_left h)
          ∙ set_at (domains_of xs) 0 (replicate (64 - length (xs ++ (p ∷ []))) 0) p.domain (length xs) (length-map xs (λ (q : Port). q.domain))
          ∙ sym (append_assoc (domains_of xs) (p.domain ∷ []) (replicate (64 - length (xs ++ (p ∷ []))) 0))
          ∙ ap (λ (z : List ℕ). z ++ replicate (64 - length (xs ++ (p ∷ []))) 0) (sym (map-append (λ (q : Port). q.domain) xs (p ∷ [])))

  noted_full : 64 ≤ length xs → noted_by (survey_of xs) p ≡ survey_of (xs ++ (p ∷ []))
  unfolding survey_of ports_sound
  noted_full h =
      let l : length (xs ++ (p ∷ [])) ≡ length xs + 1 = longer_by in
      let t : take 64 (xs ++ (p ∷ [])) ≡ take 64 xs = take-append-le 64 xs (p ∷ []) h in
      let n : length (take 64 xs) ≡ 64 = length-take-le 64 xs h in
      let c : leb (length (xs ++ (p ∷ []))) 64 ≡ false = lt-leb (length (xs ++ (p ∷ []))) 64 (omega arith) in
      let a : 64 - length (xs ++ (p ∷ [])) ≡ 64 - length xs = omega arith in
      rw (t, n, c, a)

  noted : noted_by (survey_of xs) p ≡ survey_of (xs ++ (p ∷ []))
  noted = go (less_or (length xs) 64)
    where
      go : (length xs < 64) ⊎ (64 ≤ length xs) → noted_by (survey_of xs) p ≡ survey_of (xs ++ (p ∷ []))
      go (inl h) = noted_room h
      go (inr h) = noted_full h

-- what is known before the first port, and of one more
pub begin : survey_of [] ≡ start_of
unfolding survey_of ports_sound
begin = refl

pub one_more : (ys : List Port) (i : ℕ) (s : Survey) → i < length ys → s ≡ survey_of (take i ys) → (d : Port) (r : Survey) → r ≡ noted_by s (get_or ys i d) → r ≡ survey_of (take (i + 1) ys)
one_more ys i s l k d r e =
    e
    ∙ ap (λ (t : Survey). noted_by t (get_or ys i d)) k
    ∙ noted (take i ys) (get_or ys i d)
    ∙ ap survey_of (sym (take-suc ys i d l))
    ∙ ap (λ (n : ℕ). survey_of (take n ys)) (sym (add-one i))

-- Of sound ports: each is sound, none is left out, and the domains known are theirs.
sound_in : (ps : List Port) (i : ℕ) → all_sound ps ≡ true → i < length ps → port_sound (get_or ps i unlisted_port) ≡ true
sound_in [] i e h = absurd (omega arith)
sound_in (p ∷ ps) zero e h = and_left (port_sound p) (all_sound ps) e
sound_in (p ∷ ps) (suc i) e h = sound_in ps i (and_right (port_sound p) (all_sound ps) e) (omega arith)

module _ (ps : List Port) (e : ports_sound ps ≡ true) where
  pub few_enough : length ps ≤ 64
  unfolding ports_sound
  few_enough = leb-true (length ps) 64 (and_left (leb (length ps) 64) (all_sound ps) e)

  pub sound_at : (i : ℕ) → i < length ps → port_sound (port_at ps i) ≡ true
  unfolding ports_sound port_at
  sound_at i h = sound_in ps i (and_right (leb (length ps) 64) (all_sound ps) e) h

  all_taken : take 64 ps ≡ ps
  all_taken = take_all 64 ps few_enough

  pub count_known : (survey_of ps).count ≡ length ps
  unfolding survey_of
  count_known = ap length all_taken

  pub domains_known : take (survey_of ps).count (survey_of ps).domains ≡ domains_of ps
  unfolding survey_of
  domains_known =
      take_at (domains_of (take 64 ps)) (replicate (64 - length ps) 0) (length (take 64 ps)) (length-map (take 64 ps) (λ (q : Port). q.domain)) ∙ ap domains_of all_taken

pub survey_sound : (ps : List Port) → (survey_of ps).sound ≡ ports_sound ps
unfolding survey_of
survey_sound ps = refl

pub none_unsound : port_sound unlisted_port ≡ false
unfolding port_sound
none_unsound = refl
