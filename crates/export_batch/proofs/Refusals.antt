-- A port of zeros is unsound, and an unsound port passes nothing.
use mathlib.Core.Bool.{Bool, true, false, cond, not, ◌&&◌, ◌||◌, true≢false}
use mathlib.Core.List.{List, ◌∷◌}
use mathlib.Core.Option.{Option, some}
use mathlib.Core.Path.{◌≡◌, refl, ap, ◌∙◌}
use Prim.Native.Nat.{ℕ, zero, suc}
use native.Mathlib.Omega.{arith}
use lib.Dec.{ltb}
use lib.ListN.{get_or, drop, replicate}
use Rattle.label.specs.declared.Label.{Label}
use Rattle.port.specs.declared.Port.{Port}
use Rattle.port.specs.Port.{port_sound}
use Rattle.table.specs.Table.{table_sound}
use Rattle.file_set.specs.declared.Set.{Set}
use Rattle.file_port.specs.PortFormat.{no_port}
use Rattle.file_set.specs.Set.{tables_in}
use Rattle.file_read.proofs.Answers.{not_accepted}
use Rattle.route_ports.specs.Ports.{unlisted_port, port_at}
use Rattle.decision.specs.declared.Refusal.{Refusal}
use Rattle.decision.specs.Decision.{silenced, decided}
use Rattle.area.specs.Area.{bad_area}
use Rattle.arrive.specs.Checks.{silent, when, first_of}
use Rattle.forward_rules.specs.Crossing.{Forwarding, sizes, records, same_domain, crossing, leaving_label}
use Rattle.forward_rules.specs.Forward.{forward_of, forward_checks, leaving_count}
use Rattle.forward_batch.specs.Batch.{forwarding_in}
use Rattle.export_batch.specs.Batch.{between}
use Rattle.export_batch.specs.Theorems.{RefusedFile, NoPort}

-- 1. A refused file.

all_alike : {A : Type 0} (n i : ℕ) (d e : A) → (P : A → Type 0) → P d → P e → P (get_or (replicate n d) i e)
all_alike zero i d e P p q = q
all_alike (suc n) zero d e P p q = p
all_alike (suc n) (suc i) d e P p q = all_alike n i d e P p q

unsound : port_sound no_port ≡ false
unfolding port_sound
unsound = refl

unlisted : port_sound unlisted_port ≡ false
unfolding port_sound
unlisted = refl

pub refused_file : RefusedFile
unfolding port_at
refused_file o room h i =
    ap (λ (s : Set). port_sound (get_or s.ports i unlisted_port)) (not_accepted o room h) ∙ all_alike 16 i no_port unlisted_port (λ (p : Port). port_sound p ≡ false) unsound unlisted

-- 2. An unsound port.

number_of : (quiet : Bool) (first rest : Option Refusal) (others : List (Option Refusal)) (l : Label) (n : ℕ) (t : Bool)
    → first ≡ when t (silent 1) → rest ≡ some (silent 2) → (decided quiet (first_of (first ∷ rest ∷ others)) l n).number ≡ 0 → ⊥
number_of quiet first rest others l n true e₁ e₂ h =
    let z : ◌≡◌ {A = ℕ} 1 0 = rw e₁ at h in
    absurd (omega (arith, z))
number_of quiet first rest others l n false e₁ e₂ h =
    let z : ◌≡◌ {A = ℕ} 2 0 = rw (e₁, e₂) at h in
    absurd (omega (arith, z))

nothing : (f : Forwarding) → port_sound f.arriving && port_sound f.leaving ≡ false → (forward_of f).number ≡ 0 → ⊥
unfolding forward_of sizes records
nothing f e h =
    number_of
    (silenced f.facts)
    (sizes f)
    (records f)
    (drop 2 (forward_checks f))
    (leaving_label (crossing f))
    (leaving_count f)
    (bad_area f.area || ltb f.room 40)
    refl
    (by (port_sound f.arriving) (port_sound f.leaving) (same_domain f || table_sound f.table f.levels) e)
    h
  where
    by : (a b c : Bool) → a && b ≡ false → when (not (a && (b && c))) (silent 2) ≡ some (silent 2)
    by true true c e = absurd (true≢false e)
    by true false c e = refl
    by false b c e = refl

pub no_port_lem : NoPort
no_port_lem s ns a l e r = go (ltb a 16 && ltb l 16)
  where
    go : (t : Bool) → (forward_of (forwarding_in (cond t (between (port_at s.ports a) (port_at s.ports l) (tables_in s) ns) (between unlisted_port unlisted_port (tables_in s) ns)) r)).number ≡ 0 → ⊥
    go true h = nothing (forwarding_in (between (port_at s.ports a) (port_at s.ports l) (tables_in s) ns) r) e h
    go false h = nothing (forwarding_in (between unlisted_port unlisted_port (tables_in s) ns) r) (rw unlisted) h
