-- The theorem of `specs/Theorems.antt`.
use mathlib.Core.Path.{◌≡◌, ◌∙◌, ap}
use mathlib.Core.Bool.{true}
use mathlib.Core.List.{List}
use Prim.Native.Nat.{ℕ, ◌≤◌}
use native.Mathlib.Omega.{arith}
use lib.ListN.{length, take, drop, get_or, get_or-append}
use borrow.Author.Tests.{le-leb}
use Rattle.table.specs.Table.{Lent, table_sound}
use Rattle.table.proofs.Sound.{sound}
use Rattle.table_levels.specs.Levels.{partner_of, partner_number, partner_from}
use Rattle.table_levels.proofs.Partners.{lead_partner}
use Rattle.renumber_partners.specs.Partners.{partner_list, partners_in}
use Rattle.renumber_partners.specs.Theorems.{PartnersListed}
use Rattle.renumber_partners.proofs.Tabled.{tabled_length, tabled_at}

number : (ps : List (List ℕ)) (was : List ℕ) (v : ℕ) → 256 ≤ length was → v ≤ 255 → get_or (partners_in ps was) v 256 ≡ partner_number (partner_of ps v)
unfolding partners_in
number ps was v h l =
    rw (le-leb 256 (length was) h)
    (get_or-append (partner_list ps) (drop 256 was) 256 v (omega (arith, tabled_length 256 (λ k. partner_number (partner_of ps k)))) ∙ tabled_at 256 (λ k. partner_number (partner_of ps k)) v 256 (omega arith))

partner : (t : Lent) (ls : List (List ℕ)) (was : List ℕ) (v : ℕ) → table_sound t ls ≡ true → 256 ≤ length was → v ≤ 255
    → partner_from (get_or (partners_in (take t.pairs ls) was) v 256) ≡ partner_of (take t.pairs ls) v
partner t ls was v s h l = ap partner_from (number (take t.pairs ls) was v h l) ∙ lead_partner (take t.pairs ls) v (sound t ls s).level_numbers_held

pub partners_listed : PartnersListed
partners_listed = record { number = number; partner = partner }
