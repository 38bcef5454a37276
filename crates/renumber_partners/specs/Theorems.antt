-- What the list says of each level is what the pairs say.
use Rattle.std.specs.Prelude.{true, List, ◌≡◌, ℕ, ◌≤◌, length, take, get_or}
use Rattle.table.specs.Table.{Lent, table_sound}
use Rattle.table_levels.specs.Levels.{partner_of, partner_number, partner_from}
use Rattle.renumber_partners.specs.Partners.{partners_in}

pub record PartnersListed : Type 0 where
  pub number : (ps : List (List ℕ)) (was : List ℕ) (v : ℕ) → 256 ≤ length was → v ≤ 255 → get_or (partners_in ps was) v 256 ≡ partner_number (partner_of ps v)
  -- of a sound table no partner is lost
  pub partner : (t : Lent) (ls : List (List ℕ)) (was : List ℕ) (v : ℕ) → table_sound t ls ≡ true → 256 ≤ length was → v ≤ 255
      → partner_from (get_or (partners_in (take t.pairs ls) was) v 256) ≡ partner_of (take t.pairs ls) v
