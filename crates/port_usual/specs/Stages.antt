-- Stages of the test for the usual kind of port: cited by private contracts alone.
use Rattle.std.specs.Prelude.{ℕ, Bool, not, ◌&&◌, eqb, leb}
use Rattle.label.specs.declared.Label.{Label}
use Rattle.port.specs.Port.{range_sound}

-- a sound range of a domain that is not 0, from no categories to those of at most one run
unfoldable pub range_usual : Label → Label → ℕ → Bool
range_usual lowest highest domain =
    not (eqb domain 0) && (eqb lowest.count 0 && (leb highest.count 1 && range_sound lowest highest domain))
