-- The house file: a label has octets, and is read back, exactly when it is well formed; a port in a file of a version exactly when it is sound and the version can say it. Version 3 can
-- say every port, version 2 those that are not strict, version 1 those that are as document 01 has them.
use Rattle.std.specs.Prelude.{Bool, true, cond, not, ◌&&◌, ◌||◌, List, [], ◌∷◌, ◌≡◌, ℕ, ◌<◌, leb, eqb, length}
use Rattle.label.specs.declared.Label.{Label}
use Rattle.label.specs.Label.{well_formed}
use Rattle.basic.specs.declared.Way.{Way}
use Rattle.port.specs.declared.Port.{Port}
use Rattle.port.specs.Port.{is_plain, port_sound}
use Rattle.file_format.specs.Format.{Sound}
use Rattle.file_port.specs.LabelFormat.{label_format}
use Rattle.file_port.specs.PortFormat.{port_format}

pub record LabelsSaid : Type 0 where
  pub says : (l : Label) → well_formed l ≡ true → Sound (label_format l.domain) l
  pub said : (d : ℕ) (l : Label) → 0 < d → Sound (label_format d) l → (well_formed l ≡ true) × (l.domain ≡ d)

-- every number is one of 16 bits
abbrev pub small : List ℕ → Bool
small [] = true
small (x ∷ xs) = leb x 65535 && small xs

-- what the types say of the settings for one way: 256 places of 16 bits
unfoldable pub typed_way : Way → Bool
typed_way w = eqb (length w.flags) 256 && small w.flags

-- what the types say of every port: 120 places in each label, and its ways
unfoldable pub typed_port : Port → Bool
typed_port p =
    eqb (length p.lowest.runs) 120
    && (eqb (length p.highest.runs) 120
    && (eqb (length p.assigned.runs) 120
    && (typed_way p.basic.receiving
    && (typed_way p.basic.sending
    && eqb (length p.default.runs) 120))))

-- a file of this version can say the port
unfoldable pub port_sayable : (version : ℕ) → Port → Bool
port_sayable version p = leb 3 version || cond (leb 2 version) (not p.strict) (is_plain p)

pub record PortsSaid : Type 0 where
  pub says : (version : ℕ) (p : Port) → typed_port p ≡ true → port_sound p ≡ true → port_sayable version p ≡ true → Sound (port_format version) p
  pub said : (version : ℕ) (p : Port) → Sound (port_format version) p → (port_sound p ≡ true) × (port_sayable version p ≡ true)
