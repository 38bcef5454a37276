-- Document 02, Wish 14: worked records in octets, and the lines that are printed of them. The set has two ports of which every number is 0: an area of one octet is number 1, which is
-- silent, and any other area number 2.
use Rattle.std.specs.Prelude.{◌≡◌, List, [], ◌∷◌, ℕ, replicate}
use Rattle.table.specs.Renumbering.{no_renumbering}
use Rattle.file_port.specs.PortFormat.{no_port}
use Rattle.file_set.specs.declared.Set.{Set}
use Rattle.inspect_line.specs.Lines.{record_line, printed_of, differs_line}

abbrev pub two_ports : Set
two_ports = record { portcount = 2; ports = replicate 16 no_port; tablecount = 0; tables = replicate 8 no_renumbering }

-- AGREES, BROKEN, and DIFFERS with a place of one digit, each with the line's end
abbrev pub agrees : List ℕ
agrees = 65 ∷ 71 ∷ 82 ∷ 69 ∷ 69 ∷ 83 ∷ 10 ∷ []

abbrev pub broken : List ℕ
broken = 66 ∷ 82 ∷ 79 ∷ 75 ∷ 69 ∷ 78 ∷ 10 ∷ []

abbrev pub differs : ℕ → List ℕ
differs digit = 68 ∷ 73 ∷ 70 ∷ 70 ∷ 69 ∷ 82 ∷ 83 ∷ 32 ∷ digit ∷ 10 ∷ []

pub record WorkedLines : Type 0 where
  -- from port 0 to port 1, no facts, an area of one octet; claimed are number, type, code, pointer and no octets
  pub right : record_line two_ports [] (1 ∷ 0 ∷ 1 ∷ 0 ∷ 0 ∷ 0 ∷ 0 ∷ 0 ∷ 1 ∷ 7 ∷ 1 ∷ 0 ∷ 0 ∷ 0 ∷ 0 ∷ []) ≡ agrees
  pub number : record_line two_ports [] (1 ∷ 0 ∷ 1 ∷ 0 ∷ 0 ∷ 0 ∷ 0 ∷ 0 ∷ 1 ∷ 7 ∷ 2 ∷ 0 ∷ 0 ∷ 0 ∷ 0 ∷ []) ≡ differs 48
  pub kind : record_line two_ports [] (1 ∷ 0 ∷ 1 ∷ 0 ∷ 0 ∷ 0 ∷ 0 ∷ 0 ∷ 1 ∷ 7 ∷ 1 ∷ 3 ∷ 0 ∷ 0 ∷ 0 ∷ []) ≡ differs 49
  pub code : record_line two_ports [] (1 ∷ 0 ∷ 1 ∷ 0 ∷ 0 ∷ 0 ∷ 0 ∷ 0 ∷ 1 ∷ 7 ∷ 1 ∷ 0 ∷ 9 ∷ 0 ∷ 0 ∷ []) ≡ differs 50
  pub pointer : record_line two_ports [] (1 ∷ 0 ∷ 1 ∷ 0 ∷ 0 ∷ 0 ∷ 0 ∷ 0 ∷ 1 ∷ 7 ∷ 1 ∷ 0 ∷ 0 ∷ 20 ∷ 0 ∷ []) ≡ differs 51
  pub length : record_line two_ports [] (1 ∷ 0 ∷ 1 ∷ 0 ∷ 0 ∷ 0 ∷ 0 ∷ 0 ∷ 1 ∷ 7 ∷ 1 ∷ 0 ∷ 0 ∷ 0 ∷ 2 ∷ 0 ∷ 0 ∷ []) ≡ differs 52
  -- no area, with a fact: 2
  pub empty : record_line two_ports [] (1 ∷ 1 ∷ 0 ∷ 1 ∷ 0 ∷ 0 ∷ 0 ∷ 0 ∷ 0 ∷ 2 ∷ 0 ∷ 0 ∷ 0 ∷ 0 ∷ []) ≡ agrees
  -- version 2, a port that is not in the file, a fact of 2, an octet too many
  pub version : record_line two_ports [] (2 ∷ 0 ∷ 1 ∷ 0 ∷ 0 ∷ 0 ∷ 0 ∷ 0 ∷ 1 ∷ 7 ∷ 1 ∷ 0 ∷ 0 ∷ 0 ∷ 0 ∷ []) ≡ broken
  pub port : record_line two_ports [] (1 ∷ 0 ∷ 2 ∷ 0 ∷ 0 ∷ 0 ∷ 0 ∷ 0 ∷ 1 ∷ 7 ∷ 1 ∷ 0 ∷ 0 ∷ 0 ∷ 0 ∷ []) ≡ broken
  pub fact : record_line two_ports [] (1 ∷ 0 ∷ 1 ∷ 0 ∷ 0 ∷ 2 ∷ 0 ∷ 0 ∷ 1 ∷ 7 ∷ 1 ∷ 0 ∷ 0 ∷ 0 ∷ 0 ∷ []) ≡ broken
  pub long : record_line two_ports [] (1 ∷ 0 ∷ 1 ∷ 0 ∷ 0 ∷ 0 ∷ 0 ∷ 0 ∷ 1 ∷ 7 ∷ 1 ∷ 0 ∷ 0 ∷ 0 ∷ 0 ∷ 0 ∷ []) ≡ broken
  -- places of two digits
  pub tens : differs_line 44 ≡ 68 ∷ 73 ∷ 70 ∷ 70 ∷ 69 ∷ 82 ∷ 83 ∷ 32 ∷ 52 ∷ 52 ∷ 10 ∷ []
  -- the whole output: a record that does not parse, the next one, and the input ends within a third
  pub input : printed_of two_ports [] (0 ∷ 1 ∷ 9 ∷ 0 ∷ 14 ∷ 1 ∷ 0 ∷ 0 ∷ 0 ∷ 0 ∷ 0 ∷ 0 ∷ 0 ∷ 0 ∷ 3 ∷ 0 ∷ 0 ∷ 0 ∷ 0 ∷ 0 ∷ 14 ∷ 1 ∷ [])
      ≡ 66 ∷ 82 ∷ 79 ∷ 75 ∷ 69 ∷ 78 ∷ 10 ∷ 68 ∷ 73 ∷ 70 ∷ 70 ∷ 69 ∷ 82 ∷ 83 ∷ 32 ∷ 48 ∷ 10 ∷ 66 ∷ 82 ∷ 79 ∷ 75 ∷ 69 ∷ 78 ∷ 10 ∷ []
