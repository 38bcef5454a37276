-- Document 01, "The sample program": lines as octets, the sample's two first. "The whole output is" these two; `FORWARD 0` has no blank behind it (document 02, Wish 6);
-- a refusal says its number, its type, its code, its pointer.
use Rattle.std.specs.Prelude.{◌≡◌, [], ◌∷◌}
use Rattle.text.specs.Line.{forward_line, drop_line, broken_line}

pub record Lines : Type 0 where
  -- FORWARD 12 860c000000090206000403e8
  pub first : forward_line 12 (134 ∷ 12 ∷ 0 ∷ 0 ∷ 0 ∷ 9 ∷ 2 ∷ 6 ∷ 0 ∷ 4 ∷ 3 ∷ 232 ∷ 0 ∷ 0 ∷ []) ≡ 70 ∷ 79 ∷ 82 ∷ 87 ∷ 65 ∷ 82 ∷ 68 ∷ 32 ∷ 49 ∷ 50 ∷ 32 ∷ 56 ∷ 54 ∷ 48 ∷ 99 ∷ 48 ∷ 48 ∷ 48 ∷ 48 ∷ 48 ∷ 48 ∷ 48 ∷ 57 ∷ 48 ∷ 50 ∷ 48 ∷ 54 ∷ 48 ∷ 48 ∷ 48 ∷ 52 ∷ 48 ∷ 51 ∷ 101 ∷ 56 ∷ 10 ∷ []
  -- DROP 6 12 1 134
  pub second : drop_line 6 12 1 134 ≡ 68 ∷ 82 ∷ 79 ∷ 80 ∷ 32 ∷ 54 ∷ 32 ∷ 49 ∷ 50 ∷ 32 ∷ 49 ∷ 32 ∷ 49 ∷ 51 ∷ 52 ∷ 10 ∷ []
  -- FORWARD 0
  pub empty : forward_line 0 (0 ∷ 0 ∷ []) ≡ 70 ∷ 79 ∷ 82 ∷ 87 ∷ 65 ∷ 82 ∷ 68 ∷ 32 ∷ 48 ∷ 10 ∷ []
  -- DROP 14 3 9 0
  pub order : drop_line 14 3 9 0 ≡ 68 ∷ 82 ∷ 79 ∷ 80 ∷ 32 ∷ 49 ∷ 52 ∷ 32 ∷ 51 ∷ 32 ∷ 57 ∷ 32 ∷ 48 ∷ 10 ∷ []
  -- DROP 255 10 200 4000
  pub large : drop_line 255 10 200 4000 ≡ 68 ∷ 82 ∷ 79 ∷ 80 ∷ 32 ∷ 50 ∷ 53 ∷ 53 ∷ 32 ∷ 49 ∷ 48 ∷ 32 ∷ 50 ∷ 48 ∷ 48 ∷ 32 ∷ 52 ∷ 48 ∷ 48 ∷ 48 ∷ 10 ∷ []
  -- BROKEN
  pub cut : broken_line ≡ 66 ∷ 82 ∷ 79 ∷ 75 ∷ 69 ∷ 78 ∷ 10 ∷ []
