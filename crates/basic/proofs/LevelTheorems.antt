-- The theorems of `specs/Theorems.antt`.
use mathlib.Core.Path.{refl}
use Rattle.basic.specs.LevelTheorems.{FourLevels}
use Rattle.basic.proofs.Levels.{rule, level_rank, is_level_lem, rank_told, levels_apart}

pub four_levels : FourLevels
four_levels =
    record {
      rule = rule;
      four = refl;
      ranked = λ x. (level_rank x, is_level_lem x);
      told = rank_told;
      apart = levels_apart;
    }
