-- Wish 3: what is proved of a port's settings.
use Rattle.std.specs.Prelude.{ℕ, ◌≤◌, ◌<◌, ◌≡◌, true, ◌↔◌, length, get_or}
use Rattle.basic.specs.Levels.{is_level, rank_of}
use Rattle.basic.specs.declared.Way.{Way}
use Rattle.basic.specs.Settings.{way_sound, passes_way}

-- a level and a flag field are permitted one way: the level is one of the four with a rank from that of the lowest to that of the highest, and
-- the flag field stands, whole, in one of its first `count` places
pub record BasicPermitted (w : Way) (v f : ℕ) : Type 0 where
  pub level : is_level v ≡ true
  pub low : rank_of w.lowest ≤ rank_of v
  pub high : rank_of v ≤ rank_of w.highest
  pub flags : (k : ℕ) × (k < w.count) × (k < length w.flags) × (get_or w.flags k 0 ≡ f)

-- of settings that are sound
abbrev pub PassesExactly : Type 0
PassesExactly = (w : Way) (v f : ℕ) → way_sound w ≡ true → (passes_way w v f ≡ true) ↔ BasicPermitted w v f
