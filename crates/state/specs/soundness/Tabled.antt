-- The tables of images over the levels below level k, made one after the other.
use Rattle.std.specs.Prelude.{◌≡◌, ℕ, ◌*◌, ◌≤◌}
use Rattle.definitions.specs.Limits.{document_01}
use Rattle.definitions.specs.Layout.{Words, level_at, levels_at}
use Rattle.definitions.specs.Places.{most_exponent, most_vectors}
use Rattle.orders.specs.Images.{table_of}
use Rattle.orders.specs.Levels.{table_over, images}
use Rattle.reducers.specs.tables.Ranking.{Capped, Raised}
use Rattle.state.specs.soundness.Places.{count_at, count_below}

-- the table over levels 0 to k − 1; an exponent grows by 255 with each level at the most
pub record Ready (s : Words) (k : ℕ) (table : Words) : Type 0 where
  pub few : count_below s k ≤ most_vectors
  pub made : table_of (count_below s k) table ≡ images (levels_at document_01 s k)
  pub capped : Capped (k * most_exponent) (count_below s k) table

-- one level more: the old table stands below, the one made from it above
pub record Advanced (s : Words) (k : ℕ) (old below above : Words) : Type 0 where
  pub made : table_of (count_at s k) above ≡ table_over (table_of (count_below s k) old) (level_at document_01 s k)
  pub raised : Raised (count_below s k) old (count_at s k) above
  pub copied : table_of (count_below s k) below ≡ table_of (count_below s k) old
  pub kept : (b : ℕ) → Capped b (count_below s k) old → Capped b (count_below s k) below
