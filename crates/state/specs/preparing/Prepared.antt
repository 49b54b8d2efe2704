-- The tables of a stage, as the state's words say them.
use Rattle.std.specs.Prelude.{◌≡◌, ℕ, zero, suc, ◌+◌, get_or}
use Rattle.definitions.specs.Limits.{document_01}
use Rattle.definitions.specs.Reducer.{heads}
use Rattle.definitions.specs.Layout.{Words, rows, level_at}
use Rattle.reducers.specs.search.Search.{Spanned}
use Rattle.state.specs.soundness.Places.{count_at}
use Rattle.state.specs.soundness.Tabled.{Ready}

-- how many components level k's module has
abbrev pub components_at : Words → ℕ → ℕ
components_at s zero = get_or s 3 0
components_at s (suc k) = count_at s k

-- the table over levels 0 to k − 1 above, and below it that without level k − 1
abbrev pub ReadyPair : Words → ℕ → Words → Words → Type 0
ReadyPair s zero below above = Ready s 0 above
ReadyPair s (suc k) below above = Ready s (suc k) above × Ready s k below

-- the leading rows of level k, as the reducer rule reads them
pub record Led (s : Words) (k : ℕ) (leads spans : Words) : Type 0 where
  pub made : rows leads 0 (count_at s k) ≡ heads (get_or s 0 0) (level_at document_01 s k)
  pub spanned : Spanned (components_at s k + 1) (count_at s k) spans leads
