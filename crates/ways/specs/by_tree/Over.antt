-- The level over a state's level by the tree.
use Rattle.std.specs.Prelude.{◌≡◌, [], ℕ, get_or, Result as CodeResult}
use Rattle.definitions.specs.Limits.{document_01}
use Rattle.definitions.specs.Monomial.{Level}
use Rattle.definitions.specs.Result.{Result, ◌>>=◌}
use Rattle.definitions.specs.Tree.{tree}
use Rattle.definitions.specs.Lifting.{limited_frame, lift_all}
use Rattle.definitions.specs.Layout.{Words, level_at}
use Rattle.runs.specs.frame_terms.Vectors.{frame_terms, lifted_of, Whole}
use Rattle.runs.specs.declared.frame_terms.Lifted.{Lifted}
use Rattle.words.specs.declared.refusals.Refusal.{Refusal}
use Rattle.level.specs.by_runs.Stages.{ground_at, stage_at}
use Rattle.level.specs.declared.by_runs.Bounds.{Bounds}

-- what lifting these frame terms gives
abbrev pub framed_over : Bounds → Words → ℕ → ℕ → ℕ → Words → CodeResult Lifted Refusal → Words → Type 0
framed_over b s j room count words x out =
    (lifted_of x count out [] ≡ lift_all (stage_at b s j) (tree (stage_at b s j) room) ([], 0) [] (frame_terms words count))
    × Whole (ground_at b s j) count x out

-- the frame formed first: 15; then its terms
abbrev pub tree_over : Bounds → Words → ℕ → ℕ → Result Level
tree_over b s j room =
    limited_frame document_01 (get_or s 2 0) (level_at document_01 s j) >>= λ ms.
    lift_all (stage_at b s j) (tree (stage_at b s j) room) ([], 0) [] ms
