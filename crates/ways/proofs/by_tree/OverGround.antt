-- What the tree asks for and what it gives, over the ground that the code made of a state's level.
use mathlib.Core.Path.{◌≡◌, refl, sym, ◌∙◌, subst₂}
use mathlib.Core.List.{List, []}
use Prim.Native.Nat.{ℕ}
use Rattle.definitions.specs.Monomial.{Monomial, Level}
use Rattle.definitions.specs.Result.{Result}
use Rattle.definitions.specs.Tree.{tree}
use Rattle.definitions.specs.Lifting.{lift_all}
use Rattle.definitions.specs.Layout.{Words}
use Rattle.orders.specs.Images.{table_of, table_order}
use Rattle.state.specs.soundness.Places.{rows_from}
use Rattle.runs.specs.reduction.Grounds.{ends_in, above_in, Tables, Family}
use Rattle.runs.specs.declared.reduction.Ground.{Ground}
use Rattle.runs.specs.run.Stages.{Images, stage_of}
use Rattle.runs.specs.frame_terms.Vectors.{Framed}
use Rattle.level.specs.by_runs.Stages.{Base, ground_at, stage_at, TablesAt, FramedBy}
use Rattle.level.specs.declared.by_runs.Bounds.{Bounds}
use Rattle.level.proofs.by_runs.GroundOfLevel.{tables_at, family_in, images_above}
use Rattle.level.proofs.by_runs.OverGround.{framed_at, stage_same}

module _ (s : Words) (j : ℕ) (b : Base s j) (tables : Words) (t : TablesAt s j tables)
    (lim : Bounds) (g : Ground) (level : Words) (eg : g ≡ ground_at lim s j) (el : level ≡ rows_from s j) where
  abbrev Asked : ℕ → Words → Ground → Words → Type 0
  Asked count words g level =
      Tables g tables × Family g level (ends_in tables) × Images g.r (above_in tables) × Framed g count words × (g.vector ≡ lim.vector)
      × (g.tree ≡ lim.tree) × (g.room ≡ lim.room)

  pub asked : (count : ℕ) (words : Words) → FramedBy s j count words → Asked count words g level
  asked count words f =
      subst₂ (Asked count words) (sym eg) (sym el) (
        tables_at s j b lim tables t,
        family_in s j b lim tables t,
        images_above s j b tables t,
        framed_at s j b lim count words f,
        refl,
        refl,
        refl,
      )

  pub lifted_same : (room : ℕ) (ms : List Monomial) (x : Result Level)
      → x ≡ lift_all (stage_of g level tables (table_order g.code (table_of g.r (above_in tables))))
      (tree (stage_of g level tables (table_order g.code (table_of g.r (above_in tables)))) room) ([], 0) [] ms
      → x ≡ lift_all (stage_at lim s j) (tree (stage_at lim s j) room) ([], 0) [] ms
  lifted_same room ms x e = e ∙ (λ i. lift_all (stage_same s j b tables t lim g level eg el i)
      (tree (stage_same s j b tables t lim g level eg el i) room) ([], 0) [] ms)
