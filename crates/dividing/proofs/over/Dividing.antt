-- The division over the tables of a state's level 0 is that over the state.
use mathlib.Core.Path.{◌≡◌, sym, ap, ◌∙◌, subst, subst₂}
use Prim.Native.Nat.{ℕ, ◌≤◌}
use native.Mathlib.Omega.{arith}
use lib.Dec.{T}
use lib.ListN.{length}
use Rattle.definitions.specs.Monomial.{Monomial}
use Rattle.definitions.specs.Order.{Comparison}
use Rattle.definitions.specs.Result.{Result}
use Rattle.definitions.specs.Stage.{Stage}
use Rattle.definitions.specs.Membership.{Division, Parts, undivided, divide}
use Rattle.definitions.specs.Layout.{Words, rows}
use Rattle.definitions.specs.Places.{most_terms, value_length, vector_length}
use Rattle.ending.specs.Good.{good?}
use Rattle.ending.specs.Well.{Well}
use Rattle.orders.specs.Images.{table_of, table_order}
use Rattle.state.specs.soundness.Places.{rows_from}
use Rattle.runs.specs.reduction.Grounds.{ends_in, below_in, above_in, Tables, Family}
use Rattle.runs.specs.run.Stages.{order_of, stage_of, Images}
use Rattle.level.specs.by_runs.Stages.{Base, usual, ground_at, TablesAt, stage_at}
use Rattle.level.proofs.by_runs.GroundOfLevel.{tables_at, family_in, images_below, stage_is, well_at}
use Rattle.runs.specs.declared.reduction.Ground.{Ground}
use Rattle.runs.proofs.reduction.Adding.{rows_none}
use Rattle.dividing.specs.declared.steps.Divided.{Divided}
use Rattle.std.specs.Prelude.{Result as CodeResult, Ok, Err}
use Rattle.words.specs.declared.refusals.Refusal.{Refusal}
use Rattle.dividing.specs.steps.Divisions.{division_of, Rooms, Left}
use Rattle.dividing.specs.over.Parts.{sorted_parts, divided_over, Few}

-- no quotients and no remainder yet
pub division_start : (value : Words) (n : ℕ) (quotients remainder : Words) → division_of value n quotients 0 remainder 0 ≡ undivided (rows value 0 n)
division_start value n quotients remainder =
    λ i. record { value = rows value 0 n; quotients = rows_none quotients 0 i; remainder = rows_none remainder 0 i }

-- what a stage gives, and the same of the stage that it is
pub parts_same : (S Z : Stage) → S ≡ Z → (k : ℕ) (d e : Division) → d ≡ e → (x : Result Parts)
    → x ≡ sorted_parts S.above S.reduction.p (divide S k d) → x ≡ sorted_parts Z.above Z.reduction.p (divide Z k e)
parts_same S Z s k d e h x g = g ∙ (λ i. sorted_parts (s i).above (s i).reduction.p (divide (s i) k (h i)))

-- over the tables of level 0, whose ground and rows are known to be the state's
module _ (s : Words) (b : Base s 0) (tables : Words) (t : TablesAt s 0 tables) (g : Ground) (level : Words) (is : g ≡ ground_at usual s 0)
    (from : level ≡ rows_from s 0) where
  -- what a division asks for
  abbrev Asked : Words → Words → Words → ℕ → Type 0
  Asked value quotients remainder n =
      Tables g tables × Family g level (ends_in tables) × Images g.images (below_in tables) × Rooms g value quotients remainder × (n ≤ g.working)
      × (1 ≤ g.vector) × Well (stage_of g level tables (order_of g tables)) × T (good? (rows value 0 n))

  pub over_ground : (value quotients remainder : Words) (n : ℕ) → value_length ≤ length value → vector_length ≤ length quotients
      → value_length ≤ length remainder → n ≤ most_terms → T (good? (rows value 0 n)) → Asked value quotients remainder n
  over_ground value quotients remainder n v q r h good = (
    subst (λ g. Tables g tables) (sym is) (tables_at s 0 b usual tables t),
    subst₂ (λ g l. Family g l (ends_in tables)) (sym is) (sym from) (family_in s 0 b usual tables t),
    subst (λ g. Images g.images (below_in tables)) (sym is) (images_below s 0 b tables t),
    record {
      value_fits = omega (arith, v, ap (λ g. g.working) is);
      quotients_fit = omega (arith, q, ap (λ g. g.vector) is);
      remainder_fits = omega (arith, r, ap (λ g. g.working) is);
    },
    omega (arith, h, ap (λ g. g.working) is),
    omega (arith, ap (λ g. g.vector) is),
    subst₂ (λ g l. Well (stage_of g l tables (order_of g tables))) (sym is) (sym from) (well_at s 0 b usual tables t),
    good,
  )

  abbrev above : Monomial → Monomial → Comparison
  above = table_order g.code (table_of g.r (above_in tables))

  stage_same : stage_of g level tables above ≡ stage_at usual s 0
  stage_same =
      (λ i. stage_of (is i) (from i) tables (table_order (is i).code (table_of (is i).r (above_in tables)))) ∙ stage_is s 0 b usual tables t

  pub parts_over : (k : ℕ) (value : Words) (n : ℕ) (quotients remainder : Words) (x : Result Parts)
      → x ≡ sorted_parts above g.p (divide (stage_of g level tables above) k (division_of value n quotients 0 remainder 0))
      → x ≡ divided_over s k (rows value 0 n)
  parts_over k value n quotients remainder x e =
      parts_same (stage_of g level tables above) (stage_at usual s 0) stage_same k (division_of value n quotients 0 remainder 0) (undivided (rows value 0 n))
      (division_start value n quotients remainder) x e

pub few_left : (g : Ground) → g.working ≡ most_terms → g.vector ≡ most_terms → (x : CodeResult Divided Refusal) → Left g x → Few x
few_left g a b (Ok d) h = (omega (arith, b, h.0), omega (arith, a, h.1))
few_left g a b (Err e) h = tt
