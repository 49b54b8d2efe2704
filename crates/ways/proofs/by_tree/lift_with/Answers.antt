use native.Mathlib.Omega.{arith}
use mathlib.Core.Path.{◌≡◌, sym, ap, ◌∙◌, subst}
use mathlib.Core.List.{List, []}
use Prim.Native.Nat.{ℕ, ◌/◌}
use lib.ListN.{length}
use Rattle.std.specs.Prelude.{Result as CodeResult, Ok, Err}
use Rattle.std.proofs.lemmas.Result.{err_from_is_err_and}
use Rattle.words.specs.declared.refusals.Refusal.{Refusal}
use Rattle.definitions.specs.Monomial.{Monomial, Level}
use Rattle.definitions.specs.Result.{Result}
use Rattle.definitions.specs.Tree.{tree}
use Rattle.definitions.specs.Lifting.{lift_all}
use Rattle.definitions.specs.Layout.{Words}
use Rattle.definitions.specs.Places.{row_length}
use Rattle.runs.specs.frame_terms.Vectors.{lifted_of, Whole}
use Rattle.level.specs.by_runs.Stages.{ground_at, stage_at, leveled_of, StoredAs}
use Rattle.level.specs.declared.by_runs.Bounds.{Bounds}
use Rattle.level.specs.declared.by_runs.Leveled.{Leveled}
use Rattle.level.proofs.by_runs.GroundOfLevel.{few_vectors}
use Rattle.level.proofs.by_runs.OverGround.{formed, formed_on, formed_not}
use Rattle.ways.specs.by_tree.Over.{tree_over}
use Rattle.ways.proofs.by_tree.lift_with.Goals as goal

-- what the function ensures of its answer
abbrev Given : Bounds → Words → ℕ → ℕ → Words → CodeResult Leveled Refusal → Type 0
Given b s j room out r = (leveled_of r out [] ≡ tree_over b s j room) × StoredAs r out

abbrev terms_lifted : Bounds → Words → ℕ → ℕ → List Monomial → Result Level
terms_lifted b s j room ms = lift_all (stage_at b s j) (tree (stage_at b s j) room) ([], 0) [] ms

pub form-requires : goal.form-requires
form-requires c =
    let few = few_vectors c.args.state.now c.args.j c.requires.0 in (
      omega arith,
      omega (arith, c.count_of-r.ensures, few),
      omega (arith, c.count_of-r.ensures, few, c.requires.1.long),
      omega (arith, c.count_of-r.ensures, few),
    )

pub lift_frame-requires : goal.lift_frame-requires
lift_frame-requires c =
    let a = c.args in
    let P = c.requires in
    let F = c.form in (
      P.0,
      P.1,
      formed a.state.now a.j P.0 a.tables.now P.1 c.count_of-r.result c.count_of-r.ensures F.new.d F.result F.ensures.0 c.in-Some.n F.ensures.1
          (omega arith) c.in-Some.is,
      P.2,
      P.3,
      P.4,
    )

pub returns-in_default : goal.returns-in_default
returns-in_default c =
    let a = c.args in
    let P = c.requires in
    let s = a.state.now in
    let F = c.form in
    let room = length a.cache.now / row_length in (
      formed_not s a.j P.0 a.tables.now P.1 c.count_of-r.result c.count_of-r.ensures F.new.d F.result F.ensures.0 (terms_lifted a.b s a.j room)
          c.in_default.is,
      tt,
    )

pub returns-in_err-used : goal.returns-in_err-used
returns-in_err-used c =
    let a = c.args in
    let P = c.requires in
    let s = a.state.now in
    let F = c.form in
    let room = length a.cache.now / row_length in
    let out = c.lift_frame.new.out in
    let p = err_from_is_err_and c.from_residual.result c.from_residual.ensures.1 in
    let L = c.in_err-used.ensures in
    subst (Given a.b s a.j room out) (sym (p.1 ∙ ap Err p.2)) (
      L.0 ∙ formed_on s a.j P.0 a.tables.now P.1 c.count_of-r.result c.count_of-r.ensures F.new.d F.result F.ensures.0
          (terms_lifted a.b s a.j room) c.in-Some.n c.in-Some.is,
      tt,
    )

pub returns-in-Rows : goal.returns-in-Rows
returns-in-Rows c =
    let a = c.args in
    let P = c.requires in
    let s = a.state.now in
    let F = c.form in
    let room = length a.cache.now / row_length in
    let out = c.lift_frame.new.out in
    let n = c.in-Some.n in
    let L = c.in_ok-used.ensures in
    let h = subst (λ y. Whole (ground_at a.b s a.j) n (Ok y) out) c.in-Rows.is L.1 in (
      sym (ap (λ y. lifted_of (Ok y) n out []) c.in-Rows.is) ∙ L.0
          ∙ formed_on s a.j P.0 a.tables.now P.1 c.count_of-r.result c.count_of-r.ensures F.new.d F.result F.ensures.0
          (terms_lifted a.b s a.j room) n c.in-Some.is,
      (omega (arith, h.0, P.4.room), h.1),
    )

pub returns-in-Stopped : goal.returns-in-Stopped
returns-in-Stopped c =
    let a = c.args in
    let P = c.requires in
    let s = a.state.now in
    let F = c.form in
    let room = length a.cache.now / row_length in
    let out = c.lift_frame.new.out in
    let n = c.in-Some.n in
    let L = c.in_ok-used.ensures in (
      sym (ap (λ y. lifted_of (Ok y) n out []) c.in-Stopped.is) ∙ L.0
          ∙ formed_on s a.j P.0 a.tables.now P.1 c.count_of-r.result c.count_of-r.ensures F.new.d F.result F.ensures.0
          (terms_lifted a.b s a.j room) n c.in-Some.is,
      tt,
    )
