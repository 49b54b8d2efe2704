use native.Mathlib.Omega.{arith}
use mathlib.Core.Path.{◌≡◌, sym, ap, ◌∙◌, subst}
use mathlib.Core.List.{List, []}
use Prim.Native.Nat.{ℕ}
use Rattle.std.specs.Prelude.{Result as CodeResult, Ok, Err}
use Rattle.std.proofs.lemmas.Result.{err_from_is_err_and}
use Rattle.words.specs.declared.refusals.Refusal.{Refusal}
use Rattle.level.proofs.by_runs.OverGround.{formed, formed_on, formed_not}
use Rattle.level.proofs.by_runs.GroundOfLevel.{few_vectors}
use Rattle.level.specs.by_runs.Stages.{ground_at, stage_at, strategy_at, lift_over, leveled_of, StoredAs}
use Rattle.level.specs.declared.by_runs.Bounds.{Bounds}
use Rattle.level.specs.declared.by_runs.Leveled.{Leveled}
use Rattle.runs.specs.declared.run.Strategy.{Strategy}
use Rattle.runs.specs.frame_terms.Vectors.{lifts, lifted_of, Whole}
use Rattle.definitions.specs.Monomial.{Monomial}
use Rattle.definitions.specs.Monomial as definition
use Rattle.definitions.specs.Result.{Result}
use Rattle.definitions.specs.Lifting.{lift_all}
use Rattle.definitions.specs.Layout.{Words}
use Rattle.level.proofs.by_runs.lift_with.Goals as goal

-- what the function ensures of its answer
abbrev Given : Bounds → Words → ℕ → Strategy → Words → CodeResult Leveled Refusal → Type 0
Given b s j w out r = ((n : ℕ) × (v : Words) × (leveled_of r out v ≡ lift_over b s j w n)) × StoredAs r out

abbrev terms_lifted : Bounds → Words → ℕ → Strategy → ℕ → List Monomial → Result definition.Level
terms_lifted b s j w n ms = lift_all (stage_at b s j) (lifts (stage_at b s j) (strategy_at b s j w) n) ([], 0) [] ms

pub form-requires : goal.form-requires
form-requires c =
    let few = few_vectors c.args.state.now c.args.j c.requires.0 in (
      omega arith,
      omega (arith, c.count_of-r.ensures, few),
      omega (arith, c.count_of-r.ensures, few, c.requires.1.long),
      omega (arith, c.count_of-r.ensures, few),
    )

pub lift_frame-requires : goal.lift_frame-requires
lift_frame-requires c =
    let a = c.args in
    let P = c.requires in
    let F = c.form in (
      P.0,
      P.1,
      formed a.state.now a.j P.0 a.tables.now P.1 c.count_of-r.result c.count_of-r.ensures F.new.d F.result F.ensures.0 c.in-Some.n F.ensures.1
          (omega arith) c.in-Some.is,
      P.2,
      P.3,
      P.4,
      P.5,
    )

pub returns-in_default : goal.returns-in_default
returns-in_default c =
    let a = c.args in
    let P = c.requires in
    let s = a.state.now in
    let F = c.form in (
      (
        0,
        [],
        formed_not s a.j P.0 a.tables.now P.1 c.count_of-r.result c.count_of-r.ensures F.new.d F.result F.ensures.0 (terms_lifted a.b s a.j a.w 0)
            c.in_default.is,
      ),
      tt,
    )

pub returns-in_err-used : goal.returns-in_err-used
returns-in_err-used c =
    let a = c.args in
    let P = c.requires in
    let s = a.state.now in
    let F = c.form in
    let out = c.lift_frame.new.out in
    let p = err_from_is_err_and c.from_residual.result c.from_residual.ensures.1 in
    let L = c.in_err-used.ensures in
    subst (Given a.b s a.j a.w out) (sym (p.1 ∙ ap Err p.2)) (
      (
        L.0.0,
        L.0.1,
        L.0.2 ∙ formed_on s a.j P.0 a.tables.now P.1 c.count_of-r.result c.count_of-r.ensures F.new.d F.result F.ensures.0
            (terms_lifted a.b s a.j a.w L.0.0) c.in-Some.n c.in-Some.is,
      ),
      tt,
    )

pub returns-in-Rows : goal.returns-in-Rows
returns-in-Rows c =
    let a = c.args in
    let P = c.requires in
    let s = a.state.now in
    let F = c.form in
    let out = c.lift_frame.new.out in
    let n = c.in-Some.n in
    let L = c.in_ok-used.ensures in
    let h = subst (λ y. Whole (ground_at a.b s a.j) n (Ok y) out) c.in-Rows.is L.1 in (
      (
        L.0.0,
        L.0.1,
        sym (ap (λ y. lifted_of (Ok y) n out L.0.1) c.in-Rows.is) ∙ L.0.2
            ∙ formed_on s a.j P.0 a.tables.now P.1 c.count_of-r.result c.count_of-r.ensures F.new.d F.result F.ensures.0
            (terms_lifted a.b s a.j a.w L.0.0) n c.in-Some.is,
      ),
      (omega (arith, h.0, P.4.room), h.1),
    )

pub returns-in-Stopped : goal.returns-in-Stopped
returns-in-Stopped c =
    let a = c.args in
    let P = c.requires in
    let s = a.state.now in
    let F = c.form in
    let out = c.lift_frame.new.out in
    let n = c.in-Some.n in
    let L = c.in_ok-used.ensures in (
      (
        L.0.0,
        L.0.1,
        sym (ap (λ y. lifted_of (Ok y) n out L.0.1) c.in-Stopped.is) ∙ L.0.2
            ∙ formed_on s a.j P.0 a.tables.now P.1 c.count_of-r.result c.count_of-r.ensures F.new.d F.result F.ensures.0
            (terms_lifted a.b s a.j a.w L.0.0) n c.in-Some.is,
      ),
      tt,
    )
