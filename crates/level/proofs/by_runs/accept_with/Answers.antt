use native.Mathlib.Omega.{arith}
use mathlib.Core.Path.{◌∙◌}
use mathlib.Core.List.{List, []}
use Prim.Native.Nat.{ℕ, ◌+◌}
use lib.ListN.{drop}
use Rattle.level.proofs.by_runs.OverGround.{formed, formed_on, formed_not}
use Rattle.level.proofs.by_runs.GroundOfLevel.{few_vectors}
use Rattle.level.specs.by_runs.Stages.{usual, stage_at}
use Rattle.definitions.specs.Monomial.{Monomial}
use Rattle.definitions.specs.Result.{Result}
use Rattle.definitions.specs.Lifting.{accept_from}
use Rattle.definitions.specs.Layout.{Words}
use Rattle.level.proofs.by_runs.accept_with.Goals as goal

abbrev terms_accepted : Words → ℕ → ℕ → List Monomial → Result (Unit {0})
terms_accepted s from n ms = accept_from (stage_at usual s 0) n (from + 1) (drop from ms)

pub form-requires : goal.form-requires
form-requires c =
    let few = few_vectors c.args.state.now 0 c.requires.0 in (
      omega arith,
      omega (arith, c.count_of-r.ensures, few),
      omega (arith, c.count_of-r.ensures, few, c.requires.1.long),
      omega (arith, c.count_of-r.ensures, few),
    )

pub accept_frame-requires : goal.accept_frame-requires
accept_frame-requires c =
    let a = c.args in
    let P = c.requires in
    let F = c.form in (
      P.0,
      P.1,
      formed a.state.now 0 P.0 a.tables.now P.1 c.count_of-r.result c.count_of-r.ensures F.new.d F.result F.ensures.0 c.in-Some.n F.ensures.1
          (omega arith) c.in-Some.is,
      P.2,
    )

pub returns-in_default : goal.returns-in_default
returns-in_default c =
    let a = c.args in
    let P = c.requires in
    let s = a.state.now in
    let F = c.form in (
      0,
      [],
      formed_not s 0 P.0 a.tables.now P.1 c.count_of-r.result c.count_of-r.ensures F.new.d F.result F.ensures.0 (terms_accepted s a.from 0)
          c.in_default.is,
      tt,
    )

pub returns : goal.returns
returns c =
    let a = c.args in
    let P = c.requires in
    let s = a.state.now in
    let F = c.form in
    let L = c.accept_frame.ensures in (
      L.0,
      L.1,
      L.2 ∙ formed_on s 0 P.0 a.tables.now P.1 c.count_of-r.result c.count_of-r.ensures F.new.d F.result F.ensures.0 (terms_accepted s a.from L.0)
          c.in-Some.n c.in-Some.is,
      L.3,
    )
