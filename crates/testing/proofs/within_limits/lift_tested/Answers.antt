use mathlib.Core.Bool.{true}
use mathlib.Core.Path.{◌≡◌, sym, ap, ◌∙◌, subst}
use mathlib.Core.List.{[]}
use Prim.Native.Nat.{ℕ}
use Rattle.std.specs.Prelude.{Result as CodeResult, Err}
use Rattle.std.proofs.lemmas.Result.{err_from_is_err_and}
use Rattle.words.specs.declared.refusals.Refusal.{Refusal}
use Rattle.laws.proofs.Tests.{is_true}
use Rattle.definitions.specs.Layout.{Words, Way}
use Rattle.level.specs.by_runs.Stages.{leveled_of, StoredAs}
use Rattle.level.specs.declared.by_runs.Bounds.{Bounds}
use Rattle.level.specs.declared.by_runs.Leveled.{Leveled}
use Rattle.lift_call.specs.Lifts.{complete_number}
use Rattle.lift_call.proofs.LiftCall.{passed}
use Rattle.ways.specs.any_way.Ways.{way_of}
use Rattle.testing.specs.Lifts.{fits?, called}
use Rattle.testing.proofs.LevelCall.{fits_says, short, refused_early, lifted}
use Rattle.testing.proofs.within_limits.lift_tested.Goals as goal

-- what the function ensures of its answer
abbrev Given : Bounds → Words → Words → Words → Words → ℕ → Way → Words → CodeResult Leveled Refusal → Type 0
Given b s work out cache k way z x = ((n : ℕ) × (v : Words) × (leveled_of x z v ≡ called b s work out cache k way n)) × StoredAs x z

pub returns-then-not-fits : goal.returns-then-not-fits
returns-then-not-fits c =
    let a = c.args in
    ((0, [], short a.b a.state.now a.work.now a.out.now a.cache.now a.k (way_of a.way) (sym c.if-not-fits.true ∙ c.fits.ensures)), tt)

pub complete-requires : goal.complete-requires
complete-requires c =
    let a = c.args in
    (fits_says a.state.now a.work.now a.out.now (way_of a.way) a.b (is_true (sym c.fits.ensures ∙ c.if-not-fits.false))).state

pub returns-in_err-complete : goal.returns-in_err-complete
returns-in_err-complete c =
    let a = c.args in
    let s = a.state.now in
    let fit : true ≡ fits? s a.work.now a.out.now (way_of a.way) a.b = sym c.if-not-fits.false ∙ c.fits.ensures in
    let p = err_from_is_err_and c.from_residual.result c.from_residual.ensures.1 in
    subst (Given a.b s a.work.now a.out.now a.cache.now a.k (way_of a.way) a.out.now) (sym (p.1 ∙ ap Err p.2)) (
      (0, [], refused_early a.b s a.work.now a.out.now a.cache.now a.k (way_of a.way) fit _ c.in_err-complete.ensures),
      tt,
    )

pub lift_by-requires : goal.lift_by-requires
lift_by-requires c =
    let a = c.args in
    let s = a.state.now in
    let f = fits_says s a.work.now a.out.now (way_of a.way) a.b (is_true (sym c.fits.ensures ∙ c.if-not-fits.false)) in
    let e : complete_number s a.k (way_of a.way) ≡ 0 = sym c.in_ok-complete.ensures in
    let l = (passed s a.k (way_of a.way) f.state e).liftable in
    (l.base, l.low, l.high, f.out, f.work, f.within)

pub returns : goal.returns
returns c =
    let a = c.args in
    let s = a.state.now in
    let fit : true ≡ fits? s a.work.now a.out.now (way_of a.way) a.b = sym c.if-not-fits.false ∙ c.fits.ensures in
    let L = c.lift_by.ensures in
    let n = L.0.0 in
    ((n, L.0.1, L.0.2 ∙ lifted a.b s a.work.now a.out.now a.cache.now a.k (way_of a.way) fit c.in_ok-complete.ensures n), L.1)
