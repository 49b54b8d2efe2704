use native.Mathlib.Omega.{arith}
use mathlib.Core.Path.{◌≡◌, refl, sym, ap, ◌∙◌, subst}
use mathlib.Core.List.{[]}
use Prim.Native.Nat.{ℕ}
use lib.ListN.{length}
use Rattle.definitions.specs.Result.{Result, done}
use Rattle.definitions.specs.Stage.{Stage}
use Rattle.definitions.specs.Lifting.{Lifted}
use Rattle.orders.specs.Images.{table_of, table_order}
use Rattle.runs.specs.reduction.Grounds.{above_in}
use Rattle.runs.specs.run.Stages.{stage_of}
use Rattle.cache.specs.Entries.{cache_of}
use Rattle.runs.specs.frame_terms.Vectors.{lifted_vectors, Kept}
use Rattle.runs.proofs.frame_terms.OneVectorMore.{none_kept}
use Rattle.std.proofs.lemmas.Result.{err_from_is_err_and}
use Rattle.tree.proofs.frame_terms.OneVectorMore.{all_from, all_on, all_refused, all_end, empty_cache}
use Prim.Native.Nat.{◌/◌}
use Rattle.definitions.specs.Monomial.{Level}
use Rattle.definitions.specs.Places.{row_length}
use Rattle.tree.proofs.frame_terms.lift_all.Goals as goal

pub loop-i-init : goal.loop-i-init
loop-i-init c =
    let a = c.args in
    let P = c.requires in
    let g = a.g in
    let S : Stage = stage_of g a.level.now a.tables.now (table_order g.code (table_of g.r (above_in a.tables.now))) in
    let room = length a.cache.now / row_length in
    let none : Lifted = ([], 0) in (
      omega arith,
      omega arith,
      omega arith,
      refl,
      refl,
      refl,
      none_kept a.out.now,
      ap (all_from S room a.frame.now a.count 0 none) (sym (empty_cache a.cache.now)),
    )

pub returns-in_err-v : goal.returns-in_err-v
returns-in_err-v c =
    let a = c.args in
    let g = a.g in
    let l = c.loop-i in
    let S : Stage = stage_of g a.level.now a.tables.now (table_order g.code (table_of g.r (above_in a.tables.now))) in
    let before : Lifted = (lifted_vectors l.out l.i, l.used) in
    let p = err_from_is_err_and c.from_residual.result c.from_residual.ensures.1 in
    rw (p.1, p.2) (
      sym (l.invariant.7 ∙ all_refused S (length a.cache.now / row_length) a.frame.now a.count l.i before (cache_of l.u l.cache)
          (omega (arith, c.loop-i-test.true)) _ c.in_err-v.ensures.0),
      tt,
      tt,
    )

pub loop-i-preserved : goal.loop-i-preserved
loop-i-preserved c =
    let a = c.args in
    let g = a.g in
    let l = c.loop-i in
    let lo = c.lift_one in
    let S : Stage = stage_of g a.level.now a.tables.now (table_order g.code (table_of g.r (above_in a.tables.now))) in
    let before : Lifted = (lifted_vectors l.out l.i, l.used) in
    let now = c.in_ok-v.ensures.1 in (
      omega (arith, c.loop-i-test.true),
      now.0,
      now.1,
      omega (arith, lo.auto.out, l.invariant.3),
      omega (arith, lo.auto.cache, l.invariant.4),
      omega (arith, lo.auto.work, l.invariant.5),
      now.2,
      l.invariant.7 ∙ all_on S (length a.cache.now / row_length) a.frame.now a.count l.i before (cache_of l.u l.cache)
          (omega (arith, c.loop-i-test.true)) _ _ c.in_ok-v.ensures.0,
    )

pub returns : goal.returns
returns c =
    let a = c.args in
    let P = c.requires in
    let g = a.g in
    let S : Stage = stage_of g a.level.now a.tables.now (table_order g.code (table_of g.r (above_in a.tables.now))) in
    let l = c.loop-i in
    let room = length a.cache.now / row_length in
    let whole : l.i ≡ a.count = omega (arith, l.invariant.0) in
    let X : ℕ → Result Level = λ n. done (lifted_vectors l.out n) in (
      (ap X (sym whole) ∙ sym (l.invariant.7 ∙ all_end S room a.frame.now a.count l.i (lifted_vectors l.out l.i, l.used)
          (cache_of l.u l.cache) (omega arith))),
      (l.invariant.1, subst (λ n. Kept n l.used l.out) whole l.invariant.6),
      tt,
    )
