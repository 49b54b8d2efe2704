use native.Mathlib.Omega.{arith}
use mathlib.Core.Path.{◌≡◌, ap, ◌∙◌}
use Prim.Native.Nat.{◌+◌, ◌-◌, ◌*◌, ◌<◌, ◌≤◌}
use lib.ListN.{length}
use Rattle.definitions.specs.Monomial.{Term}
use Rattle.definitions.specs.Result.{Result, done}
use Rattle.definitions.specs.Stage.{Stage}
use Rattle.definitions.specs.Layout.{row_at}
use Rattle.definitions.specs.Lifting.{Lifted}
use Rattle.monomial.specs.Values.{monomial_of}
use Rattle.orders.specs.Images.{table_of, table_order}
use Rattle.vectors.specs.terms.Rows.{term_of}
use Rattle.runs.specs.reduction.Grounds.{above_in}
use Rattle.runs.specs.run.Stages.{stage_of}
use Rattle.cache.specs.Entries.{cache_of}
use Rattle.cache.proofs.Parts.{length_part}
use Rattle.std.proofs.lemmas.Result.{err_from_is_err_and}
use Rattle.runs.specs.frame_terms.Vectors.{lifted_vectors}
use Rattle.runs.proofs.frame_terms.OneVectorMore.{frame_component}
use Rattle.tree.proofs.frame_terms.OneVectorMore.{vectors_made, kept_made, one_refused, one_full, one_kept}
use Rattle.definitions.specs.Tree.{Cache}
use Rattle.definitions.specs.Monomial.{Level}
use Rattle.definitions.specs.Places.{most_vectors, row_length, ends_length}
use Rattle.tree.proofs.frame_terms.lift_one.Goals as goal

pub lift_frame_term-requires : goal.lift_frame_term-requires
lift_frame_term-requires c =
    let a = c.args in
    let P = c.requires in
    let g = a.g in
    let row = c.row in
    let f = frame_component g a.count a.frame.now a.i (term_of row.result) P.2 P.3 row.ensures in (
      P.0,
      P.1,
      omega (
        arith,
        length_part a.out.now (a.used * row_length + ends_length)
            (a.used * row_length + ends_length + g.vector * row_length - (a.used * row_length + ends_length)) (omega (arith, P.4, P.6)),
      ),
      f.0,
      f.1,
    )

pub returns-in_err-v : goal.returns-in_err-v
returns-in_err-v c =
    let a = c.args in
    let g = a.g in
    let S : Stage = stage_of g a.level.now a.tables.now (table_order g.code (table_of g.r (above_in a.tables.now))) in
    let K = cache_of a.u a.cache.now in
    let l : Lifted = (lifted_vectors a.out.now a.i, a.used) in
    let m' = monomial_of c.row.result.monomial in
    let m = (row_at a.frame.now a.i).1 in
    let same : m' ≡ m = ap (λ (t : Term). t.1) c.row.ensures in
    let p = err_from_is_err_and c.from_residual.result c.from_residual.ensures.1 in
    rw (p.1, p.2) (one_refused S a.room l K m m' same _ c.in_err-v.ensures.0, tt)

pub returns-then-g-used : goal.returns-then-g-used
returns-then-g-used c =
    let a = c.args in
    let g = a.g in
    let lf = c.lift_frame_term in
    let S : Stage = stage_of g a.level.now a.tables.now (table_order g.code (table_of g.r (above_in a.tables.now))) in
    let K = cache_of a.u a.cache.now in
    let l : Lifted = (lifted_vectors a.out.now a.i, a.used) in
    let m' = monomial_of c.row.result.monomial in
    let m = (row_at a.frame.now a.i).1 in
    let same : m' ≡ m = ap (λ (t : Term). t.1) c.row.ensures in (
      one_full S a.room l K m m' same lf.new.vector lf.new.cache c.in_ok-v.v c.in_ok-v.c c.in_ok-v.ensures.0
          (omega (arith, c.requires.6, c.if-g-used.true)),
      tt,
    )

pub returns : goal.returns
returns c =
    let a = c.args in
    let P = c.requires in
    let g = a.g in
    let lf = c.lift_frame_term in
    let S : Stage = stage_of g a.level.now a.tables.now (table_order g.code (table_of g.r (above_in a.tables.now))) in
    let K = cache_of a.u a.cache.now in
    let l : Lifted = (lifted_vectors a.out.now a.i, a.used) in
    let m' = monomial_of c.row.result.monomial in
    let m = (row_at a.frame.now a.i).1 in
    let same : m' ≡ m = ap (λ (t : Term). t.1) c.row.ensures in
    let v = c.in_ok-v.v in
    let u = c.in_ok-v.c in
    let f = c.in_ok-v.ensures.1 in
    let start = a.used * row_length + ends_length in
    let end = a.used * row_length + ends_length + g.vector * row_length in
    let order : a.used * row_length + ends_length ≤ a.used * row_length + ends_length + g.vector * row_length = omega arith in
    let room : a.used * row_length + ends_length + g.vector * row_length ≤ length a.out.now = omega (arith, P.4, P.6) in
    let long : length lf.new.vector ≡ a.used * row_length + ends_length + g.vector * row_length - (a.used * row_length + ends_length) = lf.auto.vector
    ∙ length_part a.out.now (a.used * row_length + ends_length)
    (a.used * row_length + ends_length + g.vector * row_length - (a.used * row_length + ends_length)) (omega (arith, P.4, P.6)) in
    let small : a.i < most_vectors = omega (arith, P.2.few, P.3) in
    let has : v * row_length ≤ length lf.new.vector = omega (arith, long, f.0) in
    let still : a.used + v ≤ g.room = omega (arith, P.6, c.if-g-used.false) in
    let X : Level → Result (Lifted × Cache) = λ w. done ((w, a.used + v), cache_of u lf.new.cache) in (
      ap X (vectors_made a.out.now lf.new.vector a.i a.used v end order room long small has P.7)
          ∙ one_kept S a.room l K m m' same lf.new.vector lf.new.cache v u c.in_ok-v.ensures.0 still,
      (still, f.1, kept_made a.out.now lf.new.vector a.i a.used v end order room long small has P.7),
    )
