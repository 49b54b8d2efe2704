use native.Mathlib.Omega.{arith}
use mathlib.Core.Path.{◌≡◌, refl, sym, ap, ◌∙◌}
use Prim.Native.Nat.{◌+◌, ◌-◌, ◌*◌, ◌≤◌}
use lib.ListN.{length}
use Rattle.std.specs.Prelude.{Some, None, Err}
use Rattle.std.proofs.lemmas.Result.{err_from_is_err_and}
use Rattle.words.specs.declared.refusals.Refusal.TheVariants.{Exponent}
use Rattle.definitions.specs.Packed.{unpack}
use Rattle.definitions.specs.Field.{minus}
use Rattle.definitions.specs.Monomial.{Term, Vector}
use Rattle.definitions.specs.Result.{done, ◌>>=◌}
use Rattle.definitions.specs.Run.{multiple}
use Rattle.definitions.specs.Layout.{row_at, rows}
use Rattle.definitions.specs.Stage.{Stage}
use Rattle.definitions.specs.Tree.{LiftTerm, finish, lift_term as term_definition}
use Rattle.laws.proofs.Rows.{length_rows}
use Rattle.definitions.specs.Places.{row_length}
use Rattle.monomial.specs.Values.{monomial_of}
use Rattle.orders.specs.Images.{table_of, table_order}
use Rattle.vectors.specs.terms.Rows.{term_of}
use Rattle.runs.specs.reduction.Grounds.{ends_in, above_in}
use Rattle.runs.specs.run.Stages.{stage_of}
use Rattle.runs.proofs.run.Stepping.{reducer_number}
use Rattle.cache.specs.Entries.{cache_of}
use Rattle.cache.proofs.BoundedSums.{rows_none}
use Rattle.tree.proofs.subtrees.Lifting.{formed_product, unformed_product}
use Rattle.tree.proofs.subtrees.Lifting.{listing_unfit, listing_unlifted, listing_ends, listing_on, listing_stops, term_lower, term_found, term_opened}
use Rattle.tree.proofs.subtrees.Lifting.{opened_list, first_stored, stored_keeps, rest_of}
use Rattle.tree.proofs.subtrees.+lift_list_lift_term_open_subtree.Goals as goal

pub lift_list-returns-in_err-t : goal.lift_list-returns-in_err-t
lift_list-returns-in_err-t t c =
    let a = c.args in
    let g = a.g in
    let l = c.loop-i in
    let S : Stage = stage_of g a.level.now a.tables.now (table_order g.code (table_of g.r (above_in a.tables.now))) in
    let T : LiftTerm = term_definition S a.room a.left in
    let n : c.multiplied.result ≡ None = grind arith in
    let r : c.from_residual.result ≡ Err Exponent = grind arith in
    let f = unformed_product c.multiplied.result (multiple g.p a.c (unpack a.q) (row_at a.level.now l.i)) n c.multiplied.ensures in
    rw r (
      sym (l.invariant.5 ∙ listing_unfit S T a.a a.c (unpack a.q) a.level.now a.to l.i (rows l.work a.a l.k, cache_of l.v l.cache)
          (omega (arith, c.loop-i-test.true)) f),
      tt,
      l.invariant.4,
    )

pub lift_list-returns-in_err-s : goal.lift_list-returns-in_err-s
lift_list-returns-in_err-s t c =
    let a = c.args in
    let g = a.g in
    let l = c.loop-i in
    let S : Stage = stage_of g a.level.now a.tables.now (table_order g.code (table_of g.r (above_in a.tables.now))) in
    let T : LiftTerm = term_definition S a.room a.left in
    let x = c.in_ok-t.t in
    let n : c.multiplied.result ≡ Some x = grind arith in
    let f = formed_product c.multiplied.result x (multiple g.p a.c (unpack a.q) (row_at a.level.now l.i)) n c.multiplied.ensures in
    let p = err_from_is_err_and c.from_residual-in_err-s.result c.from_residual-in_err-s.ensures.1 in
    rw (p.1, p.2) (
      sym (l.invariant.5 ∙ listing_unlifted S T a.a a.c (unpack a.q) a.level.now a.to l.i l.k l.work (cache_of l.v l.cache) (term_of x)
          (omega (arith, c.loop-i-test.true)) f.0 f.1 _ c.in_err-s.ensures.0),
      tt,
      (λ k h. c.in_err-s.ensures.2 k (omega (arith, h)) ∙ l.invariant.4 k h),
    )

pub lift_list-returns-in_err-w : goal.lift_list-returns-in_err-w
lift_list-returns-in_err-w t c =
    let a = c.args in
    let g = a.g in
    let l = c.loop-i in
    let S : Stage = stage_of g a.level.now a.tables.now (table_order g.code (table_of g.r (above_in a.tables.now))) in
    let T : LiftTerm = term_definition S a.room a.left in
    let x = c.in_ok-t.t in
    let n : c.multiplied.result ≡ Some x = grind arith in
    let f = formed_product c.multiplied.result x (multiple g.p a.c (unpack a.q) (row_at a.level.now l.i)) n c.multiplied.ensures in
    let p = err_from_is_err_and c.from_residual-in_err-w.result c.from_residual-in_err-w.ensures.1 in
    rw (p.1, p.2) (
      sym (l.invariant.5 ∙ listing_stops S T a.a a.c (unpack a.q) a.level.now a.to l.i l.k l.work (cache_of l.v l.cache) (term_of x)
          (omega (arith, c.loop-i-test.true)) f.0 f.1 c.lift_term.new.work _ c.in_ok-s.ensures.2 c.in_ok-s.ensures.0 _ c.in_err-w.ensures.0),
      tt,
      (λ k h. c.in_err-w.ensures.2 k h ∙ c.in_ok-s.ensures.2 k (omega (arith, h)) ∙ l.invariant.4 k h),
    )

pub lift_list-loop-i-preserved : goal.lift_list-loop-i-preserved
lift_list-loop-i-preserved t c =
    let a = c.args in
    let g = a.g in
    let l = c.loop-i in
    let S : Stage = stage_of g a.level.now a.tables.now (table_order g.code (table_of g.r (above_in a.tables.now))) in
    let T : LiftTerm = term_definition S a.room a.left in
    let x = c.in_ok-t.t in
    let n : c.multiplied.result ≡ Some x = grind arith in
    let f = formed_product c.multiplied.result x (multiple g.p a.c (unpack a.q) (row_at a.level.now l.i)) n c.multiplied.ensures in
    let lt = c.lift_term in
    let ad = c.add_subtree in
    let w = c.in_ok-w.ensures in (
      w.1.0,
      w.1.1,
      omega (arith, lt.auto.cache, l.invariant.2),
      omega (arith, lt.auto.work, l.invariant.3, ad.auto.work),
      (λ k h. w.2 k h ∙ c.in_ok-s.ensures.2 k (omega (arith, h)) ∙ l.invariant.4 k h),
      l.invariant.5 ∙ listing_on S T a.a a.c (unpack a.q) a.level.now a.to l.i l.k l.work (cache_of l.v l.cache) (term_of x)
          (omega (arith, c.loop-i-test.true)) f.0 f.1 lt.new.work _ c.in_ok-s.ensures.2 c.in_ok-s.ensures.0 _ w.0,
    )

pub lift_list-returns : goal.lift_list-returns
lift_list-returns t c =
    let a = c.args in
    let g = a.g in
    let l = c.loop-i in
    let S : Stage = stage_of g a.level.now a.tables.now (table_order g.code (table_of g.r (above_in a.tables.now))) in
    let T : LiftTerm = term_definition S a.room a.left in (
      sym (l.invariant.5 ∙ listing_ends S T a.a a.c (unpack a.q) a.level.now a.to l.i (rows l.work a.a l.k, cache_of l.v l.cache) (omega arith)),
      (l.invariant.0, l.invariant.1),
      l.invariant.4,
    )

pub lift_term-returns-in_default : goal.lift_term-returns-in_default
lift_term-returns-in_default t c =
    let a = c.args in
    let P = c.requires in
    let g = a.g in
    let S : Stage = stage_of g a.level.now a.tables.now (table_order g.code (table_of g.r (above_in a.tables.now))) in
    let K = cache_of a.used a.cache.now in
    let m = monomial_of a.m in (
      ap (λ (v : Vector). done (v, 0, K)) (rows_none a.cache.now 0) ∙ sym (term_lower S a.room a.left a.a K m c.in_default.ensures),
      (omega arith, P.0.used_fits),
      λ k h. refl,
    )

pub lift_term-returns-in-Some-look_up : goal.lift_term-returns-in-Some-look_up
lift_term-returns-in-Some-look_up t c =
    let a = c.args in
    let g = a.g in
    let S : Stage = stage_of g a.level.now a.tables.now (table_order g.code (table_of g.r (above_in a.tables.now))) in
    let K = cache_of a.used a.cache.now in
    let m = monomial_of a.m in
    let f = c.in-Some.f in
    let e = c.in-Some-look_up in (
      sym (term_found S a.room a.left a.a K m f.number f.coefficient (unpack f.quotient) (rows a.cache.now e.from e.n) c.in-Some.ensures e.ensures.0),
      (e.ensures.1, c.requires.0.used_fits),
      λ k h. refl,
    )

pub lift_term-open_subtree-requires : goal.lift_term-open_subtree-requires
lift_term-open_subtree-requires t c =
    let a = c.args in
    let P = c.requires in
    let g = a.g in
    let f = c.in-Some.f in
    let n = reducer_number g.p (rows a.tables.now 0 g.r) (1, monomial_of a.m) f.number f.coefficient (unpack f.quotient) c.in-Some.ensures in
    (omega (arith, c.decreases), (P.0, P.1, n.0, omega (arith, n.1, length_rows a.tables.now 0 g.r)))

pub lift_term-returns : goal.lift_term-returns
lift_term-returns t c =
    let a = c.args in
    let g = a.g in
    let S : Stage = stage_of g a.level.now a.tables.now (table_order g.code (table_of g.r (above_in a.tables.now))) in
    let K = cache_of a.used a.cache.now in
    let m = monomial_of a.m in
    let f = c.in-Some.f in
    let op = c.open_subtree in (
      op.ensures.0 ∙ sym (term_opened S a.room a.left a.a K m f.number f.coefficient (unpack f.quotient) c.in-Some.ensures
          c.in_default-look_up.ensures.0),
      op.ensures.1,
      op.ensures.2,
    )

pub open_subtree-returns-in_err-n : goal.open_subtree-returns-in_err-n
open_subtree-returns-in_err-n t c =
    let a = c.args in
    let ro = c.rows_of-part in
    let pt = c.put in
    let ne = c.negative-d in
    let P = c.requires in
    let g = a.g in
    let S : Stage = stage_of g a.level.now a.tables.now (table_order g.code (table_of g.r (above_in a.tables.now))) in
    let K = cache_of a.used a.cache.now in
    let m = monomial_of a.m in
    let W = a.work.now in
    let u : Term = (ne.result, (unpack a.q, a.j)) in
    let fits : a.a * row_length + row_length ≤ length W = omega (arith, c.if-g-a.false, P.0.tree_fits) in
    let stays = stored_keeps W pt.new.s a.a u pt.ensures.0 pt.ensures.1 fits in
    let p = err_from_is_err_and c.from_residual.result c.from_residual.ensures.1 in
    rw (p.1, p.2) (
      ap (λ y. y >>= λ r. done (finish a.room m r)) c.in_err-n.ensures.0
          ∙ sym (opened_list S a.room a.left a.a K m a.j (minus g.p a.c) ne.result (unpack a.q)
          (rows a.level.now (ro.result.from + 1) (ro.result.to - (ro.result.from + 1))) (rows pt.new.s a.a 1)
          (omega (arith, c.if-g-a.false)) (omega (arith, c.if-left-eq0.false)) ne.ensures
          (rest_of g a.level.now (ends_in a.tables.now) a.j ro.result.from ro.result.to P.0.family P.2 P.3
          ro.ensures.0 ro.ensures.1) (first_stored W pt.new.s a.a u pt.ensures.0 pt.ensures.1 fits)),
      tt,
      λ k h. c.in_err-n.ensures.2 k h ∙ stays k h,
    )

pub open_subtree-returns : goal.open_subtree-returns
open_subtree-returns t c =
    let a = c.args in
    let ro = c.rows_of-part in
    let pt = c.put in
    let ne = c.negative-d in
    let P = c.requires in
    let g = a.g in
    let S : Stage = stage_of g a.level.now a.tables.now (table_order g.code (table_of g.r (above_in a.tables.now))) in
    let K = cache_of a.used a.cache.now in
    let m = monomial_of a.m in
    let W = a.work.now in
    let u : Term = (ne.result, (unpack a.q, a.j)) in
    let fits : a.a * row_length + row_length ≤ length W = omega (arith, c.if-g-a.false, P.0.tree_fits) in
    let stays = stored_keeps W pt.new.s a.a u pt.ensures.0 pt.ensures.1 fits in
    let kp = c.keep in (
      kp.ensures.0 ∙ ap (λ y. y >>= λ r. done (finish a.room m r)) c.in_ok-n.ensures.0
          ∙ sym (opened_list S a.room a.left a.a K m a.j (minus g.p a.c) ne.result (unpack a.q)
          (rows a.level.now (ro.result.from + 1) (ro.result.to - (ro.result.from + 1))) (rows pt.new.s a.a 1)
          (omega (arith, c.if-g-a.false)) (omega (arith, c.if-left-eq0.false)) ne.ensures
          (rest_of g a.level.now (ends_in a.tables.now) a.j ro.result.from ro.result.to P.0.family P.2 P.3
          ro.ensures.0 ro.ensures.1) (first_stored W pt.new.s a.a u pt.ensures.0 pt.ensures.1 fits)),
      kp.ensures.1,
      λ k h. kp.ensures.2 k h ∙ c.in_ok-n.ensures.2 k h ∙ stays k h,
    )
