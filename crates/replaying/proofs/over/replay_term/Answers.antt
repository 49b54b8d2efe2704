use native.Mathlib.Omega.{arith}
use mathlib.Core.Path.{◌≡◌, sym, ap, ◌∙◌}
use mathlib.Core.List.{[], ◌∷◌, ◌++◌}
use lib.ListN.{drop}
use Rattle.std.proofs.lemmas.Result.{err_from_is_err_and}
use Rattle.words.specs.refusals.Numbers.{number_of}
use Rattle.definitions.specs.Monomial.{Vector}
use Rattle.definitions.specs.Result.{done, refused}
use Rattle.definitions.specs.Problem.{lines}
use Rattle.definitions.specs.Layout.{rows}
use Rattle.monomial.specs.Values.{monomial_of}
use Rattle.orders.specs.Images.{table_of, table_order}
use Rattle.vectors.proofs.terms.Stored.{rows_appended}
use Rattle.runs.specs.reduction.Grounds.{above_in}
use Rattle.runs.specs.run.Stages.{stage_of}
use Rattle.runs.proofs.reduction.Adding.{rows_none}
use Rattle.runs.proofs.run.Sorting.{sorted_rows}
use Rattle.runs.proofs.run.Stepping.{rooms_again}
use Rattle.replaying.proofs.over.Terms.{start_refused, from_start}
use borrow.Author.Rules.{rules}
use Rattle.replaying.proofs.over.replay_term.Goals as goal

pub started-requires : goal.started-requires
started-requires c =
    let P = c.requires in
    (P.0, P.1, P.3.value_fits, P.5, P.6)

pub returns-in-Err : goal.returns-in-Err
returns-in-Err c =
    let a = c.args in
    let g = a.g in
    let above = table_order g.code (table_of g.r (above_in a.tables.now)) in (
      start_refused (stage_of g a.level.now a.tables.now above) a.n a.k a.first (monomial_of a.m) (lines (drop a.from a.input.now))
          (number_of c.in-Err.refusal) c.in-Err.ensures.0,
      tt,
    )

pub put-requires : goal.put-requires
put-requires c = omega (arith, c.requires.3.vector_fits, c.requires.4)

pub replay_lines-requires : goal.replay_lines-requires
replay_lines-requires c =
    let a = c.args in
    let P = c.requires in
    let s = c.started in
    let g = a.g in (
      P.7,
      P.8,
      P.0,
      P.1,
      rooms_again g a.value.now a.vector.now s.new.value c.put.new.s (omega arith) (omega arith) P.3,
      c.in-Ok.ensures.1,
      P.4,
    )

pub returns-in_err-u : goal.returns-in_err-u
returns-in_err-u c =
    let a = c.args in
    let P = c.requires in
    let g = a.g in
    let above = table_order g.code (table_of g.r (above_in a.tables.now)) in
    let m = monomial_of a.m in
    let v = c.put in
    let p = err_from_is_err_and c.from_residual.result c.from_residual.ensures.1 in
    let e = c.in_err-u.field-0.0 in
    let one : rows v.new.s 0 1 ≡ (1, m) ∷ [] =
    ap (λ z. rows z 0 1) v.ensures.0 ∙ rows_appended a.vector.now 0 (1, m) (omega (arith, P.3.vector_fits, P.4)) v.ensures.1
    ∙ ap (λ v. v ++ (1, m) ∷ []) (rows_none a.vector.now 0) in
    rw (p.1, p.2) (
      from_start (stage_of g a.level.now a.tables.now above) a.n a.k a.first m (lines (drop a.from a.input.now))
          (rows c.started.new.value 0 c.in-Ok.s) (rows v.new.s 0 1) (refused (number_of e.refusal) e.place []) c.in-Ok.ensures.0 one
          (c.in_err-u.ensures.0 above),
      tt,
    )

pub sort_in_place-rows-requires : goal.sort_in_place-rows-requires
sort_in_place-rows-requires c =
    let P = c.requires in
    (P.0.prime, omega (arith, P.3.vector_fits, c.in_ok-u.ensures.1), P.2.fits, P.2.tabled)

pub returns : goal.returns
returns c =
    let a = c.args in
    let P = c.requires in
    let g = a.g in
    let above = table_order g.code (table_of g.r (above_in a.tables.now)) in
    let m = monomial_of a.m in
    let v = c.put in
    let s = c.sort_in_place-rows in
    let one : rows v.new.s 0 1 ≡ (1, m) ∷ [] =
    ap (λ z. rows z 0 1) v.ensures.0 ∙ rows_appended a.vector.now 0 (1, m) (omega (arith, P.3.vector_fits, P.4)) v.ensures.1
    ∙ ap (λ v. v ++ (1, m) ∷ []) (rows_none a.vector.now 0) in (
      from_start (stage_of g a.level.now a.tables.now above) a.n a.k a.first m (lines (drop a.from a.input.now))
          (rows c.started.new.value 0 c.in-Ok.s) (rows v.new.s 0 1) (done (rows s.new.s 0 s.result)) c.in-Ok.ensures.0 one
          (ap (λ (q : Vector). done q) s.ensures ∙ c.in_ok-u.ensures.0 above),
      omega (arith, sorted_rows above g.p s.new.s s.result c.replay_lines.new.vector c.in_ok-u.u s.ensures, c.in_ok-u.ensures.1),
    )
