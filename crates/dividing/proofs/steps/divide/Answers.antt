use native.Mathlib.Omega.{arith}
use mathlib.Core.Path.{◌≡◌, refl, sym, ap, ◌∙◌, subst}
use mathlib.Core.List.{[]}
use Prim.Native.Nat.{◌<◌}
use lib.ListN.{length}
use Rattle.definitions.specs.Monomial.{Monomial}
use Rattle.definitions.specs.Order.{Comparison}
use Rattle.definitions.specs.Result.{done}
use Rattle.definitions.specs.Layout.{rows}
use Rattle.laws.proofs.Rows.{length_rows}
use Rattle.runs.specs.run.Stages.{order_of, stage_of}
use Rattle.runs.proofs.reduction.Adding.{rows_none}
use Rattle.dividing.specs.steps.Divisions.{division_of, divided_as, Left, stepped}
use Rattle.std.specs.Prelude.{Err}
use Rattle.std.proofs.lemmas.Result.{err_from_is_err_and}
use Rattle.words.specs.refusals.Numbers.{number_of}
use Rattle.dividing.proofs.steps.Stepping.{rooms_again}
use Rattle.dividing.proofs.steps.Reaching.{reached_start, reached_on, reached_refused, reached_end, some_greatest, step_keeps, step_spends}
use mathlib.Core.Option.{some}
use Rattle.dividing.proofs.steps.divide.Goals as goal

pub loop-n-init : goal.loop-n-init
loop-n-init c =
    let a = c.args in (
      omega (arith, c.requires.4),
      omega arith,
      omega arith,
      refl,
      refl,
      refl,
      c.requires.7,
      λ above. reached_start (stage_of a.g a.level.now a.tables.now above)
          (division_of a.value.now a.start a.quotients.now 0 a.remainder.now 0),
    )

pub one_step-requires : goal.one_step-requires
one_step-requires c =
    let a =
    c.args in
    let asked =
    c.requires in
    let l = c.loop-n in (
      asked.0,
      asked.1,
      asked.2,
      rooms_again a.g a.value.now a.quotients.now a.remainder.now l.value l.quotients l.remainder l.invariant.3 l.invariant.4
          l.invariant.5 asked.3,
      omega arith,
      l.invariant.0,
      l.invariant.1,
      l.invariant.2,
    )

pub loop-n-smaller : goal.loop-n-smaller
loop-n-smaller c =
    let a = c.args in
    let l = c.loop-n in
    let P = c.requires in
    let s = c.one_step in
    let g = a.g in
    let order = order_of g a.tables.now in
    let d = division_of l.value l.n l.quotients l.v l.remainder l.r in
    let x = c.in_ok-n in
    let d' = division_of s.new.value x.field-0-0 s.new.quotients x.field-0-1 s.new.remainder x.field-0-2 in
    let some-rows : 0 < length (rows l.value 0 l.n) = omega (arith, c.loop-n-test.true, length_rows l.value 0 l.n) in
    let picked = some_greatest order (rows l.value 0 l.n) some-rows in
    let S = stage_of g a.level.now a.tables.now order in
    let told : done d' ≡ stepped S d (some picked.0) = x.ensures.0 order ∙ ap (stepped S d) picked.1 in
    step_spends S P.6 P.5 d d' l.invariant.6 picked.0 picked.1 told

pub loop-n-preserved : goal.loop-n-preserved
loop-n-preserved c =
    let a = c.args in
    let l = c.loop-n in
    let P = c.requires in
    let s = c.one_step in
    let g = a.g in
    let order = order_of g a.tables.now in
    let d = division_of l.value l.n l.quotients l.v l.remainder l.r in
    let x = c.in_ok-n in
    let d' = division_of s.new.value x.field-0-0 s.new.quotients x.field-0-1 s.new.remainder x.field-0-2 in
    let some-rows : 0 < length (rows l.value 0 l.n) = omega (arith, c.loop-n-test.true, length_rows l.value 0 l.n) in
    let picked = some_greatest order (rows l.value 0 l.n) some-rows in
    let told : (above : Monomial → Monomial → Comparison) → done d' ≡ stepped (stage_of g a.level.now a.tables.now above) d (some picked.0) =
    λ above. x.ensures.0 above ∙ ap (stepped (stage_of g a.level.now a.tables.now above) d) picked.1 in
    let S = stage_of g a.level.now a.tables.now order in
    let room = x.ensures.1 in (
      room.0,
      room.1,
      room.2,
      omega (arith, l.invariant.3),
      omega (arith, l.invariant.4),
      omega (arith, l.invariant.5),
      step_keeps S P.6 P.5 d d' l.invariant.6 picked.0 picked.1 (told order),
      λ above. reached_on (stage_of g a.level.now a.tables.now above)
          (division_of a.value.now a.start a.quotients.now 0 a.remainder.now 0) d d' (l.invariant.7 above) picked.0 picked.1 (told above),
    )

pub shape_of-value-in_err-n : goal.shape_of-value-in_err-n
shape_of-value-in_err-n c = omega (arith, c.loop-n.invariant.3)

pub shape_of-quotients-in_err-n : goal.shape_of-quotients-in_err-n
shape_of-quotients-in_err-n c = omega (arith, c.loop-n.invariant.4)

pub shape_of-remainder-in_err-n : goal.shape_of-remainder-in_err-n
shape_of-remainder-in_err-n c = omega (arith, c.loop-n.invariant.5)

pub returns-in_err-n : goal.returns-in_err-n
returns-in_err-n c =
    let a = c.args in
    let l = c.loop-n in
    let s = c.one_step in
    let g = a.g in
    let order = order_of g a.tables.now in
    let d = division_of l.value l.n l.quotients l.v l.remainder l.r in
    let some-rows : 0 < length (rows l.value 0 l.n) = omega (arith, c.loop-n-test.true, length_rows l.value 0 l.n) in
    let picked = some_greatest order (rows l.value 0 l.n) some-rows in
    let p = err_from_is_err_and c.from_residual.result c.from_residual.ensures.1 in
    let left = p.1 ∙ ap Err p.2 in (
      λ above.
          let G = reached_refused (stage_of g a.level.now a.tables.now above)
          (division_of a.value.now a.start a.quotients.now 0 a.remainder.now 0) d (number_of c.in_err-n.field-0.0) (l.invariant.7 above)
          picked.0 picked.1 (c.in_err-n.ensures.0 above ∙ ap (stepped (stage_of g a.level.now a.tables.now above) d) picked.1) in
          (G.0, ap (λ y. divided_as y s.new.quotients s.new.remainder) left ∙ G.1),
      subst (Left g) (sym left) tt,
    )

pub shape_of-value : goal.shape_of-value
shape_of-value c = omega (arith, c.loop-n.invariant.3)

pub shape_of-quotients : goal.shape_of-quotients
shape_of-quotients c = omega (arith, c.loop-n.invariant.4)

pub shape_of-remainder : goal.shape_of-remainder
shape_of-remainder c = omega (arith, c.loop-n.invariant.5)

pub returns : goal.returns
returns c =
    let a = c.args in
    let l = c.loop-n in
    let empty : rows l.value 0 l.n ≡ [] = ap (rows l.value 0) (omega arith) ∙ rows_none l.value 0 in (
      λ above. reached_end (stage_of a.g a.level.now a.tables.now above)
          (division_of a.value.now a.start a.quotients.now 0 a.remainder.now 0)
          (division_of l.value l.n l.quotients l.v l.remainder l.r) (l.invariant.7 above) empty,
      (l.invariant.1, l.invariant.2),
    )
