use native.Mathlib.Omega.{arith}
use mathlib.Core.Path.{ap, ◌∙◌}
use Prim.Native.Nat.{◌+◌, ◌-◌, ◌<◌}
use Rattle.laws.proofs.Rows.{length_rows}
use Rattle.definitions.specs.Layout.{rows}
use Rattle.vectors.specs.terms.Rows.{term_of}
use Rattle.vectors.proofs.terms.Stored.{rows_appended, rows_closed}
use Rattle.dividing.specs.steps.Divisions.{division_of}
use Rattle.dividing.proofs.steps.Stepping.{moved_full, moved_on}
use Rattle.dividing.proofs.steps.moved.Goals as goal

pub returns-then-r-g : goal.returns-then-r-g
returns-then-r-g c =
    let a = c.args in (
      λ S e w. moved_full S (division_of a.value.now a.n w a.v a.remainder.now a.r) a.i (term_of a.t)
          (omega (arith, e, c.if-r-g.true, length_rows a.remainder.now 0 a.r)),
      tt,
    )

pub returns : goal.returns
returns c =
    let a =
    c.args in
    let asked =
    c.requires in
    let put-there = c.put in
    let left = c.if-r-g.false in
    let fits : a.r < a.g.working = omega (arith, left, asked.3) in (
      λ S e w. moved_on S (division_of a.value.now a.n w a.v a.remainder.now a.r) a.i (term_of a.t)
          (rows c.remove.new.s 0 (a.n - 1)) (rows put-there.new.s 0 (a.r + 1))
          (omega (arith, e, fits, length_rows a.remainder.now 0 a.r))
          (ap (λ s. rows s 0 (a.n - 1)) c.remove.ensures
          ∙ rows_closed a.value.now a.n a.i asked.0 (omega (arith, asked.1, asked.4)))
          (ap (λ s. rows s 0 (a.r + 1)) put-there.ensures.0
          ∙ rows_appended a.remainder.now a.r (term_of a.t) (omega (arith, fits, asked.5)) put-there.ensures.1),
      (omega (arith, asked.1), asked.2, omega (arith, fits)),
    )
