use native.Mathlib.Omega.{arith}
use mathlib.Core.Path.{sym, subst}
use Rattle.columns.specs.counting.Columns.{Stands}
use Rattle.columns.proofs.counting.Standing.{no_column, any_column}
use Rattle.columns.proofs.counting.column_length.Goals as goal

pub returns-then-place-c : goal.returns-then-place-c
returns-then-place-c c =
    let a = c.args in
    let P = c.requires in
    no_column a.state.now P.0 P.1 a.c (omega (arith, c.place.ensures.0))

pub returns : goal.returns
returns c =
    let a = c.args in
    let P = c.requires in
    subst (Stands a.state.now a.c) (sym c.components_of.ensures) (any_column a.state.now P.0 P.1 a.c (omega (arith, c.place.ensures.0)))
