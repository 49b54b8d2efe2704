use native.Mathlib.Omega.{arith}
use mathlib.Core.Path.{refl, sym, ap, ◌∙◌}
use Rattle.definitions.specs.Field.{inverse}
use Rattle.definitions.specs.Places.{most_vectors}
use Prim.Native.Nat.{◌*◌}
use Rattle.columns.specs.mixed.Placed.{place_of}
use Rattle.constants.proofs.elimination.Words.{row_word}
use Rattle.constants.proofs.elimination.Turns.{turn_zero, turn_one}
use Rattle.constants.proofs.elimination.step.Goals as goal

pub returns-in_default : goal.returns-in_default
returns-in_default c =
    let a = c.args in
    (refl, turn_zero a.p a.n a.i a.rows a.s.now (omega arith) (sym c.pivot.ensures.0 ∙ ap place_of c.in_default.is))

pub clear_rows-requires : goal.clear_rows-requires
clear_rows-requires c =
    let a = c.args in
    let r = c.in-Some in
    let inside = r.ensures.1 in (
      omega arith,
      omega arith,
      omega arith,
      omega arith,
      omega arith,
      c.inverse-x.ensures ∙ ap (inverse a.p) (sym (row_word a.s.now (a.i * most_vectors) a.n r.c inside)),
    )

pub returns : goal.returns
returns c =
    let a = c.args in
    let k = c.clear_rows in
    (k.ensures.0, turn_one a.p a.n a.i a.rows a.s.now (omega arith) c.in-Some.c k.new.s (sym c.in-Some.ensures.0) k.ensures.1)
