use native.Mathlib.Omega.{arith}
use mathlib.Core.Path.{sym, ap, ◌∙◌}
use Prim.Native.Nat.{◌-◌, ◌*◌, ◌≤◌}
use lib.ListN.{length, get_or}
use Rattle.runs.proofs.reduction.Families.{vector_at}
use Rattle.runs.specs.reduction.Grounds.{reduction_of, ends_in}
use Rattle.definitions.specs.Packed.{unpack}
use Rattle.definitions.specs.Run.{add_products}
use Rattle.definitions.specs.Layout.{rows}
use Rattle.definitions.specs.Places.{row_length}
use Rattle.runs.proofs.reduction.add_multiple.Goals as goal

pub add_all-requires : goal.add_all-requires
add_all-requires c =
    let a = c.args in
    let h : get_or (ends_in a.tables.now) (a.j - 1) 0 * row_length ≤ length a.level.now = c.requires.1.rows_fit (a.j - 1) (omega arith) in
    (c.requires.0, omega arith, omega arith, omega (arith, h, c.rows_of-part.ensures.1))

pub returns : goal.returns
returns c =
    let a = c.args in
    let R = reduction_of a.g a.tables.now in
    let s = a.level.now in
    let e = ends_in a.tables.now in
    let v = rows a.value.now 0 a.n in
    let r = c.rows_of-part.ensures in (
      c.add_all.ensures.0
          ∙ ap (λ f. add_products R a.drops a.c (unpack a.q) f v) ((λ i. rows s (r.0 i) (r.1 i - r.0 i))
          ∙ sym (vector_at s e a.g.r a.j c.requires.1.ends_fit (omega arith) (omega arith))),
      c.add_all.ensures.1,
    )
