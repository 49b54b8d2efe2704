use native.Mathlib.Omega.{arith}
use mathlib.Core.Path.{◌∙◌}
use Rattle.definitions.specs.Monomial as definition
use Rattle.definitions.specs.Run.{add_products}
use Rattle.monomial.specs.Values.{monomial_of}
use Rattle.runs.proofs.reduction.Adding.{rows_none}
use Rattle.runs.specs.reduction.Grounds.{reduction_of, family_of, ends_in}
use Rattle.runs.proofs.run.started.Goals as goal

pub add_multiple-requires : goal.add_multiple-requires
add_multiple-requires c = (
  c.requires.0,
  c.requires.1,
  omega arith,
  c.requires.2,
  omega arith,
  omega arith,
)

pub returns : goal.returns
returns c =
    let a = c.args in
    let m = monomial_of a.m in (
      c.add_multiple.ensures.0
          ∙ (λ i. add_products (reduction_of a.g a.tables.now) a.drops 1 m.0
          (definition.vector_of (family_of a.g a.level.now (ends_in a.tables.now)) (c.from-i.ensures i)) (rows_none a.value.now 0 i)),
      c.add_multiple.ensures.1,
    )
