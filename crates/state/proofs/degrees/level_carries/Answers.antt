use native.Mathlib.Omega.{arith}
use mathlib.Core.Path.{◌∙◌}
use lib.ListN.{take}
use Rattle.definitions.specs.Monomial.{same_exponents?}
use Rattle.definitions.specs.Places.{carried_offset}
use Rattle.state.proofs.soundness.VectorByVector.{whole_part, length_part}
use Rattle.state.proofs.soundness.TablesGrow.{cut_parts}
use Rattle.state.proofs.degrees.Lent.{weighed_parts}
use Rattle.state.proofs.degrees.level_carries.Goals as goal

pub offset_bounds-state-b : goal.offset_bounds-state-b
offset_bounds-state-b c = omega (arith, c.under_start-b.ensures.1, c.requires.0)

pub slice_bounds-vectors_carry-count-3 : goal.slice_bounds-vectors_carry-count-3
slice_bounds-vectors_carry-count-3 c = omega (arith, c.under_start-b.ensures.1, c.requires.0)

pub slice_bounds-vectors_carry-start-3 : goal.slice_bounds-vectors_carry-start-3
slice_bounds-vectors_carry-start-3 c = omega (arith, c.under_start-b.ensures.1, c.requires.0)

pub slice_bounds-vectors_carry-end-3 : goal.slice_bounds-vectors_carry-end-3
slice_bounds-vectors_carry-end-3 c = omega (arith, c.under_start-b.ensures.1, c.requires.0)

pub vectors_carry-requires : goal.vectors_carry-requires
vectors_carry-requires c =
    let s = c.args.state.now in
    let k = c.args.k in
    let p = c.requires in
    let b = c.under_start-b.result in (
      omega (arith, length_part (carried_offset k) s, c.count_of-r.ensures, p.0, p.1, p.2),
      cut_parts s k c.count_of-r.result
          c.count_of-r.ensures p.4,
      omega (
        arith,
        length_part b s,
        c.components_of-n.ensures,
        c.under_start-b.ensures.1,
        p.0,
        p.3,
      ),
    )

pub returns : goal.returns
returns c =
    let s = c.args.state.now in
    let k = c.args.k in
    let e = c.count_of-r.ensures in
    c.vectors_carry.ensures ∙ (λ i. same_exponents? (take (e i) (whole_part (carried_offset k) s i))
    (weighed_parts s k c.count_of-r.result
    c.components_of-n.result c.under_start-b.result e
    c.components_of-n.ensures c.under_start-b.ensures.0 i))
