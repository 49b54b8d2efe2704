use native.Mathlib.Omega.{arith}
use mathlib.Core.Path.{sym, ap, ◌∙◌}
use Prim.Native.Nat.{◌-◌}
use lib.ListN.{length, take, drop}
use Rattle.definitions.specs.Places.{ends_offset, rows_offset}
use Rattle.reducers.proofs.tables.Weighing.{weighed_are}
use Rattle.state.proofs.soundness.VectorByVector.{length_part}
use Rattle.state.proofs.soundness.TablesGrow.{cut_parts}
use Rattle.state.proofs.degrees.Lent.{weighed_parts, light_part}
use Rattle.state.proofs.degrees.weigh.Goals as goal

pub offset_bounds-state-b : goal.offset_bounds-state-b
offset_bounds-state-b c =
    omega
    (arith, c.under_start-b.ensures.1, c.requires.1.long)

pub slice_bounds-fill_degrees-count-3 : goal.slice_bounds-fill_degrees-count-3
slice_bounds-fill_degrees-count-3 c =
    omega
    (arith, c.under_start-b.ensures.1, c.requires.1.long)

pub slice_bounds-fill_degrees-start-3 : goal.slice_bounds-fill_degrees-start-3
slice_bounds-fill_degrees-start-3 c =
    omega
    (arith, c.under_start-b.ensures.1, c.requires.1.long)

pub slice_bounds-fill_degrees-end-3 : goal.slice_bounds-fill_degrees-end-3
slice_bounds-fill_degrees-end-3 c =
    omega
    (arith, c.under_start-b.ensures.1, c.requires.1.long)

pub fill_degrees-requires : goal.fill_degrees-requires
fill_degrees-requires c =
    let a = c.args in
    let w = c.requires.1 in
    let s = a.state.now in
    let b = c.under_start-b.result in (
      omega (arith, c.count_of-r.ensures, w.few, c.requires.0),
      cut_parts s a.k c.count_of-r.result
          c.count_of-r.ensures w.cut,
      omega (
        arith,
        length_part b s,
        c.components_of-n.ensures,
        c.under_start-b.ensures.1,
        w.long,
        w.components,
      ),
      light_part s a.k c.components_of-n.result b
          c.components_of-n.ensures c.under_start-b.ensures.0 w.light,
    )

pub returns : goal.returns
returns c =
    let a = c.args in
    let w = c.requires.1 in
    let s = a.state.now in
    let r = c.count_of-r.result in
    let e = c.count_of-r.ensures in
    let n = c.components_of-n.result in
    let b = c.under_start-b.result in
    let d = c.fill_degrees.new.d in
    ap (λ m. take m d) (sym e)
    ∙ weighed_are n (take (length s - b) (drop b s)) (take (length s - (rows_offset a.k)) (drop (rows_offset a.k) s))
    (take (length s - (ends_offset a.k)) (drop (ends_offset a.k) s)) r d
    (cut_parts s a.k r e w.cut) (omega (arith, e, w.few, c.requires.0, c.fill_degrees.auto.d))
    c.fill_degrees.ensures
    ∙ weighed_parts s a.k r n b e c.components_of-n.ensures
    c.under_start-b.ensures.0
