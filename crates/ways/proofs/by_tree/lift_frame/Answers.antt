use native.Mathlib.Omega.{arith}
use mathlib.Core.Path.{subst}
use mathlib.Core.List.{[]}
use Prim.Native.Nat.{◌-◌}
use lib.ListN.{length, take, drop}
use Prim.Native.Nat.{◌/◌}
use Rattle.state.proofs.soundness.VectorByVector.{whole_part}
use Rattle.runs.specs.frame_terms.Vectors.{frame_terms, lifted_of, Whole}
use Rattle.ways.proofs.by_tree.OverGround.{asked, lifted_same}
use Rattle.definitions.specs.Places.{row_length, rows_offset}
use Rattle.ways.proofs.by_tree.lift_frame.Goals as goal

pub lift_all-requires : goal.lift_all-requires
lift_all-requires c =
    let a = c.args in
    let s = a.state.now in
    let P = c.requires in
    let g = c.ground_of-g in
    let ask = asked s a.j P.0 a.tables.now P.1 a.b g.result (take (length s - (rows_offset a.j)) (drop (rows_offset a.j) s))
    g.ensures (whole_part (rows_offset a.j) s) a.count a.frame.now P.2 in
    let v = ask.4 in
    let t = ask.5 in
    let r = ask.6 in
    let i = P.5 in (
      ask.0,
      ask.1,
      ask.2,
      ask.3,
      omega (arith, t, i.tree, P.4),
      omega (arith, t, i.tree),
      omega (arith, v, i.filled),
      omega (arith, v, i.vector, r, i.room, P.3),
      omega (arith, r, i.room),
    )

pub returns : goal.returns
returns c =
    let a =
    c.args in
    let P =
    c.requires in
    let g =
    c.ground_of-g in
    let s = a.state.now in
    let L = c.lift_all in (
      lifted_same s a.j P.0 a.tables.now P.1 a.b g.result (take (length s - (rows_offset a.j)) (drop (rows_offset a.j) s))
          g.ensures (whole_part (rows_offset a.j) s) (length a.cache.now / row_length) (frame_terms a.frame.now a.count)
          (lifted_of L.result a.count L.new.out []) L.ensures.0,
      subst (λ g. Whole g a.count L.result L.new.out) g.ensures L.ensures.1,
    )
