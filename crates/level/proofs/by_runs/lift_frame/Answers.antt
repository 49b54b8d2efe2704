use native.Mathlib.Omega.{arith}
use mathlib.Core.Path.{subst}
use Prim.Native.Nat.{◌-◌}
use lib.ListN.{length, take, drop}
use Rattle.definitions.specs.Places.{rows_offset}
use Rattle.state.proofs.soundness.VectorByVector.{whole_part}
use Rattle.runs.specs.frame_terms.Vectors.{frame_terms, lifted_of, Whole}
use Rattle.level.proofs.by_runs.OverGround.{asked, grounded, lifted_same}
use mathlib.Core.Logic.{inl}
use Rattle.level.proofs.by_runs.lift_frame.Goals as goal

pub lift_all-requires : goal.lift_all-requires
lift_all-requires c =
    let a = c.args in
    let s = a.state.now in
    let P = c.requires in
    let G = c.ground_of-g in
    let level = take (length s - (rows_offset a.j)) (drop (rows_offset a.j) s) in
    let same = whole_part (rows_offset a.j) s in
    let ask = asked s a.j P.0 a.tables.now P.1 a.b G.result level G.ensures same a.count a.frame.now P.2 in
    let w = ask.6 in
    let v = ask.7 in
    let r = ask.8 in
    let i = P.5 in (
      ask.0,
      ask.1,
      ask.2,
      ask.3,
      record {
        value_fits = omega (arith, w, P.4);
        vector_fits = omega (arith, v, i.vector);
        left_fits = omega (arith, w, i.working);
      },
      omega (arith, v, i.filled),
      ask.4,
      ask.5,
      omega (arith, r, i.room, P.3),
      omega (arith, r, i.room),
      grounded s a.j P.0 a.tables.now P.1 a.b G.result level G.ensures same a.count a.frame.now P.2,
      inl P.6,
    )

pub returns : goal.returns
returns c =
    let a = c.args in
    let P = c.requires in
    let G = c.ground_of-g in
    let s = a.state.now in
    let L = c.lift_all in (
      (
        L.ensures.0.0,
        L.new.vector,
        lifted_same s a.j P.0 a.tables.now P.1 a.b G.result (take (length s - (rows_offset a.j)) (drop (rows_offset a.j) s))
            G.ensures (whole_part (rows_offset a.j) s) a.w L.ensures.0.0 (frame_terms a.frame.now a.count)
            (lifted_of L.result a.count L.new.out L.new.vector) L.ensures.0.1,
      ),
      subst (λ g. Whole g a.count L.result L.new.out) G.ensures L.ensures.1,
    )
