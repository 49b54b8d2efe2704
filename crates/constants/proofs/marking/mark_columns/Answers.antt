use native.Mathlib.Omega.{arith}
use mathlib.Core.Path.{sym, ap, ◌∙◌}
use Prim.Native.Nat.{ℕ, ◌<◌}
use lib.ListN.{length, get_or, length-replicate}
use Rattle.definitions.specs.Places.{marks_length}
use Rattle.state.proofs.soundness.SoundLevels.{height}
use Rattle.constants.proofs.marking.Columnwise.{marked_none, marked_more, marked_all}
use Rattle.constants.proofs.marking.mark_columns.Goals as goal

pub loop-k-init : goal.loop-k-init
loop-k-init c =
    let a = c.args in
    let P = c.requires in
    (omega arith, ap length P.2 ∙ length-replicate {A = ℕ} marks_length 0, marked_none a.state.now P.0 P.1 a.marks.now P.2)

pub mark_level-requires : goal.mark_level-requires
mark_level-requires c =
    let a = c.args in
    let P = c.requires in
    let l = c.loop-k in
    let e = c.place-levels.ensures.0 in
    let k : l.k < get_or a.state.now 4 0 = omega (arith, e) in
    (P.0, P.1, k, omega (arith, k, height a.state.now P.0 P.1), l.invariant.1)

pub loop-k-preserved : goal.loop-k-preserved
loop-k-preserved c =
    let a = c.args in
    let P = c.requires in
    let l = c.loop-k in
    let m = c.mark_level in
    let e = c.place-levels.ensures.0 in
    let k : l.k < get_or a.state.now 4 0 = omega (arith, e) in
    let h = height a.state.now P.0 P.1 in (
      omega arith,
      omega (arith, l.invariant.1),
      marked_more a.state.now P.0 P.1 l.k l.marks m.new.marks k (omega (arith, k, h)) l.invariant.1 l.invariant.2 m.ensures,
    )

pub shape_of-marks : goal.shape_of-marks
shape_of-marks c = c.loop-k.invariant.1 ∙ sym (ap length c.requires.2 ∙ length-replicate {A = ℕ} marks_length 0)

pub returns : goal.returns
returns c =
    let a = c.args in
    let P = c.requires in
    let l = c.loop-k in
    let e = c.place-levels.ensures.0 in
    (marked_all a.state.now P.0 P.1 l.k l.marks (omega (arith, e)) l.invariant.2, l.invariant.1)
