use native.Mathlib.Omega.{arith}
use native.Mathlib.Nat.{not-suc-le-zero}
use mathlib.Core.Option.{some}
use mathlib.Core.Path.{◌≡◌, sym, ap, ◌∙◌, subst₂}
use Prim.Native.Nat.{ℕ, ◌≤◌}
use lib.ListN.{length}
use Rattle.definitions.specs.Limits.{document_01}
use Rattle.definitions.specs.Layout.{work_words, lift_call}
use Rattle.definitions.specs.Places.{state_length}
use Rattle.words.proofs.Numbered.{number_positive}
use Rattle.ways.specs.any_way.Ways.{way_of}
use Rattle.lift_call.proofs.LiftCall.{short_state, short_work, left_is, passed, refused_early}
use Rattle.lift_call.proofs.lift.Goals.{then-state-lt-STATE_LENGTH-via-then-state-lt-STATE_LENGTH}
use Rattle.lift_call.proofs.lift.Goals.{then-state-lt-STATE_LENGTH-via-else-state-lt-STATE_LENGTH+then-work-work_length}
use Rattle.lift_call.proofs.lift.Goals as goal

pub returns-then-state-lt-STATE_LENGTH : goal.returns-then-state-lt-STATE_LENGTH
returns-then-state-lt-STATE_LENGTH c =
    let a = c.args in
    let s = a.state.now in
    let w = a.work.now in
    let z = a.cache.now in
    let e = c.refused.ensures in
    subst₂ (λ number place. (n : ℕ) × (some (number, place, s, w, z) ≡ lift_call document_01 n a.k (way_of a.way) s w z)) (sym e.0) (sym e.1)
    (elim c.then-state-lt-STATE_LENGTH.branch [
      | then-state-lt-STATE_LENGTH-via-then-state-lt-STATE_LENGTH v ↦ short_state s w z a.k (way_of a.way) (omega (arith, v.if-state-lt-STATE_LENGTH.true))
      | then-state-lt-STATE_LENGTH-via-else-state-lt-STATE_LENGTH+then-work-work_length v ↦
          short_work s w z a.k (way_of a.way) (omega (arith, v.if-state-lt-STATE_LENGTH.false))
          (omega (arith, v.work_length.ensures, v.if-work-work_length.true))
    ])

pub returns-in-Err : goal.returns-in-Err
returns-in-Err c =
    let a = c.args in
    let s = a.state.now in
    let w = a.work.now in
    let z = a.cache.now in
    let e = c.refused-in-Err.ensures in
    let wide : work_words document_01 (way_of a.way) ≤ length w = omega (arith, c.work_length.ensures, c.if-work-work_length.false) in
    subst₂ (λ number place. (n : ℕ) × (some (number, place, s, w, z) ≡ lift_call document_01 n a.k (way_of a.way) s w z)) (sym e.0) (sym e.1)
    (refused_early s a.k (way_of a.way) c.if-state-lt-STATE_LENGTH.false w z wide _ c.in-Err.ensures
    (λ o. not-suc-le-zero {n = 0} (omega (arith, o, number_positive c.in-Err.refusal))))

pub lift_by-lifted-requires : goal.lift_by-lifted-requires
lift_by-lifted-requires c =
    let a = c.args in
    let P = passed a.state.now a.k (way_of a.way) c.if-state-lt-STATE_LENGTH.false (sym c.in_default.ensures) in
    (P.liftable, omega (arith, c.work_length.ensures, c.if-work-work_length.false))

pub returns : goal.returns
returns c =
    let a = c.args in
    let s = a.state.now in
    let long : state_length ≤ length s = c.if-state-lt-STATE_LENGTH.false in
    let wide : work_words document_01 (way_of a.way) ≤ length a.work.now = omega (arith, c.work_length.ensures, c.if-work-work_length.false) in
    let P = passed s a.k (way_of a.way) long (sym c.in_default.ensures) in
    let b = P.liftable.base in
    let L = c.lift_by-lifted in
    let u = left_is s a.work.now a.cache.now a.k (way_of a.way) long wide b.holds P.inside b.has P.own L.result
    L.new.state L.new.work L.new.cache L.ensures (omega arith) (omega arith) in
    (u.0, ap some c.settle.ensures ∙ u.1)
