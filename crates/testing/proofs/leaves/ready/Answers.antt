use native.Mathlib.Omega.{arith}
use mathlib.Core.Path.{sym, ◌∙◌, subst}
use Prim.Native.Nat.{◌<◌, ◌≤◌, ◌/◌}
use lib.Dec.{T}
use lib.ListN.{length}
use borrow.Author.Tests.{leb-true, leb-false, ltb-true, ltb-false}
use Rattle.definitions.specs.Places.{row_length, state_length}
use Rattle.testing.proofs.LeavesCalls.{short_state, few_rows, no_level, has_level}
use Rattle.testing.proofs.leaves.ready.Goals.{then-state-ge-STATE_LENGTH, else-state-ge-STATE_LENGTH, then-n-s, else-n-s}
use Rattle.testing.proofs.leaves.ready.Goals as goal

pub returns-then-k-place : goal.returns-then-k-place
returns-then-k-place c =
    let a = c.args in
    let S = a.state.now in
    let s = a.s.now in
    elim c.if-n-s.branch [
      | then-n-s w ↦ elim c.if-state-ge-STATE_LENGTH.branch [
        | then-state-ge-STATE_LENGTH v ↦
            let n : a.n ≤ length s / row_length = leb-true a.n (length s / row_length) (sym v.value-is ∙ w.if-n-s.true) in
            let k : a.k < w.place.result = ltb-true a.k w.place.result (sym w.value-is ∙ c.if-k-place.true) in
            c.sound.ensures ∙ has_level S a.k s a.n v.if-state-ge-STATE_LENGTH.true n (omega (arith, k, w.place.ensures.0))
        | else-state-ge-STATE_LENGTH v ↦
            let l : state_length ≤ length S = leb-true state_length (length S) (sym v.value-is ∙ w.if-n-s.true) in
            absurd (omega (arith, l, v.if-state-ge-STATE_LENGTH.false))
      ]
      | else-n-s w ↦ absurd (subst T (sym c.if-k-place.true ∙ w.value-is ∙ w.if-n-s.false) tt)
    ]

pub returns-else-k-place : goal.returns-else-k-place
returns-else-k-place c =
    let a = c.args in
    let S = a.state.now in
    let s = a.s.now in
    c.if-k-place.false
    ∙ elim c.if-state-ge-STATE_LENGTH.branch [
      | then-state-ge-STATE_LENGTH v ↦ elim c.if-n-s.branch [
        | then-n-s w ↦
            let n : a.n ≤ length s / row_length = leb-true a.n (length s / row_length) (sym v.value-is ∙ w.if-n-s.true) in
            let k : w.place.result ≤ a.k = ltb-false a.k w.place.result (sym w.value-is ∙ c.if-k-place.false) in
            no_level S a.k s a.n v.if-state-ge-STATE_LENGTH.true n (omega (arith, k, w.place.ensures.0))
        | else-n-s w ↦
            let n : length s / row_length < a.n = leb-false a.n (length s / row_length) (sym v.value-is ∙ w.if-n-s.false) in
            few_rows S a.k s a.n v.if-state-ge-STATE_LENGTH.true n
      ]
      | else-state-ge-STATE_LENGTH v ↦ short_state S a.k s a.n v.if-state-ge-STATE_LENGTH.false
    ]
