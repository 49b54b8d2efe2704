use native.Mathlib.Omega.{arith}
use mathlib.Core.Path.{sym, ap, ◌∙◌}
use mathlib.Core.Option.{some}
use Prim.Native.Nat.{◌≤◌}
use lib.ListN.{length}
use Rattle.definitions.specs.Places.{state_length}
use Rattle.laws.proofs.Tests.{is_true}
use Rattle.state.proofs.soundness.StateTests.{holds_said}
use Rattle.divide_call.proofs.DivideCall.{short_state, short_quotients, short_remainder, no_state}
use Rattle.divide_call.proofs.divide.Goals as goal
use Rattle.divide_call.proofs.divide.Goals.{
  then-state-lt-STATE_LENGTH-via-then-state-lt-STATE_LENGTH,
  then-state-lt-STATE_LENGTH-via-else-state-lt-STATE_LENGTH+then-quotients-lt-VECTOR_LENGTH,
  then-state-lt-STATE_LENGTH-via-else-state-lt-STATE_LENGTH+else-quotients-lt-VECTOR_LENGTH+then-remainder-lt-VALUE_LENGTH,
}

pub returns-then-state-lt-STATE_LENGTH : goal.returns-then-state-lt-STATE_LENGTH
returns-then-state-lt-STATE_LENGTH c =
    let s = c.args.state.now in
    let v = c.args.vector.now in
    let q = c.args.quotients.now in
    let r = c.args.remainder.now in (
      0,
      ap (λ n. some (n, 0, q, r)) c.number.ensures ∙ elim c.then-state-lt-STATE_LENGTH.branch [
        | then-state-lt-STATE_LENGTH-via-then-state-lt-STATE_LENGTH w ↦ short_state s v q r (omega arith)
        | then-state-lt-STATE_LENGTH-via-else-state-lt-STATE_LENGTH+then-quotients-lt-VECTOR_LENGTH w ↦
            short_quotients s v q r (omega arith) (omega arith)
        | then-state-lt-STATE_LENGTH-via-else-state-lt-STATE_LENGTH+else-quotients-lt-VECTOR_LENGTH+then-remainder-lt-VALUE_LENGTH w ↦
            short_remainder s v q r (omega arith) (omega arith) (omega arith)
      ],
    )

pub returns-then-not-sound : goal.returns-then-not-sound
returns-then-not-sound c =
    let s = c.args.state.now in
    let v = c.args.vector.now in
    let q = c.args.quotients.now in
    let r = c.args.remainder.now in (
      0,
      ap (λ n. some (n, 0, q, r)) c.number-then-not-sound.ensures ∙ no_state s v q r (omega arith) (omega arith) (omega arith) c.if-not-sound.ensures,
    )

pub divide_sound-requires : goal.divide_sound-requires
divide_sound-requires c =
    let s = c.args.state.now in
    let long : state_length ≤ length s = omega arith in
    let holds = is_true (sym c.sound.ensures ∙ c.if-not-sound.false) in (
      record { long = long; holds = holds; has = (holds_said s long holds).0; low = omega arith },
      omega arith,
      omega arith,
    )

pub returns : goal.returns
returns c = c.divide_sound.ensures
