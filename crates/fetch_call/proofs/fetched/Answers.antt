use native.Mathlib.Omega.{arith}
use mathlib.Core.Path.{◌≡◌, sym}
use Rattle.definitions.specs.Limits.{document_01}
use Rattle.definitions.specs.Layout.{Fetch, fetch_call}
use Rattle.fetch_call.proofs.FetchCall.{short_state, short_out, no_such_level, not_complete, no_such_vector, fetched}
use Rattle.laws.proofs.Tests.{is_true}
use Rattle.fetch_call.proofs.fetched.Goals.{then-state-lt-STATE_LENGTH-via-then-state-lt-STATE_LENGTH}
use Rattle.fetch_call.proofs.fetched.Goals.{then-state-lt-STATE_LENGTH-via-else-state-lt-STATE_LENGTH+then-out-lt-VECTOR_LENGTH}
use Rattle.fetch_call.proofs.fetched.Goals as goal

pub returns-then-state-lt-STATE_LENGTH : goal.returns-then-state-lt-STATE_LENGTH
returns-then-state-lt-STATE_LENGTH c =
    let a = c.args in
    let e : ◌≡◌ {A = Fetch} (16, 0, a.out.now) (fetch_call document_01 a.k a.v a.state.now a.out.now) = elim c.then-state-lt-STATE_LENGTH.branch [
      | then-state-lt-STATE_LENGTH-via-then-state-lt-STATE_LENGTH w ↦ short_state a.state.now a.out.now a.k a.v (omega arith)
      | then-state-lt-STATE_LENGTH-via-else-state-lt-STATE_LENGTH+then-out-lt-VECTOR_LENGTH w ↦
          short_out a.state.now a.out.now a.k a.v (omega arith) (omega arith)
    ] in e

pub returns-then-not-level_number : goal.returns-then-not-level_number
returns-then-not-level_number c =
    let a = c.args in
    no_such_level a.state.now a.out.now a.k a.v (omega arith) (omega arith) (is_true (sym c.if-not-sound.ensures)) c.if-not-level_number.ensures

pub returns-then-height-k : goal.returns-then-height-k
returns-then-height-k c =
    let a = c.args in
    not_complete a.state.now a.out.now a.k a.v (omega arith) (omega arith) (is_true (sym c.if-not-sound.ensures)) c.if-not-level_number.ensures
    (omega (arith, c.from-height.ensures))

pub returns-then-not-vector_number : goal.returns-then-not-vector_number
returns-then-not-vector_number c =
    let a = c.args in
    no_such_vector a.state.now a.out.now a.k a.v (omega arith) (omega arith) (is_true (sym c.if-not-sound.ensures))
    (sym c.if-not-level_number.ensures) (omega (arith, c.from-height.ensures)) c.if-not-vector_number.ensures

pub returns : goal.returns
returns c =
    let a = c.args in
    fetched a.state.now a.out.now a.k a.v (omega arith) (omega arith) (is_true (sym c.if-not-sound.ensures))
    (sym c.if-not-level_number.ensures) (omega (arith, c.from-height.ensures)) c.if-not-vector_number.ensures
    c.fetch_rows.new.out c.fetch_rows.ensures
