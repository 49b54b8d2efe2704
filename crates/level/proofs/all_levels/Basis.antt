-- The state that a file that was read leaves: sound, and what acceptance makes of it.
use mathlib.Core.Path.{◌≡◌, sym, ap, ◌∙◌, subst}
use Prim.Native.Nat.{ℕ, ◌≤◌}
use native.Mathlib.Omega.{arith}
use lib.Dec.{T}
use lib.ListN.{length}
use Rattle.definitions.specs.Limits.{document_01}
use Rattle.definitions.specs.Monomial.{Level}
use Rattle.definitions.specs.Result.{done, ◌>>=◌}
use Rattle.definitions.specs.Problem.{Bytes, Parameters, problem}
use Rattle.definitions.specs.State.{State, sound?, up_to}
use Rattle.definitions.specs.Stage.{highest}
use Rattle.definitions.specs.Lifting.{accept}
use Rattle.definitions.specs.Calls.{accepted, read}
use Rattle.definitions.specs.Layout.{Words, encode, decode, level_at, holds_state?}
use Rattle.laws.proofs.Results.{if_done_says}
use Rattle.laws.proofs.Reading.{problem_sound, basis_state}
use Rattle.laws.proofs.RoundTrip.{decode_encode, holds_encode, length_encode}
use Rattle.definitions.specs.Places.{state_length}
use Rattle.state.proofs.soundness.StateTests.{holds_said}
use Rattle.state.proofs.preparing.Complete.{highest_is}
use Rattle.reader.specs.problem.Reading.{words_read}
use Rattle.level.specs.by_runs.Stages.{Base, accepted_over}

module _ (size : ℕ) (big : state_length ≤ size) (file : Bytes) (f : Parameters × Level) (e : problem document_01 file ≡ done f) (s : Words)
    (w : s ≡ words_read size f) where
  abbrev X : State
  X = basis_state f

  sound_basis : T (sound? document_01 X)
  sound_basis = if_done_says (λ g. T (sound? document_01 (basis_state g))) (problem document_01 file) (problem_sound document_01 (omega arith) file) f e

  pub length_is : length s ≡ size
  length_is = ap length w ∙ length_encode document_01 (omega arith) size X sound_basis big

  pub decoded : decode document_01 s ≡ X
  decoded = ap (decode document_01) w ∙ decode_encode document_01 (omega arith) size X sound_basis

  held : T (holds_state? document_01 s)
  held = subst (λ z. T (holds_state? document_01 z)) (sym w) (holds_encode document_01 (omega arith) size X sound_basis)

  long_is : state_length ≤ length s
  long_is = omega (arith, length_is, big)

  pub based : Base s 0
  based = record { long = long_is; holds = held; has = (holds_said s long_is held).0; low = omega arith }

  pub whole_is : s ≡ encode document_01 (length s) (decode document_01 s)
  whole_is = w ∙ sym (λ i. encode document_01 (length_is i) (decoded i))

  level_is : level_at document_01 s 0 ≡ f.1
  level_is = sym (highest_is s 0 based.has) ∙ ap (λ Y. highest (up_to Y 0)) decoded

  pub accepted_is : (n : ℕ) → (accepted_over s n >>= λ u. done (decode document_01 s)) ≡ read document_01 n file
  accepted_is n =
      (λ i. accept document_01 (decoded i).parameters.p (decoded i).parameters.code (level_is i) n >>= λ u. done (decoded i))
      ∙ sym (ap (λ x. x >>= accepted document_01 n) e)
