use native.Mathlib.Omega.{arith}
use mathlib.Core.Path.{◌≡◌, sym, ap, ◌∙◌, subst}
use mathlib.Core.List.{[]}
use Prim.Native.Nat.{ℕ, ◌+◌, ◌-◌}
use Rattle.std.specs.Prelude.{Ok, Err}
use Rattle.std.proofs.lemmas.Result.{err_from_is_err_and}
use Rattle.definitions.specs.Monomial.{Vector}
use Rattle.definitions.specs.Lifting.{accept_from}
use lib.ListN.{length, take, drop}
use Rattle.level.proofs.by_runs.OverGround.{asked, grounded, accepted_same, left_room, answer_same}
use Rattle.level.specs.by_runs.Stages.{accepted_with, value_in, Shown}
use Rattle.runs.specs.frame_terms.Vectors.{frame_terms, accepted_of}
use Rattle.state.proofs.soundness.VectorByVector.{whole_part}
use Rattle.level.specs.by_runs.Stages.{usual, ground_at, stage_at}
use Rattle.definitions.specs.Places.{rows_start}
use Rattle.level.proofs.by_runs.accept_frame.Goals as goal

pub accept_all-requires : goal.accept_all-requires
accept_all-requires c =
    let a = c.args in
    let s = a.state.now in
    let P = c.requires in
    let ask = asked s 0 P.0 a.tables.now P.1 usual c.ground_of-g.result
    (take (length s - rows_start) (drop rows_start s)) (c.ground_of-g.ensures
    ∙ ap (λ b. ground_at b s 0) c.usual.ensures) (whole_part rows_start s) a.count a.frame.now P.2 in
    let w = ask.6 in
    let v = ask.7 in (
      ask.0,
      ask.1,
      ask.2,
      ask.3,
      record {
        value_fits = omega (arith, w, P.3);
        vector_fits = omega (arith, v);
        left_fits = omega (arith, w);
      },
      omega (arith, v),
      ask.4,
      ask.5,
      grounded s 0 P.0 a.tables.now P.1 usual c.ground_of-g.result (take (length s - rows_start) (drop rows_start s))
          (c.ground_of-g.ensures ∙ ap (λ b. ground_at b s 0) c.usual.ensures) (whole_part rows_start s)
          a.count a.frame.now P.2,
    )

pub settle-requires : goal.settle-requires
settle-requires c =
    let x = c.accept_all in
    left_room c.ground_of-g.result c.in_ok-x.x x.new.vector x.new.value
    (ap (λ g. g.working) c.ground_of-g.ensures ∙ ap (λ b. b.working) c.usual.ensures) c.in_ok-x.ensures.1 (omega arith) (omega (arith, c.requires.3))

pub returns-in_err-x : goal.returns-in_err-x
returns-in_err-x c =
    let a = c.args in
    let P = c.requires in
    let s = a.state.now in
    let x = c.accept_all in
    let L = c.in_err-x.ensures in
    let p = err_from_is_err_and c.from_residual.result c.from_residual.ensures.1 in
    let told = accepted_same s 0 P.0 a.tables.now P.1 usual c.ground_of-g.result (take (length s - rows_start) (drop rows_start s))
    (c.ground_of-g.ensures ∙ ap (λ b. ground_at b s 0) c.usual.ensures) (whole_part rows_start s) L.0.0 (a.from + 1)
    (drop a.from (frame_terms a.frame.now a.count)) (accepted_of (Err c.in_err-x.field-0.0) x.new.vector) L.0.1 in
    subst (λ r. (n : ℕ) × (v : Vector) × (accepted_with r v ≡ accept_from (stage_at usual s 0) n (a.from + 1)
    (drop a.from (frame_terms a.frame.now a.count))) × Shown r v x.new.value) (sym (p.1 ∙ ap Err p.2)) (L.0.0, [], told, tt)

pub returns : goal.returns
returns c =
    let a = c.args in
    let P = c.requires in
    let s = a.state.now in
    let x = c.accept_all in
    let L = c.in_ok-x.ensures in
    let told = accepted_same s 0 P.0 a.tables.now P.1 usual c.ground_of-g.result (take (length s - rows_start) (drop rows_start s))
    (c.ground_of-g.ensures ∙ ap (λ b. ground_at b s 0) c.usual.ensures) (whole_part rows_start s) L.0.0 (a.from + 1)
    (drop a.from (frame_terms a.frame.now a.count)) (accepted_of (Ok c.in_ok-x.x) x.new.vector) L.0.1 in
    (L.0.0, value_in c.in_ok-x.x x.new.vector, answer_same c.in_ok-x.x x.new.vector ∙ told, c.settle.ensures)
