use native.Mathlib.Omega.{arith}
use mathlib.Core.Path.{◌≡◌, sym, ap, ◌∙◌}
use mathlib.Core.Option.{none, some}
use mathlib.Core.List.{[]}
use Prim.Native.Nat.{suc, ◌+◌}
use lib.ListN.{drop}
use Rattle.std.specs.Prelude.{None, Some}
use Rattle.std.proofs.lemmas.Result.{err_from_is_err_and}
use Rattle.words.specs.refusals.Numbers.{number_of}
use Rattle.definitions.specs.Result.{done, refused}
use Rattle.definitions.specs.Replay.{letter_P}
use Rattle.reader.specs.fields.Scanning.{line_as, shaped_first, in_sixteen}
use Rattle.runs.specs.run.Stages.{stage_of, run_of}
use Rattle.replaying.proofs.log.Turning.{ok_or_ok, ok_or_err, turn_shape, turn_many, turn_taken}
use borrow.Author.Rules.{rules}
use Rattle.replaying.proofs.log.replay_line.Goals as goal

pub returns-in_err-line : goal.returns-in_err-line
returns-in_err-line c =
    let a = c.args in
    let p = err_from_is_err_and c.from_residual.result c.from_residual.ensures.1 in
    let k = ok_or_err c.line_at.result _ _ (sym c.ok_or.ensures.value ∙ c.in_err-line.was) in
    let one : a.n + 1 ≡ suc a.n = omega arith in
    let said : none ≡ in_sixteen (shaped_first 65535 letter_P (suc a.n) (drop a.at a.input.now)) =
    sym (ap (λ x. line_as x a.input.now) k.0) ∙ c.line_at.ensures
    ∙ ap (λ m. in_sixteen (shaped_first 65535 letter_P m (drop a.at a.input.now))) one in
    rw (p.1, p.2, k.1) (
      λ above. turn_shape (stage_of a.g a.level.now a.tables.now above) a.n a.k a.place a.picks
          (run_of a.value.now a.m a.vector.now a.u) (drop a.at a.input.now) said,
      tt,
    )

pub returns-then-picks-ge-MOST_PICKS : goal.returns-then-picks-ge-MOST_PICKS
returns-then-picks-ge-MOST_PICKS c =
    let a = c.args in (
      λ above. turn_many (stage_of a.g a.level.now a.tables.now above) a.n a.k a.place a.picks
          (run_of a.value.now a.m a.vector.now a.u) (drop a.at a.input.now) c.if-picks-ge-MOST_PICKS.true,
      tt,
    )

pub replay_pick-requires : goal.replay_pick-requires
replay_pick-requires c =
    let P = c.requires in
    (P.1, P.2, P.3, P.4, P.5, P.0)

pub returns-in_err-a : goal.returns-in_err-a
returns-in_err-a c =
    let a = c.args in
    let P = c.requires in
    let p = err_from_is_err_and c.from_residual-in_err-a.result c.from_residual-in_err-a.ensures.1 in
    let pick = c.replay_pick in
    let line = c.in_ok-line.line in
    let e = c.in_err-a.field-0.0 in
    let k = ok_or_ok c.line_at.result _ _ (sym c.ok_or.ensures.value ∙ c.in_ok-line.was) in
    let one : a.n + 1 ≡ suc a.n = omega arith in
    let said : some (line.numbers, drop line.next a.input.now) ≡ in_sixteen (shaped_first 65535 letter_P (suc a.n) (drop a.at a.input.now)) =
    sym (ap (λ x. line_as x a.input.now) k) ∙ c.line_at.ensures
    ∙ ap (λ m. in_sixteen (shaped_first 65535 letter_P m (drop a.at a.input.now))) one in
    rw (p.1, p.2) (
      λ above. turn_taken (stage_of a.g a.level.now a.tables.now above) a.n a.k a.place a.picks
          (run_of a.value.now a.m a.vector.now a.u) (drop a.at a.input.now) P.0 line.numbers (drop line.next a.input.now) said (omega arith)
          (refused (number_of e.refusal) e.place []) (c.in_err-a.ensures.0 above),
      tt,
    )

pub returns : goal.returns
returns c =
    let a = c.args in
    let P = c.requires in
    let pick = c.replay_pick in
    let line = c.in_ok-line.line in
    let k = ok_or_ok c.line_at.result _ _ (sym c.ok_or.ensures.value ∙ c.in_ok-line.was) in
    let one : a.n + 1 ≡ suc a.n = omega arith in
    let said : some (line.numbers, drop line.next a.input.now) ≡ in_sixteen (shaped_first 65535 letter_P (suc a.n) (drop a.at a.input.now)) =
    sym (ap (λ x. line_as x a.input.now) k) ∙ c.line_at.ensures
    ∙ ap (λ m. in_sixteen (shaped_first 65535 letter_P m (drop a.at a.input.now))) one in
    let told = c.in_ok-a.ensures in (
      λ above. turn_taken (stage_of a.g a.level.now a.tables.now above) a.n a.k a.place a.picks
          (run_of a.value.now a.m a.vector.now a.u) (drop a.at a.input.now) P.0 line.numbers (drop line.next a.input.now) said (omega arith)
          (done (run_of pick.new.value c.in_ok-a.a pick.new.vector c.in_ok-a.b)) (told.0 above),
      (told.1.0, told.1.1, omega arith),
    )
