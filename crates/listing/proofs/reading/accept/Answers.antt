use borrow.Author.Rules.{rules}
use native.Mathlib.Omega.{arith}
use mathlib.Core.Path.{sym}
use mathlib.Core.List.{[], ◌∷◌, ◌++◌}
use Prim.Native.Nat.{◌+◌}
use lib.ListN.{get_or}
use Rattle.words.specs.refusals.Numbers.{number_of}
use Rattle.definitions.specs.Sheet.{printed, w_lines}
use Rattle.level.specs.by_runs.Stages.{accepted_over}
use Rattle.level.proofs.all_levels.Lifting.{few_variables}
use Rattle.pages.proofs.bytes.Spelling.{after, spelled}
use Rattle.listing.proofs.reading.Refusals.{stops_alone}
use Rattle.listing.proofs.reading.accept.Goals as goal

pub w_lines-requires : goal.w_lines-requires
w_lines-requires c =
    let s = c.args.state.now in
    let P = c.requires in
    let x = rw c.in-Ok-Stopped.field-0-is at c.in-Ok-Stopped.ensures in
    let h = x.3 in (
      omega (arith, c.place-n.ensures.0, few_variables s P.0.long P.0.holds),
      h.2,
      omega (arith, h.3, c.x_line-a.ensures.1, P.2),
    )

pub returns-in-Ok-Yes : goal.returns-in-Ok-Yes
returns-in-Ok-Yes c =
    let x = rw c.in-Ok-Yes.field-0-is at c.in-Ok-Yes.ensures in
    (x.0, sym x.2)

pub returns-in-Ok-Stopped : goal.returns-in-Ok-Stopped
returns-in-Ok-Stopped c =
    let x = rw c.in-Ok-Stopped.field-0-is at c.in-Ok-Stopped.ensures in
    let m = c.place-n.ensures.0 in
    let h = x.3 in
    let q = c.x_line-a.ensures in
    let w = c.w_lines.ensures in
    let place = c.in-Ok-Stopped.place in
    record {
      bound = x.0;
      number = 9;
      place = place;
      value = x.1;
      refuses = sym x.2;
      printed = spelled (λ i. printed 88 (9 ∷ place ∷ []) ++ w_lines (m i) (sym h.1 i)) (after q.0 w.0);
      fits = omega (arith, q.1, w.1, h.3);
    }

pub returns-in-Err : goal.returns-in-Err
returns-in-Err c =
    let a = c.args in
    let x = c.in-Err.ensures in
    let e = c.in-Err.refused in
    let q = c.x_line.ensures in
    stops_alone (accepted_over a.state.now) (get_or a.state.now 1 0) a.out.now _ _ x.0 (number_of e.refusal) e.place (sym x.2) q.0
    (omega (arith, q.1))
