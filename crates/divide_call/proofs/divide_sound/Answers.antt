use native.Mathlib.Omega.{arith}
use mathlib.Core.Path.{◌≡◌, sym, ap, ◌∙◌}
use mathlib.Core.Option.{some}
use Prim.Native.Nat.{◌/◌}
use lib.ListN.{length, get_or}
use Rattle.definitions.specs.Places.{row_length}
use Rattle.dividing.specs.over.Parts.{parts_as}
use Rattle.divide_call.specs.Rows.{first_bad}
use Rattle.divide_call.proofs.DivideCall.{left_same, lent_good, bad_row, rows_divided}
use Rattle.divide_call.proofs.divide_sound.Goals as goal

pub bounds-state-0 : goal.bounds-state-0
bounds-state-0 c = omega (arith, c.requires.0.long)

pub bounds-state-1 : goal.bounds-state-1
bounds-state-1 c = omega (arith, c.requires.0.long)

pub bounds-state-3 : goal.bounds-state-3
bounds-state-3 c = omega (arith, c.requires.0.long)

pub bounds-state-2 : goal.bounds-state-2
bounds-state-2 c = omega (arith, c.requires.0.long)

pub divide_rows-x-requires : goal.divide_rows-x-requires
divide_rows-x-requires c =
    let P = c.requires in
    let s = c.args.state.now in
    let vector = c.args.vector.now in
    let none-bad = ap (λ b. first_bad b (get_or s 2 0) vector 0 (length vector / row_length)) (sym c.row_bounds-b.ensures) ∙ sym c.in_default.ensures in
    let good = lent_good s P.0 vector none-bad in
    (P.0, good.0, omega arith, P.1, P.2, good.1)

pub settle-requires : goal.settle-requires
settle-requires c = let P = c.requires in (omega (arith, P.1), omega (arith, P.2), c.divide_rows-x.ensures.1)

pub returns-in-Err : goal.returns-in-Err
returns-in-Err c =
    let a = c.args in
    let P = c.requires in
    let s = a.state.now in
    let vector = a.vector.now in
    let found = c.in-Err.ensures ∙ ap (λ b. first_bad b (get_or s 2 0) vector 0 (length vector / row_length)) c.row_bounds-b.ensures in (
      0,
      (λ i. some (c.number.ensures i, c.in-Err.place, c.clear.ensures i, c.clear-in-Err.ensures i))
          ∙ bad_row s P.0 vector a.quotients.now a.remainder.now P.1 P.2 c.in-Err.place found,
    )

pub returns : goal.returns
returns c =
    let a = c.args in
    let P = c.requires in
    let x = c.divide_rows-x in
    let s = a.state.now in
    let vector = a.vector.now in
    let quotients = a.quotients.now in
    let remainder = a.remainder.now in
    let none-bad = ap (λ b. first_bad b (get_or s 2 0) vector 0 (length vector / row_length)) (sym c.row_bounds-b.ensures) ∙ sym c.in_default.ensures in
    let after = x.new.quotients in
    let after' = x.new.remainder in
    let parts = parts_as x.result after after' in
    let long : length after ≡ length quotients = omega (arith, x.auto.quotients) in
    let long' : length after' ≡ length remainder = omega (arith, x.auto.remainder) in (
      x.ensures.0.0,
      c.settle.ensures ∙ left_same quotients remainder after after' long long' parts
          ∙ rows_divided s P.0 vector quotients remainder P.1 P.2 none-bad x.ensures.0.0 parts x.ensures.0.1,
    )
