use borrow.Author.Rules.{rules}
use native.Mathlib.Omega.{arith}
use mathlib.Core.Path.{sym}
use Rattle.words.specs.refusals.Numbers.{number_of}
use Rattle.completions.proofs.Trying.{same_at_once}
use Rattle.completing.proofs.whole.grow.Goals as goal

pub x_line-requires : goal.x_line-requires
x_line-requires c = omega (arith, c.requires.4, c.add.auto.out)

pub returns-in-Ok : goal.returns-in-Ok
returns-in-Ok c =
    let x = c.in-Ok.ensures in
    (sym x.0, x.1, c.saturating_sub.ensures)

pub returns-in-Err : goal.returns-in-Err
returns-in-Err c =
    let x = c.in-Err.ensures in
    let q = c.x_line.ensures in
    let e = c.in-Err.refused in
    record {
      number = number_of e.refusal;
      place = e.place;
      same = same_at_once (λ n. sym x.0);
      line = record { front = q.0.front; ends = q.0.ends };
      fits = omega (arith, q.1);
    }
