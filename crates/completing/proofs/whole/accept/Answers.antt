use borrow.Author.Rules.{rules}
use native.Mathlib.Omega.{arith}
use mathlib.Core.Path.{refl, sym, subst}
use lib.ListN.{take}
use Rattle.words.specs.refusals.Numbers.{number_of}
use Rattle.completing.specs.whole.Tries.{GrownAs}
use Rattle.completing.proofs.whole.Attempts.{base, accept_yes, accept_no, accept_grown}
use Rattle.completing.proofs.whole.accept.Goals as goal

pub accept_behind-requires : goal.accept_behind-requires
accept_behind-requires c =
    let a = c.args in
    let P = c.requires in
    (base (take a.size a.out.now) a.state.now P.0 P.1, omega (arith, P.3))

pub x_line-requires : goal.x_line-requires
x_line-requires c = omega (arith, c.requires.4)

pub grow-requires : goal.grow-requires
grow-requires c =
    let a = c.args in
    let P = c.requires in
    let x = rw c.in-Ok-Stopped.field-0-is at c.in-Ok-Stopped.ensures in
    let h = x.3 in
    (base (take a.size a.out.now) a.state.now P.0 P.1, P.2, omega (arith, P.3, c.accept_behind.auto.work), h.3, P.4)

pub returns-in-Ok-Yes : goal.returns-in-Ok-Yes
returns-in-Ok-Yes c =
    let a = c.args in
    let P = c.requires in
    let x = rw c.in-Ok-Yes.field-0-is at c.in-Ok-Yes.ensures in
    (accept_yes (take a.size a.out.now) a.state.now P.0 P.1 a.from P.5 x.0 x.2, refl)

pub returns-in-Ok-Stopped : goal.returns-in-Ok-Stopped
returns-in-Ok-Stopped c =
    let a = c.args in
    let P = c.requires in
    let x = rw c.in-Ok-Stopped.field-0-is at c.in-Ok-Stopped.ensures in
    let h = x.3 in
    let t = c.in-Ok-Stopped.t in
    let G = c.grow in
    let file = take a.size a.out.now in
    accept_grown file a.state.now P.0 P.1 a.from P.5 x.0 t x.1 x.2 G.result a.out.now G.new.out
    (subst (λ w. GrownAs G.result a.state.now file w t a.out.now G.new.out) (sym h.1) G.ensures)

pub returns-in-Err : goal.returns-in-Err
returns-in-Err c =
    let a = c.args in
    let P = c.requires in
    let x = c.in-Err.ensures in
    let q = c.x_line.ensures in
    let e = c.in-Err.refused in
    λ left. record {
      number = number_of e.refusal;
      place = e.place;
      same = accept_no (take a.size a.out.now) a.state.now P.0 P.1 a.from P.5 x.0 (number_of e.refusal) e.place x.2 left;
      line = q.0;
      fits = omega (arith, q.1);
    }
