use native.Mathlib.Omega.{arith}
use Rattle.constants.proofs.elimination.Multiples.{clear_already, clear_taken}
use Rattle.constants.proofs.elimination.clear.Goals as goal

pub returns-then-w-p-eq0 : goal.returns-then-w-p-eq0
returns-then-w-p-eq0 c =
    let a = c.args in
    clear_already a.p a.c a.s.now a.a a.b a.n (omega arith) c.if-w-p-eq0.true

pub returns : goal.returns
returns c =
    let a = c.args in
    let P = c.requires in
    let ne = c.if-w-p-eq0.false in
    let m = c.add_multiple in
    let y = c.times-y in
    let t = c.negative-t in
    clear_taken a.p a.c a.s.now a.a a.b a.n P.3 a.x y.result t.result m.new.s ne P.4 y.ensures
    t.ensures m.ensures
