use native.Mathlib.Omega.{arith}
use Rattle.level.proofs.storing.Storing.{complete_weighable, added}
use Rattle.level.proofs.storing.add_level.Goals as goal

pub append_all-requires : goal.append_all-requires
append_all-requires c = let P = c.requires in (P.0, P.1, P.2, P.3)

pub complete-requires : goal.complete-requires
complete-requires c =
    let P = c.requires in
    (omega (arith, P.0, c.append_all.ensures.1.long), P.1, P.3.few)

pub carry-requires : goal.carry-requires
carry-requires c =
    let a = c.args in
    let P = c.requires in
    let A = c.append_all in
    let t = c.complete in
    complete_weighable a.state.now A.new.state a.out.now a.k a.count A.ensures P.0 P.1 P.4 P.5 t.new.state t.ensures

pub returns : goal.returns
returns c =
    let a = c.args in
    let P = c.requires in
    let A = c.append_all in
    let y = c.complete in
    let w = c.carry in
    added a.state.now A.new.state a.out.now a.k a.count A.ensures P.0 P.1 P.4 P.5 y.new.state w.new.state y.ensures
    w.ensures
