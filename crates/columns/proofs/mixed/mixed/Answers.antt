use native.Mathlib.Omega.{arith}
use mathlib.Core.Path.{sym, ◌∙◌}
use lib.ListN.{take}
use Rattle.definitions.specs.Bidegrees.{degree_weighted}
use Rattle.columns.proofs.mixed.Mixing.{mixed_starts, mixed_on, mixed_stops, mixed_ends}
use Rattle.columns.proofs.mixed.mixed.Goals as goal

pub returns-then-key_at-x : goal.returns-then-key_at-x
returns-then-key_at-x c =
    let a = c.args in
    let l = c.loop-i in
    let s = a.level.now in
    let g = degree_weighted a.kw (take a.n a.d.now) in
    let x = c.key_at-x.ensures in
    let y = c.key_at.ensures in
    sym (mixed_starts g s a.from a.to (omega arith) ∙ l.invariant.2
    ∙ mixed_stops g s a.from l.i a.to (omega arith) (λ e. c.if-key_at-x.true (y ∙ sym e ∙ sym x)))

pub loop-i-preserved : goal.loop-i-preserved
loop-i-preserved c =
    let a = c.args in
    let l = c.loop-i in
    let s = a.level.now in
    let g = degree_weighted a.kw (take a.n a.d.now) in
    let x = c.key_at-x.ensures in
    let y = c.key_at.ensures in
    (omega arith, omega arith, l.invariant.2 ∙ mixed_on g s a.from l.i a.to (omega arith) (sym x ∙ sym c.if-key_at-x.false ∙ y))

pub returns : goal.returns
returns c =
    let a = c.args in
    let l = c.loop-i in
    let s = a.level.now in
    let g = degree_weighted a.kw (take a.n a.d.now) in
    sym (mixed_starts g s a.from a.to (omega arith) ∙ l.invariant.2 ∙ mixed_ends g s a.from l.i a.to (omega arith))
