use native.Mathlib.Omega.{arith}
use mathlib.Core.Path.{◌≡◌, sym, ap, ◌∙◌, subst}
use lib.ListN.{length}
use Rattle.level.specs.by_runs.Stages.{LeftIn, value_in, Shown}
use Rattle.std.specs.Prelude.{Ok}
use Rattle.definitions.specs.Layout.{rows, padded, rows_of}
use Rattle.level.proofs.by_runs.OverGround.{shown_rows}
use Rattle.level.proofs.by_runs.settle.Goals as goal

pub show-requires : goal.show-requires
show-requires c =
    let h = subst (λ y. LeftIn y c.args.vector.now
    c.args.work.now) c.in-Stopped.is
    c.requires in (h.0, h.1)

pub returns-in-Stopped : goal.returns-in-Stopped
returns-in-Stopped c =
    let a = c.args in
    let w = c.show.new.work in
    let vector = a.vector.now in
    let n = c.in-Stopped.n in
    let h = subst (λ y. LeftIn y vector a.work.now) c.in-Stopped.is c.requires in
    let e : length a.work.now ≡ length w = omega arith in
    let own = c.show.ensures ∙ ap (λ l. padded l (rows_of (rows vector 0 n))) e in
    subst (λ y. Shown (Ok y) (value_in y vector) w) (sym c.in-Stopped.is) (own, sym (shown_rows vector w n own), omega (arith, h.1, e), h.2)

pub returns-in_default : goal.returns-in_default
returns-in_default c = let a = c.args in subst (λ y. Shown (Ok y) (value_in y a.vector.now) a.work.now) (sym c.in_default.is) tt
