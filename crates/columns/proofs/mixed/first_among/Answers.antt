use native.Mathlib.Omega.{arith}
use mathlib.Core.Path.{◌≡◌, sym, ap, ◌∙◌}
use Prim.Native.Nat.{suc, ◌+◌}
use lib.ListN.{length, take, get_or}
use lib.Seq.{length-take-le, get_or-take}
use Rattle.reducers.specs.tables.Cuts.{start_of}
use Rattle.columns.specs.mixed.Placed.{same_key?}
use Rattle.columns.proofs.mixed.Mixing.{first_on, first_stops, first_ends}
use Rattle.columns.proofs.mixed.first_among.Goals as goal

pub returns-then-mixed : goal.returns-then-mixed
returns-then-mixed c =
    let a = c.args in
    let P = c.requires in
    let l = c.loop-j in
    let p = c.place-to in
    let same = same_key? a.kw (take a.n a.d.now) in
    let es = take a.r a.ends.now in
    let n : length es ≡ a.r = length-take-le a.r a.ends.now P.1.ends_fit in
    let q : get_or es l.j 0 ≡ p.result = get_or-take a.r a.ends.now l.j 0 (omega arith) ∙ sym p.ensures.0 in
    sym (l.invariant.2 ∙ first_stops same a.level.now es l.j l.from p.result (omega (arith, n)) q (sym c.mixed.ensures ∙ c.if-mixed.true))

pub loop-j-preserved : goal.loop-j-preserved
loop-j-preserved c =
    let a = c.args in
    let P = c.requires in
    let l = c.loop-j in
    let p = c.place-to in
    let same = same_key? a.kw (take a.n a.d.now) in
    let es = take a.r a.ends.now in
    let n : length es ≡ a.r = length-take-le a.r a.ends.now P.1.ends_fit in
    let q : get_or es l.j 0 ≡ p.result = get_or-take a.r a.ends.now l.j 0 (omega arith) ∙ sym p.ensures.0 in
    let z : suc l.j ≡ l.j + 1 = omega arith in (
      omega arith,
      p.ensures.0 ∙ ap (start_of a.ends.now) z,
      l.invariant.2 ∙ first_on same a.level.now es l.j l.from p.result (omega (arith, n)) q (sym c.mixed.ensures ∙ c.if-mixed.false),
    )

pub returns : goal.returns
returns c =
    let a = c.args in
    let P = c.requires in
    let l = c.loop-j in
    let same = same_key? a.kw (take a.n a.d.now) in
    let es = take a.r a.ends.now in
    let n : length es ≡ a.r = length-take-le a.r a.ends.now P.1.ends_fit in
    sym (l.invariant.2 ∙ first_ends same a.level.now es (l.j + 1) l.j l.from (omega (arith, n)))
