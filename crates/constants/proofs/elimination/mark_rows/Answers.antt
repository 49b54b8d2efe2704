use native.Mathlib.Omega.{arith}
use mathlib.Core.Path.{◌≡◌, refl, sym, ap, ◌∙◌}
use Prim.Native.Nat.{◌+◌, ◌-◌, ◌*◌}
use lib.ListN.{drop, set, length-set}
use lib.Seq.{paste, paste-zero}
use Rattle.definitions.specs.Places.{most_vectors}
use Rattle.ranks.specs.Elimination.{marks_of, marks}
use Rattle.constants.specs.elimination.Rows.{rows_at}
use Rattle.constants.proofs.elimination.Turns.{length_marks, marks_start, marks_more}
use Rattle.constants.proofs.elimination.mark_rows.Goals as goal

pub loop-i-init : goal.loop-i-init
loop-i-init c =
    let a = c.args in
    let L = marks a.p (rows_at a.n a.rows a.m.now) in
    (omega arith, refl, refl, paste-zero a.marks.now a.at L, marks_start a.p a.n a.rows a.m.now)

pub loop-i-preserved : goal.loop-i-preserved
loop-i-preserved c =
    let l = c.loop-i in
    let a = c.args in
    let t = c.step in
    let L = marks a.p (rows_at a.n a.rows a.m.now) in
    let many = length_marks a.p a.n a.rows a.m.now in
    let M = marks_more a.marks.now L a.at l.i t.result
    (marks_of a.p (a.rows - (l.i + 1)) (rows_at a.n (a.rows - (l.i + 1)) (drop ((l.i + 1) * most_vectors) t.new.s)))
    (omega arith) (omega (arith, many)) (l.invariant.4 ∙ sym t.ensures.1) in (
      omega arith,
      t.ensures.0 ∙ l.invariant.1,
      simp length-set l.invariant.2,
      ap (λ d. set d (a.at + l.i) t.result) l.invariant.3 ∙ M.0,
      M.1,
    )

pub returns : goal.returns
returns c =
    let l = c.loop-i in
    let a = c.args in
    let e : l.i ≡ a.rows = omega arith in
    l.invariant.3 ∙ ap (paste a.marks.now a.at (marks a.p (rows_at a.n a.rows a.m.now))) e
