use native.Mathlib.Omega.{arith}
use mathlib.Core.Path.{◌≡◌, sym, ap, ◌∙◌}
use Prim.Native.Nat.{◌+◌, ◌<◌}
use lib.ListN.{length}
use Rattle.reducers.proofs.search.Answers.{found_inside, searched_none, searched_one}
use Rattle.definitions.specs.Layout.{row_at, rows}
use Rattle.laws.proofs.Rows.{get_d_rows, length_rows}
use Rattle.definitions.specs.Monomial.{no_term, Term}
use Rattle.monomial.specs.Values.{monomial_of}
use Rattle.laws.proofs.Rows.{row_is}
use Rattle.std.specs.Prelude.{Some}
use Rattle.reducers.proofs.search.search.Goals as goal

pub returns-then-j-r : goal.returns-then-j-r
returns-then-j-r c =
    let a = c.args in
    searched_none (rows a.heads.now 0 a.r) (monomial_of a.m) c.lowest-j.result c.lowest-j.ensures
    (c.if-j-r.true ∙ sym (length_rows a.heads.now 0 a.r))

pub overflow_add-result : goal.overflow_add-result
overflow_add-result c =
    let a = c.args in
    let s = a.heads.now in
    let v = rows s 0 a.r in
    let j = c.lowest-j.result in
    let h : j < length v = found_inside 0 v (1, monomial_of a.m) j c.lowest-j.ensures (λ q. c.if-j-r.false (q ∙ length_rows s 0 a.r)) in
    omega (arith, length_rows s 0 a.r)

pub overflow_mul-result : goal.overflow_mul-result
overflow_mul-result c =
    let a = c.args in
    let s = a.heads.now in
    let v = rows s 0 a.r in
    let j = c.lowest-j.result in
    let h : j < length v = found_inside 0 v (1, monomial_of a.m) j c.lowest-j.ensures (λ q. c.if-j-r.false (q ∙ length_rows s 0 a.r)) in
    omega (arith, length_rows s 0 a.r)

pub offset_bounds-heads-j : goal.offset_bounds-heads-j
offset_bounds-heads-j c =
    let a = c.args in
    let s = a.heads.now in
    let v = rows s 0 a.r in
    let j = c.lowest-j.result in
    let h : j < length v = found_inside 0 v (1, monomial_of a.m) j c.lowest-j.ensures (λ q. c.if-j-r.false (q ∙ length_rows s 0 a.r)) in
    omega (arith, length_rows s 0 a.r)

pub bounds-heads-j : goal.bounds-heads-j
bounds-heads-j c =
    let a = c.args in
    let s = a.heads.now in
    let v = rows s 0 a.r in
    let j = c.lowest-j.result in
    let h : j < length v = found_inside 0 v (1, monomial_of a.m) j c.lowest-j.ensures
    (λ q. c.if-j-r.false (q ∙ length_rows s 0 a.r)) in
    omega (arith, length_rows s 0 a.r)

pub returns : goal.returns
returns c =
    let a = c.args in
    let s = a.heads.now in
    let v = rows s 0 a.r in
    let j = c.lowest-j.result in
    let h : j < length v = found_inside 0 v (1, monomial_of a.m) j c.lowest-j.ensures
    (λ q. c.if-j-r.false (q ∙ length_rows s 0 a.r)) in
    let l : j < a.r = omega (arith, length_rows s 0 a.r) in
    let z : 0 + j ≡ j = omega arith in
    ap (λ x. Some (j + 1, x)) (sym (ap (λ (t : Term). t.0) (get_d_rows s 0 a.r j no_term l ∙ ap (row_at s) z ∙ row_is s j)))
    ∙ searched_one v (monomial_of a.m) j c.lowest-j.ensures h
