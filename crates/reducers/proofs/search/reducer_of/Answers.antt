use native.Mathlib.Omega.{arith}
use mathlib.Core.Path.{◌≡◌, sym, ap, ◌∙◌}
use Prim.Native.Nat.{◌+◌, ◌-◌, ◌<◌}
use lib.ListN.{get_or}
use Rattle.reducers.proofs.search.Answers.{searched_lower, searched_reducer, IsReducer}
use Rattle.definitions.specs.Layout.{row_at, rows}
use Rattle.laws.proofs.Rows.{get_d_rows, length_rows}
use Rattle.definitions.specs.Monomial.{no_term, quotient}
use Rattle.vectors.specs.terms.Rows.{term_of}
use Rattle.definitions.specs.Reducer.{reducer}
use Rattle.reducers.proofs.search.reducer_of.Goals as goal
use Rattle.reducers.proofs.search.reducer_of.Goals.{In_ok-number}

is_reducer : (c : In_ok-number) → IsReducer c.args.p (rows c.args.heads.now 0 c.args.r) (term_of c.args.t) c.in_ok-number.number c.in_ok-number.head
is_reducer c =
    let a = c.args in
    searched_reducer a.p (rows a.heads.now 0 a.r) (term_of a.t) c.in_ok-number.number c.in_ok-number.head c.in_ok-number.ensures

pub returns-in_err-number : goal.returns-in_err-number
returns-in_err-number c =
    let a = c.args in
    rw c.from_residual.ensures (searched_lower a.p (rows a.heads.now 0 a.r) (term_of a.t) c.in_err-number.ensures)

pub row-requires : goal.row-requires
row-requires c =
    let i = is_reducer (goal.at.row-requires c).In_ok-number in
    omega (arith, i.from, i.inside, length_rows c.args.heads.now 0 c.args.r)

pub returns : goal.returns
returns c =
    let a = c.args in
    let z = a.heads.now in
    let v = rows z 0 a.r in
    let j = c.in_ok-number.number in
    let i = is_reducer (goal.at.returns c).In_ok-number in
    let l : j - 1 < a.r = omega (arith, i.inside, length_rows z 0 a.r) in
    let q : 0 + (j - 1) ≡ j - 1 = omega arith in
    let w : term_of c.row.result ≡ get_or v (j - 1) no_term = c.row.ensures ∙ sym (get_d_rows z 0 a.r (j - 1) no_term l ∙ ap (row_at z) q) in
    (λ k. reducer j (c.times-coefficient.ensures k) ((c.quotient-quotient.ensures ∙ ap (λ u. quotient (term_of a.t).1.0 u.1.0) w) k)) ∙ i.answers
