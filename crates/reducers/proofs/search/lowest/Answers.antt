use native.Mathlib.Omega.{arith}
use mathlib.Core.Path.{sym, subst}
use Prim.Native.Nat.{ℕ}
use Rattle.reducers.specs.search.Search.{span_of}
use Rattle.reducers.proofs.search.Firsts.{span_holds, first_spanned, none_spanned}
use Rattle.reducers.proofs.search.Firsts.{Holds}
use Rattle.monomial.specs.Values.{monomial_of}
use Rattle.reducers.proofs.search.lowest.Goals as goal

pub returns-then-j-s : goal.returns-then-j-s
returns-then-j-s c =
    let a = c.args in
    let m = monomial_of a.m in
    let s = span_of c.span_for-s.result in
    let heads = a.heads.now in
    let h : Holds s a.r m.1 heads = subst (λ (x : ℕ × ℕ). Holds x a.r m.1 heads)
    (sym c.span_for-s.ensures) (span_holds a.k a.r a.spans.now heads m.1
    c.requires.2) in
    first_spanned s a.r heads m c.first_in-j.result h
    c.first_in-j.ensures (omega arith)

pub returns : goal.returns
returns c =
    let a = c.args in
    let m = monomial_of a.m in
    let s = span_of c.span_for-s.result in
    let heads = a.heads.now in
    let h : Holds s a.r m.1 heads = subst (λ (x : ℕ × ℕ). Holds x a.r m.1 heads)
    (sym c.span_for-s.ensures) (span_holds a.k a.r a.spans.now heads m.1
    c.requires.2) in
    none_spanned s a.r heads m c.first_in-j.result h
    c.first_in-j.ensures (omega arith)
