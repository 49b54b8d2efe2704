use native.Mathlib.Omega.{arith}
use mathlib.Core.Path.{◌≡◌, sym, ap, ◌∙◌}
use Rattle.monomial.specs.Values.{monomial_of}
use Rattle.definitions.specs.Tree.{cached}
use Rattle.cache.specs.Entries.{cache_of}
use Rattle.cache.proofs.Entries.{look_none, found, not_found}
use Rattle.cache.proofs.look_up.Goals as goal

pub returns-then-same_row : goal.returns-then-same_row
returns-then-same_row c =
    let a = c.args in
    let l = c.loop-k in (
      sym (l.invariant.1 ∙ found (monomial_of a.m) l.k a.cache.now c.from-n.result c.saturating_sub-from.result
          (omega arith) c.from-n.ensures c.saturating_sub-from.ensures
          (sym c.same_row.ensures ∙ c.if-same_row.true)),
      omega (arith, l.invariant.0, c.saturating_sub-from.ensures),
    )

pub loop-k-preserved : goal.loop-k-preserved
loop-k-preserved c =
    let a = c.args in
    let l = c.loop-k in (
      omega (arith, l.invariant.0, c.saturating_sub-from.ensures),
      l.invariant.1
          ∙ not_found (monomial_of a.m) l.k a.cache.now c.from-n.result c.saturating_sub-from.result
          (omega arith) c.from-n.ensures c.saturating_sub-from.ensures
          (sym c.same_row.ensures ∙ c.if-same_row.false),
    )

pub returns : goal.returns
returns c =
    let a = c.args in
    let l = c.loop-k in
    let e : l.k ≡ 0 = omega arith in
    (sym (l.invariant.1 ∙ ap (λ k. cached (monomial_of a.m) (cache_of k a.cache.now)) e ∙ look_none (monomial_of a.m) a.cache.now), tt)
