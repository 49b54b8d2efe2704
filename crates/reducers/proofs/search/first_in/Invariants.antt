use mathlib.Core.Path.{◌≡◌}
use Prim.Native.Nat.{◌-◌, ◌≤◌, max}
use Rattle.definitions.specs.Layout.{row_at}
use Rattle.monomial.specs.Values.{monomial_of}
use Rattle.reducers.specs.search.Search.{first_from}
use Rattle.definitions.specs.Monomial.{divides_monomial?}
use Rattle.reducers.proofs.search.first_in.Given as goal

abbrev pub invariant-loop-i : goal.invariant-loop-i
invariant-loop-i l =
    (l.from ≤ l.i) × (l.i ≤ max l.from l.to) × (first_from (λ k. divides_monomial? (row_at l.heads k).1 (monomial_of l.m)) (l.to - l.from) l.from
    ≡ first_from (λ k. divides_monomial? (row_at l.heads k).1 (monomial_of l.m)) (l.to - l.i) l.i)
