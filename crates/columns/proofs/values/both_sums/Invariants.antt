use mathlib.Core.Path.{◌≡◌}
use Prim.Native.Nat.{◌-◌, ◌*◌, ◌≤◌}
use Rattle.definitions.specs.Places.{most_vectors}
use Rattle.standard_monomials.specs.Table.{most_monomials}
use Rattle.columns.proofs.values.Adding.{even_from, odd_from}
use Rattle.columns.proofs.values.both_sums.Given as goal

abbrev pub invariant-loop-c : goal.invariant-loop-c
invariant-loop-c l =
    (l.c ≤ 11) × (l.even ≡ even_from l.n l.d l.state l.c) × (l.odd ≡ odd_from l.n l.d l.state l.c)
    × (l.even ≤ (11 - l.c) * (most_vectors * most_monomials)) × (l.odd ≤ (11 - l.c) * (most_vectors * most_monomials))
