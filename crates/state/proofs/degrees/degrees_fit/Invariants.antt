use mathlib.Core.Path.{◌≡◌}
use Prim.Native.Nat.{◌-◌, ◌≤◌}
use lib.ListN.{take, drop}
use Rattle.definitions.specs.Monomial.{fits?}
use Rattle.definitions.specs.Places.{most_degree, degrees_start}
use Rattle.state.proofs.degrees.degrees_fit.Given as goal

abbrev pub invariant-loop-j : goal.invariant-loop-j
invariant-loop-j l = (l.j ≤ l.s)
    × (fits? most_degree (take l.s (drop degrees_start l.state)) ≡ fits? most_degree (drop l.j (take l.s (drop degrees_start l.state))))
