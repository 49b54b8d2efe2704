use mathlib.Core.Path.{◌≡◌}
use Prim.Native.Nat.{◌+◌, ◌*◌, ◌≤◌}
use lib.ListN.{length, drop}
use Rattle.definitions.specs.Monomial.{degree}
use Rattle.orders.proofs.total.Given as goal

abbrev pub invariant-loop-j : goal.invariant-loop-j
invariant-loop-j l = (l.j ≤ 8) × (length l.x ≡ 8) × (l.d ≤ 65535 * l.j) × (l.d + degree (drop l.j l.x) ≡ degree l.x)
