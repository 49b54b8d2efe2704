use borrow.Author.Rules.{rules}
use native.Mathlib.Omega.{arith}
use mathlib.Core.Path.{◌≡◌, refl, ap, ◌∙◌}
use Prim.Native.Nat.{◌+◌, ◌-◌, ◌≤◌}
use lib.Dec.{eqb}
use lib.ListN.{take}
use Rattle.definitions.specs.Lists.{count}
use Rattle.definitions.specs.Problem.{newline}
use Rattle.completing.proofs.lines.Lines.{ends_more}
use Rattle.completing.proofs.lines.lines_in.Given as goal

abbrev pub invariant-loop-i : goal.invariant-loop-i
invariant-loop-i l = (l.i ≤ l.n) × (l.k ≡ count (λ b. eqb b newline) (take l.i l.file)) × (l.k ≤ l.i)
