use mathlib.Core.Path.{◌≡◌}
use mathlib.Core.List.{[]}
use Prim.Native.Nat.{◌+◌, ◌-◌, ◌≤◌}
use lib.ListN.{length, drop}
use Rattle.definitions.specs.Limits.{document_01}
use Rattle.definitions.specs.Monomial.{Level}
use Rattle.definitions.specs.Problem.{lines, body}
use Rattle.words.specs.parameters.Values.{parameters_of}
use Rattle.reader.proofs.problem.WordsSoFar.{SoFar}
use Rattle.definitions.specs.Places.{most_rows, degrees_start}
use Rattle.reader.proofs.problem.body.Given as goal

abbrev pub invariant-loop-line : goal.invariant-loop-line
invariant-loop-line l =
    (l.count ≤ most_rows) × (length l.state ≡ length l.initial.state)
    × ((f : Level) × SoFar (parameters_of l.q) (drop degrees_start l.initial.state) f l.count l.elements l.before l.state
    × (body document_01 (parameters_of l.q) l.first 0 [] (lines (drop l.from l.file))
    ≡ body document_01 (parameters_of l.q) (l.count + l.first) l.count f (lines (drop l.at l.file))))

abbrev pub decreases-loop-line : goal.decreases-loop-line
decreases-loop-line l = most_rows - l.count
