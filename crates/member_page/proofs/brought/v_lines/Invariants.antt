use mathlib.Core.Path.{◌≡◌}
use mathlib.Core.List.{[]}
use Prim.Native.Nat.{◌+◌, ◌≤◌}
use lib.ListN.{length, drop}
use Rattle.definitions.specs.Limits.{document_01}
use Rattle.definitions.specs.Problem.{lines}
use Rattle.definitions.specs.Membership.{v_lines}
use Rattle.definitions.specs.Layout.{rows}
use Rattle.definitions.specs.Places.{most_terms}
use Rattle.words.specs.parameters.Values.{parameters_of}
use Rattle.member_page.proofs.brought.VLines.{Held}
use Rattle.member_page.proofs.brought.v_lines.Given as goal

abbrev pub invariant-loop-at : goal.invariant-loop-at
invariant-loop-at l =
    (l.count ≤ most_terms) × (length l.value ≡ length l.initial.value) × Held (rows l.value 0 l.count) l.count l.before
    × (v_lines document_01 (parameters_of l.q) l.first [] (lines (drop l.from l.file))
    ≡ v_lines document_01 (parameters_of l.q) (l.first + l.count) (rows l.value 0 l.count) (lines (drop l.at l.file)))

abbrev pub decreases-loop-at : goal.decreases-loop-at
decreases-loop-at l = length (drop l.at l.file)
