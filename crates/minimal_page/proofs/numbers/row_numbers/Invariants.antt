use native.Mathlib.Omega.{arith}
use mathlib.Core.Path.{◌≡◌, refl, ◌∙◌, subst}
use Prim.Native.Nat.{◌-◌, ◌≤◌}
use lib.ListN.{length, get_or, length-set}
use Rattle.lists.specs.Filling.{Filled, filled_more, filled_list}
use Rattle.definitions.specs.Limits.{document_01}
use Rattle.definitions.specs.Lists.{map}
use Rattle.definitions.specs.Layout.{decode}
use Rattle.definitions.specs.Pages.{all_columns}
use Rattle.definitions.specs.Minimal.{minimal_number}
use Rattle.columns.specs.counting.Columns.{columns_of}
use Rattle.columns.proofs.counting.Counts.{at_column}
use native.Mathlib.Nat.{not-suc-le-zero}
use Rattle.minimal_page.proofs.numbers.row_numbers.Given as goal

abbrev pub invariant-loop-c : goal.invariant-loop-c
invariant-loop-c l =
    (l.c ≤ 11) × (length l.numbers ≡ 11)
    × Filled (λ k. get_or (map (minimal_number (decode document_01 l.state) (columns_of l.state) l.r) all_columns) k 0) l.c l.numbers
