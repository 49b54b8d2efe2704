use borrow.Author.Rules.{rules}
use native.Mathlib.Omega.{arith}
use mathlib.Core.Path.{refl}
use Rattle.minimal_page.proofs.page.print_page.Goals as goal

pub print_lines-requires : goal.print_lines-requires
print_lines-requires c =
    let P = c.requires in
    let M = c.mark_columns.ensures in
    let r = c.rows_in_use-rows.ensures in (
      record { long = P.0; holds = P.1; room = omega (arith, M.1); marked = M.0 },
      record { rows = r.0; ordered = r.1; few = r.2 },
      P.2,
    )
