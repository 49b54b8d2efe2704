use borrow.Author.Rules.{rules}
use native.Mathlib.Omega.{arith}
use Prim.Native.Nat.{suc, ◌-◌}
use Rattle.pages.proofs.bytes.Spelling.{after, spelled}
use Rattle.betti_page.proofs.page.Lines.{whole_page}
use Rattle.betti_page.proofs.page.print_page.Goals as goal

pub returns : goal.returns
returns c =
    let s = c.args.state.now in
    let r = c.rows_in_use-rows in
    let p = c.print_rows-at.ensures in
    let t = c.totals in
    let q = c.total_line.ensures in
    let few = r.ensures.2 in (
      spelled (whole_page s r.result.low (suc r.result.high - r.result.low) t.result r.ensures.0 t.ensures) (after p.0 q.0),
      omega (arith, few, p.1, q.1),
    )
