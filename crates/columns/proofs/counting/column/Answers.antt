use native.Mathlib.Omega.{arith}
use mathlib.Core.Path.{◌≡◌, ap, ◌∙◌}
use Prim.Native.Nat.{◌+◌, ◌-◌}
use lib.ListN.{length, take, drop}
use Rattle.columns.proofs.counting.column.Goals as goal

pub returns : goal.returns
returns c =
    let s = c.args.state.now in
    let b = c.under_start-start in
    let n = c.column_length in
    let e : b.result + n.result - b.result ≡ n.result = omega arith in
    let w = (λ i. take (e i) (drop (b.ensures.0 i) s)) ∙ n.ensures.words in
    (w, omega (arith, ap length w, n.ensures.long, n.ensures.few))
