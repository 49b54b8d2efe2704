use native.Mathlib.Omega.{arith}
use mathlib.Core.Path.{◌≡◌, ap}
use Prim.Native.Nat.{◌*◌, ◌≤◌}
use native.Mathlib.Nat.{mul-le-mul}
use lib.ListN.{get_or}
use Rattle.definitions.specs.Places.{most_exponent}
use Rattle.columns.proofs.weights.Summing.{sum_on, sum_ends}
use Rattle.columns.proofs.weights.key_of.Goals as goal

pub overflow_mul-sum : goal.overflow_mul-sum
overflow_mul-sum c =
    let l = c.loop-j in
    let P = c.requires in
    let y : c.from.result ≤ most_exponent = omega (arith, c.from.ensures, P.1 l.j) in
    omega (arith, mul-le-mul (P.0 l.j) y)

pub overflow_add-sum : goal.overflow_add-sum
overflow_add-sum c =
    let l = c.loop-j in
    let P = c.requires in
    let y : c.from.result ≤ most_exponent = omega (arith, c.from.ensures, P.1 l.j) in
    omega (arith, l.invariant.2, mul-le-mul (P.0 l.j) y)

pub loop-j-preserved : goal.loop-j-preserved
loop-j-preserved c =
    let a = c.args in
    let l = c.loop-j in
    let P = c.requires in
    let y : c.from.result ≤ most_exponent = omega (arith, c.from.ensures, P.1 l.j) in
    let e : get_or a.kw l.j 0 * c.from.result ≡ get_or a.kw l.j 0 * get_or a.e l.j 0 =
    ap (λ x. get_or a.kw l.j 0 * x) c.from.ensures in (
      omega arith,
      omega (arith, l.invariant.1, sum_on a.kw a.e l.j (omega arith) (omega arith), e),
      omega (arith, l.invariant.2, mul-le-mul (P.0 l.j) y),
    )

pub returns : goal.returns
returns c =
    let a = c.args in
    let l = c.loop-j in
    (omega (arith, l.invariant.1, sum_ends a.kw a.e l.j (omega arith)), omega (arith, l.invariant.2))
