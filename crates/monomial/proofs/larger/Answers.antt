use Rattle.std.proofs.Common.{◌≤◌, sym, subst, arith}
use Rattle.monomial.specs.Values.{lane_bytes}
use Rattle.laws.proofs.Packing.{bytes_of}
use Rattle.monomial.proofs.Raising.{raised_word, lcm_small}
use Rattle.monomial.proofs.larger.Goals as goal

pub returns : goal.returns
returns c =
    let x = c.args.x in
    let y = c.args.y in
    let a = bytes_of x (omega arith) in
    let b = bytes_of y (omega arith) in
    let e = raised_word x y a b in
    (e, subst (λ n. n ≤ lane_bytes) (sym e) (lcm_small x y a b))
