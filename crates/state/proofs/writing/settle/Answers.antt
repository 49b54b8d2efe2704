use native.Mathlib.Omega.{arith}
use Rattle.state.proofs.writing.Encoded.{few_settled, settled_by}
use Rattle.state.proofs.writing.settle.Goals as goal

pub settle_degrees-requires : goal.settle_degrees-requires
settle_degrees-requires c =
    let p = c.requires in
    let m = c.settle_levels.ensures in
    let s = c.args.state.now in
    let h = c.args.h in (
      omega (arith, p.0, m.long),
      p.1,
      omega (arith, p.3, m.levels.front 3 (omega arith) (omega arith)),
      few_settled s c.settle_levels.new.state h p.0 p.1 p.4 m,
    )

pub returns : goal.returns
returns c =
    let a = c.args in
    let p = c.requires in
    settled_by a.state.now c.settle_levels.new.state c.settle_degrees.new.state a.h
    p.0 c.know.ensures p.1 p.2 p.3 p.4 p.5
    c.settle_levels.ensures c.settle_degrees.ensures
