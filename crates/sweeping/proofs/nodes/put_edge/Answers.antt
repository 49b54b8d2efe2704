use Rattle.sweeping.proofs.Made.{edged}
use native.Mathlib.Omega.{arith}
use Prim.Native.Nat.{◌*◌}
use lib.ListN.{length-set}
use Rattle.sweeping.proofs.nodes.put_edge.Goals as goal

pub bounds-edges-e-2 : goal.bounds-edges-e-2
bounds-edges-e-2 c = let a = c.args in omega (arith, length-set a.edges.now (a.e * 2) a.x, c.requires.0)

pub returns : goal.returns
returns c = let a = c.args in edged a.e a.x a.c a.edges.now c.requires.0
