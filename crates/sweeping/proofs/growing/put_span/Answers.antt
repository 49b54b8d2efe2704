use Rattle.sweeping.proofs.Growth.{span_put}
use native.Mathlib.Omega.{arith}
use lib.ListN.{length-set}
use Rattle.sweeping.proofs.growing.put_span.Goals as goal

pub bounds-spans-at-2 : goal.bounds-spans-at-2
bounds-spans-at-2 c = let a = c.args in omega (arith, length-set a.spans.now a.at a.a, c.requires.0)

pub returns : goal.returns
returns c = let a = c.args in span_put a.at a.a a.b a.spans.now c.requires.0
