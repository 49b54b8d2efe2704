use native.Mathlib.Omega.{arith}
use Rattle.replaying.proofs.picks.Naming.{eight_named}
use lib.ListN.{get_or}
use borrow.Author.Rules.{rules}
use Rattle.replaying.proofs.picks.as_term.Goals as goal

pub returns : goal.returns
returns c = λ i. (1, (eight_named c.args.n c.args.v (omega arith) i, get_or c.args.v c.args.n 0))
