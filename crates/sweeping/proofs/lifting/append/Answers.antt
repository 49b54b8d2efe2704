use mathlib.Core.Path.{ap}
use Prim.Native.Nat.{◌+◌}
use lib.ListN.{set}
use Rattle.sweeping.proofs.lifting.append.Goals as goal

pub returns : goal.returns
returns c =
    ap (λ z. set z c.args.i
    (c.args.used + c.args.v))
    c.copy.ensures
