use native.Mathlib.Omega.{arith}
use Rattle.laws.proofs.Packing.{bytes_of}
use Rattle.orders.proofs.PackedOrder.{swapped_packed}
use Rattle.orders.proofs.swapped.Goals as goal

pub returns : goal.returns
returns c = swapped_packed c.args.x (bytes_of c.args.x (omega arith))
