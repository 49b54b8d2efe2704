use native.Mathlib.Omega.{arith}
use mathlib.Core.Path.{◌≡◌, refl, ap}
use Prim.Native.Nat.{◌+◌, ◌-◌, ◌*◌, ◌≤◌}
use lib.ListN.{length, take}
use Rattle.pages.specs.bytes.Printing.{Printed}
use Rattle.listing.specs.printing.Lines.{listed}
use Rattle.pages.proofs.bytes.Spelling.{nothing, after, spelled}
use Rattle.listing.proofs.printing.Fields.{listed_more}
use Rattle.listing.proofs.printing.exponents.Goals as goal

pub loop-j-init : goal.loop-j-init
loop-j-init c = (omega arith, refl, nothing _ _, omega arith)

pub loop-j-preserved : goal.loop-j-preserved
loop-j-preserved c =
    let L = c.loop-j in
    let a = c.args in (
      omega arith,
      omega arith,
      spelled (listed_more a.e L.j (omega arith))
          (after L.invariant.2 c.word-a.ensures.0),
      omega (arith, L.invariant.3, c.word-a.ensures.1),
    )

pub returns : goal.returns
returns c =
    let L = c.loop-j in
    let e : L.j ≡ c.args.n = omega arith in
    let a = c.args in
    (spelled (ap (λ i. listed (take i a.e)) e) L.invariant.2, omega (arith, L.invariant.3))
