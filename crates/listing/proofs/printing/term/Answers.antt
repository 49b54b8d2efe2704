use borrow.Author.Rules.{rules}
use native.Mathlib.Omega.{arith}
use mathlib.Core.Path.{ap}
use lib.ListN.{take}
use Rattle.listing.specs.printing.Lines.{listed}
use Rattle.pages.proofs.bytes.Spelling.{after, spelled}
use Rattle.listing.proofs.printing.term.Goals as goal

pub word-a-requires : goal.word-a-requires
word-a-requires c = omega (arith, c.requires.1)

pub word-b-requires : goal.word-b-requires
word-b-requires c =
    omega (
      arith,
      c.requires.1,
      c.word-a.ensures.1,
    )

pub exponents-requires : goal.exponents-requires
exponents-requires c = (
  c.requires.0,
  omega (
    arith,
    c.requires.0,
    c.requires.1,
    c.word-a.ensures.1,
    c.word-b.ensures.1,
  ),
)

pub returns : goal.returns
returns c =
    let word-there =
    c.word-a in
    let asked =
    c.requires in
    let n =
    c.args.n in
    let widened-there =
    c.widened-e in (
      after word-there.ensures.0
          (after c.word-b.ensures.0
          (spelled (ap (λ e. listed (take n e)) widened-there.ensures) c.exponents.ensures.0)),
      omega (
        arith,
        asked.0,
        word-there.ensures.1,
        c.word-b.ensures.1,
        c.exponents.ensures.1,
      ),
    )
