use borrow.Author.Rules.{rules}
use native.Mathlib.Omega.{arith}
use mathlib.Core.Path.{sym, ap}
use mathlib.Core.List.{◌∷◌}
use Prim.Native.Nat.{◌-◌}
use Rattle.vectors.specs.terms.Rows.{term_of}
use Rattle.definitions.specs.Sheet.{term_fields}
use Rattle.pages.proofs.bytes.Spelling.{after, spelled}
use Rattle.listing.proofs.printing.Fields.{fields_listed}
use Rattle.listing.proofs.printing.term_line.Goals as goal

pub byte-a-requires : goal.byte-a-requires
byte-a-requires c = omega (arith, c.requires.1)

pub term-b-requires : goal.term-b-requires
term-b-requires c = (
  c.requires.0,
  omega (arith, c.requires.1, c.byte-a.ensures.ends),
)

pub byte-requires : goal.byte-requires
byte-requires c =
    omega (
      arith,
      c.requires.1,
      c.byte-a.ensures.ends,
      c.term-b.ensures.1,
    )

pub returns : goal.returns
returns c =
    let a =
    c.args in
    let byte-there =
    c.byte-a in
    let e = ap (λ z. a.letter ∷ z) (sym (fields_listed (term_fields a.n (term_of a.t)))) in (
      spelled e (after byte-there.ensures
          (after c.term-b.ensures.0 c.byte.ensures)),
      omega (
        arith,
        byte-there.ensures.ends,
        c.term-b.ensures.1,
        c.byte.ensures.ends,
      ),
    )
