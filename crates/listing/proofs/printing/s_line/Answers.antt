use borrow.Author.Rules.{rules}
use native.Mathlib.Omega.{arith}
use mathlib.Core.Path.{sym, ap}
use mathlib.Core.List.{◌∷◌, ◌++◌}
use Prim.Native.Nat.{◌+◌, ◌-◌}
use Rattle.vectors.specs.terms.Rows.{term_of}
use Rattle.definitions.specs.Sheet.{decimal, term_fields}
use Rattle.pages.proofs.bytes.Spelling.{after, spelled}
use Rattle.listing.proofs.printing.Fields.{fields_listed}
use Rattle.listing.proofs.printing.s_line.Goals as goal

pub byte-a-requires : goal.byte-a-requires
byte-a-requires c = omega (arith, c.requires.1)

pub word-b-requires : goal.word-b-requires
word-b-requires c = omega (arith, c.requires.1, c.byte-a.ensures.ends)

pub word-c-requires : goal.word-c-requires
word-c-requires c =
    omega (
      arith,
      c.requires.1,
      c.byte-a.ensures.ends,
      c.word-b.ensures.1,
    )

pub term-d-requires : goal.term-d-requires
term-d-requires c =
    let asked =
    c.requires in
    let byte-there =
    c.byte-a in (
      asked.0,
      omega (
        arith,
        asked.1,
        byte-there.ensures.ends,
        c.word-b.ensures.1,
        c.word-c.ensures.1,
      ),
    )

pub byte-requires : goal.byte-requires
byte-requires c =
    let asked =
    c.requires in
    let byte-there =
    c.byte-a in
    let word-there =
    c.word-b in
    omega (
      arith,
      asked.1,
      byte-there.ensures.ends,
      word-there.ensures.1,
      c.word-c.ensures.1,
      c.term-d.ensures.1,
    )

pub returns : goal.returns
returns c =
    let a =
    c.args in
    let byte-there =
    c.byte-a in
    let word-there =
    c.word-b in
    let word2-there =
    c.word-c in
    let e = ap (λ z. 83 ∷ 44 ∷ (decimal a.k ++ (44 ∷ (decimal a.v ++ z)))) (sym (fields_listed (term_fields a.n (term_of a.t)))) in (
      spelled e (after byte-there.ensures (after word-there.ensures.0
          (after word2-there.ensures.0 (after c.term-d.ensures.0
          c.byte.ensures)))),
      omega (
        arith,
        byte-there.ensures.ends,
        word-there.ensures.1,
        word2-there.ensures.1,
        c.term-d.ensures.1,
        c.byte.ensures.ends,
      ),
    )
