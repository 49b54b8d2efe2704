use borrow.Author.Rules.{rules}
use native.Mathlib.Omega.{arith}
use mathlib.Core.Path.{sym, ap}
use mathlib.Core.List.{[], ◌∷◌, ◌++◌}
use Prim.Native.Nat.{◌+◌, ◌-◌}
use Rattle.reducers.specs.tables.Cuts.{cut_level}
use Rattle.definitions.specs.Sheet.{printed, vector_lines}
use Rattle.listing.proofs.printing.Listing.{length_cut}
use Rattle.pages.proofs.bytes.Spelling.{after, spelled}
use Rattle.listing.proofs.printing.level_lines.Goals as goal

pub vector_lines-a-requires : goal.vector_lines-a-requires
vector_lines-a-requires c =
    let P = c.requires in
    (P.0, P.1, P.2, P.3, omega (arith, P.4))

pub pair_line-requires : goal.pair_line-requires
pair_line-requires c =
    omega (
      arith,
      c.requires.4,
      c.vector_lines-a.ensures.1,
    )

pub returns : goal.returns
returns c =
    let a = c.args in
    let P = c.requires in
    let f = cut_level a.count a.level.now a.ends.now in
    let e = ap (λ c. vector_lines a.n a.k 1 f ++ printed 90 (a.k ∷ c ∷ []))
    (sym (length_cut a.count a.level.now a.ends.now P.2.ends_fit)) in (
      spelled e (after c.vector_lines-a.ensures.0 c.pair_line.ensures.0),
      omega (arith, c.vector_lines-a.ensures.1, c.pair_line.ensures.1),
    )
