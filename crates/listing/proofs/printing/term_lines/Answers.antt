use native.Mathlib.Omega.{arith}
use mathlib.Core.Path.{◌≡◌, refl, sym, ap, ◌∙◌}
use mathlib.Core.List.{◌++◌}
use Prim.Native.Nat.{◌+◌, ◌-◌, ◌*◌, ◌≤◌}
use lib.ListN.{length}
use Rattle.laws.proofs.Rows.{rows_last}
use Rattle.definitions.specs.Layout.{row_at, rows}
use Rattle.definitions.specs.Sheet.{printed, term_fields}
use Rattle.definitions.specs.Places.{w_line_length}
use Rattle.pages.specs.bytes.Printing.{Printed}
use Rattle.listing.specs.printing.Lines.{term_lines}
use Rattle.listing.proofs.printing.Listing.{term_lines_last}
use Rattle.pages.proofs.bytes.Spelling.{nothing, after, spelled}
use Rattle.listing.proofs.printing.Listing.{no_rows}
use Rattle.listing.proofs.printing.term_lines.Goals as goal

pub loop-i-init : goal.loop-i-init
loop-i-init c =
    let a = c.args in
    (omega arith, refl, spelled (ap (term_lines a.letter a.n) (no_rows a.s.now 0)) (nothing a.out.now a.at), omega arith)

pub row-t-requires : goal.row-t-requires
row-t-requires c = omega (arith, c.requires.1, c.loop-i.invariant.0)

pub term_line-a-requires : goal.term_line-a-requires
term_line-a-requires c = (
  c.requires.0,
  omega (
    arith,
    c.requires.2,
    c.loop-i.invariant.3,
    c.loop-i.invariant.1,
  ),
)

pub loop-i-preserved : goal.loop-i-preserved
loop-i-preserved c =
    let L = c.loop-i in
    let a = c.args in
    let v = rows a.s.now 0 L.i in
    let d : L.i ≡ 0 + L.i = omega arith in
    let s = ap (λ u. term_lines a.letter a.n v ++ printed a.letter (term_fields a.n u))
    (c.row-t.ensures ∙ ap (row_at a.s.now) d) ∙ sym (term_lines_last a.letter a.n v (row_at a.s.now (0 + L.i)))
    ∙ ap (term_lines a.letter a.n) (sym (rows_last a.s.now 0 L.i)) in (
      omega arith,
      omega arith,
      spelled s (after L.invariant.2 c.term_line-a.ensures.0),
      omega (arith, L.invariant.3, c.term_line-a.ensures.1),
    )

pub returns : goal.returns
returns c =
    let L = c.loop-i in
    let a = c.args in
    let e : L.i ≡ a.m = omega arith in
    (spelled (ap (λ i. term_lines a.letter a.n (rows a.s.now 0 i)) e) L.invariant.2, omega (arith, L.invariant.3, e))
