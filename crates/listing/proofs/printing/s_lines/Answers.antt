use native.Mathlib.Omega.{arith}
use mathlib.Core.Path.{◌≡◌, refl, sym, ap, ◌∙◌}
use mathlib.Core.List.{◌∷◌, ◌++◌}
use Prim.Native.Nat.{◌+◌, ◌-◌, ◌*◌, ◌≤◌}
use lib.ListN.{length}
use Rattle.laws.proofs.Rows.{rows_last}
use Rattle.vectors.specs.terms.Rows.{term_of}
use Rattle.definitions.specs.Layout.{row_at, rows}
use Rattle.definitions.specs.Sheet.{printed, term_fields, letter_S, s_lines}
use Rattle.definitions.specs.Places.{s_line_length}
use Rattle.pages.specs.bytes.Printing.{Printed}
use Rattle.listing.proofs.printing.Listing.{s_lines_last}
use Rattle.pages.proofs.bytes.Spelling.{nothing, after, spelled}
use Rattle.listing.proofs.printing.Listing.{no_rows}
use Rattle.listing.proofs.printing.s_lines.Goals as goal

pub loop-i-init : goal.loop-i-init
loop-i-init c =
    let a = c.args in
    let e : 0 ≡ a.from - a.from = omega arith in (
      omega arith,
      omega (arith, c.requires.1),
      refl,
      spelled
          (ap (s_lines a.n a.k a.v) (no_rows a.level.now a.from)
          ∙ ap (λ i. s_lines a.n a.k a.v (rows a.level.now a.from i)) e) (nothing a.out.now a.at),
      omega arith,
    )

pub row-t-requires : goal.row-t-requires
row-t-requires c = omega (arith, c.requires.2, c.loop-i.invariant.1)

pub s_line-a-requires : goal.s_line-a-requires
s_line-a-requires c = (
  c.requires.0,
  omega (
    arith,
    c.requires.3,
    c.loop-i.invariant.4,
    c.loop-i.invariant.0,
    c.loop-i.invariant.2,
  ),
)

pub loop-i-preserved : goal.loop-i-preserved
loop-i-preserved c =
    let L = c.loop-i in
    let a = c.args in
    let e : (L.i - a.from) + 1 ≡ L.i + 1 - a.from = omega (arith, L.invariant.0) in
    let d : a.from + (L.i - a.from) ≡ L.i = omega (arith, L.invariant.0) in
    let t : term_of c.row-t.result ≡ row_at a.level.now (a.from + (L.i - a.from)) =
    c.row-t.ensures ∙ ap (row_at a.level.now) (sym d) in
    let v = rows a.level.now a.from (L.i - a.from) in
    let s = ap (λ u. s_lines a.n a.k a.v v ++ printed letter_S (a.k ∷ a.v ∷ term_fields a.n u)) t
    ∙ sym (s_lines_last a.n a.k a.v v (row_at a.level.now (a.from + (L.i - a.from))))
    ∙ ap (s_lines a.n a.k a.v) (sym (rows_last a.level.now a.from (L.i - a.from)))
    ∙ ap (λ i. s_lines a.n a.k a.v (rows a.level.now a.from i)) e in (
      omega arith,
      omega arith,
      omega arith,
      spelled s (after L.invariant.3 c.s_line-a.ensures.0),
      omega (arith, L.invariant.4, L.invariant.0, c.s_line-a.ensures.1),
    )

pub returns : goal.returns
returns c =
    let L = c.loop-i in
    let a = c.args in
    let e : L.i ≡ a.to = omega arith in
    (spelled (ap (λ i. s_lines a.n a.k a.v (rows a.level.now a.from (i - a.from))) e) L.invariant.3, omega (arith, L.invariant.4, e))
