use native.Mathlib.Omega.{arith}
use mathlib.Core.Path.{◌≡◌, refl, sym, ap, ◌∙◌}
use mathlib.Core.List.{◌∷◌, ◌++◌}
use Prim.Native.Nat.{◌+◌, ◌-◌, ◌*◌, ◌≤◌}
use lib.ListN.{length}
use Rattle.laws.proofs.Rows.{rows_last}
use Rattle.definitions.specs.Field.{times}
use Rattle.definitions.specs.Problem.{letter_T}
use Rattle.definitions.specs.Reckoning.{scaled}
use Rattle.definitions.specs.Layout.{row_at, rows}
use Rattle.definitions.specs.Sheet.{printed, term_fields}
use Rattle.definitions.specs.Written.{element_lines}
use Rattle.definitions.specs.Places.{t_line_length}
use Rattle.pages.specs.bytes.Printing.{Printed}
use Rattle.pages.proofs.bytes.Spelling.{nothing, after, spelled}
use Rattle.listing.proofs.printing.Listing.{no_rows}
use Rattle.completing.proofs.lines.Lines.{element_last}
use Rattle.completing.proofs.lines.element_lines.Goals as goal

pub loop-i-init : goal.loop-i-init
loop-i-init c =
    let a = c.args in (
      omega arith,
      refl,
      spelled (ap (λ v. element_lines a.n a.element (scaled a.p a.c v)) (no_rows a.s.now 0)) (nothing a.out.now a.at),
      omega arith,
    )

pub row-t-requires : goal.row-t-requires
row-t-requires c = omega (arith, c.requires.2, c.loop-i.invariant.0)

pub multiplied-u-requires : goal.multiplied-u-requires
multiplied-u-requires c = c.requires.1

pub t_line-a-requires : goal.t_line-a-requires
t_line-a-requires c = (
  c.requires.0,
  omega (
    arith,
    c.requires.3,
    c.loop-i.invariant.3,
    c.loop-i.invariant.1,
  ),
)

pub loop-i-preserved : goal.loop-i-preserved
loop-i-preserved c =
    let L = c.loop-i in
    let a = (c).args in
    let t = c.t_line-a.ensures in
    let v = rows a.s.now 0 L.i in
    let d : L.i ≡ 0 + L.i = omega arith in
    let r = c.row-t.ensures ∙ ap (row_at a.s.now) d in
    let u = c.multiplied-u.ensures ∙ ap (λ w. (times a.p a.c w.0, w.1)) r in
    let s = ap (λ w. element_lines a.n a.element (scaled a.p a.c v) ++ printed letter_T (a.element ∷ term_fields a.n w)) u
    ∙ sym (element_last a.n a.element a.p a.c v (row_at a.s.now (0 + L.i)))
    ∙ ap (λ w. element_lines a.n a.element (scaled a.p a.c w)) (sym (rows_last a.s.now 0 L.i)) in (
      omega arith,
      omega arith,
      spelled s (after L.invariant.2 t.0),
      omega (arith, L.invariant.3, t.1),
    )

pub returns : goal.returns
returns c =
    let L = c.loop-i in
    let a = c.args in
    let e : L.i ≡ a.m = omega arith in
    (spelled (ap (λ i. element_lines a.n a.element (scaled a.p a.c (rows a.s.now 0 i))) e) L.invariant.2, omega (arith, L.invariant.3, e))
