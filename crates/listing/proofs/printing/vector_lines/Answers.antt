use native.Mathlib.Omega.{arith}
use mathlib.Core.Path.{◌≡◌, refl, ap, ◌∙◌}
use mathlib.Core.List.{◌++◌}
use Prim.Native.Nat.{suc, ◌+◌, ◌-◌, ◌*◌, ◌≤◌}
use lib.ListN.{length, get_or}
use Rattle.reducers.specs.tables.Cuts.{start_of, cut_level}
use Rattle.definitions.specs.Layout.{rows}
use Rattle.definitions.specs.Sheet.{s_lines, vector_lines}
use Rattle.definitions.specs.Places.{most_rows, s_line_length}
use Rattle.pages.specs.bytes.Printing.{Printed}
use Rattle.listing.proofs.printing.Listing.{vector_more}
use Rattle.pages.proofs.bytes.Spelling.{nothing, after, spelled}
use Rattle.listing.proofs.printing.vector_lines.Goals as goal

pub loop-j-init : goal.loop-j-init
loop-j-init c =
    let a = c.args in
    (omega arith, refl, refl, omega arith, nothing a.out.now a.at, omega arith, omega arith)

pub s_lines-a-requires : goal.s_lines-a-requires
s_lines-a-requires c =
    let P = c.requires in
    let L = c.loop-j in
    let e = c.place-end.ensures.0 in
    let f = P.2.filled L.j (omega arith) in (
      P.0,
      omega (arith, e, f, L.invariant.2),
      omega (arith, e, P.2.rows_fit L.j (omega arith)),
      omega (arith, e, f, P.3 L.j (omega arith), L.invariant.2, L.invariant.5, L.invariant.1, P.4),
    )

pub loop-j-preserved : goal.loop-j-preserved
loop-j-preserved c =
    let P = c.requires in
    let a = c.args in
    let L = c.loop-j in
    let e : c.place-end.result ≡ get_or a.ends.now L.j 0 = c.place-end.ensures.0 in
    let s : L.start ≡ start_of a.ends.now L.j = L.invariant.2 in
    let w : L.v ≡ L.j + 1 = L.invariant.3 in
    let d : suc L.j ≡ L.j + 1 = omega arith in
    let f = P.2.filled L.j (omega arith) in
    let q = (λ i. vector_lines a.n a.k 1 (cut_level L.j a.level.now a.ends.now)
    ++ s_lines a.n a.k (w i) (rows a.level.now (s i) (e i - s i)))
    ∙ vector_more a.n a.k L.j a.level.now a.ends.now (omega (arith, P.2.ends_fit)) in (
      omega arith,
      omega arith,
      e ∙ ap (start_of a.ends.now) d,
      omega arith,
      spelled q (after L.invariant.4 c.s_lines-a.ensures.0),
      omega (arith, e, f, s, L.invariant.5, c.s_lines-a.ensures.1),
      omega (arith, e, P.3 L.j (omega arith)),
    )

pub returns : goal.returns
returns c =
    let a = c.args in
    let L = c.loop-j in
    let e : L.j ≡ a.count = omega arith in
    (spelled (ap (λ i. vector_lines a.n a.k 1 (cut_level i a.level.now a.ends.now)) e) L.invariant.4, omega (arith, L.invariant.5, L.invariant.6))
