use native.Mathlib.Omega.{arith}
use mathlib.Core.Path.{◌≡◌, refl, ap, ◌∙◌, subst}
use Prim.Native.Nat.{ℕ, suc, ◌+◌, ◌-◌, ◌*◌, ◌<◌, ◌≤◌}
use lib.ListN.{length, take, drop, get_or, length-replicate}
use lib.Seq.{take_all}
use Rattle.definitions.specs.Layout.{rows}
use Rattle.definitions.specs.Places.{most_vectors, matrix_length}
use Rattle.reducers.specs.tables.Cuts.{start_of, cut_level}
use Rattle.ranks.specs.Blocks.{row_from, whole}
use Rattle.constants.specs.elimination.Rows.{rows_at}
use Rattle.constants.proofs.filling.Entering.{length_row_from}
use Rattle.constants.proofs.filling.Vectorwise.{zero_part, vectors_more, vectors_behind}
use Rattle.constants.proofs.filling.fill.Goals as goal

pub fill_vector-requires : goal.fill_vector-requires
fill_vector-requires c =
    let a = c.args in
    let P = c.requires in
    let l = c.loop-j in
    let e = c.place-to.ensures.0 in
    let long : length a.m.now ≡ matrix_length = ap length P.0 ∙ length-replicate {A = ℕ} matrix_length 0 in
    let f = l.invariant.1 in
    let k : l.j < length a.own.now = omega arith in (
      omega (arith, e, f, P.2.filled l.j k),
      omega (arith, e, P.2.rows_fit l.j k),
      omega (arith, long, l.invariant.0, P.1, P.3),
      ap (take (length a.below.now)) (l.invariant.3 ∙ ap (drop (l.j * most_vectors)) P.0)
          ∙ zero_part matrix_length (l.j * most_vectors) (length a.below.now) (omega (arith, P.1, P.3, k)),
    )

pub loop-j-preserved : goal.loop-j-preserved
loop-j-preserved c =
    let a = c.args in
    let P = c.requires in
    let l = c.loop-j in
    let p = c.place-to in
    let f = c.fill_vector in
    let es = a.below.now in
    let long : length a.m.now ≡ matrix_length = ap length P.0 ∙ length-replicate {A = ℕ} matrix_length 0 in
    let k : l.j < length a.own.now = omega arith in
    let room : l.j * most_vectors + length es ≤ length l.m = omega (arith, long, l.invariant.0, P.1, P.3, k) in
    let z : suc l.j ≡ l.j + 1 = omega arith in (
      omega arith,
      p.ensures.0 ∙ ap (start_of a.ends.now) z,
      vectors_more a.level.now a.ends.now a.own.now es (length es) l.j refl l.m f.new.m l.from p.result P.3 room
          (omega (arith, P.2.ends_fit, k)) k l.invariant.1 p.ensures.0 l.invariant.2 f.ensures,
      vectors_behind a.level.now a.ends.now a.own.now es (length es) l.j refl a.m.now l.m f.new.m
          (row_from 1 es (get_or a.own.now l.j 0) (rows a.level.now l.from (p.result - l.from))) P.3 room
          (length_row_from 1 es (get_or a.own.now l.j 0) (rows a.level.now l.from (p.result - l.from))) l.invariant.3 f.ensures,
    )

pub returns : goal.returns
returns c =
    let a = c.args in
    let l = c.loop-j in
    let e : l.j ≡ length a.own.now = omega arith in
    subst (λ j. rows_at (length a.below.now) j l.m ≡ whole a.below.now (take j a.own.now) (cut_level j a.level.now a.ends.now)) e l.invariant.2
    ∙ ap (λ ds. whole a.below.now ds (cut_level (length a.own.now) a.level.now a.ends.now)) (take_all (length a.own.now) a.own.now (omega arith))
