use native.Mathlib.Omega.{arith}
use mathlib.Core.Path.{◌≡◌, refl, ap, ◌∙◌}
use Prim.Native.Nat.{suc, ◌+◌, ◌*◌}
use lib.ListN.{length, get_or}
use lib.Seq.{paste}
use Rattle.definitions.specs.Places.{most_vectors}
use Rattle.definitions.specs.Limits.{document_01}
use Rattle.definitions.specs.Layout.{level_at}
use Rattle.state.proofs.soundness.SoundLevels.{prime_above}
use Rattle.columns.specs.counting.Columns.{column_of}
use Rattle.ranks.specs.Elimination.{marks}
use Rattle.ranks.specs.Blocks.{whole}
use Rattle.constants.proofs.marking.Columnwise.{marks_level}
use Rattle.constants.proofs.marking.mark_level.Goals as goal

pub fill_level-requires : goal.fill_level-requires
fill_level-requires c =
    let a = c.args in
    let P = c.requires in
    let own = c.column-own.ensures in
    let z : a.k + 1 ≡ suc a.k = omega arith in
    (P.0, P.1, P.2, P.3, refl, own.0 ∙ ap (column_of a.state.now) z, own.1, c.column-below.ensures.1)

pub mark_rows-requires : goal.mark_rows-requires
mark_rows-requires c =
    let a = c.args in
    let P = c.requires in
    let own = c.column-own.ensures.1 in
    (prime_above a.state.now P.0 P.1, c.column-below.ensures.1, omega (arith, own), omega (arith, own, P.3, P.4))

pub returns : goal.returns
returns c =
    let a = c.args in
    let P = c.requires in
    let s = a.state.now in
    let z : a.k + 1 ≡ suc a.k = omega arith in
    let own = c.column-own.ensures.0 ∙ ap (column_of s) z in
    let below = c.column-below.ensures.0 in
    let e = ap (marks (get_or s 0 0)) (c.fill_level.ensures ∙ (λ i. whole (below i) (own i) (level_at document_01 s a.k))) ∙ marks_level s a.k P.2 in
    c.mark_rows.ensures ∙ (λ i. paste a.marks.now (z i * most_vectors) (e i) (length (own i)))
