use native.Mathlib.Omega.{arith}
use mathlib.Core.Path.{◌≡◌, refl, sym, ap, ◌∙◌}
use Prim.Native.Nat.{suc, ◌+◌}
use lib.ListN.{length, get_or, set, length-set}
use lib.Seq.{paste, paste-zero, paste-suc}
use Rattle.definitions.specs.Field.{plus, times}
use Rattle.ranks.specs.Elimination.{add_multiple}
use Rattle.vectors.proofs.terms.Moving.{getD_paste_above, getD_paste_below}
use Rattle.constants.specs.elimination.Rows.{row_words}
use Rattle.constants.proofs.elimination.Words.{length_row, row_word}
use Rattle.constants.proofs.elimination.Multiples.{length_multiple, multiple_word}
use Rattle.constants.proofs.elimination.add_multiple.Goals as goal

pub loop-j-init : goal.loop-j-init
loop-j-init c =
    let a = c.args in
    (omega arith, refl, paste-zero a.s.now a.b (add_multiple a.p a.t (row_words a.s.now a.a a.n) (row_words a.s.now a.b a.n)))

pub loop-j-preserved : goal.loop-j-preserved
loop-j-preserved c =
    let l = c.loop-j in
    let a = c.args in
    let d = a.s.now in
    let v = row_words d a.a a.n in
    let w = row_words d a.b a.n in
    let m = add_multiple a.p a.t v w in
    let lv : length v ≡ a.n = length_row d a.a a.n (omega arith) in
    let lw : length w ≡ a.n = length_row d a.b a.n (omega arith) in
    let lm : length m ≡ a.n = length_multiple a.p a.t a.n v w lv lw in
    let e : suc l.j ≡ l.j + 1 = omega arith in
    let own = ap (λ u. get_or u (a.b + l.j) 0) l.invariant.2
    ∙ getD_paste_above d a.b m l.j (a.b + l.j) 0 (omega arith) (omega (arith, lm)) (omega arith)
    ∙ sym (row_word d a.b a.n l.j (omega arith)) in
    let other = ap (λ u. get_or u (a.a + l.j) 0) l.invariant.2
    ∙ getD_paste_below d a.b m l.j (a.a + l.j) 0 (omega arith) (omega arith) ∙ sym (row_word d a.a a.n l.j (omega arith)) in
    let x = c.plus_product.ensures ∙ (λ i. plus a.p (own i) (times a.p a.t (other i)))
    ∙ sym (multiple_word a.p a.t a.n v w l.j lv lw (omega arith)) in (
      omega arith,
      simp length-set l.invariant.1,
      (λ i. set (l.invariant.2 i) (a.b + l.j) (x i)) ∙ paste-suc d a.b m l.j 0 (omega arith) (omega (arith, lm)) ∙ ap (paste d a.b m) e,
    )

pub returns : goal.returns
returns c =
    let l = c.loop-j in
    let a = c.args in
    let e : l.j ≡ a.n = omega arith in
    l.invariant.2 ∙ ap (paste a.s.now a.b (add_multiple a.p a.t (row_words a.s.now a.a a.n) (row_words a.s.now a.b a.n))) e
