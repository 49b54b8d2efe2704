use native.Mathlib.Omega.{arith}
use mathlib.Core.Path.{◌≡◌, refl, sym, ap, ap₂, ◌∙◌, subst}
use lib.Seq.{paste, length-paste}
use Rattle.definitions.specs.Field.{inverse}
use Rattle.definitions.specs.Lists.{map}
use Rattle.definitions.specs.Places.{most_vectors}
use Prim.Native.Nat.{◌+◌, ◌*◌}
use lib.ListN.{length, take, drop, get_or}
use Rattle.ranks.specs.Elimination.{cleared}
use Rattle.constants.specs.elimination.Rows.{row_words, rows_at}
use Rattle.constants.proofs.elimination.Words.{length_row, row_same}
use Rattle.constants.proofs.elimination.Multiples.{length_cleared}
use Rattle.constants.proofs.elimination.Rowwise.{Kept, kept_none, kept_more}
use Rattle.constants.proofs.elimination.clear_rows.Goals as goal

pub loop-k-init : goal.loop-k-init
loop-k-init c =
    let a = c.args in
    (omega arith, refl, kept_none a.n a.b (cleared a.p a.c (row_words a.s.now a.a a.n)) a.s.now)

pub clear-requires : goal.clear-requires
clear-requires c =
    let a = c.args in
    let l = c.loop-k in (
      omega arith,
      omega arith,
      omega arith,
      omega arith,
      c.requires.5
          ∙ ap (λ r. inverse a.p (get_or r a.c 0)) (row_same a.s.now l.s a.a a.n a.b (omega arith) (sym l.invariant.2.0)),
    )

pub loop-k-preserved : goal.loop-k-preserved
loop-k-preserved c =
    let a = c.args in
    let l = c.loop-k in
    let d = a.s.now in
    let at = a.b + l.k * most_vectors in
    let v = row_words l.s a.a a.n in
    let u = row_words l.s at a.n in
    let w = cleared a.p a.c v u in
    let lw : length w ≡ a.n =
    length_cleared a.p a.c v u a.n (length_row l.s a.a a.n (omega arith)) (length_row l.s at a.n (omega arith)) in
    let e : c.clear.new.s ≡ paste l.s at w a.n = c.clear.ensures in
    let we : w ≡ cleared a.p a.c (row_words d a.a a.n) (row_words d at a.n) =
    ap₂ (cleared a.p a.c) (row_same l.s d a.a a.n a.b (omega arith) l.invariant.2.0) (ap (take a.n) l.invariant.2.2) in (
      omega arith,
      ap length e ∙ length-paste l.s at w a.n (omega arith) (omega arith) ∙ l.invariant.1,
      subst (Kept a.n a.b (cleared a.p a.c (row_words d a.a a.n)) d (l.k + 1)) (sym e)
          (kept_more a.n a.b (cleared a.p a.c (row_words d a.a a.n)) d l.s l.k w (omega arith) (omega arith) lw we l.invariant.2),
    )

pub returns : goal.returns
returns c =
    let a = c.args in
    let l = c.loop-k in
    let e : l.k ≡ a.rows = omega arith in
    let f = cleared a.p a.c (row_words a.s.now a.a a.n) in
    (l.invariant.1, subst (λ z. rows_at a.n z (drop a.b l.s) ≡ map f (rows_at a.n z (drop a.b a.s.now))) e l.invariant.2.1)
