use borrow.Author.Rules.{rules}
use native.Mathlib.Omega.{arith}
use mathlib.Core.Path.{◌≡◌, ap, ◌∙◌}
use Prim.Native.Nat.{◌-◌}
use Rattle.completing.specs.adding.Additions.{heads_in}
use Rattle.completing.proofs.adding.Longer.{too_long_at, too_many_at, fits_at}
use Rattle.completing.proofs.adding.test.Goals as goal

pub returns-then-end-gt-FILE_LENGTH : goal.returns-then-end-gt-FILE_LENGTH
returns-then-end-gt-FILE_LENGTH c =
    let a = c.args in
    let P = c.requires in
    (too_long_at a.out.now (heads_in a.out.now a.at a.count) a.total a.end P.1 (omega arith), tt)

pub lines_in-requires : goal.lines_in-requires
lines_in-requires c = omega (arith, c.requires.0, c.requires.1)

pub overflow_add-result : goal.overflow_add-result
overflow_add-result c = omega (arith, c.saturating_sub-heads.ensures, c.lines_in.ensures.1, c.requires.2)

pub overflow_add-result-then-total-gt-MOST_ROWS : goal.overflow_add-result-then-total-gt-MOST_ROWS
overflow_add-result-then-total-gt-MOST_ROWS c = omega (arith, c.saturating_sub-heads.ensures, c.lines_in.ensures.1, c.requires.2)

pub returns-then-total-gt-MOST_ROWS : goal.returns-then-total-gt-MOST_ROWS
returns-then-total-gt-MOST_ROWS c =
    let a = c.args in
    let P = c.requires in
    let k = c.lines_in.ensures.0 in
    let h : c.saturating_sub-heads.result ≡ heads_in a.out.now a.at a.count = c.saturating_sub-heads.ensures ∙ ap (λ n. n - a.count) k in
    (too_many_at a.out.now (heads_in a.out.now a.at a.count) a.total a.end P.1 (omega arith) (omega arith) _ (omega (arith, h)), tt)

pub returns : goal.returns
returns c =
    let a = c.args in
    let P = c.requires in
    (fits_at a.out.now (heads_in a.out.now a.at a.count) a.total a.end P.1 (omega arith) (omega arith), omega arith)
