use mathlib.Core.Path.{ap, subst}
use Prim.Native.Nat.{◌+◌}
use lib.ListN.{length, set}
use Rattle.std.specs.Prelude.{unwrap_or}
use Rattle.vectors.specs.terms.Rows.{term_of}
use Rattle.constants.specs.filling.Entries.{Entered}
use Rattle.constants.proofs.filling.Entering.{entered_none, entered_here}
use Rattle.constants.proofs.filling.fill_term.Goals as goal

pub returns-in-Some : goal.returns-in-Some
returns-in-Some c =
    let a = c.args in
    let es = a.below.now in
    let k = c.in-Some in
    let t = c.row-t in
    subst (λ u. Entered a.m.now a.at es a.d u (set a.m.now (a.at + k.c) t.result.coefficient)) t.ensures
    (entered_here a.m.now a.at es a.d (term_of t.result) k.c k.ensures.1 k.ensures.0)

pub returns-in_default : goal.returns-in_default
returns-in_default c =
    let a = c.args in
    let es = a.below.now in
    let k = c.constant_column in
    let t = c.row-t in
    subst (λ u. Entered a.m.now a.at es a.d u a.m.now) t.ensures
    (entered_none a.m.now a.at es a.d (term_of t.result) (unwrap_or k.result (length es)) k.ensures.1
    (ap (λ o. unwrap_or o (length es)) c.in_default.is))
