use native.Mathlib.Omega.{arith}
use mathlib.Core.Path.{◌≡◌, sym, ap, ◌∙◌, subst}
use mathlib.Core.Bool.{true, false}
use mathlib.Core.Option.{none, some}
use Rattle.std.specs.Prelude.{Some, None, Err}
use Rattle.words.specs.declared.refusals.Refusal.TheVariants.{Exponent}
use Rattle.definitions.specs.Lists.{choose}
use Rattle.reducers.specs.search.Search.{multiple_of}
use Rattle.runs.proofs.reduction.Adding.{fits_as, formed_as, unformed}
use Rattle.runs.specs.reduction.Grounds.{reduction_of, added_of, Within}
use Rattle.definitions.specs.Packed.{unpack}
use Rattle.definitions.specs.Layout.{row_at, rows}
use Rattle.vectors.specs.terms.Rows.{term_of}
use Rattle.definitions.specs.Run.{dropped?, unless_dropped, if_fits, add_term, multiple}
use Rattle.definitions.specs.Monomial.{fits?}
use Rattle.definitions.specs.Places.{most_exponent}
use Rattle.runs.proofs.reduction.add_product.Goals as goal

pub returns-in_err-t : goal.returns-in_err-t
returns-in_err-t c =
    let a = c.args in
    let R = reduction_of a.g a.tables.now in
    let t = multiple a.g.p a.c (unpack a.q) (row_at a.level.now a.i) in
    let v = rows a.value.now 0 a.n in
    let n : c.multiplied.result ≡ None = grind arith in
    let r : c.from_residual.result ≡ Err Exponent = grind arith in
    let f : fits? most_exponent t.1.0 ≡ false = unformed (fits? most_exponent t.1.0) t (sym (ap multiple_of n) ∙ c.multiplied.ensures) in
    subst (λ x. (added_of x a.value.now ≡ add_term R a.drops t v) × Within a.g.working x) (sym r) (sym (ap (λ b. if_fits b R a.drops t v) f), tt)

pub returns : goal.returns
returns c =
    let a = c.args in
    let R = reduction_of a.g a.tables.now in
    let t = multiple a.g.p a.c (unpack a.q) (row_at a.level.now a.i) in
    let v = rows a.value.now 0 a.n in
    let x = c.in_ok-t.t in
    let n : c.multiplied.result ≡ Some x = grind arith in
    let e : some (term_of x) ≡ choose (fits? most_exponent t.1.0) (some t) none = sym (ap multiple_of n) ∙ c.multiplied.ensures in
    let u : term_of x ≡ t = formed_as (fits? most_exponent t.1.0) (term_of x) t e in
    let f : fits? most_exponent t.1.0 ≡ true = fits_as (fits? most_exponent t.1.0) (term_of x) t e in (
      c.add_fitting.ensures.0 ∙ ap (λ w. unless_dropped (dropped? R a.drops w.1) R w v) u ∙ sym (ap (λ b. if_fits b R a.drops t v) f),
      c.add_fitting.ensures.1,
    )
