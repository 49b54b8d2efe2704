use mathlib.Core.Path.{◌≡◌, sym, ap, ◌∙◌}
use Rattle.definitions.specs.Monomial.{fits?}
use Rattle.definitions.specs.Layout.{rows}
use Rattle.definitions.specs.Places.{most_exponent}
use Rattle.vectors.specs.sums.Places.{seek}
use Rattle.replaying.specs.picks.Named.{named}
use Rattle.replaying.proofs.picks.Naming.{nowhere}
use borrow.Author.Rules.{rules}
use Rattle.replaying.proofs.picks.place_of.Goals as goal

pub term_said-t-requires : goal.term_said-t-requires
term_said-t-requires c = sym (ap (fits? most_exponent) c.exponents.ensures) ∙ sym c.fits.ensures ∙ c.if-not-fits.false

pub returns : goal.returns
returns c =
    let a = c.args in
    c.find.ensures ∙ ap (λ x. seek x (rows a.value.now 0 a.m) 0) (ap (λ t. t.1)
    (c.term_said-t.ensures ∙ c.as_term-w.ensures))

pub returns-then-not-fits : goal.returns-then-not-fits
returns-then-not-fits c =
    let a = c.args in
    nowhere (named a.n a.v) a.value.now a.m
    (sym (ap (λ t. fits? most_exponent t.1.0) c.as_term-w.ensures) ∙ sym
    (ap (fits? most_exponent) c.exponents.ensures)
    ∙ sym c.fits.ensures ∙ c.if-not-fits.true)
