use native.Mathlib.Omega.{arith}
use mathlib.Core.Path.{sym, ap, ◌∙◌, subst}
use Prim.Native.Nat.{◌≤◌}
use lib.Dec.{T}
use Rattle.definitions.specs.Limits.{document_01}
use Rattle.definitions.specs.Lists.{◌and◌}
use Rattle.definitions.specs.Monomial.{fits?}
use Rattle.definitions.specs.Layout.{degrees_at, holds_state?}
use Rattle.definitions.specs.Places.{most_degree}
use Rattle.laws.proofs.Tests.{is_true, false_is}
use Rattle.state.specs.soundness.Holding.{basis_holds?}
use Rattle.state.specs.degrees.Carrying.{levels_carry?}
use Rattle.state.proofs.soundness.Pointwise.{same_test}
use Rattle.state.proofs.soundness.StateTests.{holds_said}
use Rattle.state.proofs.degrees.Carried.{few_components, basis_parts, whole_shown, whole_said}
use Rattle.state.proofs.soundness.sound.Goals.{then-h-eq0-via-then-h-eq0, then-h-eq0-via-else-h-eq0+then-h-gt-ALL_LEVELS}
use Rattle.state.proofs.soundness.sound.Goals as goal

pub returns-then-h-eq0 : goal.returns-then-h-eq0
returns-then-h-eq0 c =
    let s = c.args.state.now in
    sym (false_is (holds_state? document_01 s) (λ t. let x = holds_said s c.requires t in elim c.then-h-eq0.branch [
      | then-h-eq0-via-then-h-eq0 w ↦ omega (arith, c.place-h.ensures.0, w.if-h-eq0.true)
      | then-h-eq0-via-else-h-eq0+then-h-gt-ALL_LEVELS w ↦ omega (arith, c.place-h.ensures.0, w.if-h-gt-ALL_LEVELS.true)
    ]))

pub hold-requires : goal.hold-requires
hold-requires c =
    let s = c.args.state.now in
    let p = basis_parts s c.requires c.place-h.result (is_true (sym c.basis_holds.ensures ∙ c.if-basis_holds.true)) in
    (c.requires, c.if-h-gt-ALL_LEVELS.false, few_components s c.requires p.1, p.2)

pub returns-then-basis_holds : goal.returns-then-basis_holds
returns-then-basis_holds c =
    let s = c.args.state.now in
    let h = c.place-h.result in
    let e = sym c.place-h.ensures.0 in
    let b : T (basis_holds? s h) = is_true (sym c.basis_holds.ensures ∙ c.if-basis_holds.true) in
    let l : 1 ≤ h = omega (arith, c.if-h-eq0.false) in
    c.hold.ensures ∙ same_test (fits? most_degree (degrees_at document_01 s) and levels_carry? s h) (holds_state? document_01 s)
    (λ t. whole_shown s c.requires h e l c.if-h-gt-ALL_LEVELS.false b t)
    (λ t. subst (λ n. T (fits? most_degree (degrees_at document_01 s) and levels_carry? s n)) e (whole_said s c.requires t).1)

pub returns-else-basis_holds : goal.returns-else-basis_holds
returns-else-basis_holds c =
    let s = c.args.state.now in
    c.if-basis_holds.false ∙ sym (false_is (holds_state? document_01 s) (λ t.
    subst T (ap (basis_holds? s) (sym c.place-h.ensures.0) ∙ sym c.basis_holds.ensures ∙ c.if-basis_holds.false)
    (whole_said s c.requires t).0))
