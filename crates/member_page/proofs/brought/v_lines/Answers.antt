use native.Mathlib.Omega.{arith}
use mathlib.Core.Path.{◌≡◌, refl, sym, ap, ◌∙◌, subst}
use mathlib.Core.List.{[], ◌∷◌, ◌++◌}
use Prim.Native.Nat.{◌+◌, ◌≤◌}
use lib.ListN.{length, drop}
use mathlib.Core.Option.{some}
use Rattle.definitions.specs.Limits.{document_01}
use Rattle.definitions.specs.Problem.{lines}
use Rattle.definitions.specs.Membership.{v_lines}
use Rattle.definitions.specs.Layout.{rows}
use Rattle.laws.proofs.Results.{IfSome}
use Rattle.laws.proofs.Rows.{length_rows}
use Rattle.words.specs.parameters.Values.{parameters_of}
use Rattle.vectors.proofs.terms.Stored.{rows_appended}
use Rattle.runs.proofs.reduction.Adding.{rows_none}
use Rattle.std.proofs.lemmas.Result.{err_from_is_err_and}
use Rattle.reader.specs.fields.Scanning.{line_as}
use Rattle.reader.specs.lines.Tests.{term_in}
use Rattle.member_page.specs.brought.Lines.{v_first}
use Rattle.after.proofs.Cutting.{behind_less}
use Rattle.member_page.proofs.brought.VLines.{ok_or_ok, ok_or_err, Passed, v_passed, Held, held_more, goes_on, v_step_at}
use lib.ListN.{drop_of_length-le}
use Rattle.member_page.proofs.brought.v_lines.Goals as goal

pub loop-at-init : goal.loop-at-init
loop-at-init c =
    let a = c.args in
    let none : rows a.value.now 0 0 ≡ [] = rows_none a.value.now 0 in
    let z : a.first ≡ a.first + 0 = omega arith in (
      omega arith,
      refl,
      record { terms = length_rows a.value.now 0 0; last_one = λ n. absurd (n refl) },
      λ i. v_lines document_01 (parameters_of a.q) (z i) (sym none i) (lines (drop a.from a.file.now)),
    )

pub v_line-requires : goal.v_line-requires
v_line-requires c = c.requires.0

pub returns-in_err-line : goal.returns-in_err-line
returns-in_err-line c =
    let a = c.args in
    let asked = c.requires in
    let l = c.loop-at in
    let file = a.file.now in
    let q = parameters_of a.q in
    let v = rows l.value 0 l.count in
    let here = v_step_at q asked.0 (a.first + l.count) v l.count l.before l.invariant.2 file l.at c.loop-at-test.true in
    let p = err_from_is_err_and c.from_residual.result c.from_residual.ensures.1 in
    let k = ok_or_err c.v_line.result _ _ (sym c.ok_or.ensures.value ∙ c.in_err-line.was) in
    rw (p.1, p.2, k.1) (
      sym (l.invariant.3 ∙ here ∙ ap (goes_on q asked.0 (a.first + l.count) v l.count l.before l.invariant.2)
          (sym c.v_line.ensures ∙ ap (λ x. line_as x file) k.0)),
      tt,
    )

pub term_said-t-requires : goal.term_said-t-requires
term_said-t-requires c =
    let a = c.args in
    let asked = c.requires in
    let l = c.loop-at in
    let file = a.file.now in
    let q = parameters_of a.q in
    let line = c.in_ok-line.line in
    let k = ok_or_ok c.v_line.result _ _ (sym c.ok_or.ensures.value ∙ c.in_ok-line.was) in
    let test = c.loop-at-test in
    let next = line.next in
    let w = line.numbers in
    let said : some (w, drop next file) ≡ v_first q l.count l.before (drop l.at file) =
    sym (ap (λ x. line_as x file) k) ∙ c.v_line.ensures in
    let passed : Passed l.count (drop l.at file) (w, drop next file) =
    subst (IfSome (Passed l.count (drop l.at file))) (sym said) (v_passed q l.count l.before (drop l.at file)) in
    passed.0

pub put-requires : goal.put-requires
put-requires c =
    let a = c.args in
    let asked = c.requires in
    let l = c.loop-at in
    let file = a.file.now in
    let q = parameters_of a.q in
    let line = c.in_ok-line.line in
    let k = ok_or_ok c.v_line.result _ _ (sym c.ok_or.ensures.value ∙ c.in_ok-line.was) in
    let test = c.loop-at-test in
    let next = line.next in
    let w = line.numbers in
    let said : some (w, drop next file) ≡ v_first q l.count l.before (drop l.at file) =
    sym (ap (λ x. line_as x file) k) ∙ c.v_line.ensures in
    let passed : Passed l.count (drop l.at file) (w, drop next file) =
    subst (IfSome (Passed l.count (drop l.at file))) (sym said) (v_passed q l.count l.before (drop l.at file)) in
    omega (arith, passed.1, asked.2, l.invariant.1)

pub overflow_add-count : goal.overflow_add-count
overflow_add-count c =
    let a = c.args in
    let asked = c.requires in
    let l = c.loop-at in
    let file = a.file.now in
    let q = parameters_of a.q in
    let line = c.in_ok-line.line in
    let k = ok_or_ok c.v_line.result _ _ (sym c.ok_or.ensures.value ∙ c.in_ok-line.was) in
    let test = c.loop-at-test in
    let next = line.next in
    let w = line.numbers in
    let said : some (w, drop next file) ≡ v_first q l.count l.before (drop l.at file) =
    sym (ap (λ x. line_as x file) k) ∙ c.v_line.ensures in
    let passed : Passed l.count (drop l.at file) (w, drop next file) =
    subst (IfSome (Passed l.count (drop l.at file))) (sym said) (v_passed q l.count l.before (drop l.at file)) in
    omega (arith, passed.1)

pub loop-at-smaller : goal.loop-at-smaller
loop-at-smaller c =
    let a = c.args in
    let asked = c.requires in
    let l = c.loop-at in
    let file = a.file.now in
    let q = parameters_of a.q in
    let line = c.in_ok-line.line in
    let k = ok_or_ok c.v_line.result _ _ (sym c.ok_or.ensures.value ∙ c.in_ok-line.was) in
    let test = c.loop-at-test in
    let next = line.next in
    let w = line.numbers in
    let said : some (w, drop next file) ≡ v_first q l.count l.before (drop l.at file) =
    sym (ap (λ x. line_as x file) k) ∙ c.v_line.ensures in
    let passed : Passed l.count (drop l.at file) (w, drop next file) =
    subst (IfSome (Passed l.count (drop l.at file))) (sym said) (v_passed q l.count l.before (drop l.at file)) in
    omega (arith, ap length passed.2, behind_less file l.at test.true)

pub loop-at-preserved : goal.loop-at-preserved
loop-at-preserved c =
    let a = c.args in
    let asked = c.requires in
    let l = c.loop-at in
    let file = a.file.now in
    let q = parameters_of a.q in
    let line = c.in_ok-line.line in
    let k = ok_or_ok c.v_line.result _ _ (sym c.ok_or.ensures.value ∙ c.in_ok-line.was) in
    let test = c.loop-at-test in
    let next = line.next in
    let w = line.numbers in
    let said : some (w, drop next file) ≡ v_first q l.count l.before (drop l.at file) =
    sym (ap (λ x. line_as x file) k) ∙ c.v_line.ensures in
    let passed : Passed l.count (drop l.at file) (w, drop next file) =
    subst (IfSome (Passed l.count (drop l.at file))) (sym said) (v_passed q l.count l.before (drop l.at file)) in
    let put-there = c.put in
    let term-there = c.term_said-t in
    let v = rows l.value 0 l.count in
    let here = v_step_at q asked.0 (a.first + l.count) v l.count l.before l.invariant.2 file l.at test.true in
    let more : rows put-there.new.s 0 (l.count + 1) ≡ v ++ term_in w ∷ [] =
    ap (λ s. rows s 0 (l.count + 1)) put-there.ensures.0
    ∙ rows_appended l.value l.count _ (omega (arith, passed.1, asked.2, l.invariant.1)) put-there.ensures.1
    ∙ ap (λ t. v ++ t ∷ []) term-there.ensures in
    let z : a.first + l.count + 1 ≡ a.first + (l.count + 1) = omega arith in (
      omega (arith, passed.1),
      omega (arith, l.invariant.1),
      subst (λ u. Held u (l.count + 1) w) (sym more) (held_more v l.count l.before w l.invariant.2),
      l.invariant.3 ∙ here ∙ sym (ap (goes_on q asked.0 (a.first + l.count) v l.count l.before l.invariant.2) said)
          ∙ (λ i. v_lines document_01 q (z i) (sym more i) (lines (drop next file))),
    )

pub shape_of-value : goal.shape_of-value
shape_of-value c = omega (arith, c.loop-at.invariant.1)

pub returns : goal.returns
returns c =
    let a = c.args in
    let l = c.loop-at in
    let over : length a.file.now ≤ l.at = omega arith in (
      sym (l.invariant.3 ∙ ap (λ z. v_lines document_01 (parameters_of a.q) (a.first + l.count) (rows l.value 0 l.count) (lines z))
          (drop_of_length-le a.file.now over)),
      l.invariant.0,
    )
