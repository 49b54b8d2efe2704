use native.Mathlib.Omega.{arith}
use mathlib.Core.Path.{sym, ap, ◌∙◌}
use Prim.Native.Nat.{◌+◌}
use lib.Seq.{length-take-le}
use Rattle.definitions.specs.Layout.{rows}
use Rattle.words.specs.parameters.Values.{parameters_of}
use Rattle.member_page.proofs.whole.Whole.{few, brought_is, brought_good, lines_bad, lines_taken}
use Rattle.member_page.proofs.whole.print_vector.Goals as goal

pub slice_bounds-lines_in-end : goal.slice_bounds-lines_in-end
slice_bounds-lines_in-end c =
    let a = c.args in
    let asked = c.requires in
    sym (length-take-le a.end a.input.now asked.3)

pub overflow_add-first : goal.overflow_add-first
overflow_add-first c =
    let a = c.args in
    let asked = c.requires in
    omega (arith, asked.4, c.lines_in-first.ensures.1, length-take-le a.end a.input.now asked.3)

pub v_lines-requires : goal.v_lines-requires
v_lines-requires c =
    let a = c.args in
    let asked = c.requires in (
      omega (arith, few a.state.now asked.0 asked.1, c.parameters_in-q.ensures.1),
      omega (arith, asked.4, c.lines_in-first.ensures.1, length-take-le a.end a.input.now asked.3),
      omega (arith, asked.5),
    )

pub print_division-requires : goal.print_division-requires
print_division-requires c =
    let a =
    c.args in
    let asked =
    c.requires in
    let q-there =
    c.parameters_in-q in
    let lines-there =
    c.lines_in-first in
    let v-there = c.v_lines in
    let s = a.state.now in
    let input = a.input.now in
    let said = q-there.ensures in
    let is = brought_is s asked.0 asked.1 input (parameters_of q-there.result) said.0 said.1 said.2 said.3 a.end
    (lines-there.result + 1) asked.2 (ap (λ k. k + 1) lines-there.ensures.0) in (
      asked.0,
      asked.1,
      omega (arith, asked.5),
      c.in-Ok.ensures.1,
      brought_good s asked.0 asked.1 input (rows v-there.new.value 0 c.in-Ok.n)
          (c.in-Ok.ensures.0 ∙ is),
      omega (arith, asked.6),
    )

pub returns-in-Ok : goal.returns-in-Ok
returns-in-Ok c =
    let a =
    c.args in
    let asked =
    c.requires in
    let q-there =
    c.parameters_in-q in
    let lines-there =
    c.lines_in-first in
    let v-there =
    c.v_lines in
    let s = a.state.now in
    let input = a.input.now in
    let said = q-there.ensures in
    let is = brought_is s asked.0 asked.1 input (parameters_of q-there.result) said.0 said.1 said.2 said.3 a.end
    (lines-there.result + 1) asked.2 (ap (λ k. k + 1) lines-there.ensures.0) in
    let p = c.print_division in (
      lines_taken s asked.0 asked.1 input (rows v-there.new.value 0 c.in-Ok.n)
          (c.in-Ok.ensures.0 ∙ is) p.ensures.0,
      p.ensures.1,
    )

pub returns-in-Err : goal.returns-in-Err
returns-in-Err c =
    let a =
    c.args in
    let asked =
    c.requires in
    let q-there =
    c.parameters_in-q in
    let lines-there =
    c.lines_in-first in
    let v-there =
    c.v_lines in
    let s = a.state.now in
    let input = a.input.now in
    let said = q-there.ensures in
    let is = brought_is s asked.0 asked.1 input (parameters_of q-there.result) said.0 said.1 said.2 said.3 a.end
    (lines-there.result + 1) asked.2 (ap (λ k. k + 1) lines-there.ensures.0) in
    let p = c.x_line in (
      lines_bad s asked.0 asked.1 input c.in-Err.place
          (c.in-Err.ensures.0 ∙ is) p.ensures.0,
      omega (arith, p.ensures.1),
    )
