use native.Mathlib.Omega.{arith}
use mathlib.Core.Path.{sym, ap, ◌∙◌}
use lib.ListN.{get_or}
use Rattle.testing.specs.Leaves.{counted, lower_mark}
use Rattle.reducers.specs.search.Search.{searched}
use Rattle.definitions.specs.Layout.{rows, row_at, level_at}
use Rattle.definitions.specs.Reducer.{heads}
use Rattle.definitions.specs.Lists.{choose}
use Rattle.definitions.specs.Limits.{document_01}
use Rattle.state.proofs.preparing.TablesReady.{components_few}
use Rattle.state.proofs.soundness.SoundLevels.{height, complete_cut}
use Rattle.testing.proofs.LeavesCalls.{ready_said, led_spans}
use Rattle.testing.proofs.leaves.leaves_lower.Goals as goal

pub fill_leads-requires : goal.fill_leads-requires
fill_leads-requires c =
    let a = c.args in
    let S = a.state.now in
    let e = sym c.ready.ensures ∙ c.if-not-ready.false in
    let t = ready_said S a.k a.s.now a.n e in
    (t.long, t.sound, t.level, omega arith, omega arith)

pub count_of-r-requires : goal.count_of-r-requires
count_of-r-requires c =
    let a = c.args in
    let S = a.state.now in
    let e = sym c.ready.ensures ∙ c.if-not-ready.false in
    let t = ready_said S a.k a.s.now a.n e in
    let h = height S t.long t.sound in
    (t.long, omega (arith, t.level, h))

pub components_of-c-requires : goal.components_of-c-requires
components_of-c-requires c =
    let a = c.args in
    let S = a.state.now in
    let e = sym c.ready.ensures
    ∙ c.if-not-ready.false in
    let t = ready_said S a.k a.s.now a.n e in
    let h = height S t.long t.sound in
    (t.long, omega (arith, t.level, h))

pub overflow_add-c : goal.overflow_add-c
overflow_add-c c =
    let a = c.args in
    let S = a.state.now in
    let e = sym c.ready.ensures
    ∙ c.if-not-ready.false in
    let t = ready_said S a.k a.s.now a.n e in
    omega (arith, c.components_of-c.ensures, components_few S t.long t.sound a.k t.level)

pub count_lower-requires : goal.count_lower-requires
count_lower-requires c =
    let a =
    c.args in
    let ready-there =
    c.ready in
    let if1-there =
    c.if-not-ready in
    let S = a.state.now in
    let e = sym ready-there.ensures
    ∙ if1-there.false in
    let t = ready_said S a.k a.s.now a.n e in
    let l = led_spans S a.k c.count_of-r.result c.components_of-c.result
    c.fill_leads.new.heads
    c.fill_leads.new.spans c.count_of-r.ensures
    c.components_of-c.ensures c.fill_leads.ensures in (
      omega (arith, c.count_of-r.ensures, (complete_cut S t.long t.sound a.k t.level).0),
      omega (arith, c.components_of-c.ensures, components_few S t.long t.sound a.k t.level),
      l,
      omega (arith, t.enough),
    )

pub returns : goal.returns
returns c =
    let a =
    c.args in
    let ready-there =
    c.ready in
    let if1-there =
    c.if-not-ready in
    let S = a.state.now in
    let e = sym ready-there.ensures
    ∙ if1-there.false in
    let t = ready_said S a.k a.s.now a.n e in
    c.count_lower.ensures ∙ ap (λ v. counted (λ i. lower_mark (searched v (row_at a.s.now i).1)) a.n)
    (ap (rows c.fill_leads.new.heads 0)
    c.count_of-r.ensures ∙ c.fill_leads.ensures.made)
    ∙ sym (ap (λ b. choose b (counted (λ i. lower_mark (searched (heads (get_or S 0 0) (level_at document_01 S a.k)) (row_at a.s.now i).1))
    a.n) 0) e)
