use native.Mathlib.Omega.{arith}
use mathlib.Core.Path.{sym, ap, ◌∙◌}
use mathlib.Core.List.{[]}
use Prim.Native.Nat.{suc, ◌<◌}
use lib.ListN.{length, get_or}
use Rattle.testing.specs.Leaves.{sorted}
use Rattle.orders.specs.Levels.{images}
use Rattle.orders.specs.Images.{table_of, table_order}
use Rattle.definitions.specs.Layout.{rows, levels_at}
use Rattle.definitions.specs.Vectors.{descending}
use Rattle.definitions.specs.Lists.{choose}
use Rattle.definitions.specs.Limits.{document_01}
use Rattle.definitions.specs.Places.{all_levels, row_length}
use Prim.Native.Nat.{◌/◌}
use borrow.Author.Tests.{lt-ltb, le-ltb}
use Rattle.state.proofs.soundness.SoundLevels.{height, prime_above}
use Rattle.testing.proofs.LeavesCalls.{ready_said, rows_none, table_ready, table_bounded}
use Rattle.testing.proofs.leaves.leaves_sort.Goals.{then-d-n-via-then-d-n, then-d-n-via-else-d-n+then-not-ready}
use Rattle.testing.proofs.leaves.leaves_sort.Goals as goal

pub returns-then-d-n : goal.returns-then-d-n
returns-then-d-n c =
    let a = c.args in
    let S = a.state.now in
    elim c.then-d-n.branch [
      | then-d-n-via-then-d-n w ↦ rows_none a.d.now
          ∙ sym (ap (λ b. choose b [] (sorted S a.k a.s.now a.n)) (lt-ltb (length a.d.now / row_length) a.n w.if-d-n.true))
      | then-d-n-via-else-d-n+then-not-ready w ↦ rows_none a.d.now ∙ sym (λ i. choose (le-ltb (length a.d.now / row_length) a.n w.if-d-n.false i) []
          (choose ((sym w.ready.ensures ∙ w.if-not-ready.true) i) (descending
          (table_order (get_or S 2 0) (images (levels_at document_01 S (suc a.k)))) (get_or S 0 0) (rows a.s.now 0 a.n)) []))
    ]

pub overflow_add-k : goal.overflow_add-k
overflow_add-k c =
    let a = c.args in
    let S = a.state.now in
    let e = sym c.ready.ensures ∙ c.if-not-ready.false in
    let t = ready_said S a.k a.s.now a.n e in
    let h = height S t.long t.sound in
    omega (arith, t.level, h)

pub fill_tables-requires : goal.fill_tables-requires
fill_tables-requires c =
    let a = c.args in
    let S = a.state.now in
    let e = sym c.ready.ensures ∙ c.if-not-ready.false in
    let t = ready_said S a.k a.s.now a.n e in
    (t.long, t.sound, omega (arith, t.level), omega arith, omega arith)

pub count_of-r-requires : goal.count_of-r-requires
count_of-r-requires c =
    let a = c.args in
    let S = a.state.now in
    let e = sym c.ready.ensures ∙ c.if-not-ready.false in
    let t = ready_said S a.k a.s.now a.n e in
    let h = height S t.long t.sound in
    (t.long, omega (arith, t.level, h))

pub bounds-state-2 : goal.bounds-state-2
bounds-state-2 c =
    let a =
    c.args in
    let S = a.state.now in
    let e = sym c.ready.ensures
    ∙ c.if-not-ready.false in
    let t = ready_said S a.k a.s.now a.n e in
    omega (arith, t.long)

pub bounds-state-0 : goal.bounds-state-0
bounds-state-0 c =
    let a =
    c.args in
    let ready-there =
    c.ready in
    let S = a.state.now in
    let e = sym ready-there.ensures
    ∙ c.if-not-ready.false in
    let t = ready_said S a.k a.s.now a.n e in
    omega (arith, t.long)

pub sort-requires : goal.sort-requires
sort-requires c =
    let a =
    c.args in
    let ready-there =
    c.ready in
    let if2-there =
    c.if-not-ready in
    let if1-there =
    c.if-d-n in
    let S = a.state.now in
    let e = sym ready-there.ensures
    ∙ if2-there.false in
    let t = ready_said S a.k a.s.now a.n e in
    let h = height S t.long t.sound in
    let m : a.k < all_levels = omega (arith, t.level, h) in
    let l = table_ready S a.k c.fill_tables.new.below
    c.fill_tables.new.above
    c.fill_tables.ensures in (
      omega (arith, prime_above S t.long t.sound),
      omega (arith, t.enough),
      omega (arith, if1-there.false),
      omega (arith, l.few, c.count_of-r.ensures),
      table_bounded S a.k c.count_of-r.result
          c.fill_tables.new.above m
          c.count_of-r.ensures l,
    )

pub returns : goal.returns
returns c =
    let a =
    c.args in
    let ready-there =
    c.ready in
    let if2-there =
    c.if-not-ready in
    let fill-tables-there =
    c.fill_tables in
    let if1-there =
    c.if-d-n in
    let S = a.state.now in
    let e = sym ready-there.ensures
    ∙ if2-there.false in
    let t = ready_said S a.k a.s.now a.n e in
    let l = table_ready S a.k fill-tables-there.new.below
    fill-tables-there.new.above
    fill-tables-there.ensures in
    c.sort.ensures ∙ ap (λ x. descending (table_order (get_or S 2 0) x) (get_or S 0 0) (rows a.s.now 0 a.n))
    (ap (λ m. table_of m fill-tables-there.new.above)
    c.count_of-r.ensures ∙ l.made)
    ∙ sym (λ i. choose (le-ltb (length a.d.now / row_length) a.n
    if1-there.false i) []
    (choose (e i) (descending (table_order (get_or S 2 0) (images (levels_at document_01 S (suc a.k)))) (get_or S 0 0) (rows a.s.now 0 a.n))
    []))
