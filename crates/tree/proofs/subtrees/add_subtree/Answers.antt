use native.Mathlib.Omega.{arith}
use mathlib.Core.Path.{subst}
use Rattle.std.specs.Prelude.{Ok}
use Prim.Native.Nat.{◌+◌, ◌-◌}
use Rattle.definitions.specs.Layout.{rows}
use Rattle.orders.specs.Images.{table_of, table_order}
use Rattle.runs.specs.reduction.Grounds.{above_in}
use Rattle.cache.specs.Entries.{Sized}
use Rattle.tree.proofs.subtrees.Joining.{fits_joined, cached_joins, waiting_joins}
use Rattle.tree.proofs.subtrees.add_subtree.Goals as goal

pub returns-in-Cached : goal.returns-in-Cached
returns-in-Cached c =
    let a = c.args in
    let P = c.requires in
    let g = a.g in
    let z = subst (λ y. Sized (a.a + a.n) g.tree a.room (Ok y)) c.in-Cached.is P.4 in
    let O = table_order g.code (table_of g.r (above_in a.tables.now)) in
    let total = rows a.work.now a.a a.n in
    let x = c.add_part-x in (
      cached_joins O g.p g.tree a.a a.c total a.cache.now a.work.now x.new.work
          c.in-Cached.from c.in-Cached.len
          c.in-Cached.used x.result a.s c.joined.result
          c.in-Cached.is c.joined.ensures x.ensures.0,
      fits_joined a.a g.tree g.tree a.room c.in-Cached.used x.result
          c.joined.result c.joined.ensures x.ensures.1 (omega arith) z.1,
      x.ensures.2,
    )

pub returns-in-Waiting : goal.returns-in-Waiting
returns-in-Waiting c =
    let a = c.args in
    let P = c.requires in
    let g = a.g in
    let z = subst (λ y. Sized (a.a + a.n) g.tree a.room (Ok y)) c.in-Waiting.is P.4 in
    let O = table_order g.code (table_of g.r (above_in a.tables.now)) in
    let total = rows a.work.now a.a a.n in
    let x = c.add_part-x-in-Waiting in
    let n = c.in-Waiting.len in
    let u = c.in-Waiting.used in (
      waiting_joins O g.p g.tree a.a a.c total a.cache.now a.work.now x.new.work n u x.result a.s c.joined-in-Waiting.result
          c.in-Waiting.is c.joined-in-Waiting.ensures x.ensures.0,
      fits_joined a.a (g.tree - n) g.tree a.room u x.result c.joined-in-Waiting.result c.joined-in-Waiting.ensures x.ensures.1 (omega arith)
          z.1,
      x.ensures.2,
    )
