use native.Mathlib.Omega.{arith}
use mathlib.Core.Path.{subst}
use Rattle.std.specs.Prelude.{Ok}
use Rattle.definitions.specs.Layout.{rows}
use Rattle.orders.specs.Images.{table_of, table_order}
use Rattle.runs.specs.reduction.Grounds.{above_in}
use Rattle.cache.specs.Entries.{Sized}
use Rattle.tree.proofs.subtrees.Joining.{fits_joined}
use Rattle.tree.proofs.frame_terms.Filling.{cached_fills, waiting_fills}
use Rattle.tree.proofs.frame_terms.add_result.Goals as goal

pub returns-in-Cached : goal.returns-in-Cached
returns-in-Cached c =
    let a = c.args in
    let P = c.requires in
    let g = a.g in
    let z = subst (λ y. Sized 0 g.tree a.room (Ok y)) c.in-Cached.is P.5 in
    let O = table_order g.code (table_of g.r (above_in a.tables.now)) in
    let total = rows a.vector.now 0 a.n in
    let x = c.add_rows-x in
    let u = c.in-Cached.used in (
      cached_fills O g.p g.vector a.c g.tree total a.cache.now a.work.now x.new.s
          c.in-Cached.from
          c.in-Cached.len u x.result a.s c.joined.result _
          c.in-Cached.is c.joined.ensures
          c.held-part.ensures x.ensures.0,
      fits_joined 0 g.vector g.vector a.room u x.result c.joined.result c.joined.ensures x.ensures.1 (omega arith) z.1,
    )

pub returns-in-Waiting : goal.returns-in-Waiting
returns-in-Waiting c =
    let a = c.args in
    let P = c.requires in
    let g = a.g in
    let z = subst (λ y. Sized 0 g.tree a.room (Ok y)) c.in-Waiting.is P.5 in
    let O = table_order g.code (table_of g.r (above_in a.tables.now)) in
    let total = rows a.vector.now 0 a.n in
    let x = c.add_rows-x-in-Waiting in
    let u = c.in-Waiting.used in (
      waiting_fills O g.p g.vector a.c g.tree total a.cache.now a.work.now x.new.s
          c.in-Waiting.len u x.result a.s c.joined-in-Waiting.result _
          c.in-Waiting.is c.joined-in-Waiting.ensures
          c.held-part-in-Waiting.ensures x.ensures.0,
      fits_joined 0 g.vector g.vector a.room u x.result c.joined-in-Waiting.result c.joined-in-Waiting.ensures x.ensures.1 (omega arith) z.1,
    )
