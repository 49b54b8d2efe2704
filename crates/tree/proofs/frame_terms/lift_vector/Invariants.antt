use mathlib.Core.Path.{◌≡◌}
use Prim.Native.Nat.{◌-◌, ◌≤◌}
use lib.ListN.{length}
use Rattle.definitions.specs.Packed.{unpack}
use Rattle.definitions.specs.Layout.{rows}
use Rattle.definitions.specs.Tree.{lift_term, lift_vector as vector_definition}
use Rattle.orders.specs.Images.{table_of, table_order}
use Rattle.runs.specs.reduction.Grounds.{above_in}
use Rattle.runs.specs.run.Stages.{stage_of}
use Rattle.cache.specs.Entries.{cache_of}
use Rattle.tree.proofs.frame_terms.Filling.{filling_from}
use Rattle.tree.proofs.frame_terms.lift_vector.Given as goal

abbrev pub invariant-loop-i : goal.invariant-loop-i
invariant-loop-i l =
    (l.k ≤ l.g.vector) × (l.v ≤ l.room) × (length l.vector ≡ length l.initial.vector) × (length l.cache ≡ length l.initial.cache) ×
    (length l.work ≡ length l.initial.work) ×
    (vector_definition (stage_of l.g l.level l.tables (table_order l.g.code (table_of l.g.r (above_in l.tables))))
    (lift_term (stage_of l.g l.level l.tables (table_order l.g.code (table_of l.g.r (above_in l.tables)))) l.room l.g.tree) 1 (unpack l.q)
    (rows l.level l.from (l.to - l.from)) (rows l.initial.vector 0 l.n, cache_of l.used l.initial.cache)
    ≡ filling_from (stage_of l.g l.level l.tables (table_order l.g.code (table_of l.g.r (above_in l.tables))))
    (lift_term (stage_of l.g l.level l.tables (table_order l.g.code (table_of l.g.r (above_in l.tables)))) l.room l.g.tree) (unpack l.q) l.level l.to l.i
    (rows l.vector 0 l.k, cache_of l.v l.cache))
