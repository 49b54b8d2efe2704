use mathlib.Core.Path.{◌≡◌}
use Prim.Native.Nat.{◌+◌, ◌-◌, ◌*◌, ◌≤◌}
use lib.ListN.{length}
use Rattle.definitions.specs.Packed.{unpack}
use Rattle.definitions.specs.Layout.{rows}
use Rattle.definitions.specs.Tree.{lift_term as term_definition, lift_list as list_definition}
use Rattle.orders.specs.Images.{table_of, table_order}
use Rattle.runs.specs.reduction.Grounds.{above_in}
use Rattle.runs.specs.run.Stages.{stage_of}
use Rattle.cache.specs.Area.{Keeps}
use Rattle.cache.specs.Entries.{cache_of}
use Rattle.tree.proofs.subtrees.Lifting.{listing_from}
use Rattle.tree.proofs.subtrees.+lift_list_lift_term_open_subtree.Given as goal

abbrev pub decreases-lift_list : goal.decreases-lift_list
decreases-lift_list l = l.left * 3 + 2

abbrev pub decreases-lift_term : goal.decreases-lift_term
decreases-lift_term l = l.left * 3 + 1

abbrev pub decreases-open_subtree : goal.decreases-open_subtree
decreases-open_subtree l = l.left * 3

abbrev pub invariant-lift_list-loop-i : goal.invariant-lift_list-loop-i
invariant-lift_list-loop-i l =
    (l.a + l.k ≤ l.g.tree) × (l.v ≤ l.room) × (length l.cache ≡ length l.initial.cache) × (length l.work ≡ length l.initial.work) ×
    Keeps l.a l.initial.work l.work ×
    (list_definition (stage_of l.g l.level l.tables (table_order l.g.code (table_of l.g.r (above_in l.tables))))
    (term_definition (stage_of l.g l.level l.tables (table_order l.g.code (table_of l.g.r (above_in l.tables)))) l.room l.left) l.a l.c (unpack l.q)
    (rows l.level l.from (l.to - l.from)) (rows l.initial.work l.a l.n, cache_of l.used l.initial.cache)
    ≡ listing_from (stage_of l.g l.level l.tables (table_order l.g.code (table_of l.g.r (above_in l.tables))))
    (term_definition (stage_of l.g l.level l.tables (table_order l.g.code (table_of l.g.r (above_in l.tables)))) l.room l.left) l.a l.c
    (unpack l.q) l.level l.to l.i
    (rows l.work l.a l.k, cache_of l.v l.cache))
