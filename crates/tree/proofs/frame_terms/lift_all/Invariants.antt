use mathlib.Core.Path.{◌≡◌}
use mathlib.Core.List.{[]}
use Prim.Native.Nat.{◌≤◌}
use lib.ListN.{length}
use Rattle.definitions.specs.Tree.{tree as tree_definition}
use Rattle.definitions.specs.Lifting.{lift_all as lift_all_definition}
use Rattle.orders.specs.Images.{table_of, table_order}
use Rattle.runs.specs.reduction.Grounds.{above_in}
use Rattle.runs.specs.run.Stages.{stage_of}
use Rattle.cache.specs.Entries.{cache_of}
use Rattle.runs.specs.frame_terms.Vectors.{lifted_vectors, Kept, frame_terms}
use Rattle.tree.proofs.frame_terms.OneVectorMore.{all_from}
use Rattle.tree.proofs.frame_terms.lift_all.Given as goal

abbrev pub invariant-loop-i : goal.invariant-loop-i
invariant-loop-i l =
    (l.i ≤ l.count) × (l.used ≤ l.g.room) × (l.u ≤ l.room) × (length l.out ≡ length l.initial.out) × (length l.cache ≡ length l.initial.cache) ×
    (length l.work ≡ length l.initial.work)
    × Kept l.i l.used l.out ×
    (lift_all_definition (stage_of l.g l.level l.tables (table_order l.g.code (table_of l.g.r (above_in l.tables))))
    (tree_definition (stage_of l.g l.level l.tables (table_order l.g.code (table_of l.g.r (above_in l.tables)))) l.room) ([], 0) []
    (frame_terms l.frame l.count) ≡ all_from (stage_of l.g l.level l.tables (table_order l.g.code (table_of l.g.r
    (above_in l.tables)))) l.room l.frame l.count l.i
    (lifted_vectors l.out l.i, l.used) (cache_of l.u l.cache))
