use mathlib.Core.Path.{◌≡◌}
use Prim.Native.Nat.{◌*◌}
use lib.ListN.{length, take, drop}
use Rattle.definitions.specs.Places.{most_vectors}
use Rattle.reducers.specs.tables.Cuts.{start_of, cut_level}
use Rattle.ranks.specs.Blocks.{whole}
use Rattle.constants.specs.elimination.Rows.{rows_at}
use Rattle.constants.proofs.filling.fill.Given as goal

abbrev pub invariant-loop-j : goal.invariant-loop-j
invariant-loop-j l =
    (length l.m ≡ length l.initial.m) × (l.from ≡ start_of l.ends l.j)
    × (rows_at (length l.below) l.j l.m ≡ whole l.below (take l.j l.own) (cut_level l.j l.level l.ends))
    × (drop (l.j * most_vectors) l.m ≡ drop (l.j * most_vectors) l.initial.m)
