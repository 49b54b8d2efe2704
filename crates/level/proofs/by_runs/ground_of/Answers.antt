use native.Mathlib.Omega.{arith}
use Prim.Native.Nat.{◌+◌}
use lib.ListN.{get_or}
use Rattle.state.proofs.preparing.TablesReady.{components_few}
use Rattle.level.proofs.by_runs.ground_of.Goals as goal

pub overflow_add-result : goal.overflow_add-result
overflow_add-result c =
    omega (
      arith,
      c.components_of-c.ensures,
      components_few c.args.state.now c.requires.long
          c.requires.holds c.args.j
          c.requires.has,
    )

pub returns : goal.returns
returns c =
    let s = c.args.state.now in
    λ i. record {
      p = get_or s 0 0;
      code = get_or s 2 0;
      r = c.count_of-r.ensures i;
      components =
          c.components_of-c.ensures i + 1;
      images = c.images_of-images.ensures i;
      working =
          c.args.b.working;
      vector =
          c.args.b.vector;
      tree =
          c.args.b.tree;
      room = c.args.b.room;
    }
