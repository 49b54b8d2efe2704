use native.Mathlib.Omega.{arith}
use Prim.Native.Nat.{◌<◌, ◌≤◌}
use lib.ListN.{get_or}
use Rattle.state.proofs.soundness.TablesGrow.{cut_parts}
use Rattle.state.proofs.soundness.SoundLevels.{height, prime_above, complete_cut}
use Rattle.state.proofs.preparing.TablesReady.{components_few, led}
use Rattle.definitions.specs.Places.{all_levels}
use Rattle.state.proofs.preparing.fill_leads.Goals as goal

pub count_of-r-requires : goal.count_of-r-requires
count_of-r-requires c =
    let h : get_or c.args.state.now 4 0 ≤ all_levels =
    height c.args.state.now c.requires.0 c.requires.1 in
    let m : c.args.k < all_levels = omega (arith, c.requires.2) in
    omega (arith, c.requires.0)

pub overflow_mul-start : goal.overflow_mul-start
overflow_mul-start c =
    let h : get_or c.args.state.now 4 0 ≤ all_levels =
    height c.args.state.now c.requires.0
    c.requires.1 in
    let m : c.args.k < all_levels = omega (arith, c.requires.2) in
    omega (arith, c.requires.0)

pub overflow_add-start : goal.overflow_add-start
overflow_add-start c =
    let h : get_or c.args.state.now 4 0 ≤ all_levels =
    height c.args.state.now c.requires.0
    c.requires.1 in
    let m : c.args.k < all_levels = omega (arith, c.requires.2) in
    omega (arith, c.requires.0)

pub overflow_mul-ends : goal.overflow_mul-ends
overflow_mul-ends c =
    let h : get_or c.args.state.now 4 0 ≤ all_levels =
    height c.args.state.now c.requires.0
    c.requires.1 in
    let m : c.args.k < all_levels = omega (arith, c.requires.2) in
    omega (arith, c.requires.0)

pub overflow_add-ends : goal.overflow_add-ends
overflow_add-ends c =
    let h : get_or c.args.state.now 4 0 ≤ all_levels =
    height c.args.state.now c.requires.0
    c.requires.1 in
    let m : c.args.k < all_levels = omega (arith, c.requires.2) in
    omega (arith, c.requires.0)

pub offset_bounds-state-start : goal.offset_bounds-state-start
offset_bounds-state-start c =
    let h : get_or c.args.state.now 4 0 ≤ all_levels =
    height c.args.state.now c.requires.0
    c.requires.1 in
    let m : c.args.k < all_levels =
    omega (arith, c.requires.2) in
    omega (arith, c.requires.0)

pub slice_bounds-fill_heads-count : goal.slice_bounds-fill_heads-count
slice_bounds-fill_heads-count c =
    let h : get_or c.args.state.now 4 0 ≤ all_levels =
    height c.args.state.now c.requires.0
    c.requires.1 in
    let m : c.args.k < all_levels =
    omega (arith, c.requires.2) in
    omega (arith, c.requires.0)

pub slice_bounds-fill_heads-start : goal.slice_bounds-fill_heads-start
slice_bounds-fill_heads-start c =
    let h : get_or c.args.state.now 4 0 ≤ all_levels =
    height c.args.state.now c.requires.0
    c.requires.1 in
    let m : c.args.k < all_levels =
    omega (arith, c.requires.2) in
    omega (arith, c.requires.0)

pub slice_bounds-fill_heads-end : goal.slice_bounds-fill_heads-end
slice_bounds-fill_heads-end c =
    let h : get_or c.args.state.now 4 0 ≤ all_levels =
    height c.args.state.now c.requires.0
    c.requires.1 in
    let m : c.args.k < all_levels =
    omega (arith, c.requires.2) in
    omega (arith, c.requires.0)

pub offset_bounds-state-ends : goal.offset_bounds-state-ends
offset_bounds-state-ends c =
    let h : get_or c.args.state.now 4 0 ≤ all_levels =
    height c.args.state.now
    c.requires.0 c.requires.1 in
    let m : c.args.k < all_levels =
    omega (arith, c.requires.2) in
    omega (arith, c.requires.0)

pub slice_bounds-fill_heads-count-2 : goal.slice_bounds-fill_heads-count-2
slice_bounds-fill_heads-count-2 c =
    let h : get_or c.args.state.now 4 0 ≤ all_levels =
    height c.args.state.now
    c.requires.0 c.requires.1 in
    let m : c.args.k < all_levels =
    omega (arith, c.requires.2) in
    omega (arith, c.requires.0)

pub slice_bounds-fill_heads-start-2 : goal.slice_bounds-fill_heads-start-2
slice_bounds-fill_heads-start-2 c =
    let h : get_or c.args.state.now 4 0 ≤ all_levels =
    height c.args.state.now
    c.requires.0 c.requires.1 in
    let m : c.args.k < all_levels =
    omega (arith, c.requires.2) in
    omega (arith, c.requires.0)

pub slice_bounds-fill_heads-end-2 : goal.slice_bounds-fill_heads-end-2
slice_bounds-fill_heads-end-2 c =
    let h : get_or c.args.state.now 4 0 ≤ all_levels =
    height c.args.state.now
    c.requires.0 c.requires.1 in
    let m : c.args.k < all_levels =
    omega (arith, c.requires.2) in
    omega (arith, c.requires.0)

pub fill_heads-requires : goal.fill_heads-requires
fill_heads-requires c =
    let s = c.args.state.now in
    let cut = complete_cut s c.requires.0
    c.requires.1
    c.args.k
    c.requires.2 in
    let n = components_few s c.requires.0
    c.requires.1
    c.args.k
    c.requires.2 in (
      prime_above s c.requires.0
          c.requires.1,
      omega (arith, c.count_of-r.ensures, c.requires.3),
      cut_parts s c.args.k c.count_of-r.result
          c.count_of-r.ensures cut.1,
    )

pub components_of-requires : goal.components_of-requires
components_of-requires c =
    let h : get_or c.args.state.now 4 0 ≤ all_levels =
    height c.args.state.now c.requires.0 c.requires.1 in
    let m : c.args.k < all_levels = omega (arith, c.requires.2) in
    omega (arith, c.requires.0)

pub overflow_add-components_of : goal.overflow_add-components_of
overflow_add-components_of c =
    let s = c.args.state.now in
    let cut = complete_cut s c.requires.0 c.requires.1
    c.args.k c.requires.2 in
    let n = components_few s c.requires.0 c.requires.1
    c.args.k c.requires.2 in
    omega (arith, c.components_of.ensures)

pub fill_spans-requires : goal.fill_spans-requires
fill_spans-requires c =
    let s = c.args.state.now in
    let cut = complete_cut s c.requires.0
    c.requires.1 c.args.k
    c.requires.2 in
    let n = components_few s c.requires.0
    c.requires.1 c.args.k
    c.requires.2 in (
      omega (arith, c.components_of.ensures, c.requires.4),
      omega (
        arith,
        c.count_of-r.ensures,
        c.requires.3,
        c.fill_heads.auto.heads,
      ),
      omega (arith, c.count_of-r.ensures),
    )

pub returns : goal.returns
returns c =
    led c.args.state.now c.args.k c.count_of-r.result
    c.components_of.result
    c.fill_heads.new.heads c.fill_spans.new.spans
    c.count_of-r.ensures c.components_of.ensures
    c.fill_heads.ensures c.fill_spans.ensures
