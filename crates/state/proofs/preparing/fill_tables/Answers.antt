use native.Mathlib.Omega.{arith}
use mathlib.Core.Path.{◌≡◌, refl, subst}
use Prim.Native.Nat.{◌<◌, ◌≤◌}
use lib.ListN.{get_or}
use Rattle.state.specs.preparing.Prepared.{ReadyPair}
use Rattle.state.proofs.soundness.TablesGrow.{ready_none, ready_tabled}
use Rattle.state.proofs.soundness.SoundLevels.{height, complete_cut}
use Rattle.state.proofs.preparing.TablesReady.{pair_above, pair_more}
use Rattle.definitions.specs.Places.{all_levels}
use Rattle.state.proofs.preparing.fill_tables.Goals as goal

pub loop-j-init : goal.loop-j-init
loop-j-init c = (omega arith, refl, refl, ready_none c.args.state.now c.args.above.now)

pub advance-requires : goal.advance-requires
advance-requires c =
    let a = c.args in
    let l = c.loop-j in
    let s = a.state.now in
    let h : get_or s 4 0 ≤ all_levels = height s c.requires.0
    c.requires.1 in
    let r = pair_above s l.j l.below l.above l.invariant.3 in
    let m : l.j < get_or s 4 0 = omega (arith, c.loop-j-test.true, c.requires.2) in
    let cut = complete_cut s c.requires.0
    c.requires.1 l.j m in
    (omega arith, omega arith, omega arith, omega arith, r.few, cut.0, cut.1, ready_tabled s l.j l.above (omega arith) r)

pub loop-j-preserved : goal.loop-j-preserved
loop-j-preserved c =
    let a = c.args in
    let l = c.loop-j in
    let s = a.state.now in
    let h : get_or s 4 0 ≤ all_levels = height s c.requires.0 c.requires.1 in
    let r = pair_above s l.j l.below l.above l.invariant.3 in
    let m : l.j < get_or s 4 0 = omega (
      arith,
      c.loop-j-test.true,
      c.requires.2,
    ) in
    let cut = complete_cut s c.requires.0 c.requires.1 l.j m in (
      omega arith,
      omega arith,
      omega arith,
      pair_more s l.j l.above c.advance.new.below
          c.advance.new.above cut.0 r c.advance.ensures,
    )

pub returns : goal.returns
returns c =
    let l = c.loop-j in
    let z : l.j ≡ c.args.k = omega arith in
    subst (λ n. ReadyPair c.args.state.now n l.below l.above) z l.invariant.3
