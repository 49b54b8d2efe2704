use native.Mathlib.Omega.{arith}
use mathlib.Core.Path.{◌≡◌, sym, subst}
use Prim.Native.Nat.{◌+◌}
use Rattle.state.specs.writing.Zeroed.{TidiedTo}
use Rattle.state.proofs.writing.Blocks.{tidied_none, tidied_more}
use Rattle.state.proofs.writing.Spelled.{all_sized, sized_at}
use Rattle.state.proofs.writing.tidy.Goals as goal

pub loop-k-init : goal.loop-k-init
loop-k-init c = (omega arith, tidied_none c.args.state.now)

pub tidy_level-requires : goal.tidy_level-requires
tidy_level-requires c =
    let a = c.args in
    let l = c.loop-k in
    let z = sized_at a.state.now l.state c.requires.0 a.h c.requires.1
    c.requires.2 l.k (omega arith) l.invariant.1 in
    (omega (arith, l.invariant.1.long), omega arith, z.0, z.1)

pub loop-k-preserved : goal.loop-k-preserved
loop-k-preserved c =
    let a = c.args in
    let l = c.loop-k in (
      omega arith,
      subst (λ z. TidiedTo a.state.now z (l.k + 1)) (sym c.tidy_level.ensures)
          (tidied_more a.state.now l.state l.k c.requires.0 (omega arith)
          (λ j m. all_sized a.state.now c.requires.0 a.h
          c.requires.1 c.requires.2 j
          (omega (arith, c.loop-k-test.true))) l.invariant.1),
    )

pub shape_of-state : goal.shape_of-state
shape_of-state c = omega (arith, c.loop-k.invariant.1.long)

pub returns : goal.returns
returns c =
    let l = c.loop-k in
    let z : l.k ≡ c.args.h = omega arith in
    subst (TidiedTo c.args.state.now l.state) z l.invariant.1
