use borrow.Author.Rules.{rules}
use native.Mathlib.Omega.{arith}
use mathlib.Core.Path.{◌≡◌, refl, ap}
use Prim.Native.Nat.{ℕ, ◌+◌, ◌-◌, ◌*◌, ◌<◌, ◌≤◌}
use lib.ListN.{length, get_or}
use Rattle.state.proofs.soundness.SoundLevels as sounding
use Rattle.pages.specs.bytes.Printing.{Printed}
use Rattle.pages.proofs.bytes.Spelling.{nothing, after, spelled}
use Rattle.listing.specs.whole.Listed.{lines_to}
use Rattle.listing.proofs.whole.Levels.{next_lines}
use Rattle.definitions.specs.Places.{level_lines_length}
use Rattle.listing.proofs.whole.print_levels.Goals as goal

pub bounds-state-4 : goal.bounds-state-4
bounds-state-4 c = omega (arith, c.requires.0.long)

pub loop-k-init : goal.loop-k-init
loop-k-init c = (
  omega arith,
  omega (arith, c.place-height.ensures.0, c.requires.0.has),
  nothing c.args.out.now 0,
  omega arith,
  refl,
)

pub print_level-at-requires : goal.print_level-at-requires
print_level-at-requires c =
    let l = c.loop-k in
    let I = l.invariant in
    let a = c.args in
    let P = c.requires in
    let b = P.0 in
    let h : l.k < get_or a.state.now 4 0 = omega (arith, c.place-height.ensures.0) in
    let nine : l.k ≤ 9 = omega (arith, h, sounding.height a.state.now b.long b.holds) in
    (record { long = b.long; holds = b.holds; has = h; low = omega (arith, nine) }, omega (arith, I.0, I.3, I.4, P.1, nine))

pub loop-k-preserved : goal.loop-k-preserved
loop-k-preserved c =
    let l = c.loop-k in
    let I = l.invariant in
    let s = c.args.state.now in
    let v = c.print_level-at.ensures in
    (omega arith, omega arith, spelled (next_lines s l.k I.0) (after I.2 v.0), omega (arith, I.0, I.3, v.1), omega (arith, I.4))

pub shape_of-out : goal.shape_of-out
shape_of-out c = omega (arith, c.loop-k.invariant.4)

pub returns : goal.returns
returns c =
    let l = c.loop-k in
    let I = l.invariant in
    let s = c.args.state.now in
    let b = c.requires.0 in
    let e : l.k - 1 ≡ get_or s 4 0 - 1 = omega (arith, c.place-height.ensures.0, I.1) in
    (spelled (ap (lines_to s) e) I.2, omega (arith, I.0, I.1, I.3, c.place-height.ensures.0, sounding.height s b.long b.holds))
