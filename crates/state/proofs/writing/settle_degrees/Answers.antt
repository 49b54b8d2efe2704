use native.Mathlib.Omega.{arith}
use mathlib.Core.Path.{◌≡◌, refl, sym, ap, ◌∙◌, subst}
use Prim.Native.Nat.{◌+◌, ◌-◌}
use lib.ListN.{get_or}
use Rattle.definitions.specs.Places.{degrees_start, carried_start, carried_offset}
use Rattle.vectors.specs.terms.Rows.{cleared}
use Rattle.state.specs.writing.Zeroed.{DegreesSettled}
use Rattle.state.proofs.writing.Parts.{block_by}
use Rattle.state.proofs.writing.Settled.{degrees_settled}
use Rattle.state.proofs.writing.settle_degrees.Goals as goal

pub slice_bounds-clear-count : goal.slice_bounds-clear-count
slice_bounds-clear-count c =
    let e : get_or c.tidy_carried.new.state 3 0 ≡ get_or
    c.args.state.now 3 0 = c.tidy_carried.ensures.front 3
    (omega arith) (omega arith) in
    omega (
      arith,
      c.place-a.ensures.0,
      c.requires.2,
      c.requires.0,
    )

pub slice_bounds-clear-start : goal.slice_bounds-clear-start
slice_bounds-clear-start c =
    let e : get_or c.tidy_carried.new.state 3 0 ≡ get_or
    c.args.state.now 3 0 = c.tidy_carried.ensures.front 3
    (omega arith) (omega arith) in
    omega (
      arith,
      c.place-a.ensures.0,
      c.requires.2,
      c.requires.0,
    )

pub returns : goal.returns
returns c =
    let a = c.args in
    let p = c.requires in
    let t = c.tidy_carried.ensures in
    let z = c.tidy_carried.new.state in
    let h = a.h in
    let n = c.place-a.result in
    let e = c.place-a.ensures.0 ∙ t.front 3 (omega arith) (omega arith) in
    let N = carried_start - (degrees_start + n) in
    let b = block_by z z c.clear.new.s (degrees_start + n) N N 0 0 refl refl refl
    c.clear.ensures in
    subst (λ y. DegreesSettled a.state.now y h) (sym (c.clear-2.ensures ∙ ap (λ y. cleared y (carried_offset h)) b))
    (degrees_settled a.state.now z h n p.0 p.1 p.3 p.2 e t)
