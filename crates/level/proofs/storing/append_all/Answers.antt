use native.Mathlib.Omega.{arith}
use mathlib.Core.Path.{◌≡◌, refl}
use Prim.Native.Nat.{◌+◌, ◌-◌, ◌*◌, ◌<◌, ◌≤◌}
use lib.ListN.{length, take, drop, get_or}
use Rattle.level.proofs.storing.Storing.{storing_on, appended_all}
use Rattle.state.proofs.writing.AppendLoop.{grown_none}
use Rattle.state.proofs.soundness.VectorByVector.{whole_part, length_part}
use Rattle.definitions.specs.Places.{most_rows, row_length, ends_length}
use Rattle.level.proofs.storing.append_all.Goals as goal

pub loop-i-init : goal.loop-i-init
loop-i-init c = (
  (omega arith, refl, grown_none c.args.state.now c.args.k c.requires.2),
  omega arith,
  refl,
)

pub bounds-out-i : goal.bounds-out-i
bounds-out-i c =
    omega (
      arith,
      c.requires.3.few,
      c.requires.3.long,
    )

pub overflow_mul-start : goal.overflow_mul-start
overflow_mul-start c = omega (arith, c.loop-i.invariant.1)

pub overflow_add-start : goal.overflow_add-start
overflow_add-start c = omega (arith, c.loop-i.invariant.1)

pub offset_bounds-out-start : goal.offset_bounds-out-start
offset_bounds-out-start c = omega (arith, c.requires.3.long)

pub slice_bounds-append-count : goal.slice_bounds-append-count
slice_bounds-append-count c = omega (arith, c.loop-i.invariant.1, c.requires.3.long)

pub slice_bounds-append-start : goal.slice_bounds-append-start
slice_bounds-append-start c =
    omega (
      arith,
      c.loop-i.invariant.1,
      c.requires.3.long,
    )

pub slice_bounds-append-end : goal.slice_bounds-append-end
slice_bounds-append-end c =
    omega (
      arith,
      c.loop-i.invariant.1,
      c.requires.3.long,
    )

pub overflow_sub-end : goal.overflow_sub-end
overflow_sub-end c =
    let P = c.requires in
    let a = P.3 in
    let l = c.loop-i in
    let out = c.args.out.now in
    let h : l.i < c.args.count = omega arith in
    let fill : l.used < get_or out l.i 0 = omega (arith, a.filled l.i h, l.invariant.0.1) in
    let room : get_or out l.i 0 ≤ most_rows = a.room l.i h in
    omega (arith, fill, c.place-end.ensures.0)

pub append-requires : goal.append-requires
append-requires c =
    let P = c.requires in
    let a = P.3 in
    let l = c.loop-i in
    let out = c.args.out.now in
    let h : l.i < c.args.count = omega arith in
    let fill : l.used < get_or out l.i 0 = omega (arith, a.filled l.i h, l.invariant.0.1) in
    let room : get_or out l.i 0 ≤ most_rows = a.room l.i h in
    let n : length (take (length out - (ends_length + l.used * row_length)) (drop (ends_length + l.used * row_length) out))
    ≡ length out - (ends_length + l.used * row_length) = length_part (ends_length + l.used * row_length) out in (
      omega (arith, P.0, l.invariant.2),
      P.1,
      omega (arith, a.few, h),
      omega (arith, fill, room, c.place-end.ensures.0),
      omega (arith, n, a.long, room, fill, c.place-end.ensures.0),
    )

pub loop-i-preserved : goal.loop-i-preserved
loop-i-preserved c =
    let P = c.requires in
    let a = P.3 in
    let l = c.loop-i in
    let out = c.args.out.now in
    let h : l.i < c.args.count = omega arith in
    let fill : l.used < get_or out l.i 0 = omega (arith, a.filled l.i h, l.invariant.0.1) in
    let room : get_or out l.i 0 ≤ most_rows = a.room l.i h in
    let s = c.args.state.now in (
      storing_on s out c.args.k
          c.args.count P.0 P.1 a l.state l.i
          l.used c.place-end.result
          (take (length out - (ends_length + l.used * row_length)) (drop (ends_length + l.used * row_length) out))
          c.append.new.state h l.invariant.0 c.place-end.ensures.0
          (whole_part (ends_length + l.used * row_length) out) c.append.ensures,
      omega (arith, room, c.place-end.ensures.0),
      omega (arith, l.invariant.2),
    )

pub shape_of-state : goal.shape_of-state
shape_of-state c = omega (arith, c.loop-i.invariant.2)

pub returns : goal.returns
returns c =
    let P = c.requires in
    let a = c.args in
    let l = c.loop-i in
    appended_all a.state.now a.out.now a.k a.count P.0 P.1 P.3 l.state l.i l.used (omega arith) l.invariant.0
