use native.Mathlib.Omega.{arith}
use mathlib.Core.Path.{◌≡◌, sym, ap, ◌∙◌}
use mathlib.Core.List.{◌++◌}
use Prim.Native.Nat.{suc, ◌-◌, ◌≤◌}
use lib.ListN.{length, take, drop, length-append, length-drop}
use lib.Seq.{length-take-le}
use Rattle.std.proofs.lemmas.List.{take_at}
use Rattle.definitions.specs.Places.{most_vectors, count_offset, ends_offset, rows_offset}
use Rattle.state.proofs.soundness.SoundLevels.{complete_cut}
use Rattle.state.proofs.soundness.TablesGrow.{cut_parts}
use Rattle.state.proofs.soundness.VectorByVector.{whole_part}
use Rattle.columns.proofs.weights.Raising.{raised}
use Rattle.columns.proofs.weights.raise.Goals as goal

pub fill_keys-requires : goal.fill_keys-requires
fill_keys-requires c =
    let a = c.args in
    let P = c.requires in
    let s = a.state.now in
    let n = c.count_of-r in
    let cut = complete_cut s P.0 P.1 a.k P.2 in
    let K = P.5 in (
      omega (arith, cut.0, n.ensures),
      cut_parts s a.k n.result n.ensures cut.1,
      omega (arith, K.few, K.room),
      P.4,
      λ i. omega (arith, K.low i, P.3),
    )

pub slice_bounds-copy_from_slice-end : goal.slice_bounds-copy_from_slice-end
slice_bounds-copy_from_slice-end c =
    let a = c.args in
    let P = c.requires in
    omega (arith, c.count_of-r.ensures, (complete_cut a.state.now P.0 P.1 a.k P.2).0, P.5.room)

pub slice_bounds-next-end : goal.slice_bounds-next-end
slice_bounds-next-end c =
    let a = c.args in
    let P = c.requires in
    omega (arith, c.count_of-r.ensures, (complete_cut a.state.now P.0 P.1 a.k P.2).0, P.5.room)

pub slice_bounds-copy_from_slice-end-2 : goal.slice_bounds-copy_from_slice-end-2
slice_bounds-copy_from_slice-end-2 c =
    let a = c.args in
    let P = c.requires in
    let few = (complete_cut a.state.now P.0 P.1 a.k P.2).0 in
    sym (length-take-le c.count_of-r.result a.keys.now (omega (arith, few, P.5.room)))

pub slice_bounds-copy_from_slice-end-3 : goal.slice_bounds-copy_from_slice-end-3
slice_bounds-copy_from_slice-end-3 c =
    let a = c.args in
    let P = c.requires in
    let few = (complete_cut a.state.now P.0 P.1 a.k P.2).0 in
    sym (length-take-le c.count_of-r.result c.fill_keys.new.next (omega (arith, few)))

pub copy_from_slice-requires : goal.copy_from_slice-requires
copy_from_slice-requires c =
    let a = c.args in
    let P = c.requires in
    let r = c.count_of-r.result in
    let few : r ≤ most_vectors = omega (arith, c.count_of-r.ensures, (complete_cut a.state.now P.0 P.1 a.k P.2).0) in
    length-take-le r a.keys.now (omega (arith, few, P.5.room)) ∙ sym (length-take-le r c.fill_keys.new.next (omega arith))

pub returns : goal.returns
returns c =
    let a = c.args in
    let P = c.requires in
    let s = a.state.now in
    let n = c.count_of-r in
    let f = c.fill_keys in
    let x = c.copy_from_slice in
    let y = drop n.result a.keys.now in
    let few : n.result ≤ most_vectors = omega (arith, n.ensures, (complete_cut s P.0 P.1 a.k P.2).0) in
    let long : length x.new.self ≡ n.result = x.ensures.len ∙ length-take-le n.result a.keys.now (omega (arith, few, P.5.room)) in
    let z : ends_offset a.k ≡ suc (count_offset a.k) = omega arith in
    raised s P.0 P.1 a.kw a.k a.n n.result a.keys.now f.new.next (x.new.self ++ y)
    (take (length s - rows_offset a.k) (drop (rows_offset a.k) s))
    (take (length s - ends_offset a.k) (drop (ends_offset a.k) s)) P.2 P.4 P.5 (whole_part (rows_offset a.k) s)
    (whole_part (ends_offset a.k) s ∙ ap (λ i. drop i s) z) n.ensures (omega arith) f.ensures
    (take_at x.new.self y n.result long ∙ x.ensures.after)
    (omega (arith, length-append x.new.self y, length-drop n.result a.keys.now, long, few, P.5.room))
