use native.Mathlib.Omega.{arith}
use mathlib.Core.Path.{sym, ap, ◌∙◌}
use Prim.Native.Nat.{◌+◌, ◌-◌, ◌*◌}
use lib.ListN.{length, take, drop}
use Rattle.definitions.specs.Layout.{padded}
use Rattle.definitions.specs.Places.{row_length, rows_offset}
use Rattle.state.proofs.writing.Fetching.{fetchable}
use Rattle.state.proofs.writing.fetch_rows.Goals as goal

pub overflow_sub-v : goal.overflow_sub-v
overflow_sub-v c = omega (arith, c.requires.4)

pub end_of-from-requires : goal.end_of-from-requires
end_of-from-requires c =
    let a = c.args in
    let p = c.requires in
    let f = fetchable a.state.now p.0 p.1 a.k a.v p.2 p.3 p.4 p.5 in
    (omega (arith, p.0), f.inside, omega (arith, f.few))

pub end_of-to-requires : goal.end_of-to-requires
end_of-to-requires c =
    let a = c.args in
    let p = c.requires in
    let f = fetchable a.state.now p.0 p.1 a.k a.v p.2 p.3 p.4 p.5 in
    (omega (arith, p.0), f.inside, f.few)

pub overflow_mul-k : goal.overflow_mul-k
overflow_mul-k c =
    let a = c.args in
    let p = c.requires in
    let f = fetchable a.state.now p.0 p.1 a.k a.v p.2 p.3 p.4 p.5 in
    omega (arith, f.inside, f.filled, f.within, c.end_of-from.ensures, c.end_of-to.ensures)

pub overflow_add-k : goal.overflow_add-k
overflow_add-k c =
    let a = c.args in
    let p = c.requires in
    let f = fetchable a.state.now p.0 p.1 a.k a.v p.2 p.3 p.4 p.5 in
    omega (arith, f.inside, f.filled, f.within, c.end_of-from.ensures, c.end_of-to.ensures)

pub overflow_mul-from : goal.overflow_mul-from
overflow_mul-from c =
    let a = c.args in
    let p = c.requires in
    let f = fetchable a.state.now p.0 p.1 a.k a.v p.2 p.3 p.4 p.5 in
    omega (arith, f.inside, f.filled, f.within, c.end_of-from.ensures, c.end_of-to.ensures)

pub overflow_add-k-2 : goal.overflow_add-k-2
overflow_add-k-2 c =
    let a = c.args in
    let p = c.requires in
    let f = fetchable a.state.now p.0 p.1 a.k a.v p.2 p.3 p.4 p.5 in
    omega (arith, f.inside, f.filled, f.within, c.end_of-from.ensures, c.end_of-to.ensures)

pub overflow_sub-to : goal.overflow_sub-to
overflow_sub-to c =
    let a = c.args in
    let p = c.requires in
    let f = fetchable a.state.now p.0 p.1 a.k a.v p.2 p.3 p.4 p.5 in
    omega (arith, f.inside, f.filled, f.within, c.end_of-from.ensures, c.end_of-to.ensures)

pub overflow_mul-to : goal.overflow_mul-to
overflow_mul-to c =
    let a = c.args in
    let p = c.requires in
    let f = fetchable a.state.now p.0 p.1 a.k a.v p.2 p.3 p.4 p.5 in
    omega (arith, f.inside, f.filled, f.within, c.end_of-from.ensures, c.end_of-to.ensures)

pub copy_out-requires : goal.copy_out-requires
copy_out-requires c =
    let a = c.args in
    let p = c.requires in
    let f = fetchable a.state.now p.0 p.1 a.k a.v p.2 p.3 p.4 p.5 in (
      omega (
        arith,
        f.inside,
        f.filled,
        f.within,
        c.end_of-from.ensures,
        c.end_of-to.ensures,
        p.0,
      ),
      omega (
        arith,
        f.short,
        c.end_of-from.ensures,
        c.end_of-to.ensures,
        p.6,
      ),
    )

pub returns : goal.returns
returns c =
    let a = c.args in
    let p = c.requires in
    let f = fetchable a.state.now p.0 p.1 a.k a.v p.2 p.3 p.4 p.5 in
    c.copy_out.ensures ∙ ap (padded (length a.out.now))
    ((λ i. take ((c.end_of-to.ensures i - c.end_of-from.ensures i) *
    row_length) (drop (rows_offset a.k + c.end_of-from.ensures i * row_length) a.state.now))
    ∙ sym (f.words c.know.ensures))
