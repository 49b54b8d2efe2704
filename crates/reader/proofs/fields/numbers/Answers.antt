use native.Mathlib.Omega.{arith}
use mathlib.Core.Path.{◌≡◌, refl, sym, ap, ◌∙◌}
use Prim.Native.Nat.{◌+◌}
use lib.ListN.{drop, replicate, length-set}
use Rattle.reader.proofs.fields.Collected.{none_so_far, no_field, one_field, all_fields, zeros_behind}
use Rattle.reader.proofs.fields.Positions.{field_end, field_other, field_comma, end_here}
use Rattle.reader.specs.fields.Scanning.{field_first, in_sixteen}
use mathlib.Core.Option.{none, some}
use Rattle.reader.proofs.fields.numbers.Goals.{then-file-at-via-then-file-at, then-file-at-via-else-file-at+then-file-at-ne44}
use Rattle.reader.proofs.fields.numbers.Goals as goal

pub loop-i-init : goal.loop-i-init
loop-i-init c = (
  omega arith,
  refl,
  refl,
  none_so_far (replicate 16 0) c.args.count
      (drop c.args.from c.args.file.now),
)

pub returns-then-file-at : goal.returns-then-file-at
returns-then-file-at c =
    let a = c.args in let l = c.loop-i in let file = a.file.now in
    let e : field_first 65535 (drop l.at file) ≡ none = elim c.then-file-at.branch [
      | then-file-at-via-then-file-at w ↦ field_end file l.at (omega arith)
      | then-file-at-via-else-file-at+then-file-at-ne44 w ↦ field_other file l.at (omega arith) (λ q. omega arith)
    ] in sym (ap in_sixteen l.invariant.3 ∙ no_field l.numbers a.count l.i (drop l.at file) (omega arith) e)

pub returns-in_err-v : goal.returns-in_err-v
returns-in_err-v c =
    let a = c.args in let l = c.loop-i in let file = a.file.now in
    rw c.from_residual.ensures (sym (ap in_sixteen l.invariant.3 ∙ no_field l.numbers a.count l.i (drop l.at file) (omega arith)
    (field_comma file l.at (omega arith) (omega arith) ∙ sym c.in_err-v.ensures)))

pub loop-i-preserved : goal.loop-i-preserved
loop-i-preserved c =
    let a = c.args in let l = c.loop-i in let file = a.file.now in
    let v = c.in_ok-v.v in let next = c.in_ok-v.next in
    let one : field_first 65535 (drop l.at file) ≡ some (v, drop next file) = field_comma file l.at (omega arith) (omega arith)
    ∙ sym c.in_ok-v.ensures in (
      omega arith,
      simp length-set l.invariant.1,
      zeros_behind l.numbers l.i v (omega arith) l.invariant.2,
      l.invariant.3
          ∙ one_field l.numbers a.count l.i (drop l.at file) v (drop next file) (omega arith) (omega (arith, l.invariant.1)) one,
    )

pub returns : goal.returns
returns c =
    let a = c.args in let l = c.loop-i in let file = a.file.now in
    all_fields l.numbers a.count l.i (drop l.at file) (drop (l.at + 1) file) (omega arith) (omega arith) (omega arith) l.invariant.1
    l.invariant.2 (end_here file l.at (omega arith) (omega arith)) ∙ sym (ap in_sixteen l.invariant.3)
