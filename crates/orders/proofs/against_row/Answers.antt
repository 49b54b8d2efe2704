use native.Mathlib.Omega.{arith}
use mathlib.Core.Logic.{⊎_elim}
use mathlib.Core.Path.{◌≡◌, sym, ap, ◌∙◌, subst}
use Prim.Native.Nat.{◌+◌, ◌-◌, ◌*◌}
use Rattle.definitions.specs.Places.{image_length}
use Rattle.orders.specs.Images.{key_of, compare_keys, Bounded}
use Rattle.orders.proofs.RowImages.{row_key_at_0, row_key_beyond, row_key_inside}
use Rattle.orders.proofs.against_row.Goals as goal

pub returns-then-c-eq0 : goal.returns-then-c-eq0
returns-then-c-eq0 c =
    let a = c.args in
    let p = c.from-c in
    c.against_own.ensures ∙ ap (compare_keys a.code (key_of a.a))
    (⊎_elim (λ z. row_key_at_0 a.r a.table.now a.s.now a.i c.long-e.result (sym p.ensures ∙ z) c.long-e.ensures)
    (λ z. row_key_beyond a.r a.table.now a.s.now a.i c.long-e.result (omega (arith, p.ensures, z.1)) c.long-e.ensures) c.then-c-eq0.either)

pub against_tabled-requires : goal.against_tabled-requires
against_tabled-requires c =
    let p = c.from-c.result in
    let b : p * image_length - image_length ≡ (p - 1) * image_length = omega arith in (
      omega (arith, c.requires.1),
      subst (λ n. Bounded c.args.table.now (n + 2)) (sym b) (c.requires.2 (p - 1) (omega arith)),
      c.requires.3,
    )

pub returns : goal.returns
returns c =
    let a = c.args in
    let p = c.from-c in
    c.against_tabled.ensures ∙ ap (compare_keys a.code (key_of a.a))
    (row_key_inside a.r a.table.now a.s.now a.i (p.result * image_length - image_length) c.long-e.result
    (λ z. c.if-c-eq0.false (p.ensures ∙ z)) (omega (arith, p.ensures, c.if-r-c.false))
    (ap (λ n. n * image_length - image_length) p.ensures) c.long-e.ensures)
