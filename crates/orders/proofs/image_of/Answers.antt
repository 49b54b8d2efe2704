use native.Mathlib.Omega.{arith}
use mathlib.Core.Path.{◌≡◌, refl, sym, ap, ◌∙◌, subst}
use Prim.Native.Nat.{◌+◌, ◌-◌, ◌*◌}
use lib.ListN.{get_or}
use Rattle.definitions.specs.Monomial.{Monomial, product}
use Rattle.definitions.specs.Packed.{unpack}
use Rattle.orders.specs.Images.{key_of, exponents_raw, Bounded}
use Rattle.orders.proofs.Tables.{key_at_0, key_beyond, key_inside}
use Rattle.definitions.specs.Places.{image_length}
use Rattle.orders.proofs.image_of.Goals as goal

pub returns-then-i-eq0 : goal.returns-then-i-eq0
returns-then-i-eq0 c =
    let a = c.args in
    let e = unpack a.m.exponents in
    c.own_image.ensures ∙ key_at_0 a.r a.table.now (e, a.m.component) e (sym c.from-i.ensures ∙ c.if-i-eq0.true) refl

pub returns-then-r-i : goal.returns-then-r-i
returns-then-r-i c =
    let a = c.args in
    let e = unpack a.m.exponents in
    c.own_image-then-r-i.ensures ∙ key_beyond a.r a.table.now (e, a.m.component) e (omega (arith, c.if-r-i.true, c.from-i.ensures)) refl

pub shifted-requires : goal.shifted-requires
shifted-requires c =
    let i = c.from-i.result in
    let b : i * image_length - image_length ≡ (i - 1) * image_length = omega arith in
    (omega (arith, c.requires.0), subst (λ n. Bounded c.args.table.now (n + 2)) (sym b) (c.requires.1 (i - 1) (omega arith)))

pub returns : goal.returns
returns c =
    let a = c.args in
    let i = c.from-i in
    let m : Monomial = (unpack a.m.exponents, a.m.component) in
    ap (λ n. key_of (record { exponents = c.shifted.result; rank = get_or a.table.now (n * image_length - image_length + 1) 0; component = a.m.component })) i.ensures
    ∙ key_inside a.r a.table.now m c.shifted.result (λ z. c.if-i-eq0.false (i.ensures ∙ z)) (omega (arith, i.ensures, c.if-r-i.false))
    (c.shifted.ensures ∙ ap (λ n. product m.0 (exponents_raw a.table.now (n * image_length - image_length + 2))) i.ensures)
