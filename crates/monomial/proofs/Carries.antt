-- 13's test by the carries of one sum: q, e and their sum differ in the lowest bit of a byte where something was carried into it.
use Rattle.std.proofs.Common.{◌≡◌, ℕ, ◌+◌, ◌*◌, ◌%◌, ◌<◌, ◌≤◌, Bool, true, false, eqb, [], ◌∷◌, get_or, sym, refl, ap, ◌∙◌, subst, arith, eqb-true, le-leb}
use lib.Bits.{bit_and, bit_xor, and_block, and_mask, xor_block, xor_lt, xor_add_and}
use borrow.Author.Tests.{eqb-false}
use Rattle.definitions.specs.Lists.{◌and◌}
use Rattle.definitions.specs.Places.{most_exponent}
use Rattle.definitions.specs.Monomial.{product, fits?}
use Rattle.definitions.specs.Packed.{four, unpack, long_bound}
use Rattle.laws.proofs.Packing.{Bytes}
use Rattle.monomial.specs.Values.{carry_bits}
use Rattle.monomial.proofs.Lanes.{and4}
use Rattle.monomial.proofs.Forming.{product_fits}

-- ## The lowest bit of each byte

xor_odd : (a b : ℕ) → bit_xor a b % 2 ≡ (a + b) % 2
xor_odd a b = omega (arith, xor_add_and a b)

abbrev odd : ℕ → ℕ → ℕ → ℕ
odd a b g = (a + b + g) % 2

low_bit : (a b g : ℕ) → bit_and (bit_xor (bit_xor a b) g) 1 ≡ odd a b g
low_bit a b g = and_mask (bit_xor (bit_xor a b) g) 1 ∙ omega (arith, xor_odd (bit_xor a b) g, xor_odd a b)

xor4 : (a b c d p q r s : ℕ) → b < 65536 → c < 65536 → d < 65536 → q < 65536 → r < 65536 → s < 65536
    → bit_xor (four a b c d) (four p q r s) ≡ four (bit_xor a p) (bit_xor b q) (bit_xor c r) (bit_xor d s)
xor4 a b c d p q r s hb hc hd hq hr hs =
    xor_block 16 ((a * 65536 + b) * 65536 + c) ((p * 65536 + q) * 65536 + r) d s hd hs
    ∙ ap (λ n. n * 65536 + bit_xor d s)
    (xor_block 16 (a * 65536 + b) (p * 65536 + q) c r hc hr ∙ ap (λ n. n * 65536 + bit_xor c r) (xor_block 16 a p b q hb hq))

two : (h l : ℕ) → h < 256 → l < 256 → h * 256 + l < 65536
two h l p q = omega arith

module _ (a b c d e f : ℕ) (hb : b < 256) (hd : d < 256) (hf : f < 256) where
  xor_two : bit_xor (bit_xor (a * 256 + b) (c * 256 + d)) (e * 256 + f) ≡ bit_xor (bit_xor a c) e * 256 + bit_xor (bit_xor b d) f
  xor_two = ap (λ n. bit_xor n (e * 256 + f)) (xor_block 8 a c b d hb hd) ∙ xor_block 8 (bit_xor a c) e (bit_xor b d) f (xor_lt 8 b d hb hd) hf

  both_bits : bit_and (bit_xor (bit_xor (a * 256 + b) (c * 256 + d)) (e * 256 + f)) 257 ≡ odd a c e * 256 + odd b d f
  both_bits =
      ap (λ n. bit_and n 257) xor_two ∙ and_block 8 (bit_xor (bit_xor a c) e) 1 (bit_xor (bit_xor b d) f) 1 (xor_lt 8 (bit_xor b d) f (xor_lt 8 b d hb hd) hf)
      (omega arith)
      ∙ (λ i. low_bit a c e i * 256 + low_bit b d f i)

  upper_bit : bit_and (bit_xor (bit_xor (a * 256 + b) (c * 256 + d)) (e * 256 + f)) 256 ≡ odd a c e * 256
  upper_bit =
      ap (λ n. bit_and n 256) xor_two ∙ and_block 8 (bit_xor (bit_xor a c) e) 1 (bit_xor (bit_xor b d) f) 0 (xor_lt 8 (bit_xor b d) f (xor_lt 8 b d hb hd) hf)
      (omega arith)
      ∙ (λ i. low_bit a c e i * 256 + and_mask (bit_xor (bit_xor b d) f) 0 i) ∙ omega arith

module _ (x y s : ℕ) (a : Bytes x) (b : Bytes y) (g : Bytes s) where
  lanes_differ : bit_xor (bit_xor x y) s
      ≡ four (bit_xor (bit_xor (a.d1 * 256 + a.d2) (b.d1 * 256 + b.d2)) (g.d1 * 256 + g.d2))
      (bit_xor (bit_xor (a.d3 * 256 + a.d4) (b.d3 * 256 + b.d4)) (g.d3 * 256 + g.d4))
      (bit_xor (bit_xor (a.d5 * 256 + a.d6) (b.d5 * 256 + b.d6)) (g.d5 * 256 + g.d6))
      (bit_xor (bit_xor (a.d7 * 256 + a.d8) (b.d7 * 256 + b.d8)) (g.d7 * 256 + g.d8))
  lanes_differ =
      (λ i. bit_xor (bit_xor (a.whole i) (b.whole i)) (g.whole i))
      ∙ ap (λ n. bit_xor n (four (g.d1 * 256 + g.d2) (g.d3 * 256 + g.d4) (g.d5 * 256 + g.d6) (g.d7 * 256 + g.d8)))
      (xor4 (a.d1 * 256 + a.d2) (a.d3 * 256 + a.d4) (a.d5 * 256 + a.d6) (a.d7 * 256 + a.d8)
      (b.d1 * 256 + b.d2) (b.d3 * 256 + b.d4) (b.d5 * 256 + b.d6) (b.d7 * 256 + b.d8)
      (two a.d3 a.d4 a.s3 a.s4) (two a.d5 a.d6 a.s5 a.s6) (two a.d7 a.d8 a.s7 a.s8)
      (two b.d3 b.d4 b.s3 b.s4) (two b.d5 b.d6 b.s5 b.s6) (two b.d7 b.d8 b.s7 b.s8))
      ∙ xor4 (bit_xor (a.d1 * 256 + a.d2) (b.d1 * 256 + b.d2)) (bit_xor (a.d3 * 256 + a.d4) (b.d3 * 256 + b.d4))
      (bit_xor (a.d5 * 256 + a.d6) (b.d5 * 256 + b.d6)) (bit_xor (a.d7 * 256 + a.d8) (b.d7 * 256 + b.d8))
      (g.d1 * 256 + g.d2) (g.d3 * 256 + g.d4) (g.d5 * 256 + g.d6) (g.d7 * 256 + g.d8)
      (xor_lt 16 _ _ (two a.d3 a.d4 a.s3 a.s4) (two b.d3 b.d4 b.s3 b.s4))
      (xor_lt 16 _ _ (two a.d5 a.d6 a.s5 a.s6) (two b.d5 b.d6 b.s5 b.s6))
      (xor_lt 16 _ _ (two a.d7 a.d8 a.s7 a.s8) (two b.d7 b.d8 b.s7 b.s8))
      (two g.d3 g.d4 g.s3 g.s4) (two g.d5 g.d6 g.s5 g.s6) (two g.d7 g.d8 g.s7 g.s8)

  carries_are : bit_and (bit_xor (bit_xor x y) s) carry_bits
      ≡ four (odd a.d1 b.d1 g.d1 * 256 + odd a.d2 b.d2 g.d2) (odd a.d3 b.d3 g.d3 * 256 + odd a.d4 b.d4 g.d4)
      (odd a.d5 b.d5 g.d5 * 256 + odd a.d6 b.d6 g.d6) (odd a.d7 b.d7 g.d7 * 256)
  carries_are =
      ap (λ n. bit_and n carry_bits) lanes_differ
      ∙ and4 (bit_xor (bit_xor (a.d1 * 256 + a.d2) (b.d1 * 256 + b.d2)) (g.d1 * 256 + g.d2))
      (bit_xor (bit_xor (a.d3 * 256 + a.d4) (b.d3 * 256 + b.d4)) (g.d3 * 256 + g.d4))
      (bit_xor (bit_xor (a.d5 * 256 + a.d6) (b.d5 * 256 + b.d6)) (g.d5 * 256 + g.d6))
      (bit_xor (bit_xor (a.d7 * 256 + a.d8) (b.d7 * 256 + b.d8)) (g.d7 * 256 + g.d8))
      257 257 257 256
      (xor_lt 16 _ _ (xor_lt 16 _ _ (two a.d3 a.d4 a.s3 a.s4) (two b.d3 b.d4 b.s3 b.s4)) (two g.d3 g.d4 g.s3 g.s4))
      (xor_lt 16 _ _ (xor_lt 16 _ _ (two a.d5 a.d6 a.s5 a.s6) (two b.d5 b.d6 b.s5 b.s6)) (two g.d5 g.d6 g.s5 g.s6))
      (xor_lt 16 _ _ (xor_lt 16 _ _ (two a.d7 a.d8 a.s7 a.s8) (two b.d7 b.d8 b.s7 b.s8)) (two g.d7 g.d8 g.s7 g.s8))
      (omega arith) (omega arith) (omega arith)
      ∙ (λ i. four (both_bits a.d1 a.d2 b.d1 b.d2 g.d1 g.d2 a.s2 b.s2 g.s2 i)
      (both_bits a.d3 a.d4 b.d3 b.d4 g.d3 g.d4 a.s4 b.s4 g.s4 i)
      (both_bits a.d5 a.d6 b.d5 b.d6 g.d5 g.d6 a.s6 b.s6 g.s6 i)
      (upper_bit a.d7 a.d8 b.d7 b.d8 g.d7 g.d8 a.s8 b.s8 g.s8 i))

-- ## Where nothing is carried

-- one byte: what is above it tells by its own lowest bit that nothing was carried
pub record Step (X Y S a b : ℕ) : Type 0 where
  pub fits : a + b ≤ most_exponent
  pub above : X + Y ≡ S

step : (X Y S a b g : ℕ) → X * 256 + a + (Y * 256 + b) ≡ S * 256 + g → a < 256 → b < 256 → g < 256 → (X + Y + S) % 2 ≡ 0 → Step X Y S a b
step X Y S a b g e ha hb hg p = go
  where
    none : X + Y ≡ S
    none = omega arith

    go : Step X Y S a b
    go = record { fits = omega (arith, none); above = none }

even : (X Y S a b g : ℕ) → odd a b g ≡ 0 → (X * 256 + a + (Y * 256 + b) + (S * 256 + g)) % 2 ≡ 0
even X Y S a b g p = omega arith

-- a number's first bytes
abbrev h2 : {x : ℕ} → Bytes x → ℕ
h2 a = a.d1 * 256 + a.d2

abbrev h3 : {x : ℕ} → Bytes x → ℕ
h3 a = h2 a * 256 + a.d3

abbrev h4 : {x : ℕ} → Bytes x → ℕ
h4 a = h3 a * 256 + a.d4

abbrev h5 : {x : ℕ} → Bytes x → ℕ
h5 a = h4 a * 256 + a.d5

abbrev h6 : {x : ℕ} → Bytes x → ℕ
h6 a = h5 a * 256 + a.d6

abbrev h7 : {x : ℕ} → Bytes x → ℕ
h7 a = h6 a * 256 + a.d7

stacked : (x : ℕ) (a : Bytes x) → x ≡ (h7 a) * 256 + a.d8
stacked x a = omega arith

module _ (x y s : ℕ) (a : Bytes x) (b : Bytes y) (g : Bytes s) (e : x + y ≡ s) (z : bit_and (bit_xor (bit_xor x y) s) carry_bits ≡ 0) where
  none : four (odd a.d1 b.d1 g.d1 * 256 + odd a.d2 b.d2 g.d2) (odd a.d3 b.d3 g.d3 * 256 + odd a.d4 b.d4 g.d4)
      (odd a.d5 b.d5 g.d5 * 256 + odd a.d6 b.d6 g.d6) (odd a.d7 b.d7 g.d7 * 256) ≡ 0
  none = sym (carries_are x y s a b g) ∙ z

  c1 : odd a.d1 b.d1 g.d1 ≡ 0
  c1 = omega (arith, none)

  c2 : odd a.d2 b.d2 g.d2 ≡ 0
  c2 = omega (arith, none)

  c3 : odd a.d3 b.d3 g.d3 ≡ 0
  c3 = omega (arith, none)

  c4 : odd a.d4 b.d4 g.d4 ≡ 0
  c4 = omega (arith, none)

  c5 : odd a.d5 b.d5 g.d5 ≡ 0
  c5 = omega (arith, none)

  c6 : odd a.d6 b.d6 g.d6 ≡ 0
  c6 = omega (arith, none)

  c7 : odd a.d7 b.d7 g.d7 ≡ 0
  c7 = omega (arith, none)

  whole : (h7 a) * 256 + a.d8 + ((h7 b) * 256 + b.d8) ≡ (h7 g) * 256 + g.d8
  whole = (λ i. sym (stacked x a) i + sym (stacked y b) i) ∙ e ∙ stacked s g

  f8 : Step (h7 a) (h7 b) (h7 g) a.d8 b.d8
  f8 = step (h7 a) (h7 b) (h7 g) a.d8 b.d8 g.d8 whole a.s8 b.s8 g.s8
      (even (h6 a) (h6 b) (h6 g) a.d7 b.d7 g.d7 c7)

  f7 : Step (h6 a) (h6 b) (h6 g) a.d7 b.d7
  f7 = step (h6 a) (h6 b) (h6 g) a.d7 b.d7 g.d7 f8.above a.s7 b.s7 g.s7
      (even (h5 a) (h5 b) (h5 g) a.d6 b.d6 g.d6 c6)

  f6 : Step (h5 a) (h5 b) (h5 g) a.d6 b.d6
  f6 = step (h5 a) (h5 b) (h5 g) a.d6 b.d6 g.d6 f7.above a.s6 b.s6 g.s6
      (even (h4 a) (h4 b) (h4 g) a.d5 b.d5 g.d5 c5)

  f5 : Step (h4 a) (h4 b) (h4 g) a.d5 b.d5
  f5 = step (h4 a) (h4 b) (h4 g) a.d5 b.d5 g.d5 f6.above a.s5 b.s5 g.s5
      (even (h3 a) (h3 b) (h3 g) a.d4 b.d4 g.d4 c4)

  f4 : Step (h3 a) (h3 b) (h3 g) a.d4 b.d4
  f4 = step (h3 a) (h3 b) (h3 g) a.d4 b.d4 g.d4 f5.above a.s4 b.s4 g.s4
      (even (h2 a) (h2 b) (h2 g) a.d3 b.d3 g.d3 c3)

  f3 : Step (h2 a) (h2 b) (h2 g) a.d3 b.d3
  f3 = step (h2 a) (h2 b) (h2 g) a.d3 b.d3 g.d3 f4.above a.s3 b.s3 g.s3
      (even a.d1 b.d1 g.d1 a.d2 b.d2 g.d2 c2)

  f2 : Step a.d1 b.d1 g.d1 a.d2 b.d2
  f2 = step a.d1 b.d1 g.d1 a.d2 b.d2 g.d2 f3.above a.s2 b.s2 g.s2 c1

  f1 : a.d1 + b.d1 ≤ most_exponent
  f1 = omega (arith, f2.above, g.s1)

  fitting : fits? most_exponent (product (unpack x) (unpack y)) ≡ true
  fitting =
      (λ i. fits? most_exponent (product (a.spelled i) (b.spelled i)))
      ∙ (λ i. le-leb (a.d1 + b.d1) most_exponent f1 i and
      (le-leb (a.d2 + b.d2) most_exponent f2.fits i and
      (le-leb (a.d3 + b.d3) most_exponent f3.fits i and
      (le-leb (a.d4 + b.d4) most_exponent f4.fits i and
      (le-leb (a.d5 + b.d5) most_exponent f5.fits i and
      (le-leb (a.d6 + b.d6) most_exponent f6.fits i and
      (le-leb (a.d7 + b.d7) most_exponent f7.fits i and
      (le-leb (a.d8 + b.d8) most_exponent f8.fits i and true))))))))

-- ## Where it fits

grows : (a1 a2 a3 a4 a5 a6 a7 a8 b1 b2 b3 b4 b5 b6 b7 b8 : ℕ) → four (a1 * 256 + a2) (a3 * 256 + a4) (a5 * 256 + a6) (a7 * 256 + a8)
    ≤ four ((a1 + b1) * 256 + (a2 + b2)) ((a3 + b3) * 256 + (a4 + b4)) ((a5 + b5) * 256 + (a6 + b6)) ((a7 + b7) * 256 + (a8 + b8))
grows a1 a2 a3 a4 a5 a6 a7 a8 b1 b2 b3 b4 b5 b6 b7 b8 = omega arith

module _ (x y s : ℕ) (a : Bytes x) (b : Bytes y) (g : Bytes s) (e : s ≡ (x + y) % long_bound)
    (f : fits? most_exponent (product (unpack x) (unpack y)) ≡ true) where
  spelled : g.d1 ∷ g.d2 ∷ g.d3 ∷ g.d4 ∷ g.d5 ∷ g.d6 ∷ g.d7 ∷ g.d8 ∷ []
      ≡ product (a.d1 ∷ a.d2 ∷ a.d3 ∷ a.d4 ∷ a.d5 ∷ a.d6 ∷ a.d7 ∷ a.d8 ∷ [])
      (b.d1 ∷ b.d2 ∷ b.d3 ∷ b.d4 ∷ b.d5 ∷ b.d6 ∷ b.d7 ∷ b.d8 ∷ [])
  spelled = sym g.spelled ∙ ap unpack e ∙ product_fits x y a b f ∙ (λ i. product (a.spelled i) (b.spelled i))

  t1 : g.d1 ≡ a.d1 + b.d1
  t1 = ap (λ l. get_or l 0 0) spelled

  t2 : g.d2 ≡ a.d2 + b.d2
  t2 = ap (λ l. get_or l 1 0) spelled

  t3 : g.d3 ≡ a.d3 + b.d3
  t3 = ap (λ l. get_or l 2 0) spelled

  t4 : g.d4 ≡ a.d4 + b.d4
  t4 = ap (λ l. get_or l 3 0) spelled

  t5 : g.d5 ≡ a.d5 + b.d5
  t5 = ap (λ l. get_or l 4 0) spelled

  t6 : g.d6 ≡ a.d6 + b.d6
  t6 = ap (λ l. get_or l 5 0) spelled

  t7 : g.d7 ≡ a.d7 + b.d7
  t7 = ap (λ l. get_or l 6 0) spelled

  t8 : g.d8 ≡ a.d8 + b.d8
  t8 = ap (λ l. get_or l 7 0) spelled

  same : (n m k : ℕ) → k ≡ n + m → odd n m k ≡ 0
  same n m k q = omega arith

  unmarked : bit_and (bit_xor (bit_xor x y) s) carry_bits ≡ 0
  unmarked = carries_are x y s a b g
      ∙ (λ i. four (same _ _ _ t1 i * 256 + same _ _ _ t2 i) (same _ _ _ t3 i * 256 + same _ _ _ t4 i) (same _ _ _ t5 i * 256 + same _ _ _ t6 i)
      (same _ _ _ t7 i * 256))

  not_below : x ≤ s
  not_below = subst (λ n. n ≤ s) (sym a.whole) (subst (λ n. four (h2 a) (a.d3 * 256 + a.d4) (a.d5 * 256 + a.d6) (a.d7 * 256 + a.d8) ≤ n)
      (sym (g.whole ∙ (λ i. four (t1 i * 256 + t2 i) (t3 i * 256 + t4 i) (t5 i * 256 + t6 i) (t7 i * 256 + t8 i))))
      (grows a.d1 a.d2 a.d3 a.d4 a.d5 a.d6 a.d7 a.d8
      b.d1 b.d2 b.d3 b.d4 b.d5 b.d6 b.d7 b.d8))

-- ## The test

pub sum_wrapped : (x y s : ℕ) → Bytes x → Bytes y → Bytes s → s ≡ (x + y) % long_bound → s < x
    → false ≡ fits? most_exponent (product (unpack x) (unpack y))
sum_wrapped x y s a b g e h = go (fits? most_exponent (product (unpack x) (unpack y))) refl
  where
    go : (t : Bool) → fits? most_exponent (product (unpack x) (unpack y)) ≡ t → false ≡ t
    go true f = absurd (omega (arith, not_below x y s a b g e f))
    go false f = refl

pub sum_uncarried : (x y s : ℕ) → Bytes x → Bytes y → Bytes s → x < long_bound → y < long_bound → s ≡ (x + y) % long_bound → x ≤ s
    → eqb (bit_and (bit_xor (bit_xor x y) s) carry_bits) 0 ≡ fits? most_exponent (product (unpack x) (unpack y))
sum_uncarried x y s a b g hx hy e h =
    go (eqb (bit_and (bit_xor (bit_xor x y) s) carry_bits) 0) (fits? most_exponent (product (unpack x) (unpack y))) refl refl
  where
    go : (u t : Bool) → eqb (bit_and (bit_xor (bit_xor x y) s) carry_bits) 0 ≡ u → fits? most_exponent (product (unpack x) (unpack y)) ≡ t → u ≡ t
    go true t p q = sym (fitting x y s a b g (omega (arith, e)) (eqb-true _ 0 p)) ∙ q
    go false true p q = absurd (eqb-false _ 0 p (unmarked x y s a b g e q))
    go false false p q = refl
