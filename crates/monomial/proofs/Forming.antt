-- Products, where each exponent has room; quotients.
use Rattle.std.proofs.Common.{◌≡◌, ℕ, ◌+◌, ◌-◌, ◌*◌, ◌%◌, ◌<◌, ◌≤◌, Bool, true, false, leb, sym, refl, ◌∙◌, mod-eq_of_lt, arith, leb-true}
use mathlib.Core.Option.{Option, none, some}
use Rattle.definitions.specs.Places.{most_exponent}
use Rattle.definitions.specs.Lists.{◌and◌, choose}
use Rattle.definitions.specs.Monomial as definition
use Rattle.definitions.specs.Monomial.{divides?, product, quotient, fits?}
use Rattle.definitions.specs.Packed.{four, unpack, long_bound}
use Rattle.monomial.specs.Values.{formed}
use Rattle.laws.proofs.Packing.{Bytes, unpack_is}

-- ## What a conjunction of eight says

first : (p q : Bool) → (p and q) ≡ true → p ≡ true
first true q e = refl
first false q e = e

later : (p q : Bool) → (p and q) ≡ true → q ≡ true
later true q e = e
later false q e = absurd (let z : ◌≡◌ {A = ℕ} 0 1 = cc in omega arith)

pub record Each (p q r s t u v w : Bool) : Type 0 where
  pub e1 : p ≡ true
  pub e2 : q ≡ true
  pub e3 : r ≡ true
  pub e4 : s ≡ true
  pub e5 : t ≡ true
  pub e6 : u ≡ true
  pub e7 : v ≡ true
  pub e8 : w ≡ true

pub each : (p q r s t u v w : Bool) → (p and (q and (r and (s and (t and (u and (v and (w and true)))))))) ≡ true → Each p q r s t u v w
each p q r s t u v w e =
    let f2 = later p (q and (r and (s and (t and (u and (v and (w and true))))))) e in
    let f3 = later q (r and (s and (t and (u and (v and (w and true)))))) f2 in
    let f4 = later r (s and (t and (u and (v and (w and true))))) f3 in
    let f5 = later s (t and (u and (v and (w and true)))) f4 in
    let f6 = later t (u and (v and (w and true))) f5 in
    let f7 = later u (v and (w and true)) f6 in
    let f8 = later v (w and true) f7 in
    record {
      e1 = first p (q and (r and (s and (t and (u and (v and (w and true))))))) e;
      e2 = first q (r and (s and (t and (u and (v and (w and true)))))) f2;
      e3 = first r (s and (t and (u and (v and (w and true))))) f3;
      e4 = first s (t and (u and (v and (w and true)))) f4;
      e5 = first t (u and (v and (w and true))) f5;
      e6 = first u (v and (w and true)) f6;
      e7 = first v (w and true) f7;
      e8 = first w true f8;
    }

-- ## Products that fit

pub product_fits : (x y : ℕ) → Bytes x → Bytes y → fits? most_exponent (product (unpack x) (unpack y)) ≡ true → unpack ((x + y) % long_bound)
    ≡ product (unpack x) (unpack y)
product_fits x y a b f =
    unpack_is ((x + y) % long_bound) (a.d1 + b.d1) (a.d2 + b.d2) (a.d3 + b.d3) (a.d4 + b.d4) (a.d5 + b.d5) (a.d6 + b.d6) (a.d7 + b.d7)
    (a.d8 + b.d8)
    (mod-eq_of_lt bound ∙ total) (omega (arith, l1)) (omega (arith, l2)) (omega (arith, l3)) (omega (arith, l4)) (omega (arith, l5)) (omega (arith, l6))
    (omega (arith, l7)) (omega (arith, l8))
    ∙ sym (λ i. product (a.spelled i) (b.spelled i))
  where
    all : Each (leb (a.d1 + b.d1) most_exponent) (leb (a.d2 + b.d2) most_exponent) (leb (a.d3 + b.d3) most_exponent) (leb (a.d4 + b.d4) most_exponent)
        (leb (a.d5 + b.d5) most_exponent) (leb (a.d6 + b.d6) most_exponent) (leb (a.d7 + b.d7) most_exponent) (leb (a.d8 + b.d8) most_exponent)
    all = each _ _ _ _ _ _ _ _ (sym (λ i. fits? most_exponent (product (a.spelled i) (b.spelled i))) ∙ f)

    l1 : a.d1 + b.d1 ≤ most_exponent
    l1 = leb-true (a.d1 + b.d1) most_exponent all.e1

    l2 : a.d2 + b.d2 ≤ most_exponent
    l2 = leb-true (a.d2 + b.d2) most_exponent all.e2

    l3 : a.d3 + b.d3 ≤ most_exponent
    l3 = leb-true (a.d3 + b.d3) most_exponent all.e3

    l4 : a.d4 + b.d4 ≤ most_exponent
    l4 = leb-true (a.d4 + b.d4) most_exponent all.e4

    l5 : a.d5 + b.d5 ≤ most_exponent
    l5 = leb-true (a.d5 + b.d5) most_exponent all.e5

    l6 : a.d6 + b.d6 ≤ most_exponent
    l6 = leb-true (a.d6 + b.d6) most_exponent all.e6

    l7 : a.d7 + b.d7 ≤ most_exponent
    l7 = leb-true (a.d7 + b.d7) most_exponent all.e7

    l8 : a.d8 + b.d8 ≤ most_exponent
    l8 = leb-true (a.d8 + b.d8) most_exponent all.e8

    total : x + y ≡ four ((a.d1 + b.d1) * 256 + (a.d2 + b.d2)) ((a.d3 + b.d3) * 256 + (a.d4 + b.d4)) ((a.d5 + b.d5) * 256 + (a.d6 + b.d6))
        ((a.d7 + b.d7) * 256 + (a.d8 + b.d8))
    total = omega arith

    bound : x + y < long_bound
    bound = omega (arith, total, l1, l2, l3, l4, l5, l6, l7, l8)

pub product_lanes : (x y z component : ℕ) (t : Bool) → Bytes x → Bytes y → t ≡ fits? most_exponent (product (unpack x) (unpack y))
    → z ≡ (x + y) % long_bound
    → ◌≡◌ {A = Option definition.Monomial} (choose t (some (unpack z, component)) none) (formed (unpack x) (unpack y, component))
product_lanes x y z component t a b f e =
    (λ i. choose (f i) (some (unpack (e i), component)) none) ∙ go (fits? most_exponent (product (unpack x) (unpack y))) refl
  where
    go : (t : Bool) → fits? most_exponent (product (unpack x) (unpack y)) ≡ t
        → ◌≡◌ {A = Option definition.Monomial} (choose t (some (unpack ((x + y) % long_bound), component)) none)
        (choose t (some (product (unpack x) (unpack y), component)) none)
    go true h = λ i. some (product_fits x y a b h i, component)
    go false h = refl

-- ## Quotients, where it divides

differences : (x y : ℕ) (a : Bytes x) (b : Bytes y) (g1 g2 g3 g4 g5 g6 g7 g8 : ℕ) → a.d1 + g1 ≡ b.d1 → a.d2 + g2 ≡ b.d2 → a.d3 + g3 ≡ b.d3 → a.d4 + g4
    ≡ b.d4 → a.d5 + g5 ≡ b.d5 → a.d6 + g6 ≡ b.d6 → a.d7 + g7 ≡ b.d7 → a.d8 + g8 ≡ b.d8 → y - x
    ≡ four (g1 * 256 + g2) (g3 * 256 + g4) (g5 * 256 + g6) (g7 * 256 + g8)
differences x y a b g1 g2 g3 g4 g5 g6 g7 g8 h1 h2 h3 h4 h5 h6 h7 h8 = omega arith

module _ (x y : ℕ) (a : Bytes x) (b : Bytes y) (f : divides? (unpack x) (unpack y) ≡ true) where
  below : Each (leb a.d1 b.d1) (leb a.d2 b.d2) (leb a.d3 b.d3) (leb a.d4 b.d4) (leb a.d5 b.d5) (leb a.d6 b.d6)
      (leb a.d7 b.d7) (leb a.d8 b.d8)
  below = each _ _ _ _ _ _ _ _ (sym (λ i. divides? (a.spelled i) (b.spelled i)) ∙ f)

  m1 : a.d1 ≤ b.d1
  m1 = leb-true a.d1 b.d1 below.e1

  m2 : a.d2 ≤ b.d2
  m2 = leb-true a.d2 b.d2 below.e2

  m3 : a.d3 ≤ b.d3
  m3 = leb-true a.d3 b.d3 below.e3

  m4 : a.d4 ≤ b.d4
  m4 = leb-true a.d4 b.d4 below.e4

  m5 : a.d5 ≤ b.d5
  m5 = leb-true a.d5 b.d5 below.e5

  m6 : a.d6 ≤ b.d6
  m6 = leb-true a.d6 b.d6 below.e6

  m7 : a.d7 ≤ b.d7
  m7 = leb-true a.d7 b.d7 below.e7

  m8 : a.d8 ≤ b.d8
  m8 = leb-true a.d8 b.d8 below.e8

  pub quotient_below : x ≤ y
  quotient_below = omega (arith, m1, m2, m3, m4, m5, m6, m7, m8)

  pub quotient_word : unpack (y - x) ≡ quotient (unpack y) (unpack x)
  quotient_word =
      unpack_is (y - x) (b.d1 - a.d1) (b.d2 - a.d2) (b.d3 - a.d3) (b.d4 - a.d4) (b.d5 - a.d5) (b.d6 - a.d6) (b.d7 - a.d7) (b.d8 - a.d8)
      (differences x y a b (b.d1 - a.d1) (b.d2 - a.d2) (b.d3 - a.d3) (b.d4 - a.d4) (b.d5 - a.d5) (b.d6 - a.d6) (b.d7 - a.d7) (b.d8 - a.d8)
      (omega (arith, m1)) (omega (arith, m2)) (omega (arith, m3)) (omega (arith, m4)) (omega (arith, m5)) (omega (arith, m6)) (omega (arith, m7))
      (omega (arith, m8)))
      (omega arith) (omega arith) (omega arith) (omega arith) (omega arith) (omega arith) (omega arith) (omega arith)
      ∙ sym (λ i. quotient (b.spelled i) (a.spelled i))
