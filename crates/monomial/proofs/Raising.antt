-- Least common multiples: the larger of each two bytes, four lanes at a time.
use Rattle.std.proofs.Common.{◌≡◌, ℕ, ◌+◌, ◌-◌, ◌*◌, ◌/◌, ◌<◌, ◌≤◌, max, Bool, true, false, leb, get_or, sym, refl, ap, ◌∙◌, ap₂, arith, leb-false, leb-true}
use lib.Bits.{bit_and, and_mask, and_zero_r}
use Rattle.definitions.specs.Places.{most_exponent}
use Rattle.definitions.specs.Monomial.{Exponents, lcm}
use Rattle.definitions.specs.Packed.{low_bytes, four, unpack}
use Rattle.monomial.specs.Values.{even_lanes, lane_bytes, lane_marks}
use Rattle.laws.proofs.Packing.{Bytes, unpack_is}
use Rattle.monomial.proofs.Lanes.{and4, lows, sums}
use Rattle.monomial.proofs.Dividing.{mark, gaps, gap_marks}

abbrev fill : Bool → ℕ
fill true = most_exponent
fill false = 0

filled : (p : Bool) → fill p < 65536
filled true = omega arith
filled false = omega arith

-- a mark less a 256th of it fills its lane's lower byte
fills : (p q r s : Bool) → four (mark p) (mark q) (mark r) (mark s) - four (mark p) (mark q) (mark r) (mark s) / 256 ≡ four (fill p) (fill q) (fill r) (fill s)
fills true true true true = refl
fills true true true false = refl
fills true true false true = refl
fills true true false false = refl
fills true false true true = refl
fills true false true false = refl
fills true false false true = refl
fills true false false false = refl
fills false true true true = refl
fills false true true false = refl
fills false true false true = refl
fills false true false false = refl
fills false false true true = refl
fills false false true false = refl
fills false false false true = refl
fills false false false false = refl

kept : (x y : ℕ) → x < 256 → y < 256 → bit_and (y + 256 - x) (fill (leb x y)) ≡ y - x
kept x y hx hy = go (leb x y) refl
  where
    go : (b : Bool) → leb x y ≡ b → bit_and (y + 256 - x) (fill b) ≡ y - x
    go true e = let l : x ≤ y = leb-true x y e in and_mask (y + 256 - x) 8 ∙ omega arith
    go false e = let l : y < x = leb-false x y e in and_zero_r (y + 256 - x) ∙ omega arith

raise : (x y : ℕ) → x + (y - x) ≡ max x y
raise x y = omega arith

abbrev raised : ℕ → ℕ → ℕ
raised x y = x + bit_and (y + lane_marks - x) (bit_and (y + lane_marks - x) lane_marks - bit_and (y + lane_marks - x) lane_marks / 256)

raised_lanes : (a b c d p q r s : ℕ) → a < 256 → b < 256 → c < 256 → d < 256 → p < 256 → q < 256 → r < 256 → s < 256
    → raised (four a b c d) (four p q r s) ≡ four (max a p) (max b q) (max c r) (max d s)
raised_lanes a b c d p q r s ha hb hc hd hp hq hr hs =
    ap₂ (λ m t. four a b c d + bit_and m (t - t / 256)) (gaps a b c d p q r s ha hb hc hd) (gap_marks a b c d p q r s ha hb hc hd hp hq hr hs)
    ∙ ap (λ f. four a b c d + bit_and (four (p + 256 - a) (q + 256 - b) (r + 256 - c) (s + 256 - d)) f) (fills (leb a p) (leb b q) (leb c r) (leb d s))
    ∙ ap (λ n. four a b c d + n)
    (and4 (p + 256 - a) (q + 256 - b) (r + 256 - c) (s + 256 - d) (fill (leb a p)) (fill (leb b q)) (fill (leb c r)) (fill (leb d s))
    (omega arith) (omega arith) (omega arith) (filled (leb b q)) (filled (leb c r)) (filled (leb d s))
    ∙ (λ i. four (kept a p ha hp i) (kept b q hb hq i) (kept c r hc hr i) (kept d s hd hs i)))
    ∙ sums a b c d (p - a) (q - b) (r - c) (s - d)
    ∙ (λ i. four (raise a p i) (raise b q i) (raise c r i) (raise d s i))

max_small : (x y : ℕ) → x < 256 → y < 256 → max x y < 256
max_small x y hx hy = omega arith

pub lanes_small : (a b c d : ℕ) → a < 256 → b < 256 → c < 256 → d < 256 → four a b c d ≤ lane_bytes
lanes_small a b c d ha hb hc hd = omega arith

weave : (a b c d e f g h : ℕ) → four a c e g * 256 + four b d f h ≡ four (a * 256 + b) (c * 256 + d) (e * 256 + f) (g * 256 + h)
weave a b c d e f g h = omega arith

abbrev odd_lanes : Exponents → ℕ
odd_lanes e = four (get_or e 0 0) (get_or e 2 0) (get_or e 4 0) (get_or e 6 0)

one_lower : (x y : ℕ) → even_lanes (lcm (unpack (x / 256)) (unpack (y / 256))) ≡ odd_lanes (lcm (unpack x) (unpack y))
unfolding low_bytes
one_lower x y = refl

module _ (x y : ℕ) (a : Bytes x) (b : Bytes y) where
  pub raised_word : raised (bit_and x lane_bytes) (bit_and y lane_bytes) ≡ even_lanes (lcm (unpack x) (unpack y))
  raised_word =
      (λ i. raised (lows x a i) (lows y b i))
      ∙ raised_lanes a.d2 a.d4 a.d6 a.d8 b.d2 b.d4 b.d6 b.d8 a.s2 a.s4 a.s6 a.s8 b.s2 b.s4 b.s6 b.s8
      ∙ sym (λ i. even_lanes (lcm (a.spelled i) (b.spelled i)))

  pub lcm_small : even_lanes (lcm (unpack x) (unpack y)) ≤ lane_bytes
  lcm_small =
      rw (a.spelled, b.spelled)
      (lanes_small (max a.d2 b.d2) (max a.d4 b.d4) (max a.d6 b.d6) (max a.d8 b.d8)
      (max_small a.d2 b.d2 a.s2 b.s2) (max_small a.d4 b.d4 a.s4 b.s4) (max_small a.d6 b.d6 a.s6 b.s6)
      (max_small a.d8 b.d8 a.s8 b.s8))

  -- the bytes of odd place stand one place lower in a 256th
  odds : even_lanes (lcm (unpack (x / 256)) (unpack (y / 256))) ≡ four (max a.d1 b.d1) (max a.d3 b.d3) (max a.d5 b.d5) (max a.d7 b.d7)
  odds = one_lower x y ∙ (λ i. odd_lanes (lcm (a.spelled i) (b.spelled i)))

  pub lcm_word : (h l : ℕ) → h ≡ even_lanes (lcm (unpack (x / 256)) (unpack (y / 256))) → l ≡ even_lanes (lcm (unpack x) (unpack y)) → unpack (h * 256 + l)
      ≡ lcm (unpack x) (unpack y)
  lcm_word h l p q =
      unpack_is (h * 256 + l) (max a.d1 b.d1) (max a.d2 b.d2) (max a.d3 b.d3) (max a.d4 b.d4) (max a.d5 b.d5)
      (max a.d6 b.d6) (max a.d7 b.d7) (max a.d8 b.d8)
      ((λ i. (p ∙ odds) i * 256 + (q ∙ (λ j. even_lanes (lcm (a.spelled j) (b.spelled j)))) i)
      ∙ weave (max a.d1 b.d1) (max a.d2 b.d2) (max a.d3 b.d3) (max a.d4 b.d4) (max a.d5 b.d5) (max a.d6 b.d6)
      (max a.d7 b.d7) (max a.d8 b.d8))
      (max_small a.d1 b.d1 a.s1 b.s1) (max_small a.d2 b.d2 a.s2 b.s2) (max_small a.d3 b.d3 a.s3 b.s3)
      (max_small a.d4 b.d4 a.s4 b.s4)
      (max_small a.d5 b.d5 a.s5 b.s5) (max_small a.d6 b.d6 a.s6 b.s6) (max_small a.d7 b.d7 a.s7 b.s7)
      (max_small a.d8 b.d8 a.s8 b.s8)
      ∙ sym (λ i. lcm (a.spelled i) (b.spelled i))
