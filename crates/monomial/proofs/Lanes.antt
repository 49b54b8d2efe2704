-- Masks and sums lane by lane.
use Rattle.std.proofs.Common.{◌≡◌, ℕ, ◌+◌, ◌*◌, ◌/◌, ◌<◌, ap, ◌∙◌, arith}
use lib.Bits.{bit_and, and_block, and_mask}
use lib.Pow.{low}
use Rattle.definitions.specs.Places.{most_exponent}
use Rattle.monomial.specs.Values.{lane_bytes}
use Rattle.definitions.specs.Packed.{four}
use Rattle.laws.proofs.Packing.{Bytes}

pub and4 : (a b c d p q r s : ℕ) → b < 65536 → c < 65536 → d < 65536 → q < 65536 → r < 65536 → s < 65536
    → bit_and (four a b c d) (four p q r s) ≡ four (bit_and a p) (bit_and b q) (bit_and c r) (bit_and d s)
and4 a b c d p q r s hb hc hd hq hr hs =
    and_block 16 ((a * 65536 + b) * 65536 + c) ((p * 65536 + q) * 65536 + r) d s hd hs
    ∙ ap (λ n. n * 65536 + bit_and d s)
    (and_block 16 (a * 65536 + b) (p * 65536 + q) c r hc hr ∙ ap (λ n. n * 65536 + bit_and c r) (and_block 16 a p b q hb hq))

-- sums lane by lane
pub sums : (a b c d p q r s : ℕ) → four a b c d + four p q r s ≡ four (a + p) (b + q) (c + r) (d + s)
sums a b c d p q r s = omega arith

-- the lower byte of a lane
lower : (h l : ℕ) → l < 256 → bit_and (h * 256 + l) most_exponent ≡ l
lower h l s = and_mask (h * 256 + l) 8 ∙ low h 8 s

own : (l : ℕ) → l < 256 → bit_and l most_exponent ≡ l
own l s = ap (λ n. bit_and n most_exponent) (same l) ∙ lower 0 l s
  where
    same : (l : ℕ) → l ≡ 0 * 256 + l
    same l = omega arith

module _ (x : ℕ) (a : Bytes x) where
  pub lows : bit_and x lane_bytes ≡ four a.d2 a.d4 a.d6 a.d8
  lows =
      ap (λ n. bit_and n lane_bytes) a.whole
      ∙ and4 (a.d1 * 256 + a.d2) (a.d3 * 256 + a.d4) (a.d5 * 256 + a.d6) (a.d7 * 256 + a.d8) most_exponent most_exponent most_exponent most_exponent
      (omega arith) (omega arith) (omega arith) (omega arith) (omega arith) (omega arith)
      ∙ (λ i. four (lower a.d1 a.d2 a.s2 i) (lower a.d3 a.d4 a.s4 i) (lower a.d5 a.d6 a.s6 i) (lower a.d7 a.d8 a.s8 i))

  shifted : x / 256 ≡ four a.d1 (a.d2 * 256 + a.d3) (a.d4 * 256 + a.d5) (a.d6 * 256 + a.d7)
  shifted = omega arith

  pub highs : bit_and (x / 256) lane_bytes ≡ four a.d1 a.d3 a.d5 a.d7
  highs =
      ap (λ n. bit_and n lane_bytes) shifted
      ∙ and4 a.d1 (a.d2 * 256 + a.d3) (a.d4 * 256 + a.d5) (a.d6 * 256 + a.d7) most_exponent most_exponent most_exponent most_exponent
      (omega arith) (omega arith) (omega arith) (omega arith) (omega arith) (omega arith)
      ∙ (λ i. four (own a.d1 a.s1 i) (lower a.d2 a.d3 a.s3 i) (lower a.d4 a.d5 a.s5 i) (lower a.d6 a.d7 a.s7 i))
