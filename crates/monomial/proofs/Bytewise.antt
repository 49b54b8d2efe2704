-- Equality, degree and each exponent of a packed number; eight exponents put together.
use Rattle.std.proofs.Common.{◌≡◌, ℕ, zero, suc, ◌+◌, ◌*◌, ◌/◌, ◌%◌, ◌<◌, Bool, true, false, eqb, [], ◌∷◌, length, get_or, sym, refl, ap, ◌∙◌, subst, arith, ext_get_or, eq-eqb, ne_eqb, eqb-true}
use lib.Bits.{bit_and}
use borrow.Author.Tests.{eqb-false}
use Rattle.monomial.specs.Values.{pair_lanes, lane_sum, lane_bytes}
use Rattle.definitions.specs.Lists.{◌and◌}
use Rattle.definitions.specs.Monomial.{Exponents, unit, same_exponents?, degree}
use Rattle.definitions.specs.Packed.{low_bytes, four, unpack, pack, pack_from}
use Rattle.laws.proofs.Packing.{Bytes, unpack_is, Small, none, more, words_of_four}
use Rattle.monomial.proofs.Lanes.{lows, highs, sums}
use Rattle.monomial.proofs.Dividing.{regrouped, ended}

module _ (x : ℕ) (a : Bytes x) where
  pub bytes_small : Small (a.d1 ∷ a.d2 ∷ a.d3 ∷ a.d4 ∷ a.d5 ∷ a.d6 ∷ a.d7 ∷ a.d8 ∷ [])
  bytes_small = more a.s1 (more a.s2 (more a.s3 (more a.s4 (more a.s5 (more a.s6 (more a.s7 (more a.s8 none)))))))

  pub bytes_packed : x ≡ pack (a.d1 ∷ a.d2 ∷ a.d3 ∷ a.d4 ∷ a.d5 ∷ a.d6 ∷ a.d7 ∷ a.d8 ∷ [])
  bytes_packed = omega arith

-- the unit monomial's
pub unpack_zero : unpack 0 ≡ unit
unfolding low_bytes
unpack_zero = refl

-- ## Equality

byte_same : (a b x y : ℕ) → x < 256 → y < 256 → eqb (a * 256 + x) (b * 256 + y) ≡ (eqb a b and eqb x y)
byte_same a b x y hx hy = go (eqb a b) (eqb x y) refl refl
  where
    go : (c d : Bool) → eqb a b ≡ c → eqb x y ≡ d → eqb (a * 256 + x) (b * 256 + y) ≡ (c and d)
    go true true h k = eq-eqb (a * 256 + x) (b * 256 + y) (omega (arith, eqb-true a b h, eqb-true x y k))
    go true false h k = ne_eqb (a * 256 + x) (b * 256 + y) (λ z. eqb-false x y k (omega (arith, eqb-true a b h)))
    go false d h k = ne_eqb (a * 256 + x) (b * 256 + y) (λ z. eqb-false a b h (omega arith))

same_from : (a b : ℕ) (l m : Exponents) → length m ≡ length l → Small l → Small m → eqb (pack_from a l) (pack_from b m) ≡ (eqb a b and same_exponents? l m)
same_from a b [] [] e s t = ended (eqb a b)
same_from a b [] (y ∷ m) e s t = absurd (omega arith)
same_from a b (x ∷ l) [] e s t = absurd (omega arith)
same_from a b (x ∷ l) (y ∷ m) e (more h s) (more k t) =
    same_from (a * 256 + x) (b * 256 + y) l m (omega arith) s t
    ∙ ap (λ c. c and same_exponents? l m) (byte_same a b x y h k)
    ∙ regrouped (eqb a b) (eqb x y) (same_exponents? l m)

pub same_packed : (x y : ℕ) → Bytes x → Bytes y → eqb x y ≡ same_exponents? (unpack x) (unpack y)
same_packed x y a b =
    (λ i. eqb (bytes_packed x a i) (bytes_packed y b i)) ∙ same_from 0 0 _ _ refl (bytes_small x a) (bytes_small y b)
    ∙ sym (λ i. same_exponents? (a.spelled i) (b.spelled i))

-- ## Degrees

pub lane_sum_four : (p q r s : ℕ) → p < 65536 → q < 65536 → r < 65536 → s < 65536 → lane_sum (four p q r s) ≡ p + q + r + s
lane_sum_four p q r s hp hq hr hs = ap (λ l. get_or l 3 0 + get_or l 2 0 + get_or l 1 0 + get_or l 0 0) (words_of_four p q r s hp hq hr hs)

module _ (x : ℕ) (a : Bytes x) where
  pub paired_lanes : bit_and (x / 256) lane_bytes + bit_and x lane_bytes ≡ pair_lanes (unpack x)
  paired_lanes =
      (λ i. highs x a i + lows x a i)
      ∙ sums a.d1 a.d3 a.d5 a.d7 a.d2 a.d4 a.d6 a.d8
      ∙ sym (ap pair_lanes a.spelled)

  pub degree_packed : lane_sum (pair_lanes (unpack x)) ≡ degree (unpack x)
  degree_packed =
      ap (λ e. lane_sum (pair_lanes e)) a.spelled
      ∙ lane_sum_four (a.d1 + a.d2) (a.d3 + a.d4) (a.d5 + a.d6) (a.d7 + a.d8) (omega arith) (omega arith) (omega arith)
      (omega arith)
      ∙ omega arith
      ∙ sym (ap degree a.spelled)

  pub degree_room : degree (unpack x) < 65536
  degree_room = subst (λ n. n < 65536) (sym (ap degree a.spelled)) (omega arith)

-- ## Each byte

module _ (x : ℕ) (a : Bytes x) where
  pub e8 : x % 256 ≡ a.d8
  e8 = omega arith

  pub e7 : x / 256 % 256 ≡ a.d7
  e7 = omega arith

  pub e6 : x / 65536 % 256 ≡ a.d6
  e6 = omega arith

  pub e5 : x / 16777216 % 256 ≡ a.d5
  e5 = omega arith

  pub e4 : x / 4294967296 % 256 ≡ a.d4
  e4 = omega arith

  pub e3 : x / 1099511627776 % 256 ≡ a.d3
  e3 = omega arith

  pub e2 : x / 281474976710656 % 256 ≡ a.d2
  e2 = omega arith

  pub e1 : x / 72057594037927936 ≡ a.d1
  e1 = omega arith

  pub widened_packed : x / 72057594037927936 ∷ x / 281474976710656 % 256 ∷ x / 1099511627776 % 256 ∷ x / 4294967296 % 256 ∷ x / 16777216 % 256 ∷ x / 65536 %
      256 ∷ x / 256 % 256 ∷ x % 256 ∷ [] ≡ unpack x
  widened_packed = (λ i. e1 i ∷ e2 i ∷ e3 i ∷ e4 i ∷ e5 i ∷ e6 i ∷ e7 i ∷ e8 i ∷ []) ∙ sym a.spelled

-- ## Eight bytes put together

eight : (e : Exponents) → length e ≡ 8 → get_or e 0 0 ∷ get_or e 1 0 ∷ get_or e 2 0 ∷ get_or e 3 0 ∷ get_or e 4 0 ∷ get_or e 5 0 ∷ get_or e 6 0 ∷ get_or e 7 0 ∷ [] ≡ e
eight e h = ext_get_or 0 _ e (sym h) at
  where
    at : (k : ℕ) → k < 8 → get_or (get_or e 0 0 ∷ get_or e 1 0 ∷ get_or e 2 0 ∷ get_or e 3 0 ∷ get_or e 4 0 ∷ get_or e 5 0 ∷ get_or e 6 0 ∷ get_or e 7 0 ∷ []) k 0 ≡ get_or e k 0
    at zero l = refl
    at (suc zero) l = refl
    at (suc (suc zero)) l = refl
    at (suc (suc (suc zero))) l = refl
    at (suc (suc (suc (suc zero)))) l = refl
    at (suc (suc (suc (suc (suc zero))))) l = refl
    at (suc (suc (suc (suc (suc (suc zero)))))) l = refl
    at (suc (suc (suc (suc (suc (suc (suc zero))))))) l = refl
    at (suc (suc (suc (suc (suc (suc (suc (suc k)))))))) l = absurd (omega arith)

pub packed_bytes : (e : Exponents) (d1 d2 d3 d4 d5 d6 d7 d8 : ℕ) → length e ≡ 8
    → d1 ≡ get_or e 0 0 → d2 ≡ get_or e 1 0 → d3 ≡ get_or e 2 0 → d4 ≡ get_or e 3 0 → d5 ≡ get_or e 4 0 → d6 ≡ get_or e 5 0 → d7 ≡ get_or e 6 0 → d8 ≡ get_or e 7 0
    → d1 < 256 → d2 < 256 → d3 < 256 → d4 < 256 → d5 < 256 → d6 < 256 → d7 < 256 → d8 < 256
    → unpack (((d1 * 256 + d2) * 65536 + (d3 * 256 + d4)) * 4294967296 + ((d5 * 256 + d6) * 65536 + (d7 * 256 + d8))) ≡ e
packed_bytes e d1 d2 d3 d4 d5 d6 d7 d8 h q1 q2 q3 q4 q5 q6 q7 q8 s1 s2 s3 s4 s5 s6 s7 s8 =
    unpack_is _ d1 d2 d3 d4 d5 d6 d7 d8 (omega arith) s1 s2 s3 s4 s5 s6 s7 s8
    ∙ (λ i. q1 i ∷ q2 i ∷ q3 i ∷ q4 i ∷ q5 i ∷ q6 i ∷ q7 i ∷ q8 i ∷ []) ∙ eight e h
