-- Eight exponents and the number that holds them: each from the other.
use mathlib.Core.Path.{◌≡◌, refl, ap, ◌∙◌, subst}
use mathlib.Core.List.{[], ◌∷◌, ◌++◌, append-nil}
use Prim.Native.Nat.{ℕ, zero, suc, ◌+◌, ◌*◌, ◌/◌, ◌%◌, ◌<◌, ◌≤◌}
use native.Mathlib.Omega.{arith}
use lib.Dec.{T, leb, leb→le, le→leb}
use lib.ListN.{length, get_or}
use lib.Arith.{digits_div, digits_mod}
use Rattle.definitions.specs.Monomial.{Exponents, fits?, degree}
use Rattle.definitions.specs.Packed.{low_bytes, unpack, pack, pack_from, four, long_bound}
use Rattle.definitions.specs.Layout.{words_of}
use Rattle.definitions.specs.Places.{exponents_length, most_exponent}
use Rattle.laws.proofs.Tests.{and_left, and_right, and_both}

-- eight exponents in range
pub record Eight (e : Exponents) : Type 0 where
  pub eight : length e ≡ 8
  pub small : T (fits? most_exponent e)

-- ## A number's eight bytes

pub record Bytes (x : ℕ) : Type 0 where
  pub d1 : ℕ
  pub d2 : ℕ
  pub d3 : ℕ
  pub d4 : ℕ
  pub d5 : ℕ
  pub d6 : ℕ
  pub d7 : ℕ
  pub d8 : ℕ
  pub s1 : d1 < 256
  pub s2 : d2 < 256
  pub s3 : d3 < 256
  pub s4 : d4 < 256
  pub s5 : d5 < 256
  pub s6 : d6 < 256
  pub s7 : d7 < 256
  pub s8 : d8 < 256
  pub whole : x ≡ four (d1 * 256 + d2) (d3 * 256 + d4) (d5 * 256 + d6) (d7 * 256 + d8)
  pub spelled : unpack x ≡ d1 ∷ d2 ∷ d3 ∷ d4 ∷ d5 ∷ d6 ∷ d7 ∷ d8 ∷ []

pub bytes_of : (x : ℕ) → x < long_bound → Bytes x
unfolding low_bytes
bytes_of x h =
    record {
      d1 = x / 256 / 256 / 256 / 256 / 256 / 256 / 256 % 256;
      d2 = x / 256 / 256 / 256 / 256 / 256 / 256 % 256;
      d3 = x / 256 / 256 / 256 / 256 / 256 % 256;
      d4 = x / 256 / 256 / 256 / 256 % 256;
      d5 = x / 256 / 256 / 256 % 256;
      d6 = x / 256 / 256 % 256;
      d7 = x / 256 % 256;
      d8 = x % 256;
      s1 = omega arith;
      s2 = omega arith;
      s3 = omega arith;
      s4 = omega arith;
      s5 = omega arith;
      s6 = omega arith;
      s7 = omega arith;
      s8 = omega arith;
      whole = omega arith;
      spelled = refl;
    }

-- the lowest byte taken off
lowest : (n h d : ℕ) (l : Exponents) → d < 256 → low_bytes (suc n) (h * 256 + d) l ≡ low_bytes n h (d ∷ l)
unfolding low_bytes
lowest n h d l s = λ i. low_bytes n (digits_div h s i) (digits_mod h s i ∷ l)

pub unpack_word : (d1 d2 d3 d4 d5 d6 d7 d8 : ℕ) → d1 < 256 → d2 < 256 → d3 < 256 → d4 < 256 → d5 < 256 → d6 < 256 → d7 < 256 → d8 < 256
    → unpack (four (d1 * 256 + d2) (d3 * 256 + d4) (d5 * 256 + d6) (d7 * 256 + d8)) ≡ d1 ∷ d2 ∷ d3 ∷ d4 ∷ d5 ∷ d6 ∷ d7 ∷ d8 ∷ []
unfolding low_bytes
unpack_word d1 d2 d3 d4 d5 d6 d7 d8 s1 s2 s3 s4 s5 s6 s7 s8 =
    ap unpack same
    ∙ lowest 7 h7 d8 [] s8 ∙ lowest 6 h6 d7 _ s7 ∙ lowest 5 h5 d6 _ s6 ∙ lowest 4 h4 d5 _ s5
    ∙ lowest 3 h3 d4 _ s4 ∙ lowest 2 h2 d3 _ s3 ∙ lowest 1 h1 d2 _ s2 ∙ lowest 0 0 d1 _ s1
  where
    h1 : ℕ
    h1 = 0 * 256 + d1

    h2 : ℕ
    h2 = h1 * 256 + d2

    h3 : ℕ
    h3 = h2 * 256 + d3

    h4 : ℕ
    h4 = h3 * 256 + d4

    h5 : ℕ
    h5 = h4 * 256 + d5

    h6 : ℕ
    h6 = h5 * 256 + d6

    h7 : ℕ
    h7 = h6 * 256 + d7

    same : four (d1 * 256 + d2) (d3 * 256 + d4) (d5 * 256 + d6) (d7 * 256 + d8) ≡ h7 * 256 + d8
    same = omega arith

pub unpack_is : (x d1 d2 d3 d4 d5 d6 d7 d8 : ℕ) → x ≡ four (d1 * 256 + d2) (d3 * 256 + d4) (d5 * 256 + d6) (d7 * 256 + d8)
    → d1 < 256 → d2 < 256 → d3 < 256 → d4 < 256 → d5 < 256 → d6 < 256 → d7 < 256 → d8 < 256
    → unpack x ≡ d1 ∷ d2 ∷ d3 ∷ d4 ∷ d5 ∷ d6 ∷ d7 ∷ d8 ∷ []
unpack_is x d1 d2 d3 d4 d5 d6 d7 d8 e s1 s2 s3 s4 s5 s6 s7 s8 = ap unpack e ∙ unpack_word d1 d2 d3 d4 d5 d6 d7 d8 s1 s2 s3 s4 s5 s6 s7 s8

-- ## Any eight exponents in range

pub data Small : Exponents → Type 0 where
  none : Small []
  more : {x : ℕ} {l : Exponents} → x < 256 → Small l → Small (x ∷ l)

abbrev power : ℕ → Exponents → ℕ
power b [] = b
power b (x ∷ l) = power (b * 256) l

abbrev times : ℕ → ℕ → ℕ
times zero b = b
times (suc n) b = times n (b * 256)

power_long : (b : ℕ) (l : Exponents) → power b l ≡ times (length l) b
power_long b [] = refl
power_long b (x ∷ l) = power_long (b * 256) l

bytes_pack : (n a : ℕ) (l m : Exponents) → Small l → low_bytes (length l + n) (pack_from a l) m ≡ low_bytes n a (l ++ m)
bytes_pack n a [] m none = let z : 0 + n ≡ n = omega arith in ap (λ k. low_bytes k a m) z
bytes_pack n a (x ∷ l) m (more h s) =
    let z : suc (length l) + n ≡ length l + suc n = omega arith in
    ap (λ k. low_bytes k (pack_from (a * 256 + x) l) m) z ∙ bytes_pack (suc n) (a * 256 + x) l m s ∙ lowest n a x (l ++ m) h

pub unpack_pack : (e : Exponents) → length e ≡ 8 → Small e → unpack (pack e) ≡ e
unfolding low_bytes
unpack_pack e h s = let z : 8 ≡ length e + 0 = omega arith in ap (λ k. low_bytes k (pack e) []) z ∙ bytes_pack 0 0 e [] s ∙ append-nil e

pub eight_small : (e : Exponents) → T (fits? 255 e) → Small e
eight_small [] t = none
eight_small (x ∷ e) t = let l : x ≤ 255 = leb→le x 255 (and_left (leb x 255) (fits? 255 e) t) in let h : x < 256 = omega arith in
    more h (eight_small e (and_right (leb x 255) (fits? 255 e) t))

small_eight : (e : Exponents) → Small e → T (fits? 255 e)
small_eight [] none = tt
small_eight (x ∷ e) (more h s) = and_both (leb x 255) (fits? 255 e) (le→leb x 255 (omega arith)) (small_eight e s)

-- below 256 to the number of its bytes
pack_below : (a b : ℕ) (l : Exponents) → Small l → a < b → pack_from a l < power b l
pack_below a b [] none h = h
pack_below a b (x ∷ l) (more k s) h = pack_below (a * 256 + x) (b * 256) l s (omega arith)

pub pack_fits : (e : Exponents) → length e ≡ 8 → Small e → pack e < long_bound
pack_fits e h s = subst (λ n. pack e < n) (power_long 1 e ∙ ap (λ n. times n 1) h) (pack_below 0 1 e s (omega arith))

byte : (x : ℕ) → x % 256 < 256
byte x = omega arith

-- what a number holds are eight exponents in range
pub unpack_small : (x : ℕ) → Small (unpack x)
unfolding low_bytes
unpack_small x =
    more (byte (x / 256 / 256 / 256 / 256 / 256 / 256 / 256)) (more (byte (x / 256 / 256 / 256 / 256 / 256 / 256))
    (more (byte (x / 256 / 256 / 256 / 256 / 256)) (more (byte (x / 256 / 256 / 256 / 256)) (more (byte (x / 256 / 256 / 256))
    (more (byte (x / 256 / 256)) (more (byte (x / 256)) (more (byte x) none)))))))

pub unpack_long : (x : ℕ) → length (unpack x) ≡ 8
unfolding low_bytes
unpack_long x = refl

small_at : (e : Exponents) (k : ℕ) → Small e → get_or e k 0 < 256
small_at [] zero none = omega arith
small_at [] (suc k) none = omega arith
small_at (x ∷ e) zero (more h s) = h
small_at (x ∷ e) (suc k) (more h s) = small_at e k s

pub unpack_at : (x k : ℕ) → get_or (unpack x) k 0 < 256
unpack_at x k = small_at (unpack x) k (unpack_small x)

pub unpack_eight : (x : ℕ) → Eight (unpack x)
unpack_eight x = record { eight = unpack_long x; small = small_eight (unpack x) (unpack_small x) }

-- the two are inverse
pub pack_unpack : (x : ℕ) → x < long_bound → pack (unpack x) ≡ x
pack_unpack x h = let a = bytes_of x h in ap pack a.spelled ∙ omega arith

pub packed_eight : (e : Exponents) → Eight e → unpack (pack e) ≡ e
packed_eight e h = unpack_pack e h.eight (eight_small e h.small)

pub packed_below : (e : Exponents) → Eight e → pack e < long_bound
packed_below e h = pack_fits e h.eight (eight_small e h.small)

-- ## Its four words

-- a number of 64 bits from its words
pub long_of : (x : ℕ) → x < long_bound → four (x / 281474976710656) (x / 4294967296 % 65536) (x / 65536 % 65536) (x % 65536) ≡ x
long_of x h = omega arith

-- .. and the words from the number
pub words_of_four : (a b c d : ℕ) → a < 65536 → b < 65536 → c < 65536 → d < 65536 → words_of (four a b c d) ≡ d ∷ c ∷ b ∷ a ∷ []
words_of_four a b c d ha hb hc hd =
    let w : four a b c d % 65536 ≡ d = omega arith in
    let u : four a b c d / 65536 ≡ (a * 65536 + b) * 65536 + c = omega arith in
    let v : ((a * 65536 + b) * 65536 + c) % 65536 ≡ c = omega arith in
    let x : four a b c d / 65536 % 65536 ≡ c = ap (λ n. n % 65536) u ∙ v in
    let h : four a b c d / 4294967296 ≡ a * 65536 + b = omega arith in
    let l : (a * 65536 + b) % 65536 ≡ b = omega arith in
    let y : four a b c d / 4294967296 % 65536 ≡ b = ap (λ n. n % 65536) h ∙ l in
    let z : four a b c d / 281474976710656 ≡ a = omega arith in
    λ i. w i ∷ x i ∷ y i ∷ z i ∷ []

pub four_below : (a b c d : ℕ) → a < 65536 → b < 65536 → c < 65536 → d < 65536 → four a b c d < long_bound
four_below a b c d ha hb hc hd = omega arith

-- ## The degree

degree_within : (e : Exponents) → Small e → degree e ≤ length e * most_exponent
degree_within [] none = omega arith
degree_within (x ∷ e) (more h s) = let i : degree e ≤ length e * most_exponent = degree_within e s in omega arith

-- eight exponents of eight bits
pub degree_small : (x : ℕ) → degree (unpack x) ≤ exponents_length * most_exponent
degree_small x =
    let w : degree (unpack x) ≤ length (unpack x) * most_exponent = degree_within (unpack x) (unpack_small x) in omega (arith, unpack_long x)
