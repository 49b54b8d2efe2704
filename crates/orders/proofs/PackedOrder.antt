-- The orders on exponents in one number: lexicographic is the order of the numbers, the last differing exponent that of the bytes turned about.
use mathlib.Core.Path.{◌≡◌, refl, sym, ap, ◌∙◌}
use mathlib.Core.List.{[], ◌∷◌, reverse}
use Prim.Native.Nat.{ℕ, ◌+◌, ◌*◌, ◌/◌, ◌%◌, ◌<◌}
use native.Mathlib.Omega.{arith}
use lib.ListN.{length}
use Rattle.definitions.specs.Monomial.{Exponents}
use Rattle.definitions.specs.Order.{Comparison, greater, equal, smaller, or_at_tie, numbers, lexicographic, last_differing}
use Rattle.definitions.specs.Packed.{unpack, pack_from}
use Rattle.laws.proofs.Comparisons.{Says, numbers_say, numbers_are}
use Rattle.laws.proofs.Packing.{Bytes, unpack_is, Small, more}
use Rattle.monomial.proofs.Bytewise.{bytes_small, bytes_packed, e1, e2, e3, e4, e5, e6, e7, e8}

-- ## Lexicographic: the order of the numbers

tie_assoc : (a b c : Comparison) → or_at_tie (or_at_tie a b) c ≡ or_at_tie a (or_at_tie b c)
tie_assoc greater b c = refl
tie_assoc equal b c = refl
tie_assoc smaller b c = refl

tie_end : (c : Comparison) → c ≡ or_at_tie c equal
tie_end greater = refl
tie_end equal = refl
tie_end smaller = refl

-- one byte more
byte_more : (a b x y : ℕ) → x < 256 → y < 256 → numbers (a * 256 + x) (b * 256 + y) ≡ or_at_tie (numbers a b) (numbers x y)
byte_more a b x y hx hy = numbers_are (a * 256 + x) (b * 256 + y) (or_at_tie (numbers a b) (numbers x y))
    (go (numbers a b) (numbers x y) (numbers_say a b) (numbers_say x y))
  where
    go : (c d : Comparison) → Says c a b → Says d x y → Says (or_at_tie c d) (a * 256 + x) (b * 256 + y)
    go greater d h k = omega arith
    go smaller d h k = omega arith
    go equal greater h k = omega arith
    go equal equal h k = omega arith
    go equal smaller h k = omega arith

lex_from : (a b : ℕ) (l m : Exponents) → length m ≡ length l → Small l → Small m → numbers (pack_from a l) (pack_from b m)
    ≡ or_at_tie (numbers a b) (lexicographic l m)
lex_from a b [] [] e s t = tie_end (numbers a b)
lex_from a b [] (y ∷ m) e s t = absurd (omega arith)
lex_from a b (x ∷ l) [] e s t = absurd (omega arith)
lex_from a b (x ∷ l) (y ∷ m) e (more h s) (more k t) =
    lex_from (a * 256 + x) (b * 256 + y) l m (omega arith) s t
    ∙ ap (λ c. or_at_tie c (lexicographic l m)) (byte_more a b x y h k)
    ∙ tie_assoc (numbers a b) (numbers x y) (lexicographic l m)

pub lexicographic_packed : (x y : ℕ) → Bytes x → Bytes y → numbers x y ≡ lexicographic (unpack x) (unpack y)
lexicographic_packed x y a b =
    (λ i. numbers (bytes_packed x a i) (bytes_packed y b i)) ∙ lex_from 0 0 _ _ refl (bytes_small x a) (bytes_small y b)
    ∙ sym (λ i. lexicographic (a.spelled i) (b.spelled i))

-- ## The last differing exponent: the bytes in the other direction

turned_about : (p q r s t u v w : Comparison)
    → or_at_tie w (or_at_tie v (or_at_tie u (or_at_tie t (or_at_tie s (or_at_tie r (or_at_tie q (or_at_tie p equal)))))))
    ≡ or_at_tie (or_at_tie (or_at_tie (or_at_tie (or_at_tie (or_at_tie (or_at_tie (or_at_tie equal w) v) u) t) s) r) q) p
turned_about p q r s t u v w = simp tie_assoc (ap (λ c. or_at_tie w (or_at_tie v (or_at_tie u (or_at_tie t (or_at_tie s (or_at_tie r (or_at_tie q c)))))))
    (sym (tie_end p)))

pub last_differing_packed : (x y z w : ℕ) → Bytes x → Bytes y → Bytes z → Bytes w → unpack z ≡ reverse (unpack y) → unpack w ≡ reverse (unpack x) → numbers z w
    ≡ last_differing (unpack x) (unpack y)
last_differing_packed x y z w a b c d p q =
    lexicographic_packed z w c d
    ∙ (λ i. lexicographic ((p ∙ ap reverse b.spelled) i) ((q ∙ ap reverse a.spelled) i))
    ∙ turned_about (numbers b.d1 a.d1) (numbers b.d2 a.d2) (numbers b.d3 a.d3) (numbers b.d4 a.d4) (numbers b.d5 a.d5)
    (numbers b.d6 a.d6) (numbers b.d7 a.d7) (numbers b.d8 a.d8)
    ∙ sym (λ i. last_differing (a.spelled i) (b.spelled i))

pub swapped_packed : (x : ℕ) → Bytes x
    → unpack (x % 256 * 72057594037927936 + x / 256 % 256 * 281474976710656 + (x / 65536 % 256 * 1099511627776 + x / 16777216 % 256 * 4294967296)
    + (x / 4294967296 % 256 * 16777216 + x / 1099511627776 % 256 * 65536 + (x / 281474976710656 % 256 * 256 + x / 72057594037927936)))
    ≡ reverse (unpack x)
swapped_packed x a =
    unpack_is _ a.d8 a.d7 a.d6 a.d5 a.d4 a.d3 a.d2 a.d1
    ((λ i. e8 x a i * 72057594037927936 + e7 x a i * 281474976710656 + (e6 x a i * 1099511627776 + e5 x a i * 4294967296) +
    (e4 x a i * 16777216 + e3 x a i * 65536 + (e2 x a i * 256 + e1 x a i))) ∙ omega arith)
    a.s8 a.s7 a.s6 a.s5 a.s4 a.s3 a.s2 a.s1
    ∙ sym (ap reverse a.spelled)
