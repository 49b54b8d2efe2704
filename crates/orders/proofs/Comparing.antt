-- Comparing eight exponents from the first, or from the last.
use mathlib.Core.Path.{◌≡◌, refl, sym, ap, ◌∙◌}
use mathlib.Core.Bool.{true, false}
use mathlib.Core.List.{[], ◌∷◌}
use Prim.Native.Nat.{ℕ, zero, suc, ◌+◌, ◌<◌, ◌≤◌}
use native.Mathlib.Nat.{not-suc-le-zero, le_of_suc-le-suc}
use native.Mathlib.Omega.{arith}
use native.Mathlib.Decide.{ℕ_discrete}
use lib.ListN.{length, get_or, drop, drop_of_length-le}
use lib.Seq.{drop-cons}
use Rattle.definitions.specs.Monomial.{Exponents}
use Rattle.definitions.specs.Order.{Comparison, equal, or_at_tie, numbers, lexicographic, last_differing, exponents_by}
use Rattle.definitions.specs.Layout.{Words}
use Rattle.laws.proofs.Comparisons.{Says, numbers_say, numbers_are}
use Rattle.std.specs.declared.cmp.Ordering.{Ordering}
use Rattle.std.specs.declared.cmp.Ordering.TheVariants.{Less, Equal, Greater}
use Rattle.std.specs.Ordering.{MatchOrdering, nat_cmp, is_ne, ordering_then}
use Rattle.std.proofs.lemmas.Cmp.{ranked}
use Rattle.orders.specs.Images.{comparison_of, exponents_raw, Key, compare_keys}

-- ## `cmp`

-- what it answers of two numbers
pub cmp_says : (r : Ordering) (x y : ℕ) → r ≡ nat_cmp x y → Says (comparison_of r) x y
cmp_says r x y e = go r (ranked x y r e)
  where
    go : (r : Ordering) → MatchOrdering r (x < y) (x ≡ y) (y < x) → Says (comparison_of r) x y
    go Less h = h
    go Equal h = h
    go Greater h = h

pub cmp_is : (r : Ordering) (x y : ℕ) → r ≡ nat_cmp x y → comparison_of r ≡ numbers x y
cmp_is r x y e = sym (numbers_are x y (comparison_of r) (cmp_says r x y e))

-- at a tie the two are equal
pub cmp_tied : (r : Ordering) (x y : ℕ) → r ≡ nat_cmp x y → is_ne r ≡ false → x ≡ y
cmp_tied r x y e t = go r t (cmp_says r x y e)
  where
    go : (r : Ordering) → is_ne r ≡ false → Says (comparison_of r) x y → x ≡ y
    go Less t h = absurd (grind arith)
    go Equal t h = h
    go Greater t h = absurd (grind arith)

-- the code's answer, where the first comparison decides and where it does not
pub first_decides : (r : Ordering) (c d : Comparison) → comparison_of r ≡ c → is_ne r ≡ true → comparison_of r ≡ or_at_tie c d
first_decides Less c d e t = ap (λ c. or_at_tie c d) e
first_decides Equal c d e t = absurd (grind arith)
first_decides Greater c d e t = ap (λ c. or_at_tie c d) e

pub second_decides : (r s : Ordering) (c d : Comparison) → comparison_of s ≡ c → is_ne s ≡ false → comparison_of r ≡ d → comparison_of r ≡ or_at_tie c d
second_decides r Less c d e t f = absurd (grind arith)
second_decides r Equal c d e t f = f ∙ ap (λ c. or_at_tie c d) e
second_decides r Greater c d e t f = absurd (grind arith)

-- .. and where `then` puts the two together
pub then_decides : (r s : Ordering) (c d : Comparison) → comparison_of r ≡ c → comparison_of s ≡ d → comparison_of (ordering_then r s) ≡ or_at_tie c d
then_decides Less s c d e f = ap (λ c. or_at_tie c d) e
then_decides Equal s c d e f = f ∙ ap (λ c. or_at_tie c d) e
then_decides Greater s c d e f = ap (λ c. or_at_tie c d) e

-- ## From the first: what is still to be compared decides

lexicographic_step : (x y : Exponents) (j : ℕ) (c : Comparison) → j < length x → j < length y → Says c (get_or x j 0) (get_or y j 0)
    → lexicographic (drop j x) (drop j y) ≡ or_at_tie c (lexicographic (drop (j + 1) x) (drop (j + 1) y))
lexicographic_step x y j c h k s =
    let e : suc j ≡ j + 1 = omega arith in
    (λ i. lexicographic (drop-cons x j 0 h i) (drop-cons y j 0 k i))
    ∙ (λ i. or_at_tie (numbers_are (get_or x j 0) (get_or y j 0) c s i) (lexicographic (drop (e i) x) (drop (e i) y)))

-- a place at which `cmp` decides
pub lexicographic_decided : (x y : Exponents) (j : ℕ) (r : Ordering) → j < length x → j < length y → r ≡ nat_cmp (get_or x j 0) (get_or y j 0)
    → is_ne r ≡ true → comparison_of r ≡ lexicographic (drop j x) (drop j y)
lexicographic_decided x y j r h k e t =
    first_decides r _ (lexicographic (drop (j + 1) x) (drop (j + 1) y)) (cmp_is r _ _ e) t
    ∙ sym (lexicographic_step x y j _ h k (numbers_say (get_or x j 0) (get_or y j 0)))

pub lexicographic_on : (x y : Exponents) (j : ℕ) → j < length x → j < length y → get_or x j 0 ≡ get_or y j 0
    → lexicographic (drop j x) (drop j y) ≡ lexicographic (drop (j + 1) x) (drop (j + 1) y)
lexicographic_on x y j h k e = lexicographic_step x y j equal h k e

pub lexicographic_end : (x y : Exponents) (j : ℕ) → length x ≤ j → length y ≤ j → lexicographic (drop j x) (drop j y) ≡ equal
lexicographic_end x y j h k = λ i. lexicographic (drop_of_length-le x h i) (drop_of_length-le y k i)

-- ## From the last

-- the exponents from place j on are equal
abbrev pub EqualFrom : ℕ → Exponents → Exponents → Type 0
EqualFrom j x y = (k : ℕ) → j ≤ k → k < length x → get_or x k 0 ≡ get_or y k 0

pub last_differing_equal : (x y : Exponents) → length y ≡ length x → EqualFrom 0 x y → last_differing x y ≡ equal
last_differing_equal [] y e f = refl
last_differing_equal (a ∷ x) [] e f = absurd (omega arith)
last_differing_equal (a ∷ x) (b ∷ y) e f =
    (λ i. or_at_tie (last_differing_equal x y (omega arith) (λ k h l. f (suc k) (omega arith) (omega arith)) i) (numbers b a))
    ∙ numbers_are b a equal (sym (f 0 (omega arith) (omega arith)))

last_differing_at : (x y : Exponents) (j : ℕ) (c : Comparison) → length y ≡ length x → j < length x → EqualFrom (j + 1) x y
    → Says c (get_or y j 0) (get_or x j 0) → ((d : Comparison) → or_at_tie c d ≡ c) → last_differing x y ≡ c
last_differing_at [] y j c e h f s d = absurd (not-suc-le-zero h)
last_differing_at (a ∷ x) [] j c e h f s d = absurd (omega arith)
last_differing_at (a ∷ x) (b ∷ y) zero c e h f s d =
    (λ i. or_at_tie (last_differing_equal x y (omega arith) (λ k h l. f (suc k) (omega arith) (omega arith)) i) (numbers b a)) ∙ numbers_are b a c s
last_differing_at (a ∷ x) (b ∷ y) (suc j) c e h f s d =
    (λ i. or_at_tie (last_differing_at x y j c (omega arith) (le_of_suc-le-suc h) (λ k h l. f (suc k) (omega arith) (omega arith)) s d i) (numbers b a))
    ∙ d (numbers b a)

-- a place at which `cmp` decides
pub last_differing_decided : (x y : Exponents) (j : ℕ) (r : Ordering) → length y ≡ length x → j < length x → EqualFrom (j + 1) x y
    → r ≡ nat_cmp (get_or y j 0) (get_or x j 0) → is_ne r ≡ true → comparison_of r ≡ last_differing x y
last_differing_decided x y j r e h f q t =
    sym (last_differing_at x y j (comparison_of r) e h f (cmp_says r (get_or y j 0) (get_or x j 0) q) (λ d. sym (first_decides r (comparison_of r) d refl t)))

pub equal_from_less : (x y : Exponents) (j k : ℕ) → k + 1 ≡ j → EqualFrom j x y → get_or x k 0 ≡ get_or y k 0 → EqualFrom k x y
equal_from_less x y j k s f e n h l = go (ℕ_discrete n k)
  where
    go : Dec (n ≡ k) → get_or x n 0 ≡ get_or y n 0
    go (yes q) = rw q e
    go (no ne) = f n (omega arith) l

-- ## The order code

-- ## Raw exponents

pub getD_raw : (s : Words) (a k : ℕ) → k < 8 → get_or (exponents_raw s a) k 0 ≡ get_or s (a + k) 0
getD_raw s a zero l = let q : a ≡ a + 0 = omega arith in ap (λ j. get_or s j 0) q
getD_raw s a (suc zero) l = refl
getD_raw s a (suc (suc zero)) l = refl
getD_raw s a (suc (suc (suc zero))) l = refl
getD_raw s a (suc (suc (suc (suc zero)))) l = refl
getD_raw s a (suc (suc (suc (suc (suc zero))))) l = refl
getD_raw s a (suc (suc (suc (suc (suc (suc zero)))))) l = refl
getD_raw s a (suc (suc (suc (suc (suc (suc (suc zero))))))) l = refl
getD_raw s a (suc (suc (suc (suc (suc (suc (suc (suc k)))))))) l = absurd (omega arith)

-- ## Keys: at a tie of the exponents the ranks, and then the components

pub keys_compared : (code : ℕ) (k l : Key) (r s t : Ordering) → comparison_of r ≡ exponents_by code k.0 l.0 → is_ne r ≡ false
    → s ≡ nat_cmp k.1.0 l.1.0 → t ≡ nat_cmp k.1.1 l.1.1 → comparison_of (ordering_then s t) ≡ compare_keys code k l
keys_compared code k l r s t e n f g =
    second_decides (ordering_then s t) r _ _ e n
    (then_decides s t _ _ (cmp_is s k.1.0 l.1.0 f) (cmp_is t k.1.1 l.1.1 g))
