-- A row's words in range, as the code tests them and as the definitions do.
use mathlib.Core.Path.{◌≡◌, refl, sym, ap, ◌∙◌, subst}
use mathlib.Core.Bool.{Bool, true, false, not}
use mathlib.Core.List.{[], ◌∷◌}
use Prim.Native.Nat.{ℕ, zero, suc, ◌+◌, ◌-◌, ◌*◌, ◌<◌, ◌≤◌}
use native.Mathlib.Nat.{not-suc-le-zero, le_of_suc-le-suc}
use native.Mathlib.Omega.{arith}
use lib.Dec.{T, leb, ltb, eqb, leb→le, le→leb, ltb→lt, nltb→le, eqb→eq}
use lib.ListN.{length, get_or, drop, length-drop}
use lib.Seq.{get_or-drop}
use borrow.Author.Tests.{lt-ltb, le-ltb, eq-eqb}
use Rattle.definitions.specs.Limits.{document_01}
use Rattle.definitions.specs.Lists.{◌and◌, every, between, choose}
use Rattle.definitions.specs.Monomial.{Exponents, Term, divides?}
use Rattle.definitions.specs.Packed.{unpack, pack}
use Rattle.definitions.specs.Problem.{Parameters}
use Rattle.definitions.specs.State.{term_sound?}
use Rattle.definitions.specs.Layout.{Words, long_at, row_at}
use Rattle.laws.proofs.Tests.{and_left, and_right, and_both, is_true, every_at}
use Rattle.laws.proofs.Sound.{term_says, term_shown}
use Rattle.laws.proofs.Packing.{Eight, unpack_eight, unpack_at, unpack_long, packed_eight}
use Rattle.laws.proofs.Rows.{row_is}
use Rattle.definitions.specs.Places.{most_exponent, row_length, component_offset, exponents_offset}
use Rattle.state.specs.soundness.Holding.{limit_at, exponent_limits, bounds_of, row_holds?}
use Rattle.state.proofs.soundness.Pointwise.{every_all}

-- ## Limits of exponents

getD_limits : (n k : ℕ) → k < 8 → get_or (exponent_limits n) k 0 ≡ limit_at n k
getD_limits n zero l = refl
getD_limits n (suc zero) l = refl
getD_limits n (suc (suc zero)) l = refl
getD_limits n (suc (suc (suc zero))) l = refl
getD_limits n (suc (suc (suc (suc zero)))) l = refl
getD_limits n (suc (suc (suc (suc (suc zero))))) l = refl
getD_limits n (suc (suc (suc (suc (suc (suc zero)))))) l = refl
getD_limits n (suc (suc (suc (suc (suc (suc (suc zero))))))) l = refl
getD_limits n (suc (suc (suc (suc (suc (suc (suc (suc k)))))))) l = absurd (omega arith)

limit_small : (n k : ℕ) → limit_at n k ≤ most_exponent
limit_small n k = go (ltb k n)
  where
    go : (b : Bool) → choose b most_exponent 0 ≤ most_exponent
    go true = omega arith
    go false = omega arith

limit_past : (n k : ℕ) → n ≤ k → limit_at n k ≡ 0
limit_past n k h = ap (λ b. choose b most_exponent 0) (le-ltb k n h)

limit_inside : (n k : ℕ) → k < n → limit_at n k ≡ most_exponent
limit_inside n k h = ap (λ b. choose b most_exponent 0) (lt-ltb k n h)

limits_eight : (n : ℕ) → Eight (exponent_limits n)
limits_eight n = record {
  eight = refl;
  small = every_all (λ x. leb x most_exponent) (exponent_limits n) 0
      (λ i h. le→leb (get_or (exponent_limits n) i 0) most_exponent (omega (arith, getD_limits n i h, limit_small n i)));
}

-- all are in use
pub limits_all : (n : ℕ) → 8 ≤ n → pack (exponent_limits n) ≡ 18446744073709551615
limits_all n h = ap pack (λ i. at 0 (omega arith) i ∷ at 1 (omega arith) i ∷ at 2 (omega arith) i ∷ at 3 (omega arith) i ∷ at 4 (omega arith) i
    ∷ at 5 (omega arith) i ∷ at 6 (omega arith) i ∷ at 7 (omega arith) i ∷ [])
  where
    at : (k : ℕ) → k < 8 → limit_at n k ≡ most_exponent
    at k l = limit_inside n k (omega arith)

-- ## Divisibility as a bound at each place

divides_at : (a b : Exponents) → length b ≡ length a → T (divides? a b) → (k : ℕ) → k < length a → get_or a k 0 ≤ get_or b k 0
divides_at [] b e t k h = absurd (not-suc-le-zero h)
divides_at (x ∷ a) [] e t k h = absurd (omega arith)
divides_at (x ∷ a) (y ∷ b) e t zero h = leb→le x y (and_left (leb x y) (divides? a b) t)
divides_at (x ∷ a) (y ∷ b) e t (suc k) h = divides_at a b (omega arith) (and_right (leb x y) (divides? a b) t) k (le_of_suc-le-suc h)

divides_all : (a b : Exponents) → length b ≡ length a → ((k : ℕ) → k < length a → get_or a k 0 ≤ get_or b k 0) → T (divides? a b)
divides_all [] b e h = tt
divides_all (x ∷ a) [] e h = absurd (omega arith)
divides_all (x ∷ a) (y ∷ b) e h = and_both (leb x y) (divides? a b) (le→leb x y (h 0 (omega arith)))
    (divides_all a b (omega arith) (λ k l. h (suc k) (omega arith)))

-- ## Exponents: those of a number are at most 255, so that only those past n are left to test

module _ (n x : ℕ) where
  abbrev e : Exponents
  e = unpack x

  pub exponents_said : T (divides? (unpack x) (unpack (pack (exponent_limits n)))) → T (every (λ x. eqb x 0) (drop n (unpack x)))
  exponents_said t = every_all (λ x. eqb x 0) (drop n e) 0 past
    where
      bound : (k : ℕ) → k < 8 → get_or (unpack x) k 0 ≤ limit_at n k
      bound k h = omega (
        arith,
        getD_limits n k h,
        divides_at e (exponent_limits n) (sym (unpack_long x)) (subst (λ l. T (divides? e l)) (packed_eight (exponent_limits n) (limits_eight n)) t) k
            (omega (arith, unpack_long x)),
      )

      past : (i : ℕ) → i < length (drop n (unpack x)) → T (eqb (get_or (drop n (unpack x)) i 0) 0)
      past i h =
          let l : n + i < 8 = omega (arith, length-drop n e, unpack_long x) in
          let z : get_or e (n + i) 0 ≡ 0 = omega (arith, bound (n + i) l, limit_past n (n + i) (omega arith)) in
          is_true (eq-eqb (get_or (drop n e) i 0) 0 (get_or-drop n e i 0 ∙ z))

  pub exponents_shown : T (every (λ x. eqb x 0) (drop n (unpack x))) → T (divides? (unpack x) (unpack (pack (exponent_limits n))))
  exponents_shown p = subst (λ l. T (divides? e l)) (sym (packed_eight (exponent_limits n) (limits_eight n)))
      (divides_all e (exponent_limits n) (sym (unpack_long x)) (λ k h. bound k (omega (arith, unpack_long x))))
    where
      bound : (k : ℕ) → k < 8 → get_or (unpack x) k 0 ≤ get_or (exponent_limits n) k 0
      bound k h = go (ltb k n) (ltb→lt k n) (nltb→le k n)
        where
          go : (b : Bool) → (T b → k < n) → (T (not b) → n ≤ k) → get_or (unpack x) k 0 ≤ get_or (exponent_limits n) k 0
          go true u v = omega (arith, unpack_at x k, getD_limits n k h, limit_inside n k (u tt))
          go false u v =
              let m : n ≤ k = v tt in
              let z : n + (k - n) ≡ k = omega arith in
              let q : get_or (drop n e) (k - n) 0 ≡ 0 = eqb→eq (get_or (drop n e) (k - n) 0) 0
              (every_at (λ x. eqb x 0) (drop n e) (k - n) 0 p (omega (arith, length-drop n e, unpack_long x))) in
              omega (arith, sym (get_or-drop n e (k - n) 0) ∙ q, ap (λ j. get_or e j 0) z)

-- ## The row

module _ (q : Parameters) (components : ℕ) (s : Words) (i : ℕ) where
  abbrev x : ℕ
  x = long_at s (i * row_length + exponents_offset)

  abbrev t : Term
  t = (get_or s (i * row_length) 0, (unpack (long_at s (i * row_length + exponents_offset)), get_or s (i * row_length + component_offset) 0))

  abbrev first : Bool
  first = between 1 (get_or s (i * row_length) 0) (q.p - 1)

  abbrev second : Bool
  second = between 1 (get_or s (i * row_length + component_offset) 0) components

  abbrev third : Bool
  third = divides? (unpack (long_at s (i * row_length + exponents_offset))) (unpack (pack (exponent_limits q.n)))

  pub row_said : T (row_holds? (bounds_of q.p q.n components) s i) → T (term_sound? document_01 q components (row_at s i))
  row_said h =
      let r = and_right first (second and third) h in
      subst (λ u. T (term_sound? document_01 q components u)) (sym (row_is s i))
      (term_shown document_01 q components t (record {
        coefficient = and_left first (second and third) h;
        component =
            and_left second third r;
        eight = (unpack_eight x).eight;
        fits = (unpack_eight x).small;
        past = exponents_said q.n x (and_right second third r);
      }))

  pub row_shown : T (term_sound? document_01 q components (row_at s i)) → T (row_holds? (bounds_of q.p q.n components) s i)
  row_shown h =
      let r = term_says document_01 q components t (subst (λ u. T (term_sound? document_01 q components u)) (row_is s i) h) in
      and_both first (second and third) r.coefficient (and_both second third r.component (exponents_shown q.n x r.past))
