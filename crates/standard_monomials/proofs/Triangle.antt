-- Pascal's triangle: its rule at every entry, by one computed test over the whole table, and what its entries count.
use mathlib.Core.Path.{◌≡◌, refl, sym, ap, ap₂, ◌∙◌, subst}
use mathlib.Core.Bool.{Bool, true}
use mathlib.Core.List.{List}
use Prim.Native.Nat.{ℕ, zero, suc, ◌+◌, ◌-◌, ◌<◌, ◌≤◌}
use native.Mathlib.Omega.{arith}
use native.Mathlib.Decide.{ℕ_discrete}
use lib.Dec.{T, eqb, leb, eqb→eq, leb→le}
use lib.ListN.{length}
use Rattle.definitions.specs.Lists.{◌and◌}
use Rattle.definitions.specs.Pascal.{triangle, entry_place, entry_in, entry, monomials}
use Rattle.definitions.specs.Standard.{of_degree_in}
use Rattle.definitions.specs.Places.{exponents_length, hilbert_degrees, triangle_rows, triangle_length}
use Rattle.laws.proofs.Tests.{and_left, and_right}
use Rattle.standard_monomials.specs.Table.{most_monomials, TableRight}
use Rattle.standard_monomials.proofs.Ways.{length_next, length_unit, length_power, ways_right}

-- the test passes at each number below n
abbrev below : ℕ → (ℕ → Bool) → Bool
below zero f = true
below (suc n) f = f n and below n f

below_at : (f : ℕ → Bool) (n : ℕ) → T (below n f) → (k : ℕ) → k < n → T (f k)
below_at f zero t k h = absurd (omega arith)
below_at f (suc n) t k h = go (ℕ_discrete k n) (below_at f n (and_right (f n) (below n f) t) k)
  where
    go : Dec (k ≡ n) → (k < n → T (f k)) → T (f k)
    go (yes e) r = subst (λ (m : ℕ). T (f m)) (sym e) (and_left (f n) (below n f) t)
    go (no e) r = r (omega arith)

-- ## The tests

abbrev first? : List ℕ → ℕ → Bool
first? t m = eqb (entry_in t m 0) 1

abbrev last? : List ℕ → ℕ → Bool
last? t m = eqb (entry_in t m m) 1

abbrev rule? : List ℕ → ℕ → ℕ → Bool
rule? t m k = eqb (entry_in t (suc m) (suc k)) (entry_in t m k + entry_in t m (suc k))

abbrev few? : List ℕ → ℕ → ℕ → Bool
few? t m k = leb (entry_in t m k) most_monomials

-- computed over the table, which is handed over as an argument so that it is made once
abbrev firsts? : List ℕ → Bool
firsts? t = below triangle_rows (first? t)

abbrev lasts? : List ℕ → Bool
lasts? t = below triangle_rows (last? t)

abbrev rules? : List ℕ → Bool
rules? t = below (triangle_rows - 1) (λ m. below m (rule? t m))

abbrev all_few? : List ℕ → Bool
all_few? t = below triangle_rows (λ m. below exponents_length (few? t m))

firsts : T (firsts? triangle)
firsts = tt

lasts : T (lasts? triangle)
lasts = tt

rules : T (rules? triangle)
rules = tt

all_few : T (all_few? triangle)
all_few = tt

size : length triangle ≡ triangle_length
size = refl

-- ## At every entry

first : (m : ℕ) → m < triangle_rows → entry m 0 ≡ 1
first m h = eqb→eq (entry m 0) 1 (below_at (first? triangle) triangle_rows firsts m h)

last : (m : ℕ) → m < triangle_rows → entry m m ≡ 1
last m h = eqb→eq (entry m m) 1 (below_at (last? triangle) triangle_rows lasts m h)

rule : (m k : ℕ) → suc m < triangle_rows → k < m → entry (suc m) (suc k) ≡ entry m k + entry m (suc k)
rule m k h l =
    eqb→eq (entry (suc m) (suc k)) (entry m k + entry m (suc k))
    (below_at (rule? triangle m) m (below_at (λ m. below m (rule? triangle m)) (triangle_rows - 1) rules m (omega (arith, h))) k l)

few : (m k : ℕ) → m < triangle_rows → k < exponents_length → entry m k ≤ most_monomials
few m k h l =
    leb→le (entry m k) most_monomials
    (below_at (few? triangle m) exponents_length (below_at (λ m. below exponents_length (few? triangle m)) triangle_rows all_few m h) k l)

-- ## Places

next_place : (m k : ℕ) → entry_place m (suc k) ≡ suc (entry_place m k)
next_place m k = omega arith

next_row_place : (m : ℕ) → entry_place (suc m) 0 ≡ suc (entry_place m m)
next_row_place m = omega arith

inside? : Bool
inside? = below triangle_rows (λ m. leb (suc (entry_place m m)) triangle_length)

all_inside : T inside?
unfolding inside?
all_inside = tt

inside : (m k : ℕ) → m < triangle_rows → k ≤ m → entry_place m k < triangle_length
unfolding inside?
inside m k h l =
    let a = leb→le (suc (entry_place m m)) triangle_length
    (below_at (λ m. leb (suc (entry_place m m)) triangle_length) triangle_rows all_inside m h) in
    omega (arith, a, l)

-- ## Ways

-- entry k of row d + k
entry_ways : (k d : ℕ) → d + k < triangle_rows → entry (d + k) k ≡ length (of_degree_in (suc k) d)
entry_ways zero d h = first (d + 0) h ∙ sym (length_power d)
entry_ways (suc k) zero h =
    let z : 0 + suc k ≡ suc k = omega arith in
    ap (λ m. entry m (suc k)) z ∙ last (suc k) (omega (arith, h)) ∙ sym (length_unit (suc (suc k)))
entry_ways (suc k) (suc d) h =
    let a : suc d + suc k ≡ suc (d + suc k) = omega arith in
    let b : d + suc k ≡ suc d + k = omega arith in
    let r = rule (d + suc k) k (omega (arith, h)) (omega arith) in
    ap (λ m. entry m (suc k)) a ∙ r
    ∙ ap₂ (λ x y. x + y) (ap (λ m. entry m k) b ∙ entry_ways k (suc d) (omega (arith, h))) (entry_ways (suc k) d (omega (arith, h)))
    ∙ sym (length_next (suc k) d)

number : (n d : ℕ) → 1 ≤ n → n ≤ exponents_length → d < hilbert_degrees → monomials n d ≡ length (of_degree_in n d)
number zero d h l k = absurd (omega (arith, h))
number (suc n) d h l k = let z : suc n - 1 ≡ n = omega arith in ap (λ j. entry (d + j) j) z ∙ entry_ways n d (omega (arith, l, k))

pub table_right : TableRight
table_right = record {
  size = size;
  first_place = refl;
  next_place = next_place;
  next_row_place = next_row_place;
  inside = inside;
  first = first;
  last = last;
  rule = rule;
  number = number;
  ways = ways_right;
  few = λ n d h l k. few (d + (n - 1)) (n - 1) (omega (arith, h, l, k)) (omega (arith, h, l));
}
