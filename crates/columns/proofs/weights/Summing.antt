-- Weighted sums exponent by exponent, weights variable by variable, and how large they can be.
use mathlib.Core.Path.{◌≡◌, refl, sym, ap, ◌∙◌}
use mathlib.Core.List.{List, [], ◌∷◌}
use Prim.Native.Nat.{ℕ, zero, suc, ◌+◌, ◌-◌, ◌*◌, ◌<◌, ◌≤◌}
use native.Mathlib.Nat.{mul-le-mul_right}
use native.Mathlib.Omega.{arith}
use lib.Dec.{T, leb, leb→le}
use lib.ListN.{length, get_or, take, drop, replicate, drop_of_length-le, length-append, length-replicate, get_or-append}
use lib.Seq.{drop-cons, length-take-le, get_or-take, get_or-append-add, ext_get_or}
use Rattle.definitions.specs.Lists.{map}
use Rattle.definitions.specs.Monomial.{Exponents, degree, fits?}
use Rattle.definitions.specs.Problem.{pairs}
use Rattle.definitions.specs.Degrees.{component_degree}
use Rattle.definitions.specs.Bidegrees.{weighted, degree_weighted, Bidegree}
use Rattle.definitions.specs.Layout.{Words, row_at, long_at}
use Rattle.definitions.specs.Packed.{unpack}
use Rattle.definitions.specs.Places.{exponents_length, most_exponent, most_weight, most_variables, weights_length, row_length, exponents_offset}
use Rattle.laws.proofs.Members.{All, every_all, all_map, all_append, all_at}
use Rattle.laws.proofs.Packing.{unpack_at, degree_small}
use Rattle.lists.specs.Filling.{Filled}
use Rattle.bigraded.proofs.Columns.{length_map}
use Rattle.bigraded.proofs.Entries.{all_mapped}
use Rattle.bigraded.proofs.Weighted.{Small, small_pairs, length_pairs, firsts_pairs, seconds_pairs}
use Rattle.columns.specs.weights.Keys.{key, weights_of, key_weights, AtMost, most_key_weight, most_key}

-- ## Lists

pub get_d_map : {A B : Type 0} (g : A → B) (l : List A) (i : ℕ) (d : A) → get_or (map g l) i (g d) ≡ g (get_or l i d)
get_d_map g [] zero d = refl
get_d_map g [] (suc i) d = refl
get_d_map g (a ∷ l) zero d = refl
get_d_map g (a ∷ l) (suc i) d = get_d_map g l i d

-- the front of an array that a loop filled
pub filled_front : (m l : List ℕ) (r : ℕ) → r ≡ length m → r ≤ length l → Filled (λ k. get_or m k 0) r l → take r l ≡ m
filled_front m l r e h f =
    let n = length-take-le r l h in
    ext_get_or 0 (take r l) m (n ∙ e) (λ k i. let j : k < r = omega (arith, n, i) in get_or-take r l k 0 j ∙ f k j)

pub all_most : (b : ℕ) (l : List ℕ) → All (λ x. x ≤ b) l → AtMost b l
all_most b l h i = all_at (λ x. x ≤ b) 0 (omega arith) l i h

pub most_taken : (b r : ℕ) (l : List ℕ) → ((i : ℕ) → i < r → get_or l i 0 ≤ b) → AtMost b (take r l)
most_taken b zero l h zero = omega arith
most_taken b zero l h (suc i) = omega arith
most_taken b (suc r) [] h zero = omega arith
most_taken b (suc r) [] h (suc i) = omega arith
most_taken b (suc r) (x ∷ l) h zero = h 0 (omega arith)
most_taken b (suc r) (x ∷ l) h (suc i) = most_taken b r l (λ j k. h (suc j) (omega arith)) i

-- ## Weights

all_zeros : (n : ℕ) → All (λ x. x ≤ most_key_weight) (replicate n 0)
all_zeros zero = tt
all_zeros (suc n) = (omega arith, all_zeros n)

all_taken : (P : ℕ → Type 0) (n : ℕ) (l : List ℕ) → All P l → All P (take n l)
all_taken P zero l h = tt
all_taken P (suc n) [] h = tt
all_taken P (suc n) (x ∷ l) h = (h.0, all_taken P n l h.1)

pub small_weights : (n : ℕ) (ws : List ℕ) → T (fits? most_weight ws) → Small (weights_of n ws)
small_weights n ws t = small_pairs (take (2 * n) ws) (all_taken (λ x. x ≤ most_weight) (2 * n) ws
    (all_map (λ x. T (leb x most_weight)) (λ x. x ≤ most_weight) (λ x. leb→le x most_weight) ws (every_all (λ x. leb x most_weight) ws t)))

pub weights_low : (n : ℕ) (ws : List ℕ) → T (fits? most_weight ws) → AtMost most_key_weight (key_weights n ws)
weights_low n ws t =
    all_most most_key_weight (key_weights n ws) (all_append (λ x. x ≤ most_key_weight) (map key (weights_of n ws)) (replicate (exponents_length - n) 0)
    (all_mapped (λ x. x ≤ most_key_weight) key (weights_of n ws) (all_map (λ w. (w.0 ≤ most_weight) × (w.1 ≤ most_weight)) (λ w. key w ≤ most_key_weight)
    (λ w h. let a = h.0 in let b = h.1 in omega (arith, a, b)) (weights_of n ws) (small_weights n ws t)))
    (all_zeros (exponents_length - n)))

module _ (n : ℕ) (ws : List ℕ) (few : n ≤ most_variables) (all : length ws ≡ weights_length) where
  taken : length (take (2 * n) ws) ≡ 2 * n
  taken = length-take-le (2 * n) ws (omega (arith, few, all))

  abbrev keys : List ℕ
  keys = map key (weights_of n ws)

  many : length (map key (weights_of n ws)) ≡ n
  many = length_map key (weights_of n ws) ∙ length_pairs n (take (2 * n) ws) taken

  pub length_key_weights : length (key_weights n ws) ≡ exponents_length
  length_key_weights =
      let a = length-append (map key (weights_of n ws)) (replicate (exponents_length - n) 0) in
      let b = length-replicate {A = ℕ} (exponents_length - n) 0 in
      omega (arith, a, b, many, few)

  pair_there : (j : ℕ) → j < n → ◌≡◌ {A = Bidegree} (get_or ws (2 * j) 0, get_or ws (2 * j + 1) 0) (get_or (weights_of n ws) j (0, 0))
  pair_there j h =
      let v = take (2 * n) ws in
      let z : suc (2 * j) ≡ 2 * j + 1 = omega arith in
      let inside : suc (2 * j) < length v = omega (arith, taken, h) in
      let a = sym (get_or-take (2 * n) ws (2 * j) 0 (omega (arith, h))) ∙ sym (firsts_pairs v j inside)
      ∙ get_d_map (λ (w : Bidegree). w.0) (pairs v) j (0, 0) in
      let b = ap (λ i. get_or ws i 0) (sym z) ∙ sym (get_or-take (2 * n) ws (suc (2 * j)) 0 (omega (arith, h))) ∙ sym (seconds_pairs v j inside)
      ∙ get_d_map (λ (w : Bidegree). w.1) (pairs v) j (0, 0) in
      λ i. (a i, b i)

  pub weight_there : (j : ℕ) → j < n → key (get_or ws (2 * j) 0, get_or ws (2 * j + 1) 0) ≡ get_or (key_weights n ws) j 0
  weight_there j h =
      ap key (pair_there j h) ∙ sym (get_d_map key (weights_of n ws) j (0, 0))
      ∙ sym (get_or-append keys (replicate (exponents_length - n) 0) 0 j (omega (arith, many, h)))

  pub weight_past : (j : ℕ) → n ≤ j → ◌≡◌ {A = ℕ} 0 (get_or (key_weights n ws) j 0)
  weight_past j h =
      let z : length keys + (j - n) ≡ j = omega (arith, many, h) in
      sym (zeros (exponents_length - n) (j - n)) ∙ sym (get_or-append-add keys (replicate (exponents_length - n) 0) (j - n) 0)
      ∙ ap (λ i. get_or (key_weights n ws) i 0) z
    where
      zeros : (m i : ℕ) → get_or {A = ℕ} (replicate m 0) i 0 ≡ 0
      zeros zero zero = refl
      zeros zero (suc i) = refl
      zeros (suc m) zero = refl
      zeros (suc m) (suc i) = zeros m i

-- ## Sums

pub sum_on : (kw e : List ℕ) (j : ℕ) → j < length kw → j < length e
    → weighted (drop j kw) (drop j e) ≡ get_or kw j 0 * get_or e j 0 + weighted (drop (j + 1) kw) (drop (j + 1) e)
sum_on kw e j h k =
    let z : suc j ≡ j + 1 = omega arith in
    (λ i. weighted (drop-cons kw j 0 h i) (drop-cons e j 0 k i)) ∙ ap (λ n. get_or kw j 0 * get_or e j 0 + weighted (drop n kw) (drop n e)) z

pub sum_ends : (kw e : List ℕ) (j : ℕ) → length kw ≤ j → weighted (drop j kw) (drop j e) ≡ 0
sum_ends kw e j h = ap (λ l. weighted l (drop j e)) (drop_of_length-le kw h)

sum_most : (kw : List ℕ) → AtMost most_key_weight kw → (e : Exponents) → weighted kw e ≤ most_key_weight * degree e
sum_most [] h e = omega arith
sum_most (w ∷ kw) h [] = omega arith
sum_most (w ∷ kw) h (x ∷ e) =
    let a : w ≤ most_key_weight = h 0 in
    let p : w * x ≤ most_key_weight * x = mul-le-mul_right x a in
    let r = sum_most kw (λ i. h (suc i)) e in
    omega (arith, p, r)

pub component_most : (b : ℕ) (below : List ℕ) (c : ℕ) → AtMost b below → component_degree below c ≤ b
component_most b below zero h = omega arith
component_most b below (suc c) h = h c

pub unpack_most : (x : ℕ) → AtMost most_exponent (unpack x)
unpack_most x i = let h = unpack_at x i in omega (arith, h)

-- a row's key over keys that are at most b
pub row_most : (b : ℕ) (kw below : List ℕ) (level : Words) (i : ℕ) → AtMost most_key_weight kw → AtMost b below
    → degree_weighted kw below (row_at level i).1 ≤ b + most_key
unfolding row_at
row_most b kw below level i h k =
    let x = long_at level (i * row_length + exponents_offset) in
    let a = sum_most kw h (unpack x) in
    let d = degree_small x in
    let c = component_most b below (row_at level i).1.1 k in
    omega (arith, a, d, c)
