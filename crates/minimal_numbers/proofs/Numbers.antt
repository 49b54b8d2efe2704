-- "every one must be proved zero or more": in each column and degree, the ranks of the matrices that leave and enter it are together at most the count.
use mathlib.Core.Path.{◌≡◌, refl, sym, ap, ◌∙◌}
use mathlib.Core.List.{List, [], ◌∷◌}
use Prim.Native.Nat.{ℕ, zero, suc, ◌+◌, ◌%◌, ◌≤◌}
use native.Mathlib.Nat.{mul-zero, zero-mod}
use native.Mathlib.Omega.{arith}
use lib.Dec.{T, leb}
use lib.ListN.{length}
use Rattle.definitions.specs.Limits.{Limits}
use Rattle.definitions.specs.Lists.{map}
use Rattle.definitions.specs.Field.{plus, times, prime?}
use Rattle.definitions.specs.Monomial.{Level, unit, vector_of}
use Rattle.definitions.specs.Problem.{Parameters}
use Rattle.definitions.specs.State.{State, sound?}
use Rattle.definitions.specs.Betti.{column_degrees}
use Rattle.definitions.specs.Rank.{Matrix, combined, rank}
use Rattle.definitions.specs.Minimal.{minimal_number}
use Rattle.laws.proofs.Tests.{and_right}
use Rattle.laws.proofs.Modular.{prime_says}
use Rattle.laws.proofs.Sound.{sound_says}
use Rattle.demands.specs.Notions.{coefficient}
use Rattle.demands.specs.Exact.{Exact}
use Rattle.ranks.specs.Notions.{ProductZero}
use Rattle.ranks.specs.Ranks.{RanksRight}
use Rattle.betti.specs.Notions.{listed_level, generators}
use Rattle.betti.proofs.Counting.{counts_are, counts_below}
use Rattle.minimal_numbers.specs.Notions.{numbers_of, entering, leaving}
use Rattle.minimal_numbers.specs.Minimal.{NumbersRight}
use Rattle.minimal_numbers.proofs.Degrees.{Eights, HomogeneousLevels}
use Rattle.minimal_numbers.proofs.Columns.{numbers_counted}
use Rattle.minimal_numbers.proofs.Annihilation.{length_map, annihilate}
use Rattle.minimal_numbers.proofs.Matrices.{each_component, entering_is, leaving_is}

-- ## Columns of a matrix

-- so many rows without a number
empty_rows : List ℕ → Matrix
empty_rows ks = map (λ k. []) ks

nothing_combined : (p j : ℕ) (cs ks : List ℕ) → combined p j cs (empty_rows ks) ≡ 0
unfolding empty_rows
nothing_combined p j cs [] = refl
nothing_combined p j [] (k ∷ ks) = refl
nothing_combined p j (c ∷ cs) (k ∷ ks) =
    ap (λ z. plus p (times p c 0) z) (nothing_combined p j cs ks) ∙ ap (λ z. plus p (z % p) 0) (mul-zero c) ∙ ap (λ z. plus p z 0) (zero-mod p) ∙ zero-mod p

module _ (R : RanksRight) (p : ℕ) (P : T (prime? p)) where
  -- a rank is at most the number of columns
  pub rank_columns : (row : ℕ → ℕ → ℕ) (is ks : List ℕ) → rank p (map (λ i. map (row i) ks) is) ≤ length ks
  unfolding empty_rows
  rank_columns row is ks =
      let h = R.of_product p P (map (λ i. map (row i) ks) is) (empty_rows ks) (rows is) in
      let e : length (empty_rows ks) ≡ length ks = length_map {B = List ℕ} (λ k. []) ks in
      omega (arith, h, e)
    where
      rows : (is : List ℕ) → ProductZero p (map (λ i. map (row i) ks) is) (empty_rows ks)
      rows [] = tt
      rows (i ∷ is) = ((length_map (row i) ks ∙ sym (length_map {B = List ℕ} (λ k. []) ks), λ j. nothing_combined p j (map (row i) ks) ks), rows is)

-- ## A sound state whose levels are homogeneous

module _
    (R : RanksRight) (lim : Limits) (X : State) (s : T (sound? lim X)) (x : Exact lim X.parameters X.levels) (E : Eights X.levels)
    (H : HomogeneousLevels X.parameters.degrees X.levels) where
  abbrev q : Parameters
  q = X.parameters

  abbrev ls : List Level
  ls = X.levels

  prime : T (prime? q.p)
  prime = and_right (leb q.p lim.prime_bound) (prime? q.p) (sound_says lim X s).prime

  both_ranks : (c d : ℕ) → rank q.p (leaving q ls c d) + rank q.p (entering q ls c d) ≤ generators q ls c d
  both_ranks zero d =
      let a = rank_columns R q.p prime (λ i j. coefficient q.p (unit, j) (vector_of (listed_level ls 0) i)) (numbers_of q ls 1 d) (numbers_of q ls 0 d) in
      let b = numbers_counted X (each_component lim X s) 0 d in
      let z : rank q.p [] ≡ 0 = refl in
      omega (arith, a, b, z)
  both_ranks (suc c) d =
      let a = R.of_product q.p prime (entering q ls (suc c) d) (entering q ls c d) (annihilate q (prime_says q.p prime) lim ls x E H c d) in
      let b : length (entering q ls c d) ≡ length (numbers_of q ls (suc c) d) =
      length_map (λ i. map (λ j. coefficient q.p (unit, j) (vector_of (listed_level ls c) i)) (numbers_of q ls c d)) (numbers_of q ls (suc c) d) in
      let e = numbers_counted X (each_component lim X s) (suc c) d in
      omega (arith, a, b, e)

  pub numbers_right : NumbersRight q ls (minimal_number X (column_degrees X))
  numbers_right = record {
    differences = λ r c d h e.
        let a = both_ranks c d in
        let b = counts_are X (each_component lim X s) r c d e in
        let f = leaving_is lim X s d (r + c) e c in
        let g = entering_is lim X s d (r + c) e c in
        omega (arith, a, b, f, g);
    below = λ r c h. let a = counts_below X (each_component lim X s) r c h in omega (arith, a);
  }
