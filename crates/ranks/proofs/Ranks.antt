-- Request A7, ranks: the definition's number is the rank, and elimination finds it, of one matrix and of the constants of all degrees at once.
use mathlib.Core.Path.{◌≡◌, refl, sym, ap, ◌∙◌}
use mathlib.Core.Bool.{Bool, true, false}
use mathlib.Core.List.{List, [], ◌∷◌}
use Prim.Native.Nat.{ℕ, zero, suc, ◌+◌, ◌≤◌, ◌<◌}
use native.Mathlib.Omega.{arith}
use lib.Dec.{T, eqb}
use lib.ListN.{length, get_or, replicate}
use Rattle.definitions.specs.Lists.{sum}
use Rattle.definitions.specs.Field.{prime?}
use Rattle.definitions.specs.Places.{row_shift}
use Rattle.definitions.specs.Monomial.{Level}
use Rattle.definitions.specs.State.{State}
use Rattle.definitions.specs.Rank.{Matrix, rank}
use Rattle.definitions.specs.Minimal.{of_degree, vectors_at, constants, rank_entering, rank_leaving}
use Rattle.laws.proofs.Modular.{prime_says}
use Rattle.ranks.specs.Notions.{IsRank, ProductZero}
use Rattle.ranks.specs.Elimination.{marks}
use Rattle.ranks.specs.Blocks.{whole, marked}
use Rattle.ranks.specs.Ranks.{RanksRight}
use Rattle.ranks.proofs.Elimination.{rank_unique, rank_rows, marks_rank, ranks_of_product}
use Rattle.ranks.proofs.Definition.{rank_right}
use Rattle.ranks.proofs.Constants.{marks_constants}

module _ (p : ℕ) (prime : T (prime? p)) where
  pub rank_is : (M : Matrix) → IsRank p M (rank p M)
  rank_is M = let b = (prime_says p prime).big in let h : 0 < p = omega arith in rank_right p h M

  pub by_elimination : (M : Matrix) → rank p M ≡ sum (marks p M)
  by_elimination M = rank_unique p M (rank p M) (sum (marks p M)) (rank_is M) (marks_rank p (prime_says p prime) M)

  pub at_most_rows : (M : Matrix) → rank p M ≤ length M
  at_most_rows M = rank_rows p M (rank p M) (rank_is M)

  pub of_product : (A B : Matrix) → ProductZero p A B → rank p A + rank p B ≤ length B
  of_product A B z = ranks_of_product p (prime_says p prime) A B (rank p A) (rank p B) z (rank_is A) (rank_is B)

  pub by_degree : (t : ℕ) (es ds : List ℕ) (f : Level) → length ds ≡ length f
      → rank p (constants t es ds f) ≡ sum (of_degree t ds (marks p (whole es ds f)))
  by_degree t es ds f h = by_elimination (constants t es ds f) ∙ ap sum (sym (marks_constants p t es ds f h))

-- nothing leaves column 0
none_marked : (t : ℕ) (ds : List ℕ) → sum (of_degree t ds (replicate (length ds) 0)) ≡ 0
none_marked t [] = refl
none_marked t (d ∷ ds) = go (eqb (d + row_shift) t) (none_marked t ds)
  where
    go : (b : Bool) → sum (of_degree t ds (replicate (length ds) 0)) ≡ 0
        → sum (elim b [ true ↦ 0 ∷ of_degree t ds (replicate (length ds) 0) | false ↦ of_degree t ds (replicate (length ds) 0) ]) ≡ 0
    go true e = omega arith
    go false e = e

module _ (X : State) (degrees : List (List ℕ)) (prime : T (prime? X.parameters.p)) where
  pub entering : ((c : ℕ) → length (get_or degrees (suc c) []) ≡ length (vectors_at X c)) → (t c : ℕ) → rank_entering X degrees t c ≡ marked X degrees t (suc c)
  entering h t c = by_degree X.parameters.p prime t (get_or degrees c []) (get_or degrees (suc c) []) (vectors_at X c) (h c)

  pub leaving : ((c : ℕ) → length (get_or degrees (suc c) []) ≡ length (vectors_at X c)) → (t c : ℕ) → rank_leaving X degrees t c ≡ marked X degrees t c
  leaving h t zero = sym (none_marked t (get_or degrees 0 []))
  leaving h t (suc c) = entering h t c

pub ranks_right : RanksRight
ranks_right = record {
  rank_is = rank_is;
  one_rank = rank_unique;
  by_elimination = by_elimination;
  at_most_rows = at_most_rows;
  of_product = of_product;
  by_degree = by_degree;
  leaving = leaving;
  entering = entering;
}
