-- Request A7, ranks: "Rank is defined as the largest number of independent rows, without reference to elimination."
use Rattle.std.specs.Prelude.{◌≡◌, List, [], ℕ, suc, ◌+◌, ◌≤◌, T, length, get_or}
use Rattle.definitions.specs.Lists.{sum}
use Rattle.definitions.specs.Field.{prime?}
use Rattle.definitions.specs.Monomial.{Level}
use Rattle.definitions.specs.State.{State}
use Rattle.definitions.specs.Rank.{Matrix, rank}
use Rattle.definitions.specs.Minimal.{of_degree, vectors_at, constants, rank_entering, rank_leaving}
use Rattle.ranks.specs.Notions.{IsRank, ProductZero}
use Rattle.ranks.specs.Elimination.{marks}
use Rattle.ranks.specs.Blocks.{whole, marked}

pub record RanksRight : Type 0 where
  -- the definition's number is a rank, and there is no other
  pub rank_is : (p : ℕ) → T (prime? p) → (M : Matrix) → IsRank p M (rank p M)
  pub one_rank : (p : ℕ) (M : Matrix) (r s : ℕ) → IsRank p M r → IsRank p M s → r ≡ s
  -- elimination finds it: the number of rows that are marked
  pub by_elimination : (p : ℕ) → T (prime? p) → (M : Matrix) → rank p M ≡ sum (marks p M)
  -- it is at most the number of rows; and where A-as-B is zero, the ranks of A and B together are at most the number of B's
  pub at_most_rows : (p : ℕ) → T (prime? p) → (M : Matrix) → rank p M ≤ length M
  pub of_product : (p : ℕ) → T (prime? p) → (A B : Matrix) → ProductZero p A B → rank p A + rank p B ≤ length B
  -- one elimination of the constants of all degrees marks, in each degree, as many rows as the rank of that degree's matrix
  pub by_degree : (p : ℕ) → T (prime? p) → (t : ℕ) (es ds : List ℕ) (f : Level) → length ds ≡ length f
      → rank p (constants t es ds f) ≡ sum (of_degree t ds (marks p (whole es ds f)))
  -- so of a state's columns
  pub leaving : (X : State) (degrees : List (List ℕ)) → T (prime? X.parameters.p)
      → ((c : ℕ) → length (get_or degrees (suc c) []) ≡ length (vectors_at X c)) → (t c : ℕ) → rank_leaving X degrees t c ≡ marked X degrees t c
  pub entering : (X : State) (degrees : List (List ℕ)) → T (prime? X.parameters.p)
      → ((c : ℕ) → length (get_or degrees (suc c) []) ≡ length (vectors_at X c)) → (t c : ℕ) → rank_entering X degrees t c ≡ marked X degrees t (suc c)
