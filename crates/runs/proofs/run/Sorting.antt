-- A sorted sum has no more rows than the sum.
use mathlib.Core.Path.{◌≡◌, ap}
use mathlib.Core.Bool.{Bool, true, false}
use mathlib.Core.List.{[], ◌∷◌}
use Prim.Native.Nat.{ℕ, suc, ◌+◌, ◌≤◌}
use native.Mathlib.Omega.{arith}
use lib.Dec.{eqb}
use lib.ListN.{length}
use Rattle.definitions.specs.Field.{plus}
use Rattle.definitions.specs.Monomial.{Monomial, Term, Vector}
use Rattle.definitions.specs.Order.{Comparison, greater, equal, smaller}
use Rattle.definitions.specs.Vectors.{unless_zero, insert, inserted, descending}
use Rattle.definitions.specs.Layout.{Words, rows}
use Rattle.laws.proofs.Rows.{length_rows}

module _ (order : Monomial → Monomial → Comparison) (p : ℕ) where
  unless_zero_length : (t : Term) (v : Vector) → length (unless_zero t v) ≤ suc (length v)
  unless_zero_length t v = go (eqb t.0 0)
    where
      go : (b : Bool) → length {A = Term} (elim b [ true ↦ v | false ↦ t ∷ v ]) ≤ suc (length v)
      go true = omega arith
      go false = omega arith

  insert_length : (t : Term) (v : Vector) → length (insert order p t v) ≤ suc (length v)
  insert_length t [] = omega arith
  insert_length t (u ∷ v) = go (order t.1 u.1) (insert_length t v)
    where
      go : (c : Comparison) → length (insert order p t v) ≤ suc (length v)
          → length {A = Term} (elim c [ greater ↦ t ∷ u ∷ v | equal ↦ unless_zero (plus p t.0 u.0, u.1) v | smaller ↦ u ∷ insert order p t v ]) ≤
          suc (suc (length v))
      go greater l = omega arith
      go equal l = omega (arith, unless_zero_length (plus p t.0 u.0, u.1) v)
      go smaller l = omega arith

  inserted_length : (w v : Vector) → length (inserted order p w v) ≤ length w + length v
  inserted_length w [] = omega arith
  inserted_length w (t ∷ v) = omega (arith, inserted_length (insert order p t w) v, insert_length t w)

  pub sorted_rows : (d : Words) (k : ℕ) (s : Words) (n : ℕ) → rows d 0 k ≡ descending order p (rows s 0 n) → k ≤ n
  sorted_rows d k s n e = omega (arith, ap length e, length_rows d 0 k, length_rows s 0 n, inserted_length [] (rows s 0 n))
