-- How many bytes a number of a line takes.
use mathlib.Core.Bool.{Bool, true, false, not}
use mathlib.Core.List.{List, [], ◌∷◌, ◌++◌}
use Prim.Native.Nat.{ℕ, zero, suc, ◌+◌, ◌*◌, ◌/◌, ◌%◌, ◌<◌, ◌≤◌}
use native.Mathlib.Omega.{arith}
use lib.Dec.{T, ltb, ltb→lt, nltb→le}
use lib.ListN.{length, length-append}
use Rattle.definitions.specs.Sheet.{digits, decimal, fields}

abbrev pub ten_to : ℕ → ℕ
ten_to zero = 1
ten_to (suc k) = 10 * ten_to k

pub digits_few : (n k v : ℕ) → v < ten_to (suc k) → length (digits n v) ≤ suc k
digits_few zero k v h = omega arith
digits_few (suc n) k v h = go (ltb v 10) (ltb→lt v 10) (nltb→le v 10) k h (λ j i. digits_few n j (v / 10) i)
  where
    go : (b : Bool) → (T b → v < 10) → (T (not b) → 10 ≤ v) → (k : ℕ) → v < ten_to (suc k)
        → ((j : ℕ) → v / 10 < ten_to (suc j) → length (digits n (v / 10)) ≤ suc j)
        → length {A = ℕ} (elim b [ true ↦ (48 + v) ∷ [] | false ↦ digits n (v / 10) ++ (48 + v % 10) ∷ [] ]) ≤ suc k
    go true s g k h ih = omega arith
    go false s g zero h ih = absurd (let l = g tt in omega (arith, l, h))
    go false s g (suc k) h ih =
        let r = ih k (let l = g tt in omega (arith, l, h)) in
        let a = length-append (digits n (v / 10)) ((48 + v % 10) ∷ []) in
        omega (arith, a, r)

-- a field behind its comma
pub field_few : (k v : ℕ) → v < ten_to (suc k) → (vs : List ℕ) → length (fields (v ∷ vs)) ≤ suc (suc k) + length (fields vs)
field_few k v h vs = let a = length-append (decimal v) (fields vs) in let b = digits_few (suc v) k v h in omega (arith, a, b)
