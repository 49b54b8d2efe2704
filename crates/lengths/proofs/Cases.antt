-- Closed cases of request A10: what it supposes can be met, n + 1 can not be made n, "none divides another" is needed, and codes 2 and 3 do not do.
use mathlib.Core.Path.{◌≡◌, refl, ap}
use mathlib.Core.List.{List, [], ◌∷◌}
use Prim.Native.Nat.{ℕ, zero, suc}
use native.Mathlib.Omega.{arith}
use lib.Dec.{T}
use lib.ListN.{length}
use Rattle.definitions.specs.Lists.{every}
use Rattle.definitions.specs.Monomial.{Monomial}
use Rattle.definitions.specs.Order.{smaller, lexicographic}
use Rattle.definitions.specs.Frame.{frame}
use Rattle.lengths.specs.Notions.{in_variables?, Sorted, Apart, Prepared, frame_terms}

-- x^a y^b z^c in component i
abbrev mono : ℕ → ℕ → ℕ → ℕ → Monomial
mono a b c i = (a ∷ b ∷ c ∷ 0 ∷ 0 ∷ 0 ∷ 0 ∷ 0 ∷ [], i)

-- two monomials of which the first is the lower one
sorted_pair : (l m : Monomial) → lexicographic l.0 m.0 ≡ smaller → Sorted (l ∷ m ∷ [])
sorted_pair l m e zero zero h k c = absurd (omega arith)
sorted_pair l m e zero (suc zero) h k c = e
sorted_pair l m e zero (suc (suc j)) h k c = absurd (omega arith)
sorted_pair l m e (suc i) zero h k c = absurd (omega arith)
sorted_pair l m e (suc i) (suc zero) h k c = absurd (omega arith)
sorted_pair l m e (suc i) (suc (suc j)) h k c = absurd (omega arith)

-- ## y, x: as wanted, n = 2

abbrev two : List Monomial
two = mono 0 1 0 1 ∷ mono 1 0 0 1 ∷ []

prepared_two : Prepared two
prepared_two = record { sorted = sorted_pair (mono 0 1 0 1) (mono 1 0 0 1) refl; apart = apart }
  where
    apart : Apart two
    apart zero zero l k d = refl
    apart zero (suc zero) l k d = absurd d
    apart zero (suc (suc j)) l k d = absurd (omega arith)
    apart (suc zero) zero l k d = absurd d
    apart (suc zero) (suc zero) l k d = refl
    apart (suc zero) (suc (suc j)) l k d = absurd (omega arith)
    apart (suc (suc i)) j l k d = absurd (omega arith)

-- y·e_2, without x; then nothing
levels_two : (frame_terms 1 two ≡ mono 0 1 0 2 ∷ []) × (frame_terms 2 two ≡ [])
levels_two = (refl, refl)

-- ## y, x, 1: not as wanted, so that level n = 2 is not empty, but level 3 is

abbrev three : List Monomial
three = mono 0 1 0 1 ∷ mono 1 0 0 1 ∷ mono 0 0 0 1 ∷ []

levels_three : (frame_terms 1 three ≡ mono 0 1 0 2 ∷ mono 0 1 0 3 ∷ mono 1 0 0 3 ∷ []) × (frame_terms 2 three ≡ mono 0 1 0 3 ∷ [])
    × (frame_terms 3 three ≡ [])
levels_three = (refl, refl, refl)

-- ## x, x²: ascending, but one divides the other, so that level n = 1 is not empty

abbrev divided : List Monomial
divided = mono 1 0 0 1 ∷ mono 2 0 0 1 ∷ []

levels_divided : (frame_terms 1 divided ≡ mono 0 0 0 2 ∷ []) × (frame_terms 2 divided ≡ [])
levels_divided = (refl, refl)

-- the statement for n = 1 with "ascending" alone is false
apart_needed : ¬ ((ms : List Monomial) → T (every (in_variables? 1) ms) → Sorted ms → frame_terms 1 ms ≡ [])
apart_needed h =
    let e : ◌≡◌ {A = ℕ} 1 0 = ap length (h divided tt (sorted_pair (mono 1 0 0 1) (mono 2 0 0 1) refl)) in
    omega arith

-- ## x², y²z, yz², xyz, 1: by code 3 level 4 = n + 1 was not empty

abbrev five : List Monomial
five = mono 2 0 0 1 ∷ mono 0 2 1 1 ∷ mono 0 1 2 1 ∷ mono 1 1 1 1 ∷ mono 0 0 0 1 ∷ []

-- how many frame terms the first levels have, numbered by a code
abbrev counts : ℕ → ℕ → List Monomial → List ℕ
counts zero code ms = []
counts (suc levels) code ms = length (frame code ms) ∷ counts levels code (frame code ms)

by_code_3 : counts 5 3 five ≡ 10 ∷ 10 ∷ 5 ∷ 1 ∷ 0 ∷ []
by_code_3 = refl

by_code_1 : counts 4 1 five ≡ 10 ∷ 8 ∷ 2 ∷ 0 ∷ []
by_code_1 = refl

-- .. and by code 2 with the elements in another sequence
abbrev other_five : List Monomial
other_five = mono 0 2 1 1 ∷ mono 0 1 2 1 ∷ mono 2 0 0 1 ∷ mono 1 1 1 1 ∷ mono 0 0 0 1 ∷ []

other_by_code_2 : length (frame 2 (frame 2 (frame 2 (frame 2 other_five)))) ≡ 1
other_by_code_2 = refl

other_by_code_1 : frame_terms 4 other_five ≡ []
other_by_code_1 = refl
