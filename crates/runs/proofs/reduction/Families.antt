-- A vector of a level, by the end of the one before it and its own.
use mathlib.Core.Path.{◌≡◌, refl, sym, ap, ◌∙◌}
use mathlib.Core.List.{[], ◌∷◌}
use Prim.Native.Nat.{ℕ, zero, suc, ◌-◌, ◌<◌, ◌≤◌}
use native.Mathlib.Nat.{not-suc-le-zero}
use native.Mathlib.Omega.{arith}
use lib.ListN.{length, get_or, take}
use lib.Seq.{get_or-take, length-take-le}
use Rattle.definitions.specs.Monomial.{vector_of}
use Rattle.definitions.specs.Layout.{Words, rows, vectors_at}
use Rattle.runs.specs.reduction.Grounds.{first_row}

abbrev before : ℕ → Words → ℕ → ℕ
before a es zero = a
before a es (suc i) = get_or es i 0

vector_from : (s : Words) (a : ℕ) (es : Words) (i : ℕ) → i < length es → get_or (vectors_at s a es) i []
    ≡ rows s (before a es i) (get_or es i 0 - before a es i)
vector_from s a [] i h = absurd (not-suc-le-zero h)
vector_from s a (e ∷ es) zero h = refl
vector_from s a (e ∷ es) (suc zero) h = vector_from s e es zero (omega arith)
vector_from s a (e ∷ es) (suc (suc i)) h = vector_from s e es (suc i) (omega arith)

pub vector_at : (s ends : Words) (r j : ℕ) → r ≤ length ends → 1 ≤ j → j ≤ r → vector_of (vectors_at s 0 (take r ends)) j
    ≡ rows s (first_row ends j) (get_or ends (j - 1) 0 - first_row ends j)
vector_at s ends r zero h l m = absurd (not-suc-le-zero l)
vector_at s ends r (suc zero) h l m =
    vector_from s 0 (take r ends) 0 (omega (arith, length-take-le r ends h)) ∙ ap (λ e. rows s 0 (e - 0)) (get_or-take r ends 0 0 (omega arith))
vector_at s ends r (suc (suc j)) h l m =
    let z : suc (suc j) - 1 ≡ suc j = omega arith in
    vector_from s 0 (take r ends) (suc j) (omega (arith, length-take-le r ends h))
    ∙ (λ i. rows s (get_or-take r ends j 0 (omega arith) i) (get_or-take r ends (suc j) 0 (omega arith) i - get_or-take r ends j 0 (omega arith) i))
    ∙ ap (λ k. rows s (get_or ends j 0) (get_or ends k 0 - get_or ends j 0)) (sym z)

-- from the second on
pub first_later : (ends : Words) (j : ℕ) → 1 ≤ j → (j ≡ 1 → ⊥) → get_or ends (j - 2) 0 ≡ first_row ends j
first_later ends zero h n = absurd (not-suc-le-zero h)
first_later ends (suc zero) h n = absurd (n refl)
first_later ends (suc (suc j)) h n = let z : suc (suc j) - 2 ≡ j = omega arith in ap (λ k. get_or ends k 0) z

pub first_one : (ends : Words) (j : ℕ) → j ≡ 1 → 0 ≡ first_row ends j
first_one ends j e = ap (first_row ends) (sym e)
