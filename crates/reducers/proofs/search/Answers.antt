-- The rule's answer, from the first head that divides; products.
use mathlib.Core.Path.{◌≡◌, refl, sym, ap, ◌∙◌, subst}
use mathlib.Core.Bool.{Bool, true, false}
use mathlib.Core.List.{[], ◌∷◌}
use Prim.Native.Nat.{ℕ, suc, ◌+◌, ◌-◌, ◌<◌, ◌≤◌}
use native.Mathlib.Omega.{arith}
use lib.Dec.{T, ltb}
use lib.ListN.{length, get_or}
use borrow.Author.Tests.{ltb-true, ltb-false, lt-ltb, le-ltb}
use Rattle.definitions.specs.Lists.{choose}
use Rattle.definitions.specs.Field.{times}
use Rattle.definitions.specs.Monomial.{Monomial, Term, Vector, divides_monomial?, quotient, no_term}
use Rattle.definitions.specs.Reducer.{Answer, reducer, lower_order, answer_from}
use Rattle.std.specs.Prelude.{Option as CodeOption, Some, None}
use Rattle.reducers.specs.search.Search.{searched, searched_at, first_dividing}

abbrev answer_at : ℕ → ℕ → Vector → Term → ℕ → Answer
answer_at p k v t j = reducer (k + j) (times p t.0 (get_or v j no_term).0) (quotient t.1.0 (get_or v j no_term).1.0)

-- i counts from the same head as the answer's number k
pub data Answered (p k : ℕ) (v : Vector) (t : Term) (i : ℕ) : ℕ → Answer → Type 0 where
  none_divides : {j : ℕ} → j ≡ i + length v → Answered p k v t i j lower_order
  one_divides : {j : ℕ} {x : Answer} → i ≤ j → j < i + length v → x ≡ answer_at p k v t (j - i) → Answered p k v t i j x

pub answered_by : (p k : ℕ) (v : Vector) (t : Term) (i : ℕ) → Answered p k v t i (first_dividing t.1 v i) (answer_from p k v t)
answered_by p k [] t i = none_divides {j = i} (omega arith)
answered_by p k (h ∷ v) t i = go (divides_monomial? h.1 t.1) (answered_by p (suc k) v t (suc i))
  where
    further : {j : ℕ} {x : Answer} → Answered p (suc k) v t (suc i) j x → Answered p k (h ∷ v) t i j x
    further {j} (none_divides e) = none_divides {j = j} (omega arith)
    further {j} (one_divides l m e) =
        let z : j - i ≡ suc (j - suc i) = omega arith in
        let y : suc k + (j - suc i) ≡ k + suc (j - suc i) = omega arith in
        one_divides {j = j} (omega arith) (omega arith) (e ∙ ap (λ n. reducer n (times p t.0 (get_or v (j - suc i) no_term).0)
        (quotient t.1.0 (get_or v (j - suc i) no_term).1.0)) y ∙ ap (answer_at p k (h ∷ v) t) (sym z))

    go : (b : Bool) → Answered p (suc k) v t (suc i) (first_dividing t.1 v (suc i)) (answer_from p (suc k) v t) → Answered p k (h ∷ v) t i
        (elim b [ true ↦ i | false ↦ first_dividing t.1 v (suc i) ])
        (elim b [ true ↦ reducer k (times p t.0 h.0) (quotient t.1.0 h.1.0) | false ↦ answer_from p (suc k) v t ])
    go true r =
        let z : 0 ≡ i - i = omega arith in
        let y : k ≡ k + 0 = omega arith in
        one_divides {j = i} (omega arith) (omega arith) (ap (λ n. reducer n (times p t.0 h.0) (quotient t.1.0 h.1.0)) y
        ∙ ap (answer_at p k (h ∷ v) t) z)
    go false r = further r

to_lower : {p : ℕ} {v : Vector} {t : Term} {j : ℕ} {x : Answer} → Answered p 1 v t 0 j x → j ≡ length v → lower_order ≡ x
to_lower (none_divides e) q = refl
to_lower (one_divides l m e) q = absurd (omega arith)

to_reducer : {p : ℕ} {v : Vector} {t : Term} {j : ℕ} {x : Answer} → Answered p 1 v t 0 j x → (j ≡ length v → ⊥) → answer_at p 1 v t j ≡ x
to_reducer (none_divides e) q = absurd (q (omega arith))
to_reducer {p} {v} {t} {j} (one_divides l m e) q = let z : j ≡ j - 0 = omega arith in ap (answer_at p 1 v t) z ∙ sym e

to_inside : {p : ℕ} {v : Vector} {t : Term} {j : ℕ} {x : Answer} → Answered p 1 v t 0 j x → (j ≡ length v → ⊥) → j < length v
to_inside (none_divides e) q = absurd (q (omega arith))
to_inside (one_divides l m e) q = omega arith

pub answer_none : (p : ℕ) (v : Vector) (t : Term) (j : ℕ) → j ≡ first_dividing t.1 v 0 → j ≡ length v → lower_order ≡ answer_from p 1 v t
answer_none p v t j e q = to_lower (answered_by p 1 v t 0) (sym e ∙ q)

pub answer_one : (p : ℕ) (v : Vector) (t : Term) (j : ℕ) → j ≡ first_dividing t.1 v 0 → (j ≡ length v → ⊥)
    → reducer (1 + j) (times p t.0 (get_or v j no_term).0) (quotient t.1.0 (get_or v j no_term).1.0) ≡ answer_from p 1 v t
answer_one p v t j e q = ap (answer_at p 1 v t) e ∙ to_reducer (answered_by p 1 v t 0) (λ x. q (e ∙ x))

pub found_inside : (p : ℕ) (v : Vector) (t : Term) (j : ℕ) → j ≡ first_dividing t.1 v 0 → (j ≡ length v → ⊥) → j < length v
found_inside p v t j e q = subst (λ n. n < length v) (sym e) (to_inside (answered_by p 1 v t 0) (λ x. q (e ∙ x)))

-- ## What the search gives

abbrev element : CodeOption (ℕ × ℕ) → ℕ
element (Some x) = x.0
element None = 0

abbrev head_of : CodeOption (ℕ × ℕ) → ℕ
head_of (Some x) = x.1
head_of None = 0

abbrev found? : CodeOption (ℕ × ℕ) → Bool
found? (Some x) = true
found? None = false

first_within : (p : ℕ) (v : Vector) (t : Term) → first_dividing t.1 v 0 ≤ length v
first_within p v t = go (answered_by p 1 v t 0)
  where
    go : {j : ℕ} {x : Answer} → Answered p 1 v t 0 j x → j ≤ length v
    go (none_divides e) = omega arith
    go (one_divides l m e) = omega arith

pub searched_none : (v : Vector) (m : Monomial) (j : ℕ) → j ≡ first_dividing m v 0 → j ≡ length v → None ≡ searched v m
searched_none v m j e q = sym (ap (searched_at v) (sym e) ∙ ap (λ b. choose {A = CodeOption (ℕ × ℕ)} b (Some (suc j, (get_or v j no_term).0)) None)
    (le-ltb j (length v) (omega arith)))

pub searched_one : (v : Vector) (m : Monomial) (j : ℕ) → j ≡ first_dividing m v 0 → j < length v → ◌≡◌ {A = CodeOption (ℕ × ℕ)} (Some (j + 1, (get_or v j no_term).0)) (searched v m)
searched_one v m j e l =
    let z : j + 1 ≡ suc j = omega arith in
    ap {B = CodeOption (ℕ × ℕ)} (λ n. Some (n, (get_or v j no_term).0)) z ∙ sym (ap (searched_at v) (sym e)
    ∙ ap (λ b. choose {A = CodeOption (ℕ × ℕ)} b (Some (suc j, (get_or v j no_term).0)) None) (lt-ltb j (length v) l))

-- none: of lower order, whatever the coefficient
pub searched_lower : (p : ℕ) (v : Vector) (t : Term) → None ≡ searched v t.1 → lower_order ≡ answer_from p 1 v t
searched_lower p v t e = go (ltb (first_dividing t.1 v 0) (length v)) refl e
  where
    j : ℕ
    j = first_dividing t.1 v 0

    go : (b : Bool) → ltb j (length v) ≡ b → ◌≡◌ {A = CodeOption (ℕ × ℕ)} None (choose b (Some (suc j, (get_or v j no_term).0)) None) → lower_order
        ≡ answer_from p 1 v t
    go true q f = absurd (subst (λ x. T (found? x)) (sym f) tt)
    go false q f = let n : length v ≤ j = ltb-false j (length v) q in answer_none p v t j refl (omega (arith, first_within p v t))

-- element j, whose row has the coefficient h
pub record IsReducer (p : ℕ) (v : Vector) (t : Term) (j h : ℕ) : Type 0 where
  pub from : 1 ≤ j
  pub inside : j - 1 < length v
  pub head : h ≡ (get_or v (j - 1) no_term).0
  pub answers : reducer j (times p t.0 h) (quotient t.1.0 (get_or v (j - 1) no_term).1.0) ≡ answer_from p 1 v t

pub searched_reducer : (p : ℕ) (v : Vector) (t : Term) (j h : ℕ) → ◌≡◌ {A = CodeOption (ℕ × ℕ)} (Some (j, h)) (searched v t.1) → IsReducer p v t j h
searched_reducer p v t j h e = go (ltb k (length v)) refl e
  where
    k : ℕ
    k = first_dividing t.1 v 0

    go : (b : Bool) → ltb k (length v) ≡ b → ◌≡◌ {A = CodeOption (ℕ × ℕ)} (Some (j, h)) (choose b (Some (suc k, (get_or v k no_term).0)) None) → IsReducer p v t j h
    go false q f = absurd (subst (λ x. T (found? x)) f tt)
    go true q f =
        let n : k < length v = ltb-true k (length v) q in
        let x : j ≡ suc k = ap element f in
        let y : h ≡ (get_or v k no_term).0 = ap head_of f in
        let z : j - 1 ≡ k = omega arith in
        let w : j ≡ 1 + k = omega arith in
        record {
          from = omega arith;
          inside = omega arith;
          head = y ∙ ap (λ i. (get_or v i no_term).0) (sym z);
          answers = (λ i. reducer (w i) (times p t.0 (y i)) (quotient t.1.0 (get_or v (z i) no_term).1.0))
              ∙ answer_one p v t k refl (λ m. omega arith);
        }
