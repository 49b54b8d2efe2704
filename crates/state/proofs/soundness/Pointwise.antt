-- Tests over lists and ranges, by what holds at each place.
use mathlib.Core.Path.{◌≡◌, refl, sym, ap, ◌∙◌, subst}
use mathlib.Core.Bool.{Bool, true, false}
use mathlib.Core.List.{List, [], ◌∷◌}
use Prim.Native.Nat.{ℕ, zero, suc, ◌+◌, ◌-◌, ◌<◌, ◌≤◌}
use native.Mathlib.Nat.{not-suc-le-zero, le_of_suc-le-suc}
use native.Mathlib.Omega.{arith}
use native.Mathlib.Decide.{ℕ_discrete}
use lib.Dec.{T}
use lib.ListN.{length, get_or}
use Rattle.definitions.specs.Lists.{◌and◌, every}
use Rattle.definitions.specs.Monomial.{Monomial, Term, Vector}
use Rattle.definitions.specs.Order.{Comparison, greater?}
use Rattle.definitions.specs.Vectors.{strictly_descending?}
use Rattle.laws.proofs.Tests.{and_left, and_right, and_both, true_is, false_is}
use Rattle.state.specs.soundness.Holding.{all_hold?}

-- two tests that hold together are one
pub same_test : (a b : Bool) → (T a → T b) → (T b → T a) → a ≡ b
same_test true b f g = sym (true_is b (f tt))
same_test false b f g = sym (false_is b g)

pub and_false : (a b : Bool) → b ≡ false → (a and b) ≡ false
and_false true b e = e
and_false false b e = refl

module _ {A : Type 0} (f : A → Bool) where
  pub every_all : (l : List A) (d : A) → ((i : ℕ) → i < length l → T (f (get_or l i d))) → T (every f l)
  every_all [] d h = tt
  every_all (a ∷ l) d h = and_both (f a) (every f l) (h 0 (omega arith)) (every_all l d (λ i k. h (suc i) (omega arith)))

-- ## A range of numbers

module _ (f : ℕ → Bool) where
  pub holds_at : (i n : ℕ) → T (all_hold? f i n) → (k : ℕ) → i ≤ k → k < i + n → T (f k)
  holds_at i zero t k h l = absurd (omega arith)
  holds_at i (suc n) t k h l = go (ℕ_discrete k i) (holds_at (suc i) n (and_right (f i) (all_hold? f (suc i) n) t) k)
    where
      go : Dec (k ≡ i) → (suc i ≤ k → k < suc i + n → T (f k)) → T (f k)
      go (yes e) r = subst (λ j. T (f j)) (sym e) (and_left (f i) (all_hold? f (suc i) n) t)
      go (no e) r = r (omega arith) (omega arith)

  pub holds_all : (i n : ℕ) → ((k : ℕ) → i ≤ k → k < i + n → T (f k)) → T (all_hold? f i n)
  holds_all i zero h = tt
  holds_all i (suc n) h = and_both (f i) (all_hold? f (suc i) n) (h i (omega arith) (omega arith))
      (holds_all (suc i) n (λ k a b. h k (omega arith) (omega arith)))

  -- what is still to be tested decides
  pub hold_on : (i to : ℕ) → i < to → f i ≡ true → all_hold? f i (to - i) ≡ all_hold? f (i + 1) (to - (i + 1))
  hold_on i to h e =
      let z : to - i ≡ suc (to - (i + 1)) = omega arith in
      let s : suc i ≡ i + 1 = omega arith in
      ap (all_hold? f i) z ∙ (λ j. e j and all_hold? f (suc i) (to - (i + 1))) ∙ ap (λ k. all_hold? f k (to - (i + 1))) s

  pub hold_stops : (i to : ℕ) → i < to → f i ≡ false → all_hold? f i (to - i) ≡ false
  hold_stops i to h e =
      let z : to - i ≡ suc (to - (i + 1)) = omega arith in
      ap (all_hold? f i) z ∙ (λ j. e j and all_hold? f (suc i) (to - (i + 1)))

  pub hold_ends : (i to : ℕ) → to ≤ i → all_hold? f i (to - i) ≡ true
  hold_ends i to h = let z : to - i ≡ 0 = omega arith in ap (all_hold? f i) z

-- ## Strictly descending: each is below the one before it

module _ (order : Monomial → Monomial → Comparison) where
  pub descends_at : (v : Vector) (d : Term) → T (strictly_descending? order v) → (i : ℕ) → suc i < length v
      → T (greater? (order (get_or v i d).1 (get_or v (suc i) d).1))
  descends_at [] d t i h = absurd (not-suc-le-zero h)
  descends_at (a ∷ []) d t i h = absurd (omega arith)
  descends_at (a ∷ b ∷ v) d t zero h = and_left (greater? (order a.1 b.1)) (strictly_descending? order (b ∷ v)) t
  descends_at (a ∷ b ∷ v) d t (suc i) h = descends_at (b ∷ v) d (and_right (greater? (order a.1 b.1)) (strictly_descending? order (b ∷ v)) t) i
      (le_of_suc-le-suc h)

  pub descends_all : (v : Vector) (d : Term) → ((i : ℕ) → suc i < length v → T (greater? (order (get_or v i d).1 (get_or v (suc i) d).1)))
      → T (strictly_descending? order v)
  descends_all [] d h = tt
  descends_all (a ∷ []) d h = tt
  descends_all (a ∷ b ∷ v) d h =
      and_both (greater? (order a.1 b.1)) (strictly_descending? order (b ∷ v)) (h 0 (omega arith))
      (descends_all (b ∷ v) d (λ i k. h (suc i) (omega arith)))
