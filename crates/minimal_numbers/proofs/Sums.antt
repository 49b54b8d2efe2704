-- Sums over numbers, of sums over terms.
use mathlib.Core.Path.{◌≡◌, refl, sym, ap, ap₂, ◌∙◌}
use mathlib.Core.List.{List, [], ◌∷◌}
use Prim.Native.Nat.{ℕ}
use Rattle.laws.proofs.Members.{All}
use Rattle.theory.specs.Laws.{Scalars}
use Rattle.theory.specs.Vec.{Vec, ev}
use Rattle.theory.proofs.Vec.{zero_mul, add_mul, add_left_comm}

module _ (S : Scalars) where
  open S use {K, add, mul, 𝟘, 𝟙, add_comm, add_assoc, mul_assoc, mul_add, mul_zero, zero_add_zero, zero_add_mul}

  interchange : (a b x y : K) → add (add a b) (add x y) ≡ add (add a x) (add b y)
  interchange a b x y = add_assoc a b (add x y) ∙ ap (add a) (add_left_comm S b x y) ∙ sym (add_assoc a x (add b y))

  -- Σ F j
  abbrev pub over : (ℕ → K) → List ℕ → K
  over F [] = 𝟘
  over F (j ∷ js) = add (F j) (over F js)

  pub over_none : (F : ℕ → K) → ((j : ℕ) → F j ≡ 𝟘) → (js : List ℕ) → over F js ≡ 𝟘
  over_none F h [] = refl
  over_none F h (j ∷ js) = ap₂ add (h j) (over_none F h js) ∙ zero_add_zero

  pub over_cong : (F G : ℕ → K) → ((j : ℕ) → F j ≡ G j) → (js : List ℕ) → over F js ≡ over G js
  over_cong F G h [] = refl
  over_cong F G h (j ∷ js) = ap₂ add (h j) (over_cong F G h js)

  over_sum : (c : K) (F G : ℕ → K) (js : List ℕ) → over (λ j. add (mul c (F j)) (G j)) js ≡ add (mul c (over F js)) (over G js)
  over_sum c F G [] = sym (ap (λ z. add z 𝟘) (mul_zero c) ∙ zero_add_zero)
  over_sum c F G (j ∷ js) =
      ap (add (add (mul c (F j)) (G j))) (over_sum c F G js) ∙ interchange (mul c (F j)) (G j) (mul c (over F js)) (over G js)
      ∙ ap (λ z. add z (add (G j) (over G js))) (sym (mul_add c (F j) (over F js)))

  module _ {B : Type 0} where
    -- sums over terms and over numbers change places
    pub over_ev : (φ : ℕ → B → K) (b : ℕ → K) (v : Vec S B) (js : List ℕ)
        → over (λ j. mul (ev S (φ j) v) (b j)) js ≡ ev S (λ x. over (λ j. mul (φ j x) (b j)) js) v
    over_ev φ b [] js = over_none (λ j. mul 𝟘 (b j)) (λ j. zero_mul S (b j)) js
    over_ev φ b (t ∷ v) js =
        over_cong (λ j. mul (add (mul t.0 (φ j t.1)) (ev S (φ j) v)) (b j)) (λ j. add (mul t.0 (mul (φ j t.1) (b j))) (mul (ev S (φ j) v) (b j)))
        (λ j. add_mul S (mul t.0 (φ j t.1)) (ev S (φ j) v) (b j) ∙ ap (λ z. add z (mul (ev S (φ j) v) (b j))) (mul_assoc t.0 (φ j t.1) (b j))) js
        ∙ over_sum t.0 (λ j. mul (φ j t.1) (b j)) (λ j. mul (ev S (φ j) v) (b j)) js
        ∙ ap (add (mul t.0 (over (λ j. mul (φ j t.1) (b j)) js))) (over_ev φ b v js)

    pub ev_alike : (φ χ : B → K) (v : Vec S B) → All (λ t. φ t.1 ≡ χ t.1) v → ev S φ v ≡ ev S χ v
    ev_alike φ χ [] h = refl
    ev_alike φ χ (t ∷ v) h = ap₂ (λ x y. add (mul t.0 x) y) h.0 (ev_alike φ χ v h.1)

    pub ev_none : (φ : B → K) (v : Vec S B) → All (λ t. φ t.1 ≡ 𝟘) v → ev S φ v ≡ 𝟘
    ev_none φ [] h = refl
    ev_none φ (t ∷ v) h = ap₂ add (ap (mul t.0) h.0 ∙ mul_zero t.0) (ev_none φ v h.1) ∙ zero_add_zero
