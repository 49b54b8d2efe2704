-- Combinations by places; independent rows in the span of k rows are at most k.
use mathlib.Core.Path.{◌≡◌, refl, sym, ap, ap₂, ◌∙◌}
use mathlib.Core.List.{List, [], ◌∷◌}
use Prim.Native.Nat.{ℕ, suc, ◌+◌, ◌≤◌, ◌<◌}
use native.Mathlib.Omega.{arith}
use native.Mathlib.Decide.{dec_lt}
use lib.ListN.{length, get_or}
use Rattle.definitions.specs.Lists.{map}
use Rattle.theory.specs.Laws.{Scalars}
use Rattle.theory.proofs.Vec.{zero_mul, add_mul, mul_one}
use Rattle.theory.proofs.Lists.{Every}
use Rattle.ranks.specs.Notions.{chosen}
use Rattle.ranks.proofs.Choices.{left_out, left_out_count, all_left_out}
use Rattle.ranks.proofs.Linear.{Z, mul_plus_zero, interchange, comb, comb_zeros, Row, col, Indep, zeros, zeros_Z, Clearing}
use Rattle.ranks.proofs.Dependence.{Dependence, dependent, some_nonzero}

module _ (S : Scalars) where
  open S use {K, add, mul, 𝟘, 𝟙, add_comm, mul_assoc, mul_add, mul_zero, zero_add_zero}

  -- ## Combinations by places

  module _ {A : Type 0} (φ : A → K) where
    -- Σ f l · φ m_l
    abbrev pub places : (ℕ → K) → List A → K
    places f [] = 𝟘
    places f (m ∷ M) = add (mul (f 0) (φ m)) (places (λ l. f (suc l)) M)

    pub places_zero : (f : ℕ → K) (M : List A) → ((l : ℕ) → l < length M → f l ≡ 𝟘) → places f M ≡ 𝟘
    places_zero f [] h = refl
    places_zero f (m ∷ M) h =
        ap₂ add (ap (λ z. mul z (φ m)) (h 0 (omega arith)) ∙ zero_mul S (φ m)) (places_zero (λ l. f (suc l)) M (λ l i. h (suc l) (omega arith))) ∙ zero_add_zero

    pub comb_places : (cs : List K) (M : List A) → comb S φ cs M ≡ places (λ l. get_or cs l 𝟘) M
    comb_places cs [] = refl
    comb_places [] (m ∷ M) = sym (places_zero (λ l. 𝟘) (m ∷ M) (λ l i. refl))
    comb_places (c ∷ cs) (m ∷ M) = ap (add (mul c (φ m))) (comb_places cs M)

    pub places_sum : (c : K) (f g : ℕ → K) (M : List A) → add (mul c (places f M)) (places g M) ≡ places (λ l. add (mul c (f l)) (g l)) M
    places_sum c f g [] = ap (λ z. add z 𝟘) (mul_zero c) ∙ zero_add_zero
    places_sum c f g (m ∷ M) =
        ap (λ z. add z (add (mul (g 0) (φ m)) G)) (mul_add c (mul (f 0) (φ m)) F ∙ ap (λ z. add z (mul c F)) (sym (mul_assoc c (f 0) (φ m))))
        ∙ interchange S (mul (mul c (f 0)) (φ m)) (mul c F) (mul (g 0) (φ m)) G
        ∙ ap₂ add (sym (add_mul S (mul c (f 0)) (g 0) (φ m))) (places_sum c (λ l. f (suc l)) (λ l. g (suc l)) M)
      where
        F : K
        F = places (λ l. f (suc l)) M

        G : K
        G = places (λ l. g (suc l)) M

    -- a combination of combinations
    pub places_comb : (cs : List K) (C : List (Row S)) (M : List A) → comb S (λ u. places (λ l. get_or u l 𝟘) M) cs C ≡ places (λ l. comb S (col S l) cs C) M
    places_comb cs [] M = sym (places_zero (λ l. 𝟘) M (λ l i. refl))
    places_comb [] (u ∷ C) M = sym (places_zero (λ l. 𝟘) M (λ l i. refl))
    places_comb (c ∷ cs) (u ∷ C) M =
        ap (add (mul c (places (λ l. get_or u l 𝟘) M))) (places_comb cs C M) ∙ places_sum c (λ l. get_or u l 𝟘) (λ l. comb S (col S l) cs C) M

  -- ## Spans

  pub record In-span (B : List (Row S)) (w : Row S) : Type 0 where
    pub coefs : List K
    pub is : (j : ℕ) → mul 𝟙 (col S j w) ≡ comb S (col S j) coefs B

  pub span_first : (v : Row S) (B : List (Row S)) → In-span (v ∷ B) v
  span_first v B = record {
    coefs = 𝟙 ∷ [];
    is = λ j. sym (ap (add (mul 𝟙 (col S j v))) (none_comb (col S j) B) ∙ mul_plus_zero S 𝟙 (col S j v));
  }
    where
      none_comb : (φ : Row S → K) (B : List (Row S)) → comb S φ [] B ≡ 𝟘
      none_comb φ [] = refl
      none_comb φ (b ∷ B) = refl

  pub span_zero : (v : Row S) (B : List (Row S)) → ((j : ℕ) → Z S (col S j v)) → In-span B v
  span_zero v B z = record { coefs = zeros S (length B); is = λ j. z j ∙ sym (comb_zeros S (col S j) (zeros S (length B)) B (zeros_Z S (length B))) }

  module _ {c : ℕ} {v : Row S} (C : Clearing S c v) (B : List (Row S)) where
    open C use {clear, factor, parts}

    span_clear : (w : Row S) → In-span B (clear w) → In-span (v ∷ B) w
    span_clear w s = record {
      coefs = factor w ∷ s.coefs;
      is = λ j. parts w j ∙ ap (λ z. add z (mul (factor w) (col S j v))) (s.is j) ∙ add_comm _ _;
    }

    pub spans_clear : (M : List (Row S)) → Every (In-span B) (map clear M) → Every (In-span (v ∷ B)) M
    spans_clear [] s = tt
    spans_clear (w ∷ M) s = (span_clear w s.0, spans_clear M s.1)

  module _ (B : List (Row S)) where
    coefs_of : (W : List (Row S)) → Every (In-span B) W → List (Row S)
    coefs_of [] s = []
    coefs_of (w ∷ W) s = s.0.coefs ∷ coefs_of W s.1

    length_coefs : (W : List (Row S)) (s : Every (In-span B) W) → length (coefs_of W s) ≡ length W
    unfolding coefs_of
    length_coefs [] s = refl
    length_coefs (w ∷ W) s = ap suc (length_coefs W s.1)

    comb_coefs : (j : ℕ) (x : List K) (W : List (Row S)) (s : Every (In-span B) W)
        → comb S (col S j) x W ≡ comb S (λ u. places (col S j) (λ l. get_or u l 𝟘) B) x (coefs_of W s)
    unfolding coefs_of
    comb_coefs j x [] s = refl
    comb_coefs j [] (w ∷ W) s = refl
    comb_coefs j (c ∷ x) (w ∷ W) s =
        ap₂ add (sym (mul_one S c (col S j w)) ∙ ap (mul c) (s.0.is j ∙ comb_places (col S j) s.0.coefs B)) (comb_coefs j x W s.1)

    -- independent rows in the span of B are no more than those of B
    pub bounded : (W : List (Row S)) → Every (In-span B) W → Indep S W → length W ≤ length B
    bounded W s I = go (dec_lt (length B) (length W))
      where
        go : Dec (length B < length W) → length W ≤ length B
        go (no n) = omega arith
        go (yes h) = absurd (some_nonzero S D.coefs D.nonzero (I D.coefs (D.size ∙ length_coefs W s) zero_all))
          where
            fewer : length (left_out [] B) < length (coefs_of W s)
            fewer =
                let a : length (coefs_of W s) ≡ length W = length_coefs W s in
                let b : length (left_out [] B) + length (chosen [] B) ≡ length B = left_out_count [] B in omega arith

            D : Dependence S (left_out [] B) (coefs_of W s)
            D = dependent S (length (coefs_of W s)) (coefs_of W s) (left_out [] B) refl fewer

            zero_all : (j : ℕ) → comb S (col S j) D.coefs W ≡ 𝟘
            zero_all j =
                comb_coefs j D.coefs W s ∙ places_comb (col S j) D.coefs (coefs_of W s) B
                ∙ places_zero (col S j) (λ l. comb S (col S l) D.coefs (coefs_of W s)) B (λ l i. D.zero_at l (all_left_out B l i))
