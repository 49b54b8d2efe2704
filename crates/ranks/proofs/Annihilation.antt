-- Independent rows A that combine the rows of B to zero: with independent rows chosen from B they are no more than B has rows.
use mathlib.Core.Path.{◌≡◌, refl, sym, ap, ◌∙◌}
use mathlib.Core.Logic.{inl, inr}
use mathlib.Core.Bool.{Bool, true, false}
use mathlib.Core.List.{List, [], ◌∷◌}
use Prim.Native.Nat.{ℕ, zero, suc, ◌+◌, ◌≤◌, ◌<◌}
use native.Mathlib.Omega.{arith}
use native.Mathlib.Decide.{dec_lt}
use lib.ListN.{length, get_or}
use Rattle.theory.specs.Laws.{Scalars}
use Rattle.theory.proofs.Vec.{zero_mul}
use Rattle.theory.proofs.Lists.{Every}
use Rattle.ranks.specs.Notions.{chosen}
use Rattle.ranks.proofs.Linear.{Z, zero_Z, comb, one_comb, comb_vanish, Row, col, Indep}
use Rattle.ranks.proofs.Choices.{Among, among_suc, left_out, left_out_count, all_left_out}
use Rattle.ranks.proofs.Dependence.{Dependence, dependent, some_nonzero}
use Rattle.ranks.proofs.Spans.{places, places_zero, comb_places, places_comb}

module _ (S : Scalars) where
  open S use {K, add, mul, 𝟘, 𝟙, zero_add_zero, zero_add_add, mul_zero}

  -- ## A function of the places that is zero at those left out

  module _ {A : Type 0} where
    -- its values at the chosen places
    abbrev values : (ℕ → K) → List Bool → List A → List K
    values f choice [] = []
    values f [] (m ∷ M) = []
    values f (true ∷ choice) (m ∷ M) = f 0 ∷ values (λ l. f (suc l)) choice M
    values f (false ∷ choice) (m ∷ M) = values (λ l. f (suc l)) choice M

    length_values : (f : ℕ → K) (choice : List Bool) (M : List A) → length (values f choice M) ≡ length (chosen choice M)
    length_values f choice [] = refl
    length_values f [] (m ∷ M) = refl
    length_values f (true ∷ choice) (m ∷ M) = ap suc (length_values (λ l. f (suc l)) choice M)
    length_values f (false ∷ choice) (m ∷ M) = length_values (λ l. f (suc l)) choice M

    places_red : (φ : A → K) (f : ℕ → K) (M : List A) → add 𝟘 (places S φ f M) ≡ places S φ f M
    places_red φ f [] = zero_add_zero
    places_red φ f (m ∷ M) = zero_add_add _ _

    places_chosen : (φ : A → K) (f : ℕ → K) (choice : List Bool) (M : List A) → ((l : ℕ) → Among l (left_out choice M) → f l ≡ 𝟘)
        → places S φ f M ≡ comb S φ (values f choice M) (chosen choice M)
    places_chosen φ f choice [] h = refl
    places_chosen φ f [] (m ∷ M) h = places_zero S φ f (m ∷ M) (λ l i. h l (all_left_out (m ∷ M) l i))
    places_chosen φ f (true ∷ choice) (m ∷ M) h =
        ap (add (mul (f 0) (φ m))) (places_chosen φ (λ l. f (suc l)) choice M (λ l a. h (suc l) (among_suc l (left_out choice M) a)))
    places_chosen φ f (false ∷ choice) (m ∷ M) h =
        ap (λ z. add z (places S φ (λ l. f (suc l)) M)) (ap (λ z. mul z (φ m)) (h 0 (inl refl)) ∙ zero_mul S (φ m))
        ∙ places_red φ (λ l. f (suc l)) M
        ∙ places_chosen φ (λ l. f (suc l)) choice M (λ l a. h (suc l) (inr (among_suc l (left_out choice M) a)))

    zero_places : (f : ℕ → K) (choice : List Bool) (M : List A) → ((l : ℕ) → Among l (left_out choice M) → f l ≡ 𝟘) → Every (Z S) (values f choice M)
        → (l : ℕ) → l < length M → Z S (f l)
    zero_places f choice [] h z l i = absurd (omega arith)
    zero_places f [] (m ∷ M) h z l i = ap (mul 𝟙) (h l (all_left_out (m ∷ M) l i)) ∙ zero_Z S
    zero_places f (true ∷ choice) (m ∷ M) h z zero i = z.0
    zero_places f (true ∷ choice) (m ∷ M) h z (suc l) i =
        zero_places (λ k. f (suc k)) choice M (λ k a. h (suc k) (among_suc k (left_out choice M) a)) z.1 l (omega arith)
    zero_places f (false ∷ choice) (m ∷ M) h z zero i = ap (mul 𝟙) (h 0 (inl refl)) ∙ zero_Z S
    zero_places f (false ∷ choice) (m ∷ M) h z (suc l) i =
        zero_places (λ k. f (suc k)) choice M (λ k a. h (suc k) (inr (among_suc k (left_out choice M) a))) z l (omega arith)

  -- ## The bound

  -- the row combines the rows of B to zero, and has no more columns than B has rows
  pub record Kills (B : List (Row S)) (u : Row S) : Type 0 where
    pub short : length u ≤ length B
    pub zero_at : (j : ℕ) → comb S (col S j) u B ≡ 𝟘

  past_end : (u : Row S) (l : ℕ) → length u ≤ l → get_or u l 𝟘 ≡ 𝟘
  past_end [] l h = refl
  past_end (x ∷ u) zero h = absurd (omega arith)
  past_end (x ∷ u) (suc l) h = past_end u l (omega arith)

  module _ (B : List (Row S)) where
    all_past : (A : List (Row S)) → Every (Kills B) A → (l : ℕ) → length B ≤ l → Every (λ u. Z S (col S l u)) A
    all_past [] k l h = tt
    all_past (u ∷ A) k l h = (ap (mul 𝟙) (past_end u l (let s : length u ≤ length B = k.0.short in omega arith)) ∙ zero_Z S, all_past A k.1 l h)

    all_killed : (A : List (Row S)) → Every (Kills B) A → (j : ℕ) → Every (λ u. Z S (places S (col S j) (λ l. get_or u l 𝟘) B)) A
    all_killed [] k j = tt
    all_killed (u ∷ A) k j = (ap (mul 𝟙) (sym (comb_places S (col S j) u B) ∙ k.0.zero_at j) ∙ zero_Z S, all_killed A k.1 j)

    pub room : (choice : List Bool) → Indep S (chosen choice B) → (A : List (Row S)) → Every (Kills B) A → Indep S A
        → length A + length (chosen choice B) ≤ length B
    room choice I A k independent = go (dec_lt (length (left_out choice B)) (length A))
      where
        count : length (left_out choice B) + length (chosen choice B) ≡ length B
        count = left_out_count choice B

        go : Dec (length (left_out choice B) < length A) → length A + length (chosen choice B) ≤ length B
        go (no n) = omega (arith, count)
        go (yes h) = absurd (some_nonzero S D.coefs D.nonzero (independent D.coefs D.size zero_all))
          where
            D : Dependence S (left_out choice B) A
            D = dependent S (length A) A (left_out choice B) refl h

            u : ℕ → K
            u l = comb S (col S l) D.coefs A

            -- u combines the rows of B to zero ..
            u_kills : (j : ℕ) → places S (col S j) u B ≡ 𝟘
            u_kills j =
                sym (places_comb S (col S j) D.coefs A B)
                ∙ comb_vanish S (λ r. places S (col S j) (λ l. get_or r l 𝟘) B) D.coefs A (all_killed A k j)

            -- .. and so the chosen ones
            u_chosen : Every (Z S) (values u choice B)
            u_chosen = I (values u choice B) (length_values u choice B) (λ j. sym (places_chosen (col S j) u choice B (λ l a. D.zero_at l a)) ∙ u_kills j)

            zero_at : (l : ℕ) → Dec (l < length B) → u l ≡ 𝟘
            zero_at l (yes i) = sym (one_comb S (col S l) D.coefs A) ∙ zero_places u choice B (λ i a. D.zero_at i a) u_chosen l i
            zero_at l (no n) = comb_vanish S (col S l) D.coefs A (all_past A k l (omega arith))

            zero_all : (l : ℕ) → u l ≡ 𝟘
            zero_all l = zero_at l (dec_lt l (length B))
