-- A2 for the definitions' comparison.
use mathlib.Core.Path.{◌≡◌, refl, sym, ap, ◌∙◌, subst}
use mathlib.Core.Logic.{inl, inr, ⊎_elim}
use mathlib.Core.List.{List, [], ◌∷◌}
use Prim.Native.Nat.{ℕ, zero, suc}
use native.Mathlib.Omega.{arith}
use lib.Dec.{T}
use lib.ListN.{length}
use Rattle.definitions.specs.Limits.{Limits, document_01}
use Rattle.definitions.specs.Lists.{between}
use Rattle.definitions.specs.Monomial.{Exponents, Monomial, Vector, Level, vector_of}
use Rattle.definitions.specs.Order.{Comparison, greater, equal, smaller, numbers, exponents_by, image_by, image, compare_over}
use Rattle.definitions.specs.State.{State, sound?, up_to}
use Rattle.laws.proofs.Tests.{between_low, between_high}
use Rattle.laws.proofs.Members.{All, all_inside}
use Rattle.laws.proofs.Comparisons.{Orders, turned, greater≢equal, order_same, order_greater}
use Rattle.laws.proofs.Products.{length_product}
use Rattle.laws.proofs.Induced.{Has, Leads, shifted, image_has, compare_order}
use Rattle.laws.proofs.Sums.{descending_above}
use Rattle.comparing.specs.Above.{Above, Member, multiplied, GreatestOf}
use Rattle.comparing.specs.Comparing.{Eight, swapped, AnswersExactly, A2}
use Rattle.comparing.proofs.Exactly.{Exactly, exactly_map, exactly_tie, numbers_exactly}
use Rattle.comparing.proofs.Exponents.{exponents_exactly}
use Rattle.comparing.proofs.Sound.{Descends, Descending, leads, levels_descending, code_in_range}

swapped_is : (c : Comparison) → turned c ≡ swapped c
swapped_is greater = refl
swapped_is equal = refl
swapped_is smaller = refl

module _ (code : ℕ) (t : T (between 1 code 3)) where
  -- "each exactly when the order says so"
  pub compare_exactly : (below : List Level) → Leads 8 below → (m m' : Monomial) → Eight m → Eight m'
      → Exactly (Above code below m m') (m ≡ m') (Above code below m' m) (compare_over code below m m')
  compare_exactly [] k m m' h h' =
      exactly_map (λ s. s, λ s. s) (λ e. λ i. (e.0 i, e.1 i), λ e. (ap (λ z. z.0) e, ap (λ z. z.1) e))
      (⊎_elim (λ s. inl s) (λ s. inr (sym s.0, s.1)), ⊎_elim (λ s. inl s) (λ s. inr (sym s.0, s.1)))
      (exactly_tie (exponents_by code m.0 m'.0) (numbers m.1 m'.1)
      (exponents_exactly code t m.0 m'.0 (h ∙ sym h')) (numbers_exactly m.1 m'.1))
  compare_exactly (f ∷ below) k m m' h h' = over (compare_exactly below k.1 (image f m) (image f m') (image_has 8 f k.0 m h)
      (image_has 8 f k.0 m' h'))
    where
      over : Exactly (Above code below (image f m) (image f m')) (image f m ≡ image f m') (Above code below (image f m') (image f m))
          (compare_over code below (image f m) (image f m'))
          → Exactly (Above code (f ∷ below) m m') (m ≡ m') (Above code (f ∷ below) m' m) (compare_over code (f ∷ below) m m')
      over under =
          let both = exactly_tie (compare_over code below (image f m) (image f m')) (numbers m.1 m'.1) under (numbers_exactly m.1 m'.1) in
          -- equal images and components: the comparison is a tie, and ties are of equal monomials
          exactly_map (λ s. s, λ s. s)
          (λ e. (compare_order 8 code (f ∷ below) k).apart m m' h h' (both.when_equal.1 e), λ e. (ap (image f) e, ap (λ z. z.1) e))
          (⊎_elim (λ s. inl s) (λ s. inr (sym s.0, s.1)), ⊎_elim (λ s. inl s) (λ s. inr (sym s.0, s.1))) both

  pub answers_exactly : (below : List Level) → Leads 8 below → AnswersExactly code below
  answers_exactly below k = record {
    greater_exactly = λ m m' h h'. (compare_exactly below k m m' h h').when_greater;
    equal_exactly = λ m m' h h'. (compare_exactly below k m m' h h').when_equal;
    smaller_exactly = λ m m' h h'. (compare_exactly below k m m' h h').when_smaller;
    swaps = λ m m' h h'. O.turns m m' h h' ∙ swapped_is (compare_over code below m m');
    irreflexive = λ m h a. greater≢equal (sym (is m m h h a) ∙ order_same (Has 8) (compare_over code below) O m h);
    transitive = λ m m' m'' h h' h'' a b.
        (compare_exactly below k m m'' h h'').when_greater.0
        (order_greater (Has 8) (compare_over code below) O m m' m'' h h' h'' (is m m' h h' a) (is m' m'' h' h'' b));
  }
    where
      O : Orders (Has 8) (compare_over code below)
      O = (compare_order 8 code below k).orders

      is : (m m' : Monomial) → Eight m → Eight m' → Above code below m m' → compare_over code below m m' ≡ greater
      is m m' h h' a = (compare_exactly below k m m' h h').when_greater.1 a

  -- ## The leading monomial of m·v

  module _ (below : List Level) (k : Leads 8 below) (e : Exponents) (l : length e ≡ 8) where
    -- a monomial above those of v, multiplied, is above those of m·v
    above_multiplied : (x : Monomial) → Eight x → (v : Vector) → All (λ u. Has 8 u.1) v → All (λ u. compare_over code below x u.1 ≡ greater) v
        → (y : Monomial) → Member y (multiplied e v) → Above code below (shifted e x) y
    above_multiplied x h [] s g y i = absurd i
    above_multiplied x h (u ∷ v) s g y (inl i) =
        subst (Above code below (shifted e x)) (sym i)
        ((compare_exactly below k (shifted e x) (shifted e u.1) (long x h) (long u.1 s.0)).when_greater.0
        ((compare_order 8 code below k).multiplied e l x u.1 h s.0 ∙ g.0))
      where
        long : (m : Monomial) → Has 8 m → Eight (shifted e m)
        long m z = length_product 8 e m.0 l z
    above_multiplied x h (u ∷ v) s g y (inr i) = above_multiplied x h v s.1 g.1 y i

    pub leading_greatest : (v : Vector) → Descends code below v → GreatestOf code below (multiplied e v) (image_by e v)
    leading_greatest v d = subst (λ w. GreatestOf code below (multiplied e w) (image_by e w)) (sym d.is) (record {
      one = inl refl;
      above = λ y. ⊎_elim (λ i. inl i) (λ i. inr (above_multiplied d.first.1 d.eight.0 d.others d.eight.1 tops y i));
    })
      where
        tops : All (λ u. compare_over code below d.first.1 u.1 ≡ greater) d.others
        tops =
            descending_above (Has 8) (compare_over code below) (compare_order 8 code below k).orders
            d.first d.others d.eight.0 d.eight.1 d.falls

-- ## Over sound states

module _ (lim : Limits) where
  leading_image : (X : State) → T (sound? lim X) → (f : Level) (below : List Level) → Descending lim X.parameters (f ∷ below)
      → (m : Monomial) → Eight m → T (between 1 m.1 (length f))
      → GreatestOf X.parameters.code below (multiplied m.0 (vector_of f m.1)) (image f m)
  leading_image X s f below d m h b =
      leading_greatest X.parameters.code (code_in_range lim X s) below (leads lim X.parameters below d.1) m.0 h (vector_of f m.1)
      (at m.1 b)
    where
      at : (i : ℕ) → T (between 1 i (length f)) → Descends X.parameters.code below (vector_of f i)
      at zero b = let z = between_low 1 0 (length f) b in absurd (omega arith)
      at (suc i) b = let z = between_high 1 (suc i) (length f) b in all_inside (Descends X.parameters.code below) [] f i (omega arith) d.0

  pub a2 : A2 lim
  a2 = record {
    level_0 = λ code t. answers_exactly code t [] tt;
    induced = λ X s k.
        answers_exactly X.parameters.code (code_in_range lim X s) (up_to X k) (leads lim X.parameters (up_to X k) (levels_descending lim X s k));
    image_leads = λ X s k f below e. leading_image X s f below (subst (Descending lim X.parameters) e (levels_descending lim X s k));
  }

pub a2_of_document_01 : A2 document_01
a2_of_document_01 = a2 document_01
