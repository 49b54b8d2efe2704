-- The monomials over generators of given degrees, component by component.
use mathlib.Core.Path.{◌≡◌, refl, sym, ap, ap₂, ◌∙◌}
use mathlib.Core.Bool.{Bool, true, false, not}
use mathlib.Core.List.{List, [], ◌∷◌, ◌++◌}
use Prim.Native.Nat.{ℕ, zero, suc, ◌+◌, ◌-◌, ◌<◌, ◌≤◌}
use native.Mathlib.Omega.{arith}
use lib.Dec.{T, leb, leb→le, nleb→lt}
use lib.ListN.{length, get_or, length-append, replicate}
use Rattle.definitions.specs.Lists.{count, map, from}
use Rattle.definitions.specs.Monomial.{Exponents, Monomial}
use Rattle.definitions.specs.Degrees.{component_degree}
use Rattle.definitions.specs.Pascal.{monomials}
use Rattle.definitions.specs.Hilbert.{left_over, column_value}
use Rattle.definitions.specs.Standard.{of_degree_in, in_component, in_components}
use Rattle.definitions.specs.Places.{exponents_length, hilbert_degrees}
use Rattle.standard_monomials.proofs.Counts.{count_append, count_same, count_none, count_map, length_map}
use Rattle.standard_monomials.proofs.Triangle.{table_right}
use Rattle.standard_monomials.proofs.Shift.{ways_left, left_reached, left_passed}

-- n exponents as eight, zero past n
abbrev pub padded : ℕ → Exponents → Exponents
padded n e = e ++ replicate (exponents_length - n) 0

pub component_left : (n : ℕ) (gs : List ℕ) (d i : ℕ) → in_component n gs d i ≡ map (λ e. (padded n e, i)) (ways_left n (component_degree gs i) d)
component_left n gs d i = go (leb g d) (leb→le g d) (nleb→lt g d)
  where
    g : ℕ
    g = component_degree gs i

    go : (b : Bool) → (T b → component_degree gs i ≤ d) → (T (not b) → d < component_degree gs i)
        → ◌≡◌ {A = List Monomial} (elim b [ true ↦ map (λ e. (padded n e, i)) (of_degree_in n (d - component_degree gs i)) | false ↦ [] ])
        (map (λ e. (padded n e, i)) (ways_left n (component_degree gs i) d))
    go true h k = ap (map (λ e. (padded n e, i))) (sym (left_reached n (component_degree gs i) d (h tt)))
    go false h k = ap (map (λ e. (padded n e, i))) (sym (left_passed n (component_degree gs i) d (k tt)))

module _ (n : ℕ) (gs : List ℕ) (d : ℕ) where
  -- the monomials of component i
  pub count_component : (f : Monomial → Bool) (i : ℕ) → count f (in_component n gs d i) ≡ count (λ e. f (padded n e, i)) (ways_left n (component_degree gs i) d)
  count_component f i = ap (count f) (component_left n gs d i) ∙ count_map f (λ e. (padded n e, i)) (ways_left n (component_degree gs i) d)

  -- tests that agree from component i on
  pub count_from : (f g : Monomial → Bool) (k i : ℕ) → ((e : Exponents) (c : ℕ) → i ≤ c → f (e, c) ≡ g (e, c))
      → count f (in_components n gs d (from i k)) ≡ count g (in_components n gs d (from i k))
  count_from f g zero i h = refl
  count_from f g (suc k) i h =
      count_append f (in_component n gs d i) (in_components n gs d (from (suc i) k))
      ∙ ap₂ (λ x y. x + y)
      (count_component f i
      ∙ count_same (λ e. f (padded n e, i)) (λ e. g (padded n e, i)) (ways_left n (component_degree gs i) d) (λ e. h (padded n e) i (omega arith))
      ∙ sym (count_component g i))
      (count_from f g k (suc i) (λ e c l. h e c (omega (arith, l))))
      ∙ sym (count_append g (in_component n gs d i) (in_components n gs d (from (suc i) k)))

  -- none of component i
  count_other : (f : Monomial → Bool) (i : ℕ) → ((e : Exponents) → f (e, i) ≡ false) → count f (in_component n gs d i) ≡ 0
  count_other f i h =
      count_component f i
      ∙ count_same (λ e. f (padded n e, i)) (λ e. false) (ways_left n (component_degree gs i) d) (λ e. h (padded n e))
      ∙ count_none (ways_left n (component_degree gs i) d)

  -- none from component i on
  count_past : (f : Monomial → Bool) (k i : ℕ) → ((e : Exponents) (c : ℕ) → i ≤ c → f (e, c) ≡ false) → count f (in_components n gs d (from i k)) ≡ 0
  count_past f zero i h = refl
  count_past f (suc k) i h =
      let a = count_append f (in_component n gs d i) (in_components n gs d (from (suc i) k)) in
      let b = count_other f i (λ e. h e i (omega arith)) in
      let c = count_past f k (suc i) (λ e c l. h e c (omega (arith, l))) in
      omega (arith, a, b, c)

  -- those of one component alone
  pub count_picked : (f : Monomial → Bool) (j k i : ℕ) → j < k → ((e : Exponents) (c : ℕ) → ¬ (c ≡ i + j) → f (e, c) ≡ false)
      → count f (in_components n gs d (from i k)) ≡ count (λ e. f (padded n e, i + j)) (ways_left n (component_degree gs (i + j)) d)
  count_picked f j zero i l h = absurd (omega (arith, l))
  count_picked f zero (suc k) i l h =
      let z : i ≡ i + 0 = omega arith in
      let a = count_append f (in_component n gs d i) (in_components n gs d (from (suc i) k)) in
      let b = count_component f i in
      let c = count_past f k (suc i) (λ e c m. h e c (λ y. omega (arith, m, y))) in
      let r : count f (in_components n gs d (from i (suc k))) ≡ count (λ e. f (padded n e, i)) (ways_left n (component_degree gs i) d) =
      omega (arith, a, b, c) in
      r ∙ ap (λ i. count (λ e. f (padded n e, i)) (ways_left n (component_degree gs i) d)) z
  count_picked f (suc j) (suc k) i l h =
      let z : suc i + j ≡ i + suc j = omega arith in
      let a = count_append f (in_component n gs d i) (in_components n gs d (from (suc i) k)) in
      let b = count_other f i (λ e. h e i (λ y. omega (arith, y))) in
      let c = count_picked f j k (suc i) (omega (arith, l)) (λ e c o. h e c (λ y. o (y ∙ sym z))) in
      let r : count f (in_components n gs d (from i (suc k))) ≡ count (λ e. f (padded n e, suc i + j)) (ways_left n (component_degree gs (suc i + j)) d) =
      omega (arith, a, b, c) in
      r ∙ ap (λ i. count (λ e. f (padded n e, i)) (ways_left n (component_degree gs i) d)) z

-- ## How many there are

module _ (n d : ℕ) (some : 1 ≤ n) (eight : n ≤ exponents_length) (h : d < hilbert_degrees) where
  -- "the number of monomials of the degree left after the generator's own; a generator of higher degree counts nothing"
  pub left_number : (g : ℕ) → length (ways_left n g d) ≡ left_over n d g
  left_number g = go (leb g d) (leb→le g d) (nleb→lt g d)
    where
      go : (b : Bool) → (T b → g ≤ d) → (T (not b) → d < g) → length (ways_left n g d) ≡ elim b [ true ↦ monomials n (d - g) | false ↦ 0 ]
      go true l k = ap length (left_reached n g d (l tt)) ∙ sym (table_right.number n (d - g) some eight (omega (arith, h)))
      go false l k = ap length (left_passed n g d (k tt))

  components_number : (gs hs : List ℕ) (i : ℕ) → ((j : ℕ) → j < length hs → component_degree gs (i + j) ≡ get_or hs j 0)
      → length (in_components n gs d (from i (length hs))) ≡ column_value n d hs
  components_number gs [] i e = refl
  components_number gs (g ∷ hs) i e =
      let z : i ≡ i + 0 = omega arith in
      length-append (in_component n gs d i) (in_components n gs d (from (suc i) (length hs)))
      ∙ ap₂ (λ x y. x + y)
      (ap length (component_left n gs d i) ∙ length_map (λ e. (padded n e, i)) (ways_left n (component_degree gs i) d) ∙ left_number (component_degree gs i)
      ∙ ap (left_over n d) (ap (component_degree gs) z ∙ e 0 (omega arith)))
      (components_number gs hs (suc i) (λ j l. let y : suc i + j ≡ i + suc j = omega arith in ap (component_degree gs) y ∙ e (suc j) (omega (arith, l))))

  -- over generators of these degrees
  pub all_number : (gs : List ℕ) → length (in_components n gs d (from 1 (length gs))) ≡ column_value n d gs
  all_number gs = components_number gs gs 1 (λ j l. let y : 1 + j ≡ suc j = omega arith in ap (component_degree gs) y)
