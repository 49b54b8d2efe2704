-- The definition's matrices are those of constant coefficients between the generators of a degree.
use mathlib.Core.Path.{◌≡◌, refl, sym, ap, ◌∙◌, subst}
use mathlib.Core.List.{List, [], ◌∷◌}
use Prim.Native.Nat.{ℕ, zero, suc, ◌+◌}
use lib.Dec.{T, eqb, eqb→eq}
use lib.ListN.{length, get_or}
use Rattle.definitions.specs.Limits.{Limits}
use Rattle.definitions.specs.Lists.{map}
use Rattle.definitions.specs.Monomial.{Level, unit, fits?, vector_of}
use Rattle.definitions.specs.Problem.{Parameters}
use Rattle.definitions.specs.State.{State, sound?}
use Rattle.definitions.specs.Betti.{column_degrees}
use Rattle.definitions.specs.Rank.{rank}
use Rattle.definitions.specs.Minimal.{constant, vectors_at, constants, rank_entering, rank_leaving}
use Rattle.definitions.specs.Places.{most_degree, row_shift}
use Rattle.laws.proofs.Tests.{and_left}
use Rattle.laws.proofs.Sound.{sound_says}
use Rattle.demands.specs.Notions.{coefficient}
use Rattle.minimal_numbers.specs.Notions.{entering, leaving}
use Rattle.minimal_numbers.proofs.OfDegree.{numbers_from, numbers_are, vectors_are}
use Rattle.minimal_numbers.proofs.Constants.{constants_at}
use Rattle.minimal_numbers.proofs.Columns.{each_listed, vectors_listed, column_lengths, column_numbers}
use Rattle.minimal_numbers.proofs.Distinct.{PlainConstants, sound_plain}

-- ## One matrix

map_map : {A B C : Type 0} (f : B → C) (g : A → B) (l : List A) → map f (map g l) ≡ map (λ a. f (g a)) l
map_map f g [] = refl
map_map f g (a ∷ l) = ap (λ z. f (g a) ∷ z) (map_map f g l)

map_alike : {A B : Type 0} (f g : A → B) → ((a : A) → f a ≡ g a) → (l : List A) → map f l ≡ map g l
map_alike f g h [] = refl
map_alike f g h (a ∷ l) = λ i. h a i ∷ map_alike f g h l i

constants_are : (p x t : ℕ) → x + row_shift ≡ t → (es ds : List ℕ) (f : Level) → length ds ≡ length f → PlainConstants p f []
    → constants t es ds f ≡ constants_at p f (numbers_from 1 x ds) (numbers_from 1 x es)
constants_are p x t e es ds f h k =
    (λ i. map (λ v. map (constant v) (numbers_are x t e es i)) (vectors_are x t e ds f h i))
    ∙ map_map (λ v. map (constant v) js) (vector_of f) (numbers_from 1 x ds)
    ∙ map_alike (λ i. map (constant (vector_of f i)) js) (λ i. map (λ j. coefficient p (unit, j) (vector_of f i)) js)
    (λ i. map_alike (constant (vector_of f i)) (λ j. coefficient p (unit, j) (vector_of f i)) (k i) js) (numbers_from 1 x ds)
  where
    js : List ℕ
    js = numbers_from 1 x es

-- ## Of a sound state

module _ (lim : Limits) (X : State) (s : T (sound? lim X)) where
  abbrev q : Parameters
  q = X.parameters

  abbrev cs : List (List ℕ)
  cs = column_degrees X

  -- a degree for each component
  pub each_component : length q.degrees ≡ q.s
  each_component =
      eqb→eq (length q.degrees) q.s (and_left (eqb (length q.degrees) q.s) (fits? most_degree q.degrees) (sound_says lim X s).degrees)

  matrix_is : (x t : ℕ) → x + row_shift ≡ t → (c : ℕ) → constants t (get_or cs c []) (get_or cs (suc c) []) (vectors_at X c) ≡ entering q X.levels c x
  matrix_is x t e c =
      constants_are q.p x t e (get_or cs c []) (get_or cs (suc c) []) (vectors_at X c) (column_lengths X c)
      (subst (λ f. PlainConstants q.p f []) (sym (vectors_listed X c))
      (each_listed (PlainConstants q.p) X.levels c (sound_plain lim q X.levels (sound_says lim X s).levels) none))
      ∙ (λ i. constants_at q.p (vectors_listed X c i) (sym (column_numbers X each_component (suc c) x) i)
      (sym (column_numbers X each_component c x) i))
    where
      none : PlainConstants q.p [] []
      none zero j = refl
      none (suc i) j = refl

  pub entering_is : (x t : ℕ) → x + row_shift ≡ t → (c : ℕ) → rank_entering X cs t c ≡ rank q.p (entering q X.levels c x)
  entering_is x t e c = ap (rank q.p) (matrix_is x t e c)

  pub leaving_is : (x t : ℕ) → x + row_shift ≡ t → (c : ℕ) → rank_leaving X cs t c ≡ rank q.p (leaving q X.levels c x)
  leaving_is x t e zero = refl
  leaving_is x t e (suc c) = entering_is x t e c
