-- In every degree the matrices of neighbouring columns multiply to zero.
use mathlib.Core.Path.{◌≡◌, refl, sym, ap, ◌∙◌, subst}
use mathlib.Core.Bool.{Bool, true, false, not}
use mathlib.Core.List.{List, [], ◌∷◌}
use Prim.Native.Nat.{ℕ, suc, ◌<◌, ◌≤◌}
use native.Mathlib.Omega.{arith}
use lib.Dec.{T, ltb, ltb→lt, nltb→le}
use lib.ListN.{length, get_or}
use Rattle.definitions.specs.Limits.{Limits}
use Rattle.definitions.specs.Lists.{map}
use Rattle.definitions.specs.Monomial.{Vector, Level, unit, leading, vector_of}
use Rattle.definitions.specs.Problem.{Parameters}
use Rattle.definitions.specs.Degrees.{degrees_of}
use Rattle.definitions.specs.Rank.{combined}
use Rattle.laws.proofs.Modular.{Prime}
use Rattle.laws.proofs.Members.{All, all_map, all_inside}
use Rattle.laws.proofs.Degrees.{getD_degrees}
use Rattle.laws.proofs.RoundTrip.{length_degrees}
use Rattle.demands.specs.Notions.{coefficient, Syzygy}
use Rattle.demands.specs.Exact.{LevelRight, Exact}
use Rattle.demands.specs.Demands.{level_of}
use Rattle.degrees.specs.Notions.{levels_below}
use Rattle.ranks.specs.Notions.{ProductZero}
use Rattle.betti.specs.Notions.{listed_level}
use Rattle.minimal_numbers.specs.Notions.{numbers_of, entering}
use Rattle.minimal_numbers.proofs.Degrees.{degree_over, Eight, Eights, OneDegree, HomogeneousLevels}
use Rattle.minimal_numbers.proofs.OfDegree.{numbers_from, Numbered, numbers_say}
use Rattle.minimal_numbers.proofs.Constants.{constants_at, row_annihilates}
use Rattle.minimal_numbers.proofs.Columns.{Each, each_at, below_next, listed_there, listed_past, level_numbers}

pub length_map : {A B : Type 0} (f : A → B) (l : List A) → length (map f l) ≡ length l
length_map f [] = refl
length_map f (a ∷ l) = ap suc (length_map f l)

module _ (q : Parameters) (P : Prime q.p) where
  abbrev ds : List ℕ
  ds = q.degrees

  abbrev p : ℕ
  p = q.p

  -- the numbers of degree x of a level over those below it
  abbrev at_degree : List Level → Level → ℕ → List ℕ
  at_degree below f x = numbers_from 1 x (degrees_of ds below f)

  -- ## Two levels

  module _ (code : ℕ) (h g : Level) (below : List Level) (L : LevelRight q code (g ∷ below) h) (E : All Eight g) (H : All (OneDegree ds (g ∷ below)) h) where
    rows_annihilate : (x : ℕ) (ks is : List ℕ) → All (Numbered 1 x (degrees_of ds (g ∷ below) h)) is
        → ProductZero p (constants_at p h is (at_degree below g x)) (constants_at p g (at_degree below g x) ks)
    rows_annihilate x ks [] n = tt
    rows_annihilate x ks (i ∷ is) n = ((size, λ l. zero_at l), rows_annihilate x ks is n.1)
      where
        js : List ℕ
        js = at_degree below g x

        size : length (map (λ j. coefficient p (unit, j) (vector_of h i)) js) ≡ length (constants_at p g js ks)
        size =
            length_map (λ j. coefficient p (unit, j) (vector_of h i)) js
            ∙ sym (length_map (λ j. map (λ k. coefficient p (unit, k) (vector_of g j)) ks) js)

        place : ℕ
        place = n.0.place

        number : i ≡ suc place
        number = let e = n.0.is in omega (arith, e)

        inside : place < length h
        inside = subst (λ z. place < z) (length_degrees ds (g ∷ below) h) n.0.inside

        v : Vector
        v = get_or h place []

        leads : degree_over ds (g ∷ below) (leading v) ≡ x
        leads = sym (getD_degrees ds (g ∷ below) h place inside) ∙ n.0.degree_is

        one : All (λ t. degree_over ds (g ∷ below) t.1 ≡ x) v
        one =
            all_map (λ t. degree_over ds (g ∷ below) t.1 ≡ degree_over ds (g ∷ below) (leading v)) (λ t. degree_over ds (g ∷ below) t.1 ≡ x)
            (λ t e. e ∙ leads) v (all_inside (OneDegree ds (g ∷ below)) [] h place inside H)

        s : Syzygy q g v
        s = (L.vectors place inside).syzygy

        zero_at : (l : ℕ) → combined p l (map (λ j. coefficient p (unit, j) (vector_of h i)) js) (constants_at p g js ks) ≡ 0
        zero_at l =
            subst (λ z. combined p l (map (λ j. coefficient p (unit, j) (vector_of h z)) js) (constants_at p g js ks) ≡ 0) (sym number)
            (row_annihilates p P q g E ds below x v s.0 s.1 one ks l)

  -- ## All levels

  -- of h over some levels, with g over those below it
  abbrev Annihilates : Level → List Level → Level → List Level → Type 0
  Annihilates h over g below = (x : ℕ) (ks : List ℕ)
      → ProductZero p (constants_at p h (at_degree over h x) (at_degree below g x)) (constants_at p g (at_degree below g x) ks)

  abbrev Next : Level → List Level → Type 0
  Next h [] = Unit {0}
  Next h (g ∷ below) = Annihilates h (g ∷ below) g below

  each_next : (lim : Limits) (ls : List Level) → Exact lim q ls → Eights ls → HomogeneousLevels ds ls → Each Next ls
  each_next lim [] X E H = tt
  each_next lim (f ∷ []) X E H = (tt, tt)
  each_next lim (h ∷ g ∷ below) X E H = (
    λ x ks.
        rows_annihilate (lim.numbering q.code) h g below X.0 E.1.0 H.0 x ks (at_degree (g ∷ below) h x)
        (numbers_say 1 x (degrees_of ds (g ∷ below) h)),
    each_next lim (g ∷ below) X.1 E.1 H.1,
  )

  -- ## Columns

  module _ (lim : Limits) (ls : List Level) (X : Exact lim q ls) (E : Eights ls) (H : HomogeneousLevels ds ls) where
    there : (c x : ℕ) → suc c < length ls → ProductZero p (entering q ls (suc c) x) (entering q ls c x)
    there c x l =
        subst (λ M. ProductZero p (entering q ls (suc c) x) M) (sym lower)
        (subst (λ M. ProductZero p M (constants_at p (level_of ls c) (at_degree (levels_below ls c) (level_of ls c) x) (numbers_of q ls c x))) (sym upper)
        (both x (numbers_of q ls c x)))
      where
        both : Annihilates (level_of ls (suc c)) (levels_below ls (suc c)) (level_of ls c) (levels_below ls c)
        both =
            subst (λ o. Annihilates (level_of ls (suc c)) o (level_of ls c) (levels_below ls c)) (sym (below_next ls c l))
            (subst (Next (level_of ls (suc c))) (below_next ls c l) (each_at Next ls (suc c) l (each_next lim ls X E H)))

        numbers : (k : ℕ) → k < length ls → numbers_of q ls (suc k) x ≡ at_degree (levels_below ls k) (level_of ls k) x
        numbers k h =
            level_numbers ds (levels_below ls k) (listed_level ls k) x
            ∙ ap (λ f. at_degree (levels_below ls k) f x) (listed_there ls k h)

        upper : entering q ls (suc c) x
            ≡ constants_at p (level_of ls (suc c)) (at_degree (levels_below ls (suc c)) (level_of ls (suc c)) x)
            (at_degree (levels_below ls c) (level_of ls c) x)
        upper = λ i. constants_at p (listed_there ls (suc c) l i) (numbers (suc c) l i) (numbers c (omega (arith, l)) i)

        lower : entering q ls c x ≡ constants_at p (level_of ls c) (at_degree (levels_below ls c) (level_of ls c) x) (numbers_of q ls c x)
        lower = λ i. constants_at p (listed_there ls c (omega (arith, l)) i) (numbers c (omega (arith, l)) i) (numbers_of q ls c x)

    -- above the last column there is no row
    past : (c x : ℕ) → length ls ≤ suc c → ProductZero p (entering q ls (suc c) x) (entering q ls c x)
    past c x l = subst (λ M. ProductZero p M (entering q ls c x)) (sym none) tt
      where
        none : entering q ls (suc c) x ≡ []
        none =
            ap (λ is. constants_at p (listed_level ls (suc c)) is (numbers_of q ls (suc c) x))
            (level_numbers ds (levels_below ls (suc c)) (listed_level ls (suc c)) x
            ∙ ap (λ f. at_degree (levels_below ls (suc c)) f x) (listed_past ls (suc c) l))

    pub annihilate : (c x : ℕ) → ProductZero p (entering q ls (suc c) x) (entering q ls c x)
    annihilate c x = go (ltb (suc c) (length ls)) (ltb→lt (suc c) (length ls)) (nltb→le (suc c) (length ls))
      where
        go : (b : Bool) → (T b → suc c < length ls) → (T (not b) → length ls ≤ suc c) → ProductZero p (entering q ls (suc c) x) (entering q ls c x)
        go true s n = there c x (s tt)
        go false s n = past c x (n tt)
