-- Comparing through the table of images is comparing in the definition's order, at every level and for every two monomials.
use mathlib.Core.Path.{◌≡◌, refl, sym, ap, ◌∙◌}
use mathlib.Core.Logic.{◌⊎◌, inl, inr}
use mathlib.Core.Option.{Option, none, some}
use mathlib.Core.List.{List, [], ◌∷◌}
use Prim.Native.Nat.{ℕ, zero, suc, ◌≤◌}
use native.Mathlib.Omega.{arith}
use lib.Dec.{T}
use lib.ListN.{length, get_or, get_elem?}
use Rattle.definitions.specs.Limits.{Limits}
use Rattle.definitions.specs.Lists.{every}
use Rattle.definitions.specs.Problem.{Parameters}
use Rattle.definitions.specs.State.{levels_sound?, vector_sound?, term_sound?}
use Rattle.definitions.specs.Monomial.{Exponents, Monomial, Term, Vector, Level, product, vector_of}
use Rattle.definitions.specs.Order.{Comparison, greater, equal, smaller, or_at_tie, numbers, exponents_by, image_by, image, compare_over}
use Rattle.laws.proofs.Tests.{and_left, and_right, between_low}
use Rattle.laws.proofs.Sound.{term_says, vector_says, basis_says, level_says}
use Rattle.laws.proofs.Products.{product_assoc}
use Rattle.laws.proofs.Comparisons.{numbers_are}
use Rattle.orders.specs.Images.{Key, Table, compare_keys, looked_up, key_by, key, table_order}
use Rattle.orders.specs.Levels.{Tie, compare_ties, rank, leading_keys, ranked, table_over, images}
use Rattle.orders.proofs.Ranks.{Stands, rank_compares, above_lowest, below_any}

-- vectors that have a term, whose leading component counts from 1
pub data Led : Level → Type 0 where
  no_vectors : Led []
  one_vector : {t : Term} {v : Vector} {f : Level} → 1 ≤ t.1.1 → Led f → Led ((t ∷ v) ∷ f)

pub data AllLed : List Level → Type 0 where
  no_levels : AllLed []
  one_level : {f : Level} {below : List Level} → Led f → AllLed below → AllLed (f ∷ below)

tie_assoc : (a b c : Comparison) → or_at_tie (or_at_tie a b) c ≡ or_at_tie a (or_at_tie b c)
tie_assoc greater b c = refl
tie_assoc equal b c = refl
tie_assoc smaller b c = refl

-- ## The image of a multiple

-- a multiple's key: the exponents are multiplied, the tie stays
key_multiple : (T : Table) (e d : Exponents) (u : ℕ) → key T (product e d, u) ≡ (product e (key T (d, u)).0, (key T (d, u)).1)
key_multiple T e d u = go (looked_up T u)
  where
    go : (o : Option (Exponents × ℕ)) → key_by o (product e d, u) ≡ (product e (key_by o (d, u)).0, (key_by o (d, u)).1)
    go none = refl
    go (some x) = λ i. (product_assoc e d x.0 i, (x.1, u))

-- what a component's vector is to the table: the vector's key stands among the keys, or there is no vector
abbrev Met : List Key → Table → Option (Exponents × ℕ) → Vector → Type 0
Met all T o v = ((k : Key) × (o ≡ some (k.0, rank all k.1)) × Stands k.1 all × (1 ≤ k.1.1)
    × ((e : Exponents) → key T (image_by e v) ≡ (product e k.0, k.1))) ⊎ ((o ≡ none) × (v ≡ []))

met_later : (all : List Key) (T : Table) (f : Level) → Led f → ((t : Tie) → Stands t (leading_keys T f) → Stands t all) → (i : ℕ)
    → Met all T (get_elem? (ranked all (leading_keys T f)) i) (get_or f i [])
met_later all T f no_vectors s i = inr (refl, refl)
met_later all T f (one_vector {t} {v} h hs) s zero = inl (
  key T t.1,
  refl,
  s (key T t.1).1 (inl refl),
  first (looked_up T t.1.1),
  λ e. key_multiple T e t.1.0 t.1.1,
)
  where
    first : (o : Option (Exponents × ℕ)) → 1 ≤ (key_by o t.1).1.1
    first none = h
    first (some x) = h
met_later all T f (one_vector {t} {v} {f = g} h hs) s (suc i) = met_later all T g hs (λ u x. s u (inr x)) i

met : (T : Table) (f : Level) → Led f → (c : ℕ) → Met (leading_keys T f) T (looked_up (table_over T f) c) (vector_of f c)
met T f h zero = inr (refl, refl)
met T f h (suc i) = met_later (leading_keys T f) T f h (λ t s. s) i

-- ## One level more

module _ (code : ℕ) (T : Table) (f : Level) (m m' : Monomial) where
  abbrev all : List Key
  all = leading_keys T f

  abbrev by_index : Comparison
  by_index = numbers m.1 m'.1

  -- the keys over the table of f, and the keys over T of the images
  over : (o o' : Option (Exponents × ℕ)) (v v' : Vector) → Met all T o v → Met all T o' v'
      → compare_keys code (key_by o m) (key_by o' m') ≡ or_at_tie (compare_keys code (key T (image_by m.0 v)) (key T (image_by m'.0 v'))) by_index
  over o o' v v' (inl (k, e, s, l, g)) (inl (k', e', s', l', g')) =
      (λ i. compare_keys code (key_by (e i) m) (key_by (e' i) m'))
      ∙ (λ i. or_at_tie exponents (or_at_tie (rank_compares all k.1 k'.1 s s' i) by_index))
      ∙ sym (tie_assoc exponents (compare_ties k.1 k'.1) by_index)
      ∙ sym (λ i. or_at_tie (compare_keys code (g m.0 i) (g' m'.0 i)) by_index)
    where
      exponents : Comparison
      exponents = exponents_by code (product m.0 k.0) (product m'.0 k'.0)
  over o o' v v' (inl (k, e, s, l, g)) (inr (e', z')) =
      (λ i. compare_keys code (key_by (e i) m) (key_by (e' i) m'))
      ∙ (λ i. or_at_tie exponents (or_at_tie ((numbers_are (rank all k.1) 0 greater (omega arith) ∙ sym (above_lowest k.1 l)) i) by_index))
      ∙ sym (tie_assoc exponents (compare_ties k.1 (0, 0)) by_index)
      ∙ sym (λ i. or_at_tie (compare_keys code (g m.0 i) (key T (image_by m'.0 (z' i)))) by_index)
    where
      exponents : Comparison
      exponents = exponents_by code (product m.0 k.0) m'.0
  over o o' v v' (inr (e, z)) (inl (k', e', s', l', g')) =
      (λ i. compare_keys code (key_by (e i) m) (key_by (e' i) m'))
      ∙ (λ i. or_at_tie exponents (or_at_tie ((numbers_are 0 (rank all k'.1) smaller (omega arith) ∙ sym (below_any k'.1 l')) i) by_index))
      ∙ sym (tie_assoc exponents (compare_ties (0, 0) k'.1) by_index)
      ∙ sym (λ i. or_at_tie (compare_keys code (key T (image_by m.0 (z i))) (g' m'.0 i)) by_index)
    where
      exponents : Comparison
      exponents = exponents_by code m.0 (product m'.0 k'.0)
  over o o' v v' (inr (e, z)) (inr (e', z')) =
      (λ i. compare_keys code (key_by (e i) m) (key_by (e' i) m'))
      ∙ sym (tie_assoc (exponents_by code m.0 m'.0) equal by_index)
      ∙ sym (λ i. or_at_tie (compare_keys code (key T (image_by m.0 (z i))) (key T (image_by m'.0 (z' i)))) by_index)

-- ## Every level

no_table : (c : ℕ) → looked_up [] c ≡ none
no_table zero = refl
no_table (suc i) = refl

pub table_order_is : (code : ℕ) (below : List Level) → AllLed below → (m m' : Monomial) → table_order code (images below) m m'
    ≡ compare_over code below m m'
table_order_is code below no_levels m m' = λ i. compare_keys code (key_by (no_table m.1 i) m) (key_by (no_table m'.1 i) m')
table_order_is code below (one_level {f} {below = b} h hs) m m' =
    over code (images b) f m m' (looked_up (table_over (images b) f) m.1) (looked_up (table_over (images b) f) m'.1) (vector_of f m.1)
    (vector_of f m'.1)
    (met (images b) f h m.1) (met (images b) f h m'.1)
    ∙ ap (λ c. or_at_tie c (numbers m.1 m'.1)) (table_order_is code b hs (image f m) (image f m'))

-- ## What a sound state has

module _ (lim : Limits) (q : Parameters) where
  led_vector : (c most : ℕ) (below : List Level) (v : Vector) (f : Level) → T (vector_sound? lim q c most below v) → Led f → Led (v ∷ f)
  led_vector c most below [] f h k = let l = (vector_says lim q c most below [] h).filled in absurd (omega arith)
  led_vector c most below (t ∷ v) f h k =
      let s = term_says lim q c t (and_left (term_sound? lim q c t) (every (term_sound? lim q c) v)
      (vector_says lim q c most below (t ∷ v) h).terms) in
      one_vector (between_low 1 t.1.1 c s.component) k

  led_level : (c most : ℕ) (below : List Level) (f : Level) → T (every (vector_sound? lim q c most below) f) → Led f
  led_level c most below [] h = no_vectors
  led_level c most below (v ∷ f) h =
      led_vector c most below v f (and_left (vector_sound? lim q c most below v) (every (vector_sound? lim q c most below) f) h)
      (led_level c most below f (and_right (vector_sound? lim q c most below v) (every (vector_sound? lim q c most below) f) h))

  pub sound_led : (ls : List Level) → T (levels_sound? lim q ls) → AllLed ls
  sound_led [] h = no_levels
  sound_led (f ∷ []) h = one_level (led_level q.s lim.t_lines [] f (basis_says lim q f h).vectors) no_levels
  sound_led (f ∷ g ∷ below) h =
      let s = level_says lim q f g below h in
      one_level (led_level (length g) lim.vector (g ∷ below) f s.vectors) (sound_led (g ∷ below) s.under)
