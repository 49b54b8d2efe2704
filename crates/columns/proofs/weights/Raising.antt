-- A column's keys from those of the column before it.
use mathlib.Core.Path.{◌≡◌, refl, sym, ap, ◌∙◌, subst, subst₃}
use mathlib.Core.List.{List, [], ◌∷◌, ◌++◌, reverse, reverse-cons}
use Prim.Native.Nat.{ℕ, zero, suc, ◌+◌, ◌-◌, ◌*◌, ◌<◌, ◌≤◌}
use native.Mathlib.Nat.{not-suc-le-zero}
use native.Mathlib.Omega.{arith}
use native.Mathlib.Decide.{ℕ_discrete}
use lib.Dec.{T, eqb}
use lib.ListN.{length, get_or, take, drop, replicate, length-reverse, get_or-append}
use lib.Seq.{get_or_at, get_or-take, get_or-drop, length-take-le}
use Rattle.definitions.specs.Limits.{document_01}
use Rattle.definitions.specs.Lists.{◌and◌, between, map, from}
use Rattle.definitions.specs.Monomial.{Monomial, Vector, Level, leading, vector_of, fits?}
use Rattle.definitions.specs.Degrees.{component_degree, image_over}
use Rattle.definitions.specs.Columns.{images}
use Rattle.definitions.specs.Bidegrees.{weighted, degree_weighted, Bidegree, firsts}
use Rattle.definitions.specs.Layout.{Words, row_at, rows, decode, degrees_at, level_at, levels_at, holds_state?}
use Rattle.definitions.specs.Places.{exponents_length, most_variables, most_components, most_degree, most_vectors, degrees_start, second_base, state_length}
use Rattle.laws.proofs.Tests.{and_left, and_right, between_low, between_high}
use Rattle.laws.proofs.Members.{All}
use Rattle.laws.proofs.Sound.{sound_says, level_says}
use Rattle.laws.proofs.Degrees.{AllHeaded, sound_headed}
use Rattle.bigraded.proofs.Columns.{length_map}
use Rattle.bigraded.proofs.Weighted.{weighted_unit, bidegree_recursion}
use Rattle.reducers.specs.tables.Cuts.{start_of, Cut, cut_level}
use Rattle.reducers.proofs.tables.Cutting.{leads_with}
use Rattle.state.specs.soundness.Places.{parameters_at, count_at, rows_from, ends_from}
use Rattle.state.proofs.soundness.SoundLevels.{complete_cut}
use Rattle.state.proofs.soundness.StateTests.{holds_said}
use Rattle.state.proofs.soundness.VectorTests.{length_vectors}
use Rattle.state.proofs.preparing.Complete.{length_levels, holds_sound}
use Rattle.state.proofs.degrees.Bounded.{fits_bounded}
use Rattle.state.proofs.degrees.Carried.{Over, vectors_over, held_sound, s_degrees}
use Rattle.state.proofs.writing.Fetching.{vector_from, begin_taken}
use Rattle.columns.specs.weights.Keys.{
  key_degrees,
  AtMost,
  most_key_weight,
  most_key,
  Weighed,
  keys_over,
  column_keys,
  Components,
  Keyed,
}
use Rattle.lists.specs.Filling.{Filled}
use Rattle.columns.proofs.counting.Standing.{few_components}
use Rattle.columns.proofs.weights.Keying.{getD_scaled}
use Rattle.columns.proofs.weights.Summing.{get_d_map, filled_front, most_taken, row_most}

-- ## A level over another

abbrev alone : List ℕ → List (ℕ × ℕ)
alone kw = map (λ w. (w, 0)) kw

firsts_alone : (kw : List ℕ) → firsts (alone kw) ≡ kw
firsts_alone [] = refl
firsts_alone (w ∷ kw) = ap (λ l. w ∷ l) (firsts_alone kw)

-- the keys of a level's vectors, by their images
abbrev image_keys : List ℕ → List ℕ → List Level → Level → List ℕ
image_keys kw d below f = map (λ v. degree_weighted kw d (image_over below (leading v))) f

module _ (kw d : List ℕ) (g : Level) (below : List Level) (hs : AllHeaded (g ∷ below)) where
  component_there : (i : ℕ) → T (between 1 i (length g))
      → component_degree (image_keys kw d below g) i ≡ degree_weighted kw d (image_over below (leading (vector_of g i)))
  component_there zero r = absurd (let l : 1 ≤ 0 = between_low 1 0 (length g) r in omega arith)
  component_there (suc j) r = there g j (let l : suc j ≤ length g = between_high 1 (suc j) (length g) r in omega arith)
    where
      there : (f : Level) (j : ℕ) → j < length f
          → get_or (image_keys kw d below f) j 0 ≡ degree_weighted kw d (image_over below (leading (get_or f j [])))
      there [] j h = absurd (not-suc-le-zero h)
      there (v ∷ f) zero h = refl
      there (v ∷ f) (suc j) h = there f j (omega arith)

  key_over : (v : Vector) → Over (length g) v
      → degree_weighted kw (image_keys kw d below g) (leading v) ≡ degree_weighted kw d (image_over (g ∷ below) (leading v))
  key_over v o =
      ap (λ n. weighted kw (leading v).0 + n) (component_there (leading v).1 o.inside)
      ∙ sym (subst (λ w. degree_weighted w d (image_over (g ∷ below) (leading v))
      ≡ weighted w (leading v).0 + degree_weighted w d (image_over below (leading (vector_of g (leading v).1)))) (firsts_alone kw)
      (ap (λ (x : Bidegree). x.0) (bidegree_recursion (alone kw) d g below (leading v) hs o.headed.eight o.inside)))

  pub keys_over_level : (f : Level) → All (Over (length g)) f → keys_over kw (image_keys kw d below g) f ≡ image_keys kw d (g ∷ below) f
  keys_over_level [] o = refl
  keys_over_level (v ∷ f) o = λ i. key_over v o.0 i ∷ keys_over_level f o.1 i

-- ## Columns

map_map : {A B C : Type 0} (g : B → C) (h : A → B) (l : List A) → map g (map h l) ≡ map (λ a. g (h a)) l
map_map g h [] = refl
map_map g h (a ∷ l) = ap (λ z. g (h a) ∷ z) (map_map g h l)

length_images : (ls : List Level) → length (images ls) ≡ length ls
length_images [] = refl
length_images (f ∷ ls) = ap suc (length_images ls)

-- the images of level k's vectors among those of levels 0 to h − 1
images_at : (s : Words) (h k : ℕ) → k < h
    → get_or (reverse (images (levels_at document_01 s h))) k [] ≡ map (λ v. image_over (levels_at document_01 s k) (leading v)) (level_at document_01 s k)
images_at s zero k l = absurd (not-suc-le-zero l)
images_at s (suc h) k l =
    ap (λ (z : List (List Monomial)). get_or z k []) (reverse-cons (here h) (images (levels_at document_01 s h)))
    ∙ go (ℕ_discrete k h) (images_at s h k)
  where
    here : ℕ → List Monomial
    here j = map (λ v. image_over (levels_at document_01 s j) (leading v)) (level_at document_01 s j)

    before : List (List Monomial)
    before = reverse (images (levels_at document_01 s h))

    many : length before ≡ h
    many = length-reverse (images (levels_at document_01 s h)) ∙ length_images (levels_at document_01 s h) ∙ length_levels s h

    go : Dec (k ≡ h) → (k < h → get_or before k [] ≡ here k) → get_or (before ++ here h ∷ []) k [] ≡ here k
    go (yes e) r = subst (λ i. get_or (before ++ here h ∷ []) i [] ≡ here i) (sym e) (get_or_at before (here h) [] [] h many)
    go (no n) r = get_or-append before (here h ∷ []) [] k (omega (arith, many)) ∙ r (omega arith)

module _ (kw : List ℕ) (s : Words) where
  abbrev d : List ℕ
  d = key_degrees (degrees_at document_01 s)

  -- column k + 1 has the keys of level k's vectors
  pub column_above : (k : ℕ) → k < get_or s 4 0
      → column_keys kw s (suc k) ≡ map (λ v. degree_weighted kw d (image_over (levels_at document_01 s k) (leading v))) (level_at document_01 s k)
  column_above k h =
      get_d_map (map (degree_weighted kw d)) (reverse (images (levels_at document_01 s (get_or s 4 0)))) k []
      ∙ ap (map (degree_weighted kw d)) (images_at s (get_or s 4 0) k h)
      ∙ map_map (degree_weighted kw d) (λ v. image_over (levels_at document_01 s k) (leading v)) (level_at document_01 s k)

  -- column 0 has the components' keys
  pub column_first : length (degrees_at document_01 s) ≡ get_or s 3 0 → column_keys kw s 0 ≡ key_degrees (degrees_at document_01 s)
  column_first e =
      map_map (degree_weighted kw d) (λ i. (replicate exponents_length 0, i)) (from 1 (get_or s 3 0))
      ∙ components (get_or s 3 0) d (length_map (λ x. x * second_base) (degrees_at document_01 s) ∙ e)
    where
      from_second : (f : ℕ → ℕ) (a n : ℕ) → map f (from (suc a) n) ≡ map (λ i. f (suc i)) (from a n)
      from_second f a zero = refl
      from_second f a (suc n) = ap (λ z. f (suc a) ∷ z) (from_second f (suc a) n)

      components : (n : ℕ) (l : List ℕ) → length l ≡ n → map (λ i. degree_weighted kw l (replicate exponents_length 0, i)) (from 1 n) ≡ l
      components n l h = from_second (λ i. weighted kw (replicate exponents_length 0) + component_degree l i) 0 n ∙ each n l h
        where
          each : (n : ℕ) (l : List ℕ) → length l ≡ n → map (λ i. weighted kw (replicate exponents_length 0) + get_or l i 0) (from 0 n) ≡ l
          each zero [] h = refl
          each zero (x ∷ l) h = absurd (omega arith)
          each (suc n) [] h = absurd (omega arith)
          each (suc n) (x ∷ l) h =
              let z = weighted_unit kw exponents_length in
              let first : weighted kw (replicate exponents_length 0) + x ≡ x = omega (arith, z) in
              λ i. first i ∷ (from_second (λ i. weighted kw (replicate exponents_length 0) + get_or (x ∷ l) i 0) 0 n ∙ each n l (omega arith)) i

  module _ (long : state_length ≤ length s) (holds : T (holds_state? document_01 s)) where
    -- a level's vectors over the keys of the column before
    pub keys_raised : (k : ℕ) → k < get_or s 4 0 → length (degrees_at document_01 s) ≡ get_or s 3 0
        → keys_over kw (column_keys kw s k) (level_at document_01 s k) ≡ column_keys kw s (suc k)
    keys_raised zero h e = ap (λ b. keys_over kw b (level_at document_01 s 0)) (column_first e) ∙ sym (column_above 0 h)
    keys_raised (suc k) h e =
        let y = holds_said s long holds in
        let t = held_sound s long (get_or s 4 0) y.1 y.4 (suc k) h in
        let f = level_at document_01 s (suc k) in
        let g = level_at document_01 s k in
        let gs = levels_at document_01 s k in
        let l = level_says document_01 (parameters_at s) f g gs t in
        ap (λ b. keys_over kw b f) (column_above k (omega arith))
        ∙ keys_over_level kw d g gs (sound_headed document_01 (parameters_at s) (g ∷ gs) l.under) f
        (vectors_over document_01 (parameters_at s) (length g) document_01.vector (g ∷ gs) f l.vectors)
        ∙ sym (column_above (suc k) h)

-- ## In the state's words

-- the keys of vectors, found row by row
weighed_keys : (kw below : List ℕ) (level ends : Words) (r : ℕ) (next : List ℕ) → Cut r level ends → r ≤ length next → Weighed kw below level ends r next
    → take r next ≡ keys_over kw below (cut_level r level ends)
weighed_keys kw below level ends r next cut room w =
    filled_front (keys_over kw below f) next r (sym (length_map (λ v. degree_weighted kw below (leading v)) f ∙ many)) room (λ j h. w j h ∙ sym (there j h))
  where
    f : Level
    f = cut_level r level ends

    long : length (take r ends) ≡ r
    long = length-take-le r ends cut.ends_fit

    many : length f ≡ r
    many = length_vectors level 0 (take r ends) ∙ long

    each : (g : Level) (j : ℕ) → j < length g → get_or (keys_over kw below g) j 0 ≡ degree_weighted kw below (leading (get_or g j []))
    each [] j h = absurd (not-suc-le-zero h)
    each (v ∷ g) zero h = refl
    each (v ∷ g) (suc j) h = each g j (omega arith)

    there : (j : ℕ) → j < r → get_or (keys_over kw below f) j 0 ≡ degree_weighted kw below (row_at level (start_of ends j)).1
    there j h =
        each f j (omega (arith, many, h))
        ∙ ap (λ v. degree_weighted kw below (leading v)) (vector_from level 0 (take r ends) j (omega (arith, long, h))
        ∙ (λ i. rows level (begin_taken ends r j h i) (get_or-take r ends j 0 h i - begin_taken ends r j h i)))
        ∙ ap (λ t. degree_weighted kw below t.1) (leads_with level (start_of ends j) (get_or ends j 0) (cut.filled j h))

module _ (s : Words) (long : state_length ≤ length s) (holds : T (holds_state? document_01 s)) where
  so_many : length (degrees_at document_01 s) ≡ get_or s 3 0
  so_many = s_degrees s long (few_components s long holds)

  pub few_variables : get_or s 1 0 ≤ most_variables
  few_variables =
      let t = (sound_says document_01 (decode document_01 s) (holds_sound s holds)).ranges in
      between_high 1 (get_or s 1 0) most_variables
      (and_left (between 1 (get_or s 1 0) most_variables) (between 1 (get_or s 2 0) 3 and between 1 (get_or s 3 0) most_components) t)

  -- a component's word and its key
  pub component_word : (j : ℕ) → j < get_or s 3 0 → get_or s (degrees_start + j) 0 * second_base ≡ get_or (key_degrees (degrees_at document_01 s)) j 0
  component_word j h =
      ap (λ x. x * second_base) (sym (get_or-take (get_or s 3 0) (drop degrees_start s) j 0 h ∙ get_or-drop degrees_start s j 0))
      ∙ sym (getD_scaled (degrees_at document_01 s) j)

  scaled_low : AtMost (most_degree * second_base) (key_degrees (degrees_at document_01 s))
  scaled_low i =
      let d = degrees_at document_01 s in
      let t = and_right (eqb (length d) (get_or s 3 0)) (fits? most_degree d) (sound_says document_01 (decode document_01 s) (holds_sound s holds)).degrees in
      let a = fits_bounded most_degree d t i in
      let b = getD_scaled d i in
      omega (arith, a, b)

  pub components_found : (r : ℕ) (keys : List ℕ) → r ≡ get_or s 3 0 → most_vectors ≤ length keys
      → Filled (λ k. get_or (key_degrees (degrees_at document_01 s)) k 0) r keys → Components s r keys
  components_found r keys e room f = record {
    held = held;
    many = e;
    few = few;
    low = subst (AtMost (most_degree * second_base)) (sym held) scaled_low;
  }
    where
      few : r ≤ most_components
      few = let l = few_components s long holds in omega (arith, e, l)

      held : take r keys ≡ key_degrees (degrees_at document_01 s)
      held =
          filled_front (key_degrees (degrees_at document_01 s)) keys r (e ∙ sym (length_map (λ x. x * second_base) (degrees_at document_01 s) ∙ so_many))
          (omega (arith, few, room)) f

  -- column 0
  pub components_keyed : (kw : List ℕ) (r : ℕ) (keys : List ℕ) → most_vectors ≤ length keys → Components s r keys → Keyed kw s 0 r keys
  components_keyed kw r keys room C = record {
    held = held;
    long = sym (length-take-le r keys (let f = C.few in omega (arith, f, room))) ∙ ap length held;
    few = let f = C.few in omega (arith, f);
    room = room;
    low = λ i. let l = C.low i in omega (arith, l);
  }
    where
      held : take r keys ≡ column_keys kw s 0
      held = C.held ∙ sym (column_first kw s so_many)

  -- column k + 1 from column k
  pub raised : (kw : List ℕ) (k n r : ℕ) (keys next keys' : List ℕ) (level ends : Words) → k < get_or s 4 0 → AtMost most_key_weight kw → Keyed kw s k n keys
      → level ≡ rows_from s k → ends ≡ ends_from s k → r ≡ count_at s k → most_vectors ≤ length next → Weighed kw (take n keys) level ends r next
      → take r keys' ≡ take r next → length keys' ≡ length keys → Keyed kw s (suc k) r keys'
  raised kw k n r keys next keys' level ends h light K el ee er room w copied same = record {
    held = held;
    long = sym (length-take-le r keys' (let a = K.room in omega (arith, few, same, a))) ∙ ap length held;
    few = few;
    room = let a = K.room in omega (arith, a, same);
    low = subst (AtMost (suc k * most_key + most_degree * second_base)) (sym copied)
        (most_taken (suc k * most_key + most_degree * second_base) r next (λ i j.
        let a = row_most (k * most_key + most_degree * second_base) kw (take n keys) level (start_of ends i) light K.low in
        let b = w i j in
        omega (arith, a, b)));
  }
    where
      cut : (count_at s k ≤ most_vectors) × Cut (count_at s k) (rows_from s k) (ends_from s k)
      cut = complete_cut s long holds k h

      few : r ≤ most_vectors
      few = let a = cut.0 in omega (arith, a, er)

      held : take r keys' ≡ column_keys kw s (suc k)
      held =
          copied
          ∙ weighed_keys kw (take n keys) level ends r next (subst₃ (λ c l e. Cut c l e) (sym er) (sym el) (sym ee) cut.1) (omega (arith, few, room)) w
          ∙ (λ i. keys_over kw (K.held i) (cut_level (er i) (el i) (ee i)))
          ∙ keys_raised kw s long holds k h so_many
