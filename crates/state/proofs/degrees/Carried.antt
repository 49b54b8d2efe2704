-- Degrees found from what stands with the level below are those that the vectors carry.
use mathlib.Core.Path.{◌≡◌, refl, sym, ap, ◌∙◌, subst}
use mathlib.Core.Bool.{Bool, false}
use mathlib.Core.List.{List, [], ◌∷◌}
use Prim.Native.Nat.{ℕ, zero, suc, ◌+◌, ◌-◌, ◌<◌, ◌≤◌}
use native.Mathlib.Omega.{arith}
use native.Mathlib.Decide.{ℕ_discrete}
use lib.Dec.{T, eqb, eqb_refl}
use lib.ListN.{length, get_or, take, drop, length-drop}
use lib.Seq.{length-take-le}
use Rattle.definitions.specs.Limits.{Limits, document_01}
use Rattle.definitions.specs.Lists.{◌and◌, every, between}
use Rattle.definitions.specs.Monomial.{Vector, Level, degree, leading, fits?, same_exponents?}
use Rattle.definitions.specs.Problem.{Parameters, prime_in_range?, in_ranges?}
use Rattle.definitions.specs.State.{vector_sound?, term_sound?, levels_sound?}
use Rattle.definitions.specs.Degrees.{component_degree, degree_of, degrees_of, carried}
use Rattle.definitions.specs.Layout.{Words, carried_place, degrees_at, level_at, levels_at, holds_state?}
use Rattle.definitions.specs.Places.{most_degree, most_components, most_vectors, all_levels, degrees_start, state_length}
use Rattle.laws.proofs.Tests.{and_left, and_right, and_both, false_is, between_low, between_high}
use Rattle.laws.proofs.Members.{All, every_all, all_map}
use Rattle.laws.proofs.Products.{same_exponents_says}
use Rattle.laws.proofs.Sound.{term_says, vector_says, level_says}
use Rattle.laws.proofs.RoundTrip.{length_degrees, length_carried}
use Rattle.laws.proofs.Degrees.{Headed, AllHeaded, sound_headed, degree_recursion, carries_words, carries_below}
use Rattle.state.specs.soundness.Places.{parameters_at, count_at}
use Rattle.state.specs.soundness.Holding.{levels_hold?, basis_holds?}
use Rattle.state.specs.preparing.Prepared.{components_at}
use Rattle.state.specs.degrees.Carrying.{under_at, carried_from, weighed_at, level_carries?, levels_carry?, carried_right?}
use Rattle.state.proofs.soundness.LevelByLevel.{climbed, climbed_to}
use Rattle.state.proofs.soundness.StateTests.{level_count, length_levels, own_few, up_levels, holds_shown, holds_said}
use Rattle.state.proofs.degrees.Weights.{same_shown}

-- ## Level by level

pub carry_one : (s : Words) (k : ℕ) → T (levels_carry? s k) → T (level_carries? s k) → T (levels_carry? s (k + 1))
carry_one s k t u = let z : suc k ≡ k + 1 = omega arith in
    subst (λ n. T (levels_carry? s n)) z (and_both (levels_carry? s k) (level_carries? s k) t u)

carried_each : (s : Words) (h : ℕ) → T (levels_carry? s h) → (k : ℕ) → k < h → T (level_carries? s k)
carried_each s zero t k l = absurd (omega arith)
carried_each s (suc h) t k l = go (ℕ_discrete k h) (carried_each s h (and_left (levels_carry? s h) (level_carries? s h) t) k)
  where
    go : Dec (k ≡ h) → (k < h → T (level_carries? s k)) → T (level_carries? s k)
    go (yes e) r = subst (λ j. T (level_carries? s j)) (sym e) (and_right (levels_carry? s h) (level_carries? s h) t)
    go (no e) r = r (omega arith)

pub carry_fails : (s : Words) (h k : ℕ) → k < h → level_carries? s k ≡ false → levels_carry? s h ≡ false
carry_fails s h k l e = false_is (levels_carry? s h) (λ t. subst T e (carried_each s h t k l))

-- ## A level over another

-- a vector whose leading term has eight exponents and one of so many components
pub record Over (c : ℕ) (v : Vector) : Type 0 where
  pub headed : Headed v
  pub inside : T (between 1 (leading v).1 c)

module _ (lim : Limits) (q : Parameters) where
  over_by : (c most : ℕ) (below : List Level) (v : Vector) → T (vector_sound? lim q c most below v) → Over c v
  over_by c most below [] h = absurd (let l = (vector_says lim q c most below [] h).filled in omega arith)
  over_by c most below (t ∷ v) h =
      let s = vector_says lim q c most below (t ∷ v) h in
      let u = term_says lim q c t (and_left (term_sound? lim q c t) (every (term_sound? lim q c) v) s.terms) in
      record { headed = record { filled = s.filled; eight = u.eight }; inside = u.component }

  pub vectors_over : (c most : ℕ) (below : List Level) (f : Level) → T (every (vector_sound? lim q c most below) f) → All (Over c) f
  vectors_over c most below f h =
      all_map (λ v. T (vector_sound? lim q c most below v)) (Over c) (over_by c most below) f (every_all (vector_sound? lim q c most below) f h)

component_is : (l : List ℕ) (c : ℕ) → 1 ≤ c → component_degree l c ≡ get_or l (c - 1) 0
component_is l zero h = absurd (omega arith)
component_is l (suc c) h = let z : c ≡ suc c - 1 = omega arith in ap (λ i. get_or l i 0) z

degree_over : (d : List ℕ) (g : Level) (below : List Level) (v : Vector) → AllHeaded (g ∷ below) → Over (length g) v
    → degree_of (degrees_of d below g) [] v ≡ degree_of d (g ∷ below) v
degree_over d g below v hs o =
    ap (λ n. degree (leading v).0 + n) (component_is (degrees_of d below g) (leading v).1 (between_low 1 (leading v).1 (length g) o.inside))
    ∙ sym (degree_recursion d g below (leading v) hs o.headed.eight o.inside)

-- the degrees of a level are those over the degrees that the level below carries
pub degrees_over : (d : List ℕ) (g : Level) (below : List Level) (f : Level) → AllHeaded (g ∷ below) → All (Over (length g)) f
    → degrees_of (degrees_of d below g) [] f ≡ degrees_of d (g ∷ below) f
degrees_over d g below [] hs o = refl
degrees_over d g below (v ∷ f) hs o = λ i. degree_over d g below v hs o.0 i ∷ degrees_over d g below f hs o.1 i

-- ## In the state's words

module _ (s : Words) (long : state_length ≤ length s) where
  abbrev d : Words
  d = degrees_at document_01 s

  abbrev f : ℕ → Level
  f k = level_at document_01 s k

  abbrev fs : ℕ → List Level
  fs k = levels_at document_01 s k

  abbrev SoundTo : ℕ → Type 0
  SoundTo k = T (levels_sound? document_01 (parameters_at s) (levels_at document_01 s (suc k)))

  -- what stands with level k
  pub under_right : (k : ℕ) → k < all_levels → count_at s k ≤ most_vectors → T (carried_right? s (suc k))
      → under_at s (suc k) ≡ degrees_of (degrees_at document_01 s) (levels_at document_01 s k) (level_at document_01 s k)
  under_right k h m c =
      (λ i. take (sym (level_count s long k h m) i) (drop (carried_place document_01 (sym (length_levels s long k) i)) s))
      ∙ carries_words document_01 s d (f k) (fs k) c

  -- what stands with a level is right: so is what is found from it
  pub weighed_right : (k : ℕ) → k < all_levels → ((j : ℕ) → j < k → count_at s j ≤ most_vectors)
      → T (levels_sound? document_01 (parameters_at s) (levels_at document_01 s (suc k))) → T (carried_right? s k)
      → weighed_at s k ≡ degrees_of (degrees_at document_01 s) (levels_at document_01 s k) (level_at document_01 s k)
  weighed_right zero h few t c = refl
  weighed_right (suc k) h few t c =
      let l = level_says document_01 (parameters_at s) (f (suc k)) (f k) (fs k) t in
      ap (λ x. degrees_of x [] (f (suc k))) (under_right k (omega arith) (few k (omega arith)) c)
      ∙ degrees_over d (f k) (fs k) (f (suc k)) (sound_headed document_01 (parameters_at s) (f k ∷ fs k) l.under)
      (vectors_over document_01 (parameters_at s) (length (f k)) document_01.vector (f k ∷ fs k) (f (suc k)) l.vectors)

  -- level k's words are the degrees of its vectors
  pub carried_more : (k : ℕ) → k < all_levels → count_at s k ≤ most_vectors → T (carried_right? s k)
      → take (count_at s k) (carried_from s k) ≡ degrees_of (degrees_at document_01 s) (levels_at document_01 s k) (level_at document_01 s k)
      → T (carried_right? s (suc k))
  carried_more k h m c e =
      and_both (same_exponents? (take (length ds) (drop (carried_place document_01 (length (carried d (fs k)))) s)) ds) (carried_right? s k)
      (same_shown (take (length ds) (drop (carried_place document_01 (length (carried d (fs k)))) s)) ds
      ((λ i. take (long_ds i) (drop (carried_place document_01 (place i)) s)) ∙ e)) c
    where
      ds : Words
      ds = degrees_of (degrees_at document_01 s) (levels_at document_01 s k) (level_at document_01 s k)

      long_ds : length ds ≡ count_at s k
      long_ds = length_degrees (degrees_at document_01 s) (levels_at document_01 s k) (level_at document_01 s k) ∙ level_count s long k h m

      place : length (carried (degrees_at document_01 s) (levels_at document_01 s k)) ≡ k
      place = length_carried (degrees_at document_01 s) (levels_at document_01 s k) ∙ length_levels s long k

  pub carry_up : (h : ℕ) → h ≤ all_levels → ((j : ℕ) → j < h → count_at s j ≤ most_vectors)
      → ((j : ℕ) → j < h → T (levels_sound? document_01 (parameters_at s) (levels_at document_01 s (suc j)))) → T (levels_carry? s h)
      → T (carried_right? s h)
  carry_up zero l few t c = tt
  carry_up (suc k) l few t c =
      let r : T (carried_right? s k) = carry_up k (omega arith) (λ j m. few j (omega arith)) (λ j m. t j (omega arith))
      (and_left (levels_carry? s k) (level_carries? s k) c) in
      carried_more k l (few k (omega arith)) r
      (same_exponents_says (take (count_at s k) (carried_from s k)) (weighed_at s k) (and_right (levels_carry? s k) (level_carries? s k) c)
      ∙ weighed_right k l (λ j m. few j (omega arith)) (t k (omega arith)) r)

  pub carry_down : (h : ℕ) → h ≤ all_levels → ((j : ℕ) → j < h → count_at s j ≤ most_vectors)
      → ((j : ℕ) → j < h → T (levels_sound? document_01 (parameters_at s) (levels_at document_01 s (suc j)))) → T (carried_right? s h)
      → T (levels_carry? s h)
  carry_down zero l few t c = tt
  carry_down (suc k) l few t c =
      let r : T (carried_right? s k) = carries_below document_01 s d (f k) (fs k) c in
      and_both (levels_carry? s k) (level_carries? s k) (carry_down k (omega arith) (λ j m. few j (omega arith)) (λ j m. t j (omega arith)) r)
      (same_shown (take (count_at s k) (carried_from s k)) (weighed_at s k)
      (under_right k l (few k (omega arith)) c ∙ sym (weighed_right k l (λ j m. few j (omega arith)) (t k (omega arith)) r)))

  -- ## Sound levels

  module _ (h : ℕ) (l : h ≤ all_levels) (t : T (levels_hold? s h)) where
    pub held_few : (j : ℕ) → j < h → count_at s j ≤ most_vectors
    held_few j m = own_few s long j (climbed s h t j m)

    pub held_sound : (j : ℕ) → j < h → T (levels_sound? document_01 (parameters_at s) (levels_at document_01 s (suc j)))
    held_sound j m = up_levels s long j (omega arith) (climbed_to s h t (suc j) m)

    -- how many components a level's module has
    pub components_held : get_or s 3 0 ≤ most_components → (k : ℕ) → k < h → components_at s k ≤ most_vectors
    components_held m zero n = omega arith
    components_held m (suc k) n = held_few k (omega arith)

  pub few_components : T (in_ranges? document_01 (parameters_at s)) → get_or s 3 0 ≤ most_components
  few_components t =
      let r = and_right (between 1 (get_or s 1 0) 8) (between 1 (get_or s 2 0) 3 and between 1 (get_or s 3 0) 16) t in
      between_high 1 (get_or s 3 0) 16 (and_right (between 1 (get_or s 2 0) 3) (between 1 (get_or s 3 0) 16) r)

  pub s_degrees : get_or s 3 0 ≤ most_components → length (degrees_at document_01 s) ≡ get_or s 3 0
  s_degrees m = length-take-le (get_or s 3 0) (drop degrees_start s) (omega (arith, length-drop degrees_start s))

  -- ## The whole test

  abbrev Degrees? : ℕ → Bool
  Degrees? h = fits? most_degree d and levels_carry? s h

  abbrev P : Bool
  P = prime_in_range? document_01 (get_or s 0 0)

  abbrev R : Bool
  R = in_ranges? document_01 (parameters_at s)

  pub basis_parts : (h : ℕ) → T (basis_holds? s h) → T (prime_in_range? document_01 (get_or s 0 0)) × T (in_ranges? document_01 (parameters_at s))
      × T (levels_hold? s h)
  basis_parts h b =
      let u = and_right P (R and levels_hold? s h) b in
      (and_left P (R and levels_hold? s h) b, and_left R (levels_hold? s h) u, and_right R (levels_hold? s h) u)

  pub whole_shown : (h : ℕ) → get_or s 4 0 ≡ h → 1 ≤ h → h ≤ all_levels → T (basis_holds? s h)
      → T (fits? most_degree (degrees_at document_01 s) and levels_carry? s h) → T (holds_state? document_01 s)
  whole_shown h e l m b c =
      let u = basis_parts h b in
      let r = u.1 in
      let t = u.2 in
      holds_shown s long h e l m u.0 r t
      (and_both (eqb (length d) (get_or s 3 0)) (fits? most_degree d) (subst (λ n. T (eqb (length d) n)) (s_degrees (few_components r)) (eqb_refl (length d)))
      (and_left (fits? most_degree d) (levels_carry? s h) c))
      (carry_up h m (held_few h m t) (held_sound h m t) (and_right (fits? most_degree d) (levels_carry? s h) c))

  pub whole_said : T (holds_state? document_01 s) → T (basis_holds? s (get_or s 4 0))
      × T (fits? most_degree (degrees_at document_01 s) and levels_carry? s (get_or s 4 0))
  whole_said x =
      let y = holds_said s long x in
      let h = get_or s 4 0 in (
        and_both P (R and levels_hold? s h) y.2 (and_both R (levels_hold? s h) y.3 y.4),
        and_both (fits? most_degree d) (levels_carry? s h) (and_right (eqb (length d) (get_or s 3 0)) (fits? most_degree d) y.5)
            (carry_down h y.1 (held_few h y.1 y.4) (held_sound h y.1 y.4) y.6),
      )
