-- The levels of a file whose elements have terms of one degree: so have all vectors; and the highest level is empty.
use mathlib.Core.Path.{◌≡◌, refl, ap, ◌∙◌, subst}
use mathlib.Core.Logic.{◌⊎◌, inl, inr}
use mathlib.Core.Bool.{Bool, true, false}
use mathlib.Core.List.{List, [], ◌∷◌}
use Prim.Native.Nat.{ℕ, suc, ◌-◌, ◌<◌, ◌≤◌}
use native.Mathlib.Omega.{arith}
use lib.Dec.{T, eqb, leb, ltb, ltb→lt, eqb→eq, eqb_refl}
use lib.ListN.{length, get_or, drop}
use Rattle.definitions.specs.Limits.{Limits}
use Rattle.definitions.specs.Lists.{◌and◌, between, choose, empty?}
use Rattle.definitions.specs.Field.{prime?}
use Rattle.definitions.specs.Monomial.{Term, Vector, Level}
use Rattle.definitions.specs.Result.{done, unless_refused}
use Rattle.definitions.specs.Stage.{highest}
use Rattle.definitions.specs.Problem.{Bytes, Parameters}
use Rattle.definitions.specs.State.{State, term_sound?, vector_sound?}
use Rattle.definitions.specs.Degrees.{degree_by}
use Rattle.definitions.specs.Minimal.{last_empty}
use Rattle.laws.proofs.Tests.{and_left, and_right, between_high}
use Rattle.laws.proofs.Members.{All, all_map, every_all}
use Rattle.laws.proofs.Modular.{Prime, prime_says}
use Rattle.laws.proofs.Sound.{Sound, term_says, vector_says, basis_says, sound_says}
use Rattle.laws.proofs.Reading.{basis_state}
use Rattle.files.specs.Files.{WellFormedFile}
use Rattle.demands.specs.Notions.{GröbnerBasis, Member}
use Rattle.demands.specs.Demands.{sensible?, level_of, Listed}
use Rattle.demands.proofs.Results.{holds_at}
use Rattle.demands.proofs.Demand2.{demand_2}
use Rattle.lengths.specs.Lengths.{LevelsEnd}
use Rattle.ranks.specs.Notions.{ProductZero}
use Rattle.betti.specs.Notions.{TwoDegrees, Homogeneous, listed_level}
use Rattle.minimal_numbers.specs.Notions.{entering}
use Rattle.minimal_numbers.proofs.Degrees.{Eight, Eights, OneDegree, HomogeneousLevels, levels_one}
use Rattle.minimal_numbers.proofs.Columns.{vectors_listed}
use Rattle.minimal_numbers.proofs.Annihilation.{annihilate}

-- ## Terms of one degree

all_members : (P : Term → Type 0) (v : Vector) → ((t : Term) → Member t v → P t) → All P v
all_members P [] h = tt
all_members P (t ∷ v) h = (h t (inl refl), all_members P v (λ u m. h u (inr m)))

all_places : (P : Vector → Type 0) (f : Level) → ((i : ℕ) → i < length f → P (get_or f i [])) → All P f
all_places P [] h = tt
all_places P (v ∷ f) h = (h 0 (omega arith), all_places P f (λ i l. h (suc i) (omega arith)))

module _ (d : List ℕ) where
  one_degree : (v : Vector) → ¬ (TwoDegrees (degree_by d) v) → OneDegree d [] v
  one_degree [] n = tt
  one_degree (t ∷ v) n = all_members (λ u. degree_by d u.1 ≡ degree_by d t.1) (t ∷ v) (λ u m. go u m (eqb (degree_by d u.1) (degree_by d t.1))
      (eqb→eq (degree_by d u.1) (degree_by d t.1))
      (λ e. subst (λ z. T (eqb (degree_by d u.1) z)) e (eqb_refl (degree_by d u.1))))
    where
      go : (u : Term) → Member u (t ∷ v) → (b : Bool) → (T b → degree_by d u.1 ≡ degree_by d t.1)
          → (degree_by d u.1 ≡ degree_by d t.1 → T b) → degree_by d u.1 ≡ degree_by d t.1
      go u m true e s = e tt
      go u m false e s = absurd (n (record { one = u; other = t; in_it = m; too = inl refl; differ = s }))

  one_degrees : (f : Level) → Homogeneous (degree_by d) f → All (OneDegree d []) f
  one_degrees f h = all_places (OneDegree d []) f (λ i l. one_degree (get_or f i []) (h (suc i) (omega arith) l))

-- ## The levels of a file

module _ (lim : Limits) (o : T (sensible? lim)) (bytes : Bytes) (q : Parameters) where
  module _ (f : Level) (w : WellFormedFile lim bytes q f) where
    sound : Sound lim (basis_state (q, f))
    sound = sound_says lim (basis_state (q, f)) ((demand_2 lim o).well_formed bytes q f w)

    prime : Prime q.p
    prime = prime_says q.p (and_right (leb q.p lim.prime_bound) (prime? q.p) sound.prime)

    few_variables : q.n ≤ lim.variables
    few_variables =
        between_high 1 q.n lim.variables
        (and_left (between 1 q.n lim.variables) (between 1 q.code 3 and between 1 q.s lim.components) sound.ranges)

    eight : All Eight f
    eight =
        all_map (λ v. T (vector_sound? lim q q.s lim.t_lines [] v)) Eight
        (λ v h. all_map (λ t. T (term_sound? lim q q.s t)) (λ t. length t.1.0 ≡ 8) (λ t k. (term_says lim q q.s t k).eight) v
        (every_all (term_sound? lim q q.s) v (vector_says lim q q.s lim.t_lines [] v h).terms))
        f (every_all (vector_sound? lim q q.s lim.t_lines []) f (basis_says lim q f sound.levels).vectors)

  module _ (g : Level) (below : List Level) (L : Listed lim bytes q g below) where
    -- every vector has terms of one degree
    pub file_levels : Homogeneous (degree_by q.degrees) L.basis → Eights (g ∷ below) × HomogeneousLevels q.degrees (g ∷ below)
    file_levels h =
        holds_at L.reckoned.1 (levels_one q.degrees lim L.reckoned.0 q.p q.code L.basis (eight L.basis L.well_formed)
        (one_degrees q.degrees L.basis h) (length below))

    pub file_annihilates : Homogeneous (degree_by q.degrees) L.basis → (c x : ℕ)
        → ProductZero q.p (entering q (g ∷ below) (suc c) x) (entering q (g ∷ below) c x)
    file_annihilates h =
        let k = file_levels h in
        annihilate q (prime L.basis L.well_formed) lim (g ∷ below) L.exact k.0 k.1

    -- the highest level is empty (A10)
    pub highest_empty : LevelsEnd lim → lim.variables < lim.levels → GröbnerBasis q [] L.basis → (g ≡ []) ⊎ (length below ≡ lim.levels) → g ≡ []
    highest_empty ends room b (inl e) = e
    highest_empty ends room b (inr e) =
        let E = (ends.files bytes q L.basis L.well_formed b (length below) (g ∷ below) L.reckoned).1 in
        let n = few_variables L.basis L.well_formed in
        let z : 0 ≡ suc (length below) - suc (length below) = omega arith in
        ap (λ i. highest (drop i (g ∷ below))) z ∙ E.ends (length below) (omega arith) (omega (arith, e, n, room))

-- ## 20

-- no level from the empty one on has a vector
level_empty : (under : List Level) (k : ℕ) → length under ≤ k → listed_level ([] ∷ under) k ≡ []
level_empty under k h = go (ltb k (suc (length under))) (ltb→lt k (suc (length under)))
  where
    go : (b : Bool) → (T b → k < suc (length under)) → choose b (level_of ([] ∷ under) k) [] ≡ []
    go true s = let l = s tt in let z : suc (length under) - suc k ≡ 0 = omega (arith, l, h) in ap (λ i. highest (drop i ([] ∷ under))) z
    go false s = refl

pub not_twenty : (lim : Limits) (q : Parameters) (under : List Level) → length under ≤ lim.levels
    → last_empty lim (record { parameters = q; levels = [] ∷ under }) ≡ done tt
not_twenty lim q under h =
    let X : State = record { parameters = q; levels = [] ∷ under } in
    ap (λ f. unless_refused (empty? f) 20 lim.levels) (vectors_listed X lim.levels ∙ level_empty under lim.levels h)
