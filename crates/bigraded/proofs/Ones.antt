-- "with every a at 1 it is A1's page": weights 1 give the total degree, since exponents past n are zero in the images of a sound state.
use mathlib.Core.Path.{◌≡◌, refl, sym, ap, ◌∙◌, subst}
use mathlib.Core.Bool.{Bool, true, false}
use mathlib.Core.List.{List, [], ◌∷◌}
use Prim.Native.Nat.{ℕ, zero, suc, ◌+◌, ◌-◌}
use native.Mathlib.Omega.{arith}
use lib.Dec.{T, eqb, ltb, eqb→eq}
use lib.ListN.{length, drop}
use Rattle.definitions.specs.Limits.{Limits}
use Rattle.definitions.specs.Lists.{choose, every, count}
use Rattle.definitions.specs.Monomial.{Exponents, Monomial, Vector, Level, unit, product, leading, vector_of}
use Rattle.definitions.specs.Order.{image, image_by}
use Rattle.definitions.specs.Stage.{highest}
use Rattle.definitions.specs.Problem.{Parameters}
use Rattle.definitions.specs.State.{State, sound?, levels_sound?, vector_sound?, term_sound?}
use Rattle.definitions.specs.Degrees.{component_degree, degree_by, image_over}
use Rattle.definitions.specs.Bidegrees.{degree_weighted, firsts}
use Rattle.definitions.specs.Places.{exponents_length}
use Rattle.laws.proofs.Tests.{and_left}
use Rattle.laws.proofs.Members.{All, every_all, all_map, all_at, all_drop}
use Rattle.laws.proofs.Sound.{sound_says, basis_says, level_says, vector_says, term_says}
use Rattle.demands.specs.Demands.{level_of}
use Rattle.degrees.specs.Notions.{levels_below}
use Rattle.betti.specs.Notions.{listed_level, generators}
use Rattle.bigraded.specs.Notions.{generators_weighted}
use Rattle.bigraded.proofs.Weighted.{all_zero, weighted_ones}
use Rattle.bigraded.proofs.Columns.{length_map}

-- ## Exponents past n

abbrev Zeros : Exponents → Type 0
Zeros e = All (λ x. x ≡ 0) e

zeros_product : (a b : Exponents) → Zeros a → Zeros b → Zeros (product a b)
zeros_product [] b s t = tt
zeros_product (x ∷ a) [] s t = tt
zeros_product (x ∷ a) (y ∷ b) s t = (let p = s.0 in let q = t.0 in omega (arith, p, q), zeros_product a b s.1 t.1)

past_product : (n : ℕ) (a b : Exponents) → Zeros (drop n a) → Zeros (drop n b) → Zeros (drop n (product a b))
past_product zero a b s t = zeros_product a b s t
past_product (suc n) [] b s t = tt
past_product (suc n) (x ∷ a) [] s t = tt
past_product (suc n) (x ∷ a) (y ∷ b) s t = past_product n a b s t

module _ (n : ℕ) where
  -- "exponents past n are zero"
  abbrev Past : Exponents → Type 0
  Past e = Zeros (drop n e)

  -- .. in a vector's leading monomial
  abbrev Plain : Vector → Type 0
  Plain v = Past (leading v).0

  past_unit : Past unit
  past_unit = all_drop (λ x. x ≡ 0) n unit (all_zero exponents_length)

  image_past : (e : Exponents) (v : Vector) → Past e → Plain v → Past (image_by e v).0
  image_past e [] s t = s
  image_past e (u ∷ v) s t = past_product n e u.1.0 s t

  plain_of : (f : Level) → All Plain f → (i : ℕ) → Plain (vector_of f i)
  plain_of f h zero = past_unit
  plain_of f h (suc i) = all_at Plain [] past_unit f i h

  over_past : (below : List Level) → All (All Plain) below → (m : Monomial) → Past m.0 → Past (image_over below m).0
  over_past [] h m s = s
  over_past (f ∷ below) h m s = over_past below h.1 (image f m) (image_past m.0 (vector_of f m.1) s (plain_of f h.0 m.1))

module _ (lim : Limits) (q : Parameters) where
  vector_plain : (c most : ℕ) (below : List Level) (v : Vector) → T (vector_sound? lim q c most below v) → Plain q.n v
  vector_plain c most below [] t = past_unit q.n
  vector_plain c most below (u ∷ v) t =
      let s = term_says lim q c u (and_left (term_sound? lim q c u) (every (term_sound? lim q c) v) (vector_says lim q c most below (u ∷ v) t).terms) in
      all_map (λ x. T (eqb x 0)) (λ x. x ≡ 0) (λ x. eqb→eq x 0) (drop q.n u.1.0) (every_all (λ x. eqb x 0) (drop q.n u.1.0) s.past)

  level_plain : (c most : ℕ) (below : List Level) (f : Level) → T (every (vector_sound? lim q c most below) f) → All (Plain q.n) f
  level_plain c most below f t =
      all_map (λ v. T (vector_sound? lim q c most below v)) (Plain q.n) (vector_plain c most below) f (every_all (vector_sound? lim q c most below) f t)

  levels_plain : (levels : List Level) → T (levels_sound? lim q levels) → All (All (Plain q.n)) levels
  levels_plain [] t = absurd t
  levels_plain (f ∷ []) t = (level_plain q.s lim.t_lines [] f (basis_says lim q f t).vectors, tt)
  levels_plain (f ∷ g ∷ below) t =
      let s = level_says lim q f g below t in
      (level_plain (length g) lim.vector (g ∷ below) f s.vectors, levels_plain (g ∷ below) s.under)

-- ## The counts

count_agree : {A : Type 0} (P Q : A → Bool) (l : List A) → All (λ a. P a ≡ Q a) l → count P l ≡ count Q l
count_agree P Q [] h = refl
count_agree P Q (a ∷ l) h = λ i. elim (h.0 i) [ true ↦ suc (count_agree P Q l h.1 i) | false ↦ count_agree P Q l h.1 i ]

highest_all : (P : Vector → Type 0) (ls : List Level) → All (All P) ls → All P (highest ls)
highest_all P [] h = tt
highest_all P (f ∷ ls) h = h.0

pub listed_all : (P : Vector → Type 0) (ls : List Level) → All (All P) ls → (k : ℕ) → All P (listed_level ls k)
listed_all P ls h k = go (ltb k (length ls))
  where
    go : (b : Bool) → All P (choose b (level_of ls k) [])
    go true = highest_all P (drop (length ls - suc k) ls) (all_drop (All P) (length ls - suc k) ls h)
    go false = tt

firsts_ones : (ws : List (ℕ × ℕ)) → All (λ w. w.0 ≡ 1) ws → All (λ w. w ≡ 1) (firsts ws)
firsts_ones [] h = tt
firsts_ones (w ∷ ws) h = (h.0, firsts_ones ws h.1)

-- of every sound state
pub ones : (lim : Limits) (X : State) → T (sound? lim X) → (ws : List (ℕ × ℕ)) → length ws ≡ X.parameters.n → All (λ w. w.0 ≡ 1) ws → (c x : ℕ)
    → generators_weighted (firsts ws) X.parameters X.levels c x ≡ generators X.parameters X.levels c x
ones lim X s ws l o zero x = refl
ones lim X s ws l o (suc k) x =
    count_agree (λ v. eqb (degree_weighted (firsts ws) X.parameters.degrees (image_over (levels_below X.levels k) (leading v))) x)
    (λ v. eqb (degree_by X.parameters.degrees (image_over (levels_below X.levels k) (leading v))) x) (listed_level X.levels k)
    (all_map (Plain X.parameters.n) Same same (listed_level X.levels k) (listed_all (Plain X.parameters.n) X.levels plain k))
  where
    Same : Vector → Type 0
    Same v =
        eqb (degree_weighted (firsts ws) X.parameters.degrees (image_over (levels_below X.levels k) (leading v))) x
        ≡ eqb (degree_by X.parameters.degrees (image_over (levels_below X.levels k) (leading v))) x

    plain : All (All (Plain X.parameters.n)) X.levels
    plain = levels_plain lim X.parameters X.levels (sound_says lim X s).levels

    same : (v : Vector) → Plain X.parameters.n v → Same v
    same v h =
        let n = X.parameters.n in
        let below = levels_below X.levels k in
        let m = image_over below (leading v) in
        let past = over_past n below (all_drop (All (Plain n)) (suc (length X.levels - suc k)) X.levels plain) (leading v) h in
        ap (λ y. eqb (y + component_degree X.parameters.degrees m.1) x)
        (weighted_ones (firsts ws) (firsts_ones ws o) m.0 (subst (λ j. Zeros (drop j m.0)) (sym (length_map (λ w. w.0) ws ∙ l)) past))
