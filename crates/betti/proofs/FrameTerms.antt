-- Vectors counted by their frame terms, and degrees without D.
use mathlib.Core.Path.{◌≡◌, refl, ap, ◌∙◌, subst}
use mathlib.Core.Bool.{Bool, true, false, not}
use mathlib.Core.List.{List, [], ◌∷◌}
use Prim.Native.Nat.{ℕ, zero, suc, ◌+◌, ◌-◌, ◌<◌, ◌≤◌}
use native.Mathlib.Omega.{arith}
use lib.Dec.{T, eqb, leb, ltb, leb→le, nleb→lt, nltb→le}
use lib.ListN.{length, get_or, drop, replicate}
use Rattle.definitions.specs.Limits.{Limits}
use Rattle.definitions.specs.Lists.{choose, count}
use Rattle.definitions.specs.Monomial.{Monomial, Vector, Level, degree, leading, leading_monomials}
use Rattle.definitions.specs.Frame.{frame}
use Rattle.definitions.specs.Stage.{highest}
use Rattle.definitions.specs.Problem.{Bytes, Parameters}
use Rattle.definitions.specs.Degrees.{component_degree, degree_by, image_over, degree_of}
use Rattle.demands.specs.Exact.{LevelRight, Exact}
use Rattle.demands.specs.Demands.{level_of, Listed}
use Rattle.degrees.specs.Notions.{levels_below}
use Rattle.lengths.proofs.Rising.{level_leads}
use Rattle.betti.specs.Notions.{listed_level, generators}

-- ## A level among others

module _ (lim : Limits) (q : Parameters) where
  abbrev code : ℕ
  code = lim.numbering q.code

  -- what is claimed of level k + 1
  exact_at : (ls : List Level) → Exact lim q ls → (k : ℕ) → suc k < length ls → LevelRight q code (levels_below ls (suc k)) (level_of ls (suc k))
  exact_at [] e k l = absurd (omega arith)
  exact_at (f ∷ []) e k l = absurd (omega arith)
  exact_at (f ∷ g ∷ below) e k l =
      go (leb (suc (suc k)) (suc (length below))) (leb→le (suc (suc k)) (suc (length below))) (nleb→lt (suc (suc k)) (suc (length below)))
      (exact_at (g ∷ below) e.1 k)
    where
      go : (b : Bool) → (T b → suc (suc k) ≤ suc (length below)) → (T (not b) → suc (length below) < suc (suc k))
          → (suc k < length (g ∷ below) → LevelRight q code (levels_below (g ∷ below) (suc k)) (level_of (g ∷ below) (suc k)))
          → LevelRight q code (levels_below (f ∷ g ∷ below) (suc k)) (level_of (f ∷ g ∷ below) (suc k))
      go true s n ih =
          let h : suc k < suc (length below) = s tt in
          let z : suc (suc (length below) - suc (suc k)) ≡ suc (suc (length below)) - suc (suc k) = omega (arith, h) in
          subst (λ j. LevelRight q code (drop (suc j) (f ∷ g ∷ below)) (highest (drop j (f ∷ g ∷ below)))) z (ih h)
      go false s n ih =
          let h = n tt in
          let z : 0 ≡ suc (suc (length below)) - suc (suc k) = omega (arith, h, l) in
          subst (λ j. LevelRight q code (drop (suc j) (f ∷ g ∷ below)) (highest (drop j (f ∷ g ∷ below)))) z e.0

  -- its vectors have the frame terms over level k in front
  leads_at : (ls : List Level) → Exact lim q ls → (k : ℕ) → suc k < length ls
      → leading_monomials (level_of ls (suc k)) ≡ frame code (leading_monomials (level_of ls k))
  leads_at ls e k l =
      let z : suc (length ls - suc (suc k)) ≡ length ls - suc k = omega (arith, l) in
      level_leads q code (levels_below ls (suc k)) (level_of ls (suc k)) (exact_at ls e k l)
      ∙ ap (λ j. frame code (leading_monomials (highest (drop j ls)))) z

-- ## Counts

count_leading : (P : Monomial → Bool) (f : Level) → count (λ v. P (leading v)) f ≡ count P (leading_monomials f)
count_leading P [] = refl
count_leading P (v ∷ f) = ap (λ n. elim (P (leading v)) [ true ↦ suc n | false ↦ n ]) (count_leading P f)

there : (ls : List Level) (k : ℕ) → k < length ls → listed_level ls k ≡ level_of ls k
there ls k l = go (ltb k (length ls)) (nltb→le k (length ls))
  where
    go : (b : Bool) → (T (not b) → length ls ≤ k) → choose b (level_of ls k) [] ≡ level_of ls k
    go true n = refl
    go false n = absurd (let h = n tt in omega (arith, h, l))

pub by_frame_terms : (lim : Limits) (bytes : Bytes) (q : Parameters) (g : Level) (below : List Level) → Listed lim bytes q g below → (k x : ℕ)
    → suc k < length (g ∷ below)
    → generators q (g ∷ below) (suc (suc k)) x
    ≡ count (λ m. eqb (degree_by q.degrees (image_over (levels_below (g ∷ below) (suc k)) m)) x)
    (frame (lim.numbering q.code) (leading_monomials (level_of (g ∷ below) k)))
by_frame_terms lim bytes q g below L k x l =
    let ls = g ∷ below in
    let P : Monomial → Bool = λ m. eqb (degree_by q.degrees (image_over (levels_below ls (suc k)) m)) x in
    ap (count (λ v. P (leading v))) (there ls (suc k) l) ∙ count_leading P (level_of ls (suc k)) ∙ ap (count P) (leads_at lim q ls L.exact k l)

-- ## Without D

pub plain : (s : ℕ) (below : List Level) (v : Vector) → degree_of (replicate s 0) below v ≡ degree (image_over below (leading v)).0
plain s below v =
    let m = image_over below (leading v) in
    ap (λ c. degree m.0 + c) (zero_component s m.1) ∙ omega arith
  where
    zeros : (s i : ℕ) → ◌≡◌ {A = ℕ} (get_or (replicate s 0) i 0) 0
    zeros zero i = refl
    zeros (suc s) zero = refl
    zeros (suc s) (suc i) = zeros s i

    zero_component : (s c : ℕ) → component_degree (replicate s 0) c ≡ 0
    zero_component s zero = refl
    zero_component s (suc i) = zeros s i
