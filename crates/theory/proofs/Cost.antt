-- A number that falls with every step of a run, whichever term it picks: the size of the tree of liftings.
use mathlib.Core.Path.{◌≡◌, refl, ap, ◌∙◌}
use mathlib.Core.Logic.{◌⊎◌, inl, inr}
use mathlib.Core.List.{[], ◌∷◌}
use mathlib.Core.WellFounded.{fix, fix-eq}
use Prim.Native.Nat.{ℕ, suc, ◌+◌, ◌<◌, ◌≤◌}
use native.Mathlib.Omega.{arith}
use Rattle.theory.specs.Laws.{Scalars, Monoid, Level, Tri, below, same, above}
use Rattle.theory.specs.Vec.{Vec, All, scale}
use Rattle.theory.specs.Syzygy.{Family}
use Rattle.theory.specs.Canon.{keep_by, keep, put_by, put}
use Rattle.theory.specs.Reckon.{Reducer, Lower, Reducers, others, others_small}

-- the sum over the terms of v
abbrev pub total : (S : Scalars) {B : Type 0} → (B → ℕ) → Vec S B → ℕ
total S h [] = 0
total S h (t ∷ v) = h t.1 + total S h v

abbrev total_where : (S : Scalars) {B : Type 0} (P : B → Type 0) → ((b : B) → P b → ℕ) → (v : Vec S B) → All S P v → ℕ
total_where S P h [] ps = 0
total_where S P h (t ∷ v) ps = h t.1 ps.0 + total_where S P h v ps.1

module _ (S : Scalars) {M : Monoid} (L : Level M) (F : Family S L) (reducer : Reducers S L F) where
  open L use {B, Lt}

  -- a term with a reducer costs one more than the other terms of its multiple, one without costs nothing
  abbrev cost_by : (b : B) → ((y : B) → Lt y b → ℕ) → Reducer S L F b ⊎ Lower S L F b → ℕ
  cost_by b rec (inl r) = suc (total_where S (λ (x : B). Lt x b) rec (others S L F r) (others_small S L F r))
  cost_by b rec (inr n) = 0

  pub cost : B → ℕ
  cost = fix L.wf (λ b rec. cost_by b rec (reducer b))

  abbrev pub cost_as : (b : B) → Reducer S L F b ⊎ Lower S L F b → ℕ
  cost_as b (inl r) = suc (total S cost (others S L F r))
  cost_as b (inr n) = 0

  total_whole : (P : B → Type 0) (v : Vec S B) (ps : All S P v) → total_where S P (λ y p. cost y) v ps ≡ total S cost v
  total_whole P [] ps = refl
  total_whole P (t ∷ v) ps = ap (λ z. cost t.1 + z) (total_whole P v ps.1)

  pub cost_eq : (b : B) → cost b ≡ cost_as b (reducer b)
  unfolding cost
  cost_eq b = fix-eq L.wf (λ b rec. cost_by b rec (reducer b)) b ∙ go (reducer b)
    where
      go : (c : Reducer S L F b ⊎ Lower S L F b) → cost_by b (λ y p. cost y) c ≡ cost_as b c
      go (inl r) = ap suc (total_whole (λ (x : B). Lt x b) (others S L F r) (others_small S L F r))
      go (inr n) = refl

  -- coefficients do not count
  pub total_scale : (c : S.K) (v : Vec S B) → total S cost (scale S c v) ≡ total S cost v
  total_scale c [] = refl
  total_scale c (t ∷ v) = ap (λ z. cost t.1 + z) (total_scale c v)

  -- a step puts terms of smaller cost for the one that it takes
  pub cost_falls : (b : B) (r : Reducer S L F b) → reducer b ≡ inl r → (c : S.K) → total S cost (scale S c (others S L F r)) < cost b
  cost_falls b r e c = rw (cost_eq b, e, total_scale c (others S L F r)) (omega arith)

  -- adding a term, combined in place or not, adds at most its cost
  keep_cost : (c : S.K) (m : B) (v : Vec S B) → total S cost (keep S L c m v) ≤ cost m + total S cost v
  keep_cost c m v = go (S.zero? c)
    where
      go : (d : Dec (S.mul S.𝟙 c ≡ S.𝟘)) → total S cost (keep_by S L c m v d) ≤ cost m + total S cost v
      go (yes z) = omega arith
      go (no n) = omega arith

  pub put_cost : (c : S.K) (m : B) (v : Vec S B) → total S cost (put S L c m v) ≤ cost m + total S cost v
  put_cost c m [] = keep_cost c m []
  put_cost c m (u ∷ v) = go (L.tri m u.1) (put_cost c m v)
    where
      go : (t : Tri (Lt m u.1) (m ≡ u.1) (Lt u.1 m)) → total S cost (put S L c m v) ≤ cost m + total S cost v
          → total S cost (put_by S L c m u v (put S L c m v) t) ≤ cost m + (cost u.1 + total S cost v)
      go (below l) ih = omega arith
      go (same e) ih = omega (arith, keep_cost (S.add c u.0) m v)
      go (above l) ih = keep_cost c m (u ∷ v)
