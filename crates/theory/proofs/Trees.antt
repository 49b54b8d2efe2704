-- The tree: a subtree's sum is the lifting of its monomial, whichever vectors stand for its products' liftings; so with any cache.
use mathlib.Core.Path.{◌≡◌, sym, ap, ◌∙◌, subst, subst₂}
use mathlib.Core.Logic.{◌⊎◌, inl, inr}
use mathlib.Core.List.{◌∷◌, ◌++◌}
use Prim.Native.Nat.{ℕ}
use Rattle.theory.specs.Laws.{Scalars, Monoid, Level}
use Rattle.theory.specs.Vec.{Vec, Same, scale, lin, times}
use Rattle.theory.specs.Syzygy.{Family}
use Rattle.theory.specs.Reckon.{Reducer, Reducers, turned, others, lift, lift_as, lift_eq, reckon}
use Rattle.theory.specs.Trees.{Cache, Among, Within, Tree, empty, lower, cached, grown}
use Rattle.theory.proofs.Vec
use Rattle.theory.proofs.Lift.{up_lower}

module _ (S : Scalars) {M : Monoid} (L : Level M) (F : Family S L) (reducer : Reducers S L F) where
  open M use {E}
  open L use {B}

  abbrev up : B → Vec S (E × ℕ)
  up b = lift S L F reducer b

  -- the tree step: −q · e_j with the sum of the liftings of the other products is the lifting
  pub tree_step : (b : B) (r : Reducer S L F b) → reducer b ≡ inl r → (x : Vec S (E × ℕ)) → Same S x (lin S up (others S L F r))
      → Same S ((turned S L F r, r.at) ∷ x) (up b)
  tree_step b r e x h =
      subst (λ z. Same S ((turned S L F r, r.at) ∷ x) z) (sym (lift_eq S L F reducer b ∙ ap (lift_as S L F reducer b) e))
      (Vec.same_cons S (turned S L F r, r.at) h)

  -- every entry of the cache is the lifting of its monomial
  abbrev pub Right : Cache S L F reducer → Type 0
  Right C = (b : B) (w : Vec S (E × ℕ)) → Among S L F reducer b w C → Same S w (up b)

  right_more : (C D : Cache S L F reducer) (b : B) (w : Vec S (E × ℕ)) → Same S w (up b) → Right C → Within S L F reducer D ((b, w) ∷ C) → Right D
  right_more C D b w h k i = λ b' w' a. go b' w' (i b' w' a)
    where
      go : (b' : B) (w' : Vec S (E × ℕ)) → ((b ≡ b') × (w ≡ w')) ⊎ Among S L F reducer b' w' C → Same S w' (up b')
      go b' w' (inl e) = subst₂ (λ x y. Same S y (up x)) e.0 e.1 h
      go b' w' (inr a) = k b' w' a

  -- whatever the cache keeps and loses on the way, the tree gives the liftings of the terms, and a right cache stays right
  pub tree_lifts : {C D : Cache S L F reducer} {g : Vec S B} {u : Vec S (E × ℕ)} → Tree S L F reducer C g u D → Right C → Same S u (lin S up g)
      × Right D
  tree_lifts empty k = (Vec.same_refl S, k)
  tree_lifts (lower {c = c} {b = b} {g = g} {u = u} n t) k =
      let (e, i) = tree_lifts t k in
      (subst (λ z. Same S u (scale S c z ++ lin S up g)) (sym (up_lower S L F reducer b n)) e, i)
  tree_lifts (cached {b = b} w a t) k =
      let (e, i) = tree_lifts t k in
      (Vec.same_append S (Vec.same_scale S _ (k b w a)) e, i)
  tree_lifts (grown {D = D} {D' = D'} {b = b} {x = x} {w = w} r known t e i t') k =
      let (h, j) = tree_lifts t k in
      let whole : Same S w (up b) = Vec.same_trans S e (tree_step b r known x h) in
      let (m, l) = tree_lifts t' (right_more D D' b w whole j i) in
      (Vec.same_append S (Vec.same_scale S _ whole) m, l)

  -- the vector of a frame term by the tree
  pub tree_reckons : (x : E × ℕ) {C D : Cache S L F reducer} {u : Vec S (E × ℕ)} → Tree S L F reducer C (times S L F.f x) u D → Right C
      → Same S ((S.𝟙, x) ∷ u) (reckon S L F reducer x)
  tree_reckons x t k = Vec.same_cons S (S.𝟙, x) (tree_lifts t k).0
