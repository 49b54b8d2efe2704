-- Acceptance decides exactly whether f is a Gröbner basis: division of every frame term reaches zero, or stops at a value that shows why not.
use mathlib.Core.Logic.{◌⊎◌, inl, inr}
use mathlib.Core.List.{[], ◌∷◌}
use Prim.Native.Nat.{ℕ, ◌<◌}
use Rattle.theory.specs.Laws.{Scalars, Monoid, Level}
use Rattle.theory.specs.Vec.{Vec, Same, All, times, ψ, Lead}
use Rattle.theory.specs.Induced.{image}
use Rattle.theory.specs.Syzygy.{Family, In, Gröbner}
use Rattle.theory.specs.Reckon.{Lower, Reducers}
use Rattle.theory.specs.Runs.{Run, Whole}
use Rattle.theory.specs.Stage.{Stage, fam, term, size, reckoned}
use Rattle.theory.proofs.Vec
use Rattle.theory.proofs.Top.{lead_nonzero, lead_unique, lead_same}
use Rattle.theory.proofs.Runs.{run_reckons, run_even, start_even, Ranged, run_in}
use Rattle.theory.proofs.Tower.{zeros_gröbner}

module _ (S : Scalars) {M : Monoid} (L : Level M) (F : Family S L) (reducer : Reducers S L F) where
  open M use {E}
  open L use {B}

  -- division of the frame term x: a run that drops nothing
  pub record Divides (x : E × ℕ) (w : Vec S (E × ℕ)) (h : Vec S B) : Type 0 where
    pub run : Run S L F reducer ((S.𝟙, x) ∷ []) (times S L F.f x) w h
    pub whole : Whole S L F reducer run

  -- what is left is a combination of f
  pub left_combination : (x : E × ℕ) → In S L F x → (w : Vec S (E × ℕ)) (h : Vec S B) → Divides x w h
      → (u : Vec S (E × ℕ)) × All S (In S L F) u × Same S h (ψ S L F.f u)
  left_combination x d w h D = (k.0, k.1, Vec.same_trans S (Vec.same_sym S e) (Vec.same_lin S (times S L F.f) k.2))
    where
      k : Ranged S L F reducer w
      k = run_in S L F reducer D.run ((S.𝟙, x) ∷ [], (d, tt), Vec.same_refl S)

      e : Same S (ψ S L F.f w) h
      e = run_even S L F reducer D.run D.whole (start_even S L F reducer x)

  -- refused: a division that stops at a value whose leading term has no reducer shows that f is no Gröbner basis
  pub refused : (x : E × ℕ) → In S L F x → (w : Vec S (E × ℕ)) (h : Vec S B) → Divides x w h
      → (m : B) → Lead S L h m → Lower S L F m → Gröbner S L F → ⊥
  refused x d w h D m l n gb = fail (gb c.0 c.1)
    where
      c : (u : Vec S (E × ℕ)) × All S (In S L F) u × Same S h (ψ S L F.f u)
      c = left_combination x d w h D

      fail : Same S (ψ S L F.f c.0) [] ⊎ ((y : E × ℕ) × In S L F y × Lead S L (ψ S L F.f c.0) (image L F.lm y)) → ⊥
      fail (inl z) = lead_nonzero S L l (Vec.same_trans S c.2 z)
      fail (inr t) = n t.0 t.1 (lead_unique S L (lead_same S L c.2 t.2) l)

module _ (S : Scalars) {M : Monoid} (G : Stage S M) where
  -- accepted: division of every frame term reaches zero
  abbrev pub Accepted : Type 0
  Accepted = (k : ℕ) → k < size S G → (w : Vec S (M.E × ℕ)) × Divides S G.L (fam S G) G.reducer (term S G k) w []

  pub accepted : Accepted → Gröbner S G.L (fam S G)
  accepted a = zeros_gröbner S G (λ k h. zero k (a k h))
    where
      zero : (k : ℕ) → (w : Vec S (M.E × ℕ)) × Divides S G.L (fam S G) G.reducer (term S G k) w []
          → Same S (ψ S G.L G.A.f (reckoned S G (term S G k))) []
      zero k (w, D) =
          Vec.same_trans S (Vec.same_lin S (times S G.L G.A.f) (Vec.same_sym S
          (run_reckons S G.L (fam S G) G.reducer (term S G k) w D.run)))
          (run_even S G.L (fam S G) G.reducer D.run D.whole (start_even S G.L (fam S G) G.reducer (term S G k)))
