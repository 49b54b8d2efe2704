-- What Schreyer's theorem gives: f is a Gröbner basis, its syzygies are the combinations of the s_k, and the s_k are a Gröbner basis again.
use mathlib.Core.Path.{sym, subst}
use mathlib.Core.Logic.{◌⊎◌, inl, inr}
use mathlib.Core.List.{[], ◌∷◌}
use Prim.Native.Nat.{ℕ}
use Rattle.theory.specs.Laws.{Scalars, Monoid, Level}
use Rattle.theory.specs.Vec.{Vec, Same, All, times, ψ, Lead}
use Rattle.theory.specs.Induced.{image}
use Rattle.theory.specs.Syzygy.{Family, In, Free, Covered, Frame, Lifted, Gröbner}
use Rattle.theory.proofs.Levels.{Up}
use Rattle.theory.proofs.Vec
use Rattle.theory.proofs.Top.{Leading, leading, leading_lead, lead_nonzero}
use Rattle.theory.proofs.Schreyer.{Combined, Led, Answer, schreyer, ψ_drop, free_lead}

module _ (S : Scalars) {M : Monoid} (L : Level M) (F : Family S L) (G : Frame S L F) (H : Lifted S L F G) where
  open M use {E}
  open F use {f, lm}
  open G use {τ, Dom', frame}
  open H use {s, syzygy}

  -- a combination of the s_k is a syzygy
  pub combination_syzygy : (w : Vec S (E × ℕ)) → All S (λ (x : E × ℕ). Dom' x.1) w → Same S (ψ S L f (ψ S (Up S L F) s w)) []
  combination_syzygy [] ps = Vec.same_refl S
  combination_syzygy (t ∷ w) ps =
      Vec.same_trans S (ψ_drop S L f lm t.0 t.1.0 (s t.1.1) (ψ S (Up S L F) s w) (syzygy t.1.1 ps.0))
      (combination_syzygy w ps.1)

  -- (a) Buchberger: f is a Gröbner basis
  pub is_basis : Gröbner S L F
  is_basis q ps = go (schreyer S L F G H q ps)
    where
      go : Answer S L F G H q → Same S (ψ S L f q) [] ⊎ Led S L F G H q
      go (inl a) = inl (Vec.same_trans S (Vec.same_lin S (times S L f) a.2) (combination_syzygy a.0 a.1))
      go (inr a) = inr a

  -- (b) Schreyer: every syzygy is a combination of the s_k
  pub syzygies : (q : Vec S (E × ℕ)) → All S (In S L F) q → Same S (ψ S L f q) [] → Combined S L F G H q
  syzygies q ps z = go (schreyer S L F G H q ps)
    where
      go : Answer S L F G H q → Combined S L F G H q
      go (inl a) = a
      go (inr a) = absurd (lead_nonzero S L a.2 z)

  -- (c) the s_k are a Gröbner basis for the induced order: every syzygy is zero or its leading monomial is divisible by some τ_k
  abbrev pub LedAbove : Vec S (E × ℕ) → Type 0
  LedAbove q = (x : E × ℕ) × Dom' x.1 × Lead S (Up S L F) q (image (Up S L F) τ x)

  pub is_basis_above : (q : Vec S (E × ℕ)) → All S (In S L F) q → Same S (ψ S L f q) [] → Same S q [] ⊎ LedAbove q
  is_basis_above q ps z = go (leading S (Up S L F) (In S L F) q ps)
    where
      divide : (l : Leading S (Up S L F) (In S L F) q) → Covered S L F τ Dom' l.mono ⊎ Free S L F l.mono → Same S q [] ⊎ LedAbove q
      divide l (inl D) = inr (
        (D.factor, D.number),
        D.dom,
        subst (λ y. Lead S (Up S L F) q y) (sym D.divides) (leading_lead S (Up S L F) l),
      )
      divide l (inr h) = absurd (lead_nonzero S L (free_lead S L F q l.mono l.ok l.parts l.nonzero h) z)

      go : Same S q [] ⊎ Leading S (Up S L F) (In S L F) q → Same S q [] ⊎ LedAbove q
      go (inl e) = inl e
      go (inr l) = divide l (frame l.mono l.ok)
