-- The levels of the induced order: above a family, above a stage, over the monomials themselves; and that a level above can be divided.
use Rattle.std.specs.Prelude.{◌≡◌, Bool, true, false, ℕ, T, eqb}
use Rattle.std.proofs.Common.{subst, eqb→eq}
use Rattle.std.proofs.Math.Option.{none, some}
use Rattle.std.proofs.Math.Dec.{eqb_refl}
use Rattle.theory.specs.Laws.{Scalars, Monoid, Level}
use Rattle.theory.specs.Vec.{Vec}
use Rattle.theory.specs.Canon.{canon}
use Rattle.theory.specs.Orders.{Order, MonoL}
use Rattle.theory.specs.Division.{Division, Colon, Divided, quotB, quotB_is, colonB}
use Rattle.theory.specs.Syzygy.{Family}
use Rattle.theory.specs.Stage.{Stage, term, reckoned}
use Rattle.theory.proofs.Induced.{Ind}

module _ (S : Scalars) {M : Monoid} (L : Level M) (F : Family S L) where
  -- the level above, where the e_j live
  abbrev pub Up : Level M
  Up = Ind L F.lm

module _ (S : Scalars) {M : Monoid} (G : Stage S M) where
  -- the level above
  abbrev pub above : Level M
  above = Ind G.L G.A.lm

  -- vector k of the level above: in canonical form
  abbrev pub vector : ℕ → Vec S (M.E × ℕ)
  vector k = canon S above (reckoned S G (term S G k))

-- the free module of level 0: monomials first, then the component; the order induced by leading monomials that are all 1
abbrev pub FreeL : {M : Monoid} → Order M → Level M
FreeL {M} O = Ind (MonoL O) (λ (j : ℕ). M.ε)

module _ {M : Monoid} (D : Division M) (L : Level M) (lm : ℕ → L.B) where
  pub ind_colon_is : (x y : M.E × ℕ) → Colon (Ind L lm) x y (colonB D x y)
  ind_colon_is x y = go (eqb x.1 y.1) (λ t. eqb→eq x.1 y.1 t) (λ e. subst (λ z. T (eqb x.1 z)) e (eqb_refl x.1))
    where
      go : (t : Bool) → (T t → x.1 ≡ y.1) → (x.1 ≡ y.1 → T t)
          → Colon (Ind L lm) x y (elim t [ true ↦ some (D.colon x.0 y.0) | false ↦ none ])
      go true h k = (
        (D.colon_up x.0 y.0, λ i. (D.colon_is x.0 y.0 i, h tt i)),
        λ m n e. D.colon_least x.0 y.0 m n (λ i. (e i).0),
      )
      go false h k = λ m n e. k (λ i. (e i).1)

  -- every level but the lowest is one
  abbrev pub IndD : Divided (Ind L lm)
  IndD = record { quotL = quotB D; quotL_is = quotB_is D; colonL = colonB D; colonL_is = ind_colon_is }
