-- The order that leading monomials induce has the laws of a level again.
use Rattle.std.specs.Prelude.{◌≡◌, refl, ℕ, ◌<◌}
use Rattle.std.proofs.Common.{sym, ◌∙◌, inl, inr, ⊎_elim}
use mathlib.Core.WellFounded.{Acc}
use lib.WfN.{lt-wf_rel}
use Rattle.theory.specs.Laws.{Monoid, Level, Tri, below, same, above}
use Rattle.theory.specs.Induced.{nat_tri, image, IndLt, indAct, ind_irrefl, ind_trans, ind_eq, ind_compat}

module _ {M : Monoid} (L : Level M) (lm : ℕ → L.B) where
  open M use {E}
  open L use {B, Lt}

  abbrev pub ind_tri_by : (x y : E × ℕ)
      → Tri (Lt (image L lm x) (image L lm y)) (image L lm x ≡ image L lm y) (Lt (image L lm y) (image L lm x))
      → Tri (x.1 < y.1) (x.1 ≡ y.1) (y.1 < x.1)
      → Tri (IndLt L lm x y) (x ≡ y) (IndLt L lm y x)
  ind_tri_by x y (below l) _ = below (inl l)
  ind_tri_by x y (same e) (below l) = below (inr (e, l))
  ind_tri_by x y (same e) (same i) = same (ind_eq L lm x y e i)
  ind_tri_by x y (same e) (above l) = above (inr (sym e, l))
  ind_tri_by x y (above l) _ = above (inl l)

  abbrev pub ind_tri : (x y : E × ℕ) → Tri (IndLt L lm x y) (x ≡ y) (IndLt L lm y x)
  ind_tri x y = ind_tri_by x y (L.tri (image L lm x) (image L lm y)) (nat_tri x.1 y.1)

  -- well-founded: first along the images, then along the numbers at one image
  pub ind_acc_at : (b : B) → ((y : B) → Lt y b → (z : E × ℕ) → image L lm z ≡ y → Acc (IndLt L lm) z)
      → (n : ℕ) → Acc ◌<◌ n → (x : E × ℕ) → image L lm x ≡ b → x.1 ≡ n → Acc (IndLt L lm) x
  ind_acc_at b hb n (Acc.intro n' hn) x e i =
      Acc.intro x (λ z lt. ⊎_elim
      (λ l. hb (image L lm z) (rw e at l) z refl)
      (λ p. ind_acc_at b hb z.1 (hn z.1 (rw i at p.1)) z (p.0 ∙ e) refl) lt)

  pub ind_acc : (b : B) → Acc Lt b → (x : E × ℕ) → image L lm x ≡ b → Acc (IndLt L lm) x
  ind_acc b (Acc.intro b' h) x e =
      ind_acc_at b' (λ y l z e₂. ind_acc y (h y l) z e₂) x.1 (lt-wf_rel.wf.apply x.1) x e refl

  -- the level above
  abbrev pub Ind : Level M
  Ind = record {
    B = E × ℕ;
    act = indAct L lm;
    act_act = λ a b x. λ k. (M.mulE_assoc a b x.0 k, x.1);
    act_unit = λ x. λ k. (M.mulE_unit x.0 k, x.1);
    act_cancel = λ a b x e. M.mulE_cancel a b x.0 (λ k. (e k).0);
    Lt = IndLt L lm;
    irrefl = ind_irrefl L lm;
    trans = ind_trans L lm;
    tri = ind_tri;
    compat = ind_compat L lm;
    wf = record { apply = λ x. ind_acc (image L lm x) (L.wf.apply (image L lm x)) x refl };
  }
