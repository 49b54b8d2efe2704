-- Equal coefficients make equal vectors.
use mathlib.Core.Path.{◌≡◌, sym, ap, ◌∙◌}
use mathlib.Core.Logic.{◌⊎◌, inl, inr}
use mathlib.Core.List.{[], ◌++◌}
use Rattle.theory.specs.Laws.{Scalars, Monoid, Level}
use Rattle.theory.specs.Vec.{Vec, ev, Same, scale}
use Rattle.theory.proofs.Vec
use Rattle.theory.proofs.Top.{Leading, leading, leading_lead, lead_coef, δ}

module _ (S : Scalars) {M : Monoid} (L : Level M) where
  open S use {K, add, mul, 𝟘, 𝟙, neg, add_comm, add_assoc}
  open L use {B}

  -- the coefficient of v at m
  abbrev pub coef : Vec S B → B → K
  coef v m = ev S (δ S L m) v

  abbrev minus : Vec S B → Vec S B → Vec S B
  minus v w = v ++ scale S (neg 𝟙) w

  ev_minus : (φ : B → K) (v w : Vec S B) → ev S φ (minus v w) ≡ add (ev S φ v) (mul (neg 𝟙) (ev S φ w))
  ev_minus φ v w = Vec.ev_append S φ v (scale S (neg 𝟙) w) ∙ ap (add (ev S φ v)) (Vec.ev_scale S φ (neg 𝟙) w)

  opposite : (φ : B → K) (w : Vec S B) → add (mul (neg 𝟙) (ev S φ w)) (ev S φ w) ≡ 𝟘
  opposite φ w = ap (add (mul (neg 𝟙) (ev S φ w))) (sym (Vec.one_ev S φ w)) ∙ S.neg_add 𝟙 (ev S φ w)

  -- v − w zero makes v and w equal
  minus_zero : (v w : Vec S B) → Same S (minus v w) [] → (φ : B → K) → ev S φ v ≡ ev S φ w
  minus_zero v w z φ =
      sym (Vec.ev_red S φ v) ∙ add_comm _ _ ∙ ap (add (ev S φ v)) (sym (opposite φ w)) ∙ sym (add_assoc _ _ _)
      ∙ ap (λ x. add x (ev S φ w)) (sym (ev_minus φ v w) ∙ z.at φ) ∙ Vec.ev_red S φ w

  pub coef_same : (v w : Vec S B) → ((m : B) → coef v m ≡ coef w m) → Same S v w
  coef_same v w e = go (leading S L (λ b. Unit {0}) (minus v w) (Vec.all_all S (λ b. Unit {0}) (λ b. tt) (minus v w)))
    where
      zero_at : (m : B) → ev S (δ S L m) (minus v w) ≡ 𝟘
      zero_at m =
          ev_minus (δ S L m) v w ∙ ap (λ z. add z (mul (neg 𝟙) (coef w m))) (e m) ∙ add_comm _ _ ∙ opposite (δ S L m) w

      go : Same S (minus v w) [] ⊎ Leading S L (λ b. Unit {0}) (minus v w) → Same S v w
      go (inl z) = record { at = minus_zero v w z }
      go (inr l) = absurd ((leading_lead S L l).nonzero (sym (lead_coef S L (leading_lead S L l)) ∙ zero_at l.mono))
