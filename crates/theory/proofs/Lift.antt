-- What the reckoning gives: t + ψ (lift t) has no term with a reducer, and the terms of lift t lie under t.
use mathlib.Core.Path.{◌≡◌, refl, sym, ap, ap₂, ◌∙◌, subst}
use mathlib.Core.Logic.{◌⊎◌, inl, inr}
use mathlib.Core.List.{[], ◌∷◌, ◌++◌}
use mathlib.Core.WellFounded.{recursion}
use Prim.Native.Nat.{ℕ, ◌≤◌}
use Rattle.theory.specs.Laws.{Scalars, Monoid, Level}
use Rattle.theory.specs.Vec.{Vec, ev, Same, scale, lin, All, times, ψ, Lead}
use Rattle.theory.specs.Induced.{image}
use Rattle.theory.specs.Syzygy.{Family, In}
use Rattle.theory.specs.Reckon.{Reducer, Lower, Reducers, turned, others, others_small, lift, lift_as, lift_eq}
use Rattle.theory.proofs.Vec

-- ## Two identities of scalars

module _ (S : Scalars) where
  open S use {K, add, mul, 𝟘, 𝟙, neg, inv, add_comm, add_assoc, mul_add, mul_assoc}

  gather : (c x a e b : K) → add (mul c x) (add e (add (mul c a) b)) ≡ add (mul c (add (mul 𝟙 x) a)) (add e b)
  gather c x a e b =
      ap (add (mul c x)) (Vec.add_left_comm S e (mul c a) b) ∙ sym (add_assoc _ _ _)
      ∙ ap (λ z. add z (add e b)) (ap (λ z. add z (mul c a)) (sym (Vec.mul_one S c x)) ∙ sym (mul_add c (mul 𝟙 x) a))

  -- x − 1/c · (c · x + r) = −1/c · r
  pub turn : (c x r y : K) → ¬ (mul 𝟙 c ≡ 𝟘) → add (mul 𝟙 x) (add (mul (neg (inv c)) (add (mul c x) r)) y) ≡ add (mul (neg (inv c)) r) y
  turn c x r y nz =
      ap (add (mul 𝟙 x)) (ap (λ z. add z y) (mul_add (neg (inv c)) (mul c x) r) ∙ add_assoc _ _ _) ∙ sym (add_assoc _ _ _)
      ∙ ap (λ z. add z (add (mul (neg (inv c)) r) y)) (ap (λ z. add z (mul (neg (inv c)) (mul c x))) one ∙ add_comm _ _ ∙ S.neg_add (inv c) (mul c x))
      ∙ S.zero_add_add _ _
    where
      one : mul 𝟙 x ≡ mul (inv c) (mul c x)
      one = sym (sym (mul_assoc (inv c) c x) ∙ ap (λ z. mul z x) (S.inv_mul c nz))

module _ (S : Scalars) {M : Monoid} (L : Level M) (F : Family S L) (reducer : Reducers S L F) where
  open S use {K, add, mul, 𝟘, 𝟙}
  open M use {E}
  open L use {B, act, Lt}
  open F use {f, lm, lead}

  abbrev up : B → Vec S (E × ℕ)
  up b = lift S L F reducer b

  -- what has no reducer lifts to zero
  pub up_lower : (b : B) → Lower S L F b → up b ≡ []
  up_lower b n = lift_eq S L F reducer b ∙ none (reducer b)
    where
      none : (c : Reducer S L F b ⊎ Lower S L F b) → lift_as S L F reducer b c ≡ []
      none (inl r) = absurd (n r.at r.dom r.hits)
      none (inr _) = refl

  -- ## b + ψ (lift b) is a vector all of whose terms have no reducer

  pub record Normal (b : B) : Type 0 where
    pub rest : Vec S B
    pub lower : All S (Lower S L F) rest
    pub same : Same S ((𝟙, b) ∷ ψ S L f (up b)) rest

  pub record Normals (v : Vec S B) : Type 0 where
    pub rest : Vec S B
    pub lower : All S (Lower S L F) rest
    pub same : Same S (v ++ ψ S L f (lin S up v)) rest

  pub normals : (v : Vec S B) → All S Normal v → Normals v
  normals [] ps = record { rest = []; lower = tt; same = Vec.same_refl S }
  normals (t ∷ v) ps = go ps.0 (normals v ps.1)
    where
      go : Normal t.1 → Normals v → Normals (t ∷ v)
      go N T = record {
        rest = scale S t.0 N.rest ++ T.rest;
        lower = Vec.all_append S (Lower S L F) (scale S t.0 N.rest) T.rest (Vec.all_scale S (Lower S L F) t.0 N.rest N.lower)
            T.lower;
        same = record {
          at = λ φ.
              ap (add (mul t.0 (φ t.1))) (Vec.ev_append S φ v (ψ S L f (lin S up (t ∷ v)))
              ∙ ap (add (ev S φ v)) (Vec.ev_lin_term S φ (times S L f) t.0 (up t.1) (lin S up v)))
              ∙ gather S t.0 (φ t.1) (ev S φ (ψ S L f (up t.1))) (ev S φ v) (ev S φ (ψ S L f (lin S up v)))
              ∙ ap₂ (λ x y. add (mul t.0 x) y) (N.same.at φ) (sym (Vec.ev_append S φ v (ψ S L f (lin S up v))) ∙ T.same.at φ)
              ∙ sym (Vec.ev_append S φ (scale S t.0 N.rest) T.rest ∙ ap (λ z. add z (ev S φ T.rest)) (Vec.ev_scale S φ t.0 N.rest));
        };
      }

  -- b with −q · f_j added leaves the other terms of −q · f_j
  reducer_cancels : (b : B) (r : Reducer S L F b) (w : Vec S B) → Same S ((𝟙, b) ∷ (scale S (turned S L F r) (times S L f r.at) ++ w))
      (others S L F r ++ w)
  reducer_cancels b r w = record {
    at = λ φ.
        ap (add (mul 𝟙 (φ b))) (Vec.ev_term S φ (turned S L F r) (act r.at.0) (f r.at.1) w
        ∙ ap (λ z. add (mul (turned S L F r) z) (ev S φ w))
        (l.split.at (λ x. φ (act r.at.0 x)) ∙ ap (λ z. add (mul l.coef (φ z)) (ev S (λ x. φ (act r.at.0 x)) l.rest)) r.hits))
        ∙ turn S l.coef (φ b) _ _ l.nonzero
        ∙ sym (Vec.ev_term S φ (turned S L F r) (act r.at.0) l.rest w);
  }
    where
      l : Lead S L (f r.at.1) (lm r.at.1)
      l = lead r.at.1 r.dom

  normal_step : (b : B) → ((y : B) → Lt y b → Normal y) → Normal b
  normal_step b ih = go (reducer b) (lift_eq S L F reducer b)
    where
      go : (c : Reducer S L F b ⊎ Lower S L F b) → up b ≡ lift_as S L F reducer b c → Normal b
      go (inr n) e = record {
        rest = (𝟙, b) ∷ [];
        lower = (n, tt);
        same = subst (λ z. Same S ((𝟙, b) ∷ ψ S L f z) ((𝟙, b) ∷ [])) (sym e) (Vec.same_refl S);
      }
      go (inl r) e = record {
        rest = N.rest;
        lower = N.lower;
        same = subst (λ z. Same S ((𝟙, b) ∷ ψ S L f z) N.rest) (sym e)
            (Vec.same_trans S (reducer_cancels b r (ψ S L f (lin S up (others S L F r)))) N.same);
      }
        where
          N : Normals (others S L F r)
          N = normals (others S L F r) (Vec.all_map S (λ x. Lt x b) Normal ih (others S L F r) (others_small S L F r))

  pub normal : (b : B) → Normal b
  normal b = recursion L.wf b normal_step

  -- ## A term of lift b has image b and the lowest number, or a smaller image

  abbrev pub Under : B → E × ℕ → Type 0
  Under b y = In S L F y × (Lt (image L lm y) b ⊎ ((image L lm y ≡ b) × ((z : E × ℕ) → In S L F z → image L lm z ≡ b → y.1 ≤ z.1)))

  under_step : (b : B) → ((y : B) → Lt y b → All S (Under y) (up y)) → All S (Under b) (up b)
  under_step b ih = go (reducer b) (lift_eq S L F reducer b)
    where
      lower : (y : B) → Lt y b → (x : E × ℕ) → Under y x → Under b x
      lower y l x (d, inl k) = (d, inl (L.trans _ _ _ k l))
      lower y l x (d, inr k) = (d, inl (rw k.0 l))

      go : (c : Reducer S L F b ⊎ Lower S L F b) → up b ≡ lift_as S L F reducer b c → All S (Under b) (up b)
      go (inr n) e = rw e tt
      go (inl r) e = rw e (
        (r.dom, inr (r.hits, r.lowest)),
        Vec.all_lin S (λ x. Lt x b) (Under b) up (λ y l. Vec.all_map S (Under y) (Under b) (lower y l) (up y) (ih y l)) (others S L F r)
            (others_small S L F r),
      )

  pub under : (b : B) → All S (Under b) (up b)
  under b = recursion L.wf b under_step

  pub up_in : (b : B) → All S (In S L F) (up b)
  up_in b = Vec.all_map S (Under b) (In S L F) (λ y h. h.0) (up b) (under b)
