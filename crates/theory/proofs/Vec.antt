-- The algebra of vectors.
use mathlib.Core.Path.{◌≡◌, refl, sym, ap, ap₂, ◌∙◌, fun_ext}
use mathlib.Core.List.{[], ◌∷◌, ◌++◌, append_assoc}
use Rattle.theory.specs.Laws.{Scalars}
use Rattle.theory.specs.Vec.{Vec, ev, Same, scale, mapB, lin, All}

module _ (S : Scalars) where
  open S use {K, add, mul, 𝟘, 𝟙, neg, add_comm, add_assoc, mul_comm, mul_assoc, mul_add, mul_zero}
  open S use {zero_add_zero, zero_add_mul, zero_add_add, one_mul_mul, neg_add}

  -- ## Scalars

  pub zero_mul : (a : K) → mul 𝟘 a ≡ 𝟘
  zero_mul a = mul_comm 𝟘 a ∙ mul_zero a

  pub add_mul : (a b c : K) → mul (add a b) c ≡ add (mul a c) (mul b c)
  add_mul a b c = rw (mul_comm (add a b) c, mul_add c a b, mul_comm c a, mul_comm c b)

  pub add_left_comm : (a b c : K) → add a (add b c) ≡ add b (add a c)
  add_left_comm a b c = rw (← (add_assoc a b c), add_comm a b) (add_assoc b a c)

  pub mul_left_comm : (a b c : K) → mul a (mul b c) ≡ mul b (mul a c)
  mul_left_comm a b c = rw (← (mul_assoc a b c), mul_comm a b) (mul_assoc b a c)

  -- two terms with one monomial
  pub merge : (a c x r : K) → add (mul a x) (add (mul c x) r) ≡ add (mul (add a c) x) r
  merge a c x r = rw (add_mul a c x) (sym (add_assoc _ _ _))

  pub mul_one : (c x : K) → mul c (mul 𝟙 x) ≡ mul c x
  mul_one c x = mul_left_comm c 𝟙 x ∙ one_mul_mul c x

  -- a term whose coefficient is zero
  pub zero_term : (c x : K) → mul 𝟙 c ≡ 𝟘 → mul c x ≡ 𝟘
  zero_term c x e = sym (one_mul_mul c x) ∙ sym (mul_assoc 𝟙 c x) ∙ ap (λ z. mul z x) e ∙ zero_mul x

  pub nonzero_mul : (a b : K) → ¬ (mul 𝟙 a ≡ 𝟘) → ¬ (mul 𝟙 b ≡ 𝟘) → ¬ (mul 𝟙 (mul a b) ≡ 𝟘)
  nonzero_mul a b ha hb e = hb (rw (← (S.inv_mul a ha), mul_assoc, ← (one_mul_mul a b), e) (mul_zero (S.inv a)))

  -- c · (x + ρ) with −c · ρ added leaves c · x
  pub cancel : (c x ρ κ : K) → add (mul c (add (mul 𝟙 x) ρ)) (add κ (mul (neg c) ρ)) ≡ add (mul c x) κ
  cancel c x ρ κ =
      ap₂ add (mul_add c (mul 𝟙 x) ρ ∙ ap (λ z. add z (mul c ρ)) (mul_one c x)) (add_comm κ (mul (neg c) ρ))
      ∙ add_assoc _ _ _ ∙ ap (add (mul c x)) (sym (add_assoc _ _ _) ∙ ap (λ z. add z κ) (add_comm (mul c ρ) _ ∙ neg_add c ρ))
      ∙ sym (add_assoc _ _ _) ∙ ap (λ z. add z κ) (add_comm (mul c x) 𝟘 ∙ zero_add_mul c x)

  -- ## How vectors act

  module _ {B : Type 0} where
    pub ev_red : (φ : B → K) (v : Vec S B) → add 𝟘 (ev S φ v) ≡ ev S φ v
    ev_red φ [] = zero_add_zero
    ev_red φ (t ∷ v) = zero_add_add _ _

    pub one_ev : (φ : B → K) (v : Vec S B) → mul 𝟙 (ev S φ v) ≡ ev S φ v
    one_ev φ [] = mul_zero 𝟙
    one_ev φ (t ∷ v) = mul_add 𝟙 _ _ ∙ ap₂ add (one_mul_mul t.0 (φ t.1)) (one_ev φ v)

    pub ev_cong : (φ χ : B → K) → ((b : B) → φ b ≡ χ b) → (v : Vec S B) → ev S φ v ≡ ev S χ v
    ev_cong φ χ h v = ap (λ (g : B → K). ev S g v) (fun_ext h)

    pub ev_append : (φ : B → K) (v w : Vec S B) → ev S φ (v ++ w) ≡ add (ev S φ v) (ev S φ w)
    ev_append φ [] w = sym (ev_red φ w)
    ev_append φ (t ∷ v) w = rw (ev_append φ v w) (sym (add_assoc _ _ _))

    pub ev_scale : (φ : B → K) (c : K) (v : Vec S B) → ev S φ (scale S c v) ≡ mul c (ev S φ v)
    ev_scale φ c [] = sym (mul_zero c)
    ev_scale φ c (t ∷ v) = rw (ev_scale φ c v, mul_assoc) (sym (mul_add _ _ _))

  module _ {B C : Type 0} where
    pub ev_map : (φ : C → K) (g : B → C) (v : Vec S B) → ev S φ (mapB S g v) ≡ ev S (λ (b : B). φ (g b)) v
    ev_map φ g [] = refl
    ev_map φ g (t ∷ v) = ap (add _) (ev_map φ g v)

    pub ev_lin : (φ : C → K) (h : B → Vec S C) (v : Vec S B) → ev S φ (lin S h v) ≡ ev S (λ (b : B). ev S φ (h b)) v
    ev_lin φ h [] = refl
    ev_lin φ h (t ∷ v) = rw (ev_append φ (scale S t.0 (h t.1)) (lin S h v), ev_scale φ t.0 (h t.1), ev_lin φ h v)

    pub ev_term : (φ : C → K) (c : K) (g : B → C) (v : Vec S B) (w : Vec S C)
        → ev S φ (scale S c (mapB S g v) ++ w) ≡ add (mul c (ev S (λ (b : B). φ (g b)) v)) (ev S φ w)
    ev_term φ c g v w =
        ev_append φ (scale S c (mapB S g v)) w ∙ ap (λ z. add z (ev S φ w)) (ev_scale φ c (mapB S g v) ∙ ap (mul c) (ev_map φ g v))

    pub ev_lin_term : (φ : C → K) (h : B → Vec S C) (c : K) (v w : Vec S B)
        → ev S φ (lin S h (scale S c v ++ w)) ≡ add (mul c (ev S φ (lin S h v))) (ev S φ (lin S h w))
    ev_lin_term φ h c v w =
        ev_lin φ h (scale S c v ++ w) ∙ ev_append (λ b. ev S φ (h b)) (scale S c v) w
        ∙ ap₂ add (ev_scale (λ b. ev S φ (h b)) c v ∙ ap (mul c) (sym (ev_lin φ h v))) (sym (ev_lin φ h w))

  -- ## Equal vectors

  module _ {B : Type 0} where
    pub same_refl : {v : Vec S B} → Same S v v
    same_refl = record { at = λ φ. refl }

    pub same_sym : {v w : Vec S B} → Same S v w → Same S w v
    same_sym e = record { at = λ φ. sym (e.at φ) }

    pub same_trans : {u v w : Vec S B} → Same S u v → Same S v w → Same S u w
    same_trans e k = record { at = λ φ. e.at φ ∙ k.at φ }

    pub same_cons : (t : K × B) {v w : Vec S B} → Same S v w → Same S (t ∷ v) (t ∷ w)
    same_cons t e = record { at = λ φ. ap (add (mul t.0 (φ t.1))) (e.at φ) }

    pub same_swap : (t u : K × B) (v : Vec S B) → Same S (t ∷ u ∷ v) (u ∷ t ∷ v)
    same_swap t u v = record { at = λ φ. add_left_comm _ _ _ }

    pub same_append : {v v' w w' : Vec S B} → Same S v v' → Same S w w' → Same S (v ++ w) (v' ++ w')
    same_append {v} {v'} {w} {w'} e k = record { at = λ φ. ev_append φ v w ∙ ap₂ add (e.at φ) (k.at φ) ∙ sym (ev_append φ v' w') }

    pub same_scale : (c : K) {v w : Vec S B} → Same S v w → Same S (scale S c v) (scale S c w)
    same_scale c {v} {w} e = record { at = λ φ. ev_scale φ c v ∙ ap (mul c) (e.at φ) ∙ sym (ev_scale φ c w) }

    pub scale_one : (v : Vec S B) → Same S (scale S 𝟙 v) v
    scale_one v = record { at = λ φ. ev_scale φ 𝟙 v ∙ one_ev φ v }

    pub same_nil : (v : Vec S B) → Same S v (v ++ [])
    same_nil v = record { at = λ φ. sym (ev_append φ v [] ∙ add_comm _ _ ∙ ev_red φ v) }

    -- a term in the middle may stand in front
    pub same_middle : (t : K × B) (v w : Vec S B) → Same S (t ∷ (v ++ w)) (v ++ (t ∷ w))
    same_middle t v w = record {
      at = λ φ. ap (add (mul t.0 (φ t.1))) (ev_append φ v w) ∙ add_left_comm _ (ev S φ v) (ev S φ w) ∙ sym (ev_append φ v (t ∷ w));
    }

    pub same_assoc : (u v w : Vec S B) → Same S ((u ++ v) ++ w) (u ++ (v ++ w))
    same_assoc u v w = record { at = λ φ. ap (ev S φ) (append_assoc u v w) }

    pub same_comm : (u v : Vec S B) → Same S (u ++ v) (v ++ u)
    same_comm u v = record { at = λ φ. ev_append φ u v ∙ add_comm _ _ ∙ sym (ev_append φ v u) }

    pub same_shift : (u v w : Vec S B) → Same S ((u ++ v) ++ w) ((u ++ w) ++ v)
    same_shift u v w =
        same_trans (same_assoc u v w) (same_trans (same_append (same_refl {v = u}) (same_comm v w)) (same_sym (same_assoc u w v)))

    -- a term with coefficient zero goes
    pub same_drop : {v : Vec S B} (c : K) (b : B) (r : Vec S B) → mul 𝟙 c ≡ 𝟘 → Same S v ((c, b) ∷ r) → Same S v r
    same_drop c b r z e = record { at = λ φ. e.at φ ∙ ap (λ x. add x (ev S φ r)) (zero_term c (φ b) z) ∙ ev_red φ r }

  module _ {B C : Type 0} where
    -- linear maps respect equality
    pub same_lin : (h : B → Vec S C) {v w : Vec S B} → Same S v w → Same S (lin S h v) (lin S h w)
    same_lin h {v} {w} e = record { at = λ φ. ev_lin φ h v ∙ e.at (λ (b : B). ev S φ (h b)) ∙ sym (ev_lin φ h w) }

    pub same_map : (g : B → C) {v w : Vec S B} → Same S v w → Same S (mapB S g v) (mapB S g w)
    same_map g {v} {w} e = record { at = λ φ. ev_map φ g v ∙ e.at (λ b. φ (g b)) ∙ sym (ev_map φ g w) }

    pub same_term : (c : K) (g : B → C) {v v' : Vec S B} {w w' : Vec S C} → Same S v v' → Same S w w'
        → Same S (scale S c (mapB S g v) ++ w) (scale S c (mapB S g v') ++ w')
    same_term c g e k = same_append (same_scale c (same_map g e)) k

    -- they are linear
    pub lin_linear : (h : B → Vec S C) (c : K) (v w : Vec S B) → Same S (lin S h (scale S c v ++ w)) (scale S c (lin S h v) ++ lin S h w)
    lin_linear h c v w = record {
      at = λ φ. ev_lin_term φ h c v w
          ∙ sym (ev_append φ (scale S c (lin S h v)) (lin S h w) ∙ ap (λ z. add z (ev S φ (lin S h w))) (ev_scale φ c (lin S h v)));
    }

  -- ## Vectors all of whose monomials have a property

  module _ {B : Type 0} where
    pub all_append : (P : B → Type 0) (v w : Vec S B) → All S P v → All S P w → All S P (v ++ w)
    all_append P [] w p q = q
    all_append P (t ∷ v) w p q = (p.0, all_append P v w p.1 q)

    pub all_middle : (P : B → Type 0) (t : K × B) (v w : Vec S B) → All S P (t ∷ (v ++ w)) → All S P (v ++ t ∷ w)
    all_middle P t [] w p = p
    all_middle P t (u ∷ v) w p = (p.1.0, all_middle P t v w (p.0, p.1.1))

    pub all_nil : (P : B → Type 0) (v : Vec S B) → All S P v → All S P (v ++ [])
    all_nil P v p = all_append P v [] p tt

    pub all_scale : (P : B → Type 0) (c : K) (v : Vec S B) → All S P v → All S P (scale S c v)
    all_scale P c [] p = tt
    all_scale P c (t ∷ v) p = (p.0, all_scale P c v p.1)

    pub all_map : (P Q : B → Type 0) → ((b : B) → P b → Q b) → (v : Vec S B) → All S P v → All S Q v
    all_map P Q h [] p = tt
    all_map P Q h (t ∷ v) p = (h t.1 p.0, all_map P Q h v p.1)

    pub all_all : (P : B → Type 0) → ((b : B) → P b) → (v : Vec S B) → All S P v
    all_all P h [] = tt
    all_all P h (t ∷ v) = (h t.1, all_all P h v)

  module _ {B C : Type 0} where
    pub all_mapB : (P : B → Type 0) (Q : C → Type 0) (g : B → C) → ((b : B) → P b → Q (g b))
        → (v : Vec S B) → All S P v → All S Q (mapB S g v)
    all_mapB P Q g h [] p = tt
    all_mapB P Q g h (t ∷ v) p = (h t.1 p.0, all_mapB P Q g h v p.1)

    pub all_lin : (P : B → Type 0) (Q : C → Type 0) (h : B → Vec S C) → ((b : B) → P b → All S Q (h b))
        → (v : Vec S B) → All S P v → All S Q (lin S h v)
    all_lin P Q h k [] ps = tt
    all_lin P Q h k (t ∷ v) ps =
        all_append Q (scale S t.0 (h t.1)) (lin S h v) (all_scale Q t.0 (h t.1) (k t.1 ps.0)) (all_lin P Q h k v ps.1)
