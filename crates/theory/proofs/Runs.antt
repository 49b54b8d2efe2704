-- A run that comes to zero ends with the reckoning's vector, whichever term each step picks and whatever of lower order it drops.
-- A run that drops nothing keeps ψ of the vector equal to the value: division.
use mathlib.Core.Path.{◌≡◌, refl, sym, ap, ap₂, ◌∙◌}
use mathlib.Core.List.{[], ◌∷◌, ◌++◌}
use Prim.Native.Nat.{ℕ}
use Rattle.theory.specs.Laws.{Scalars, Monoid, Level}
use Rattle.theory.specs.Vec.{Vec, ev, Same, scale, mapB, lin, All, times, ψ, Lead}
use Rattle.theory.specs.Syzygy.{Family, In}
use Rattle.theory.specs.Reckon.{Reducer, Lower, Reducers, turned, others, lift, lift_as, lift_eq, reckon}
use Rattle.theory.specs.Runs.{Step, Drop, Run, stop, turn, drop, Whole}
use Rattle.theory.proofs.Vec
use Rattle.theory.proofs.Lift
use Rattle.theory.proofs.Lift.{up_lower}

-- ## Two identities of scalars

module _ (S : Scalars) where
  open S use {K, add, mul, 𝟘, 𝟙, neg, inv, add_comm, add_assoc, mul_add, mul_assoc}

  balance : (x c t p o k : K) → add x (add (mul c (add (mul t p) o)) k) ≡ add (add (mul (mul c t) p) x) (add k (mul c o))
  balance x c t p o k =
      ap (λ z. add x (add z k)) (mul_add c (mul t p) o ∙ ap (λ z. add z (mul c o)) (sym (mul_assoc c t p)))
      ∙ ap (add x) (add_assoc _ _ _ ∙ ap (add (mul (mul c t) p)) (add_comm _ _)) ∙ Vec.add_left_comm S x _ _ ∙ sym (add_assoc _ _ _)

  -- c · x + k with −c/l · (l · x + r) added leaves k − c/l · r
  pub even : (c l x r k : K) → ¬ (mul 𝟙 l ≡ 𝟘)
      → add (mul (mul c (neg (inv l))) (add (mul l x) r)) (add (mul c x) k) ≡ add k (mul c (mul (neg (inv l)) r))
  even c l x r k nz =
      Vec.add_left_comm S _ (mul c x) k ∙ sym (add_assoc _ _ _) ∙ add_comm _ k
      ∙ ap (add k) (ap₂ add (sym (Vec.mul_one S c x)) (mul_assoc c t z) ∙ sym (mul_add c (mul 𝟙 x) (mul t z))
      ∙ ap (mul c) (small ∙ Lift.turn S l x r 𝟘 nz ∙ add_comm _ _ ∙ S.zero_add_mul t r))
    where
      t : K
      t = neg (inv l)

      z : K
      z = add (mul l x) r

      small : add (mul 𝟙 x) (mul t z) ≡ add (mul 𝟙 x) (add (mul t z) 𝟘)
      small = ap (add (mul 𝟙 x)) (sym (add_comm _ _ ∙ S.zero_add_mul t z))

module _ (S : Scalars) {M : Monoid} (L : Level M) (F : Family S L) (reducer : Reducers S L F) where
  open S use {K, add, mul, 𝟘, 𝟙, add_comm}
  open M use {E}
  open L use {B, act}
  open F use {f, lm, lead}

  abbrev up : B → Vec S (E × ℕ)
  up b = lift S L F reducer b

  -- ## The vector plus the liftings of the value does not change

  lin_lower : (φ : E × ℕ → K) (v : Vec S B) → All S (Lower S L F) v → ev S (λ b. ev S φ (up b)) v ≡ 𝟘
  lin_lower φ [] ps = refl
  lin_lower φ (t ∷ v) ps =
      ap₂ (λ x y. add (mul t.0 (ev S φ x)) y) (up_lower S L F reducer t.1 ps.0) (lin_lower φ v ps.1)
      ∙ ap (λ z. add z 𝟘) (S.mul_zero t.0) ∙ S.zero_add_zero

  -- dropping what is of lower order changes no lifting
  pub drop_lower : (g low w : Vec S B) → All S (Lower S L F) low → Same S (g ++ low) w → Same S (lin S up g) (lin S up w)
  drop_lower g low w ps e = record {
    at = λ φ.
        let U : B → K = λ b. ev S φ (up b) in
        Vec.ev_lin S φ up g
        ∙ sym (sym (e.at U) ∙ Vec.ev_append S U g low ∙ ap (add (ev S U g)) (lin_lower φ low ps) ∙ add_comm _ _ ∙ Vec.ev_red S U g)
        ∙ sym (Vec.ev_lin S φ up w);
  }

  pub step_keeps : {v v' : Vec S (E × ℕ)} {g g' : Vec S B} → Step S L F reducer v g v' g' → Same S (v ++ lin S up g) (v' ++ lin S up g')
  step_keeps {v} {v'} {g} {g'} s = record {
    at = λ φ.
        let U : B → K = λ b. ev S φ (up b) in
        Vec.ev_append S φ v (lin S up g)
        ∙ ap (add (ev S φ v)) (Vec.ev_lin S φ up g ∙ s.picked.at U
        ∙ ap (λ z. add (mul s.c (ev S φ z)) (ev S U s.kept)) (lift_eq S L F reducer s.b ∙ ap (lift_as S L F reducer s.b) s.known)
        ∙ ap (λ z. add (mul s.c (add (mul (turned S L F s.r) (φ s.r.at)) z)) (ev S U s.kept)) (Vec.ev_lin S φ up (others S L F s.r)))
        ∙ balance S (ev S φ v) s.c (turned S L F s.r) (φ s.r.at) (ev S U (others S L F s.r)) (ev S U s.kept)
        ∙ sym (Vec.ev_append S φ v' (lin S up g') ∙ ap₂ add (s.recorded.at φ) ((drop_lower g' s.low new s.lower s.products).at φ
        ∙ Vec.ev_lin S φ up new ∙ Vec.ev_append S U s.kept (scale S s.c (others S L F s.r))
        ∙ ap (add (ev S U s.kept)) (Vec.ev_scale S U s.c (others S L F s.r))));
  }
    where
      new : Vec S B
      new = s.kept ++ scale S s.c (others S L F s.r)

  pub drop_keeps : (v : Vec S (E × ℕ)) {g g' : Vec S B} → Drop S L F reducer g g' → Same S (v ++ lin S up g) (v ++ lin S up g')
  drop_keeps v {g} {g'} d = Vec.same_append S (Vec.same_refl S {v = v}) (Vec.same_sym S (drop_lower g' d.low g d.lower d.split))

  pub run_keeps : {v w : Vec S (E × ℕ)} {g h : Vec S B} → Run S L F reducer v g w h → Same S (v ++ lin S up g) (w ++ lin S up h)
  run_keeps stop = Vec.same_refl S
  run_keeps (turn s r) = Vec.same_trans S (step_keeps s) (run_keeps r)
  run_keeps (drop {v = v} d r) = Vec.same_trans S (drop_keeps v d) (run_keeps r)

  -- a run from the frame term x that comes to zero ends with the reckoning's vector
  pub run_reckons : (x : E × ℕ) (w : Vec S (E × ℕ)) → Run S L F reducer ((𝟙, x) ∷ []) (times S L f x) w [] → Same S w (reckon S L F reducer x)
  run_reckons x w r = Vec.same_trans S (Vec.same_nil S w) (Vec.same_sym S (run_keeps r))

  -- ## What a step does to the value

  -- subtracting the multiple of its reducer cancels the picked term
  pub step_cancels : (g kept : Vec S B) (c : K) (b : B) (r : Reducer S L F b) → Same S g ((c, b) ∷ kept)
      → Same S (g ++ scale S (mul c (turned S L F r)) (times S L f r.at)) (kept ++ scale S c (others S L F r))
  step_cancels g kept c b r e = record {
    at = λ φ.
        Vec.ev_append S φ g (scale S (mul c (turned S L F r)) (times S L f r.at)) ∙ add_comm _ _
        ∙ ap₂ (λ x y. add x y) (Vec.ev_scale S φ (mul c (turned S L F r)) (times S L f r.at) ∙ ap (mul (mul c (turned S L F r)))
        (Vec.ev_map S φ m (f r.at.1) ∙ l.split.at (λ x. φ (m x)) ∙ ap (λ z. add (mul l.coef (φ z)) (ev S (λ x. φ (m x)) l.rest)) r.hits))
        (e.at φ)
        ∙ even S c l.coef (φ b) (ev S (λ x. φ (m x)) l.rest) (ev S φ kept) l.nonzero
        ∙ sym (Vec.ev_append S φ kept (scale S c (others S L F r)) ∙ ap (add (ev S φ kept)) (Vec.ev_scale S φ c (others S L F r) ∙ ap (mul c)
        (Vec.ev_scale S φ (turned S L F r) (mapB S m l.rest) ∙ ap (mul (turned S L F r)) (Vec.ev_map S φ m l.rest))));
  }
    where
      l : Lead S L (f r.at.1) (lm r.at.1)
      l = lead r.at.1 r.dom

      m : B → B
      m = act r.at.0

  -- ## Where nothing is dropped, ψ of the vector is what is left of the value

  step_even : {v v' : Vec S (E × ℕ)} {g g' : Vec S B} (s : Step S L F reducer v g v' g') → s.low ≡ []
      → Same S (ψ S L f v) g → Same S (ψ S L f v') g'
  step_even {v} {v'} {g} {g'} s e k = record {
    at = λ φ.
        (Vec.same_lin S (times S L f) s.recorded).at φ
        ∙ Vec.ev_append S φ (scale S (mul s.c (turned S L F s.r)) (times S L f s.r.at)) (ψ S L f v) ∙ add_comm _ _
        ∙ ap (λ z. add z (ev S φ (scale S (mul s.c (turned S L F s.r)) (times S L f s.r.at)))) (k.at φ)
        ∙ sym (Vec.ev_append S φ g (scale S (mul s.c (turned S L F s.r)) (times S L f s.r.at)))
        ∙ (step_cancels g s.kept s.c s.b s.r s.picked).at φ
        ∙ sym ((Vec.same_nil S g').at φ ∙ ap (λ z. ev S φ (g' ++ z)) (sym e) ∙ s.products.at φ);
  }

  drop_even : {g g' : Vec S B} (d : Drop S L F reducer g g') → d.low ≡ [] → Same S g g'
  drop_even {g} {g'} d e = record { at = λ φ. sym ((Vec.same_nil S g').at φ ∙ ap (λ z. ev S φ (g' ++ z)) (sym e) ∙ d.split.at φ) }

  pub run_even : {v w : Vec S (E × ℕ)} {g h : Vec S B} (r : Run S L F reducer v g w h) → Whole S L F reducer r → Same S (ψ S L f v) g
      → Same S (ψ S L f w) h
  run_even stop c k = k
  run_even (turn s r) c k = run_even r c.1 (step_even s c.0 k)
  run_even (drop d r) c k = run_even r c.1 (Vec.same_trans S k (drop_even d c.0))

  pub start_even : (x : E × ℕ) → Same S (ψ S L f ((𝟙, x) ∷ [])) (times S L f x)
  start_even x = Vec.same_trans S (Vec.same_sym S (Vec.same_nil S (scale S 𝟙 (times S L f x)))) (Vec.scale_one S (times S L f x))

  -- ## The vector's numbers stay in range

  -- v is equal to a vector in range
  abbrev pub Ranged : Vec S (E × ℕ) → Type 0
  Ranged v = (u : Vec S (E × ℕ)) × All S (In S L F) u × Same S v u

  pub run_in : {v w : Vec S (E × ℕ)} {g h : Vec S B} → Run S L F reducer v g w h → Ranged v → Ranged w
  run_in stop k = k
  run_in (turn s r) k = run_in r (
    (mul s.c (turned S L F s.r), s.r.at) ∷ k.0,
    (s.r.dom, k.1),
    Vec.same_trans S s.recorded (Vec.same_cons S _ k.2),
  )
  run_in (drop d r) k = run_in r k
