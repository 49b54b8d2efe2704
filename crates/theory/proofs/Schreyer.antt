-- Schreyer's theorem and Buchberger's criterion as one induction.
use mathlib.Core.Path.{◌≡◌, sym, ap, ap₂, ◌∙◌, subst}
use mathlib.Core.Logic.{◌⊎◌, inl, inr}
use mathlib.Core.List.{[], ◌∷◌, ◌++◌}
use mathlib.Core.WellFounded.{Acc}
use Prim.Native.Nat.{ℕ}
use Rattle.theory.specs.Laws.{Scalars, Monoid, Level}
use Rattle.theory.specs.Vec.{Vec, ev, Same, scale, mapB, All, times, ψ, Lead}
use Rattle.theory.specs.Induced.{image, IndLt, indAct, ind_compat}
use Rattle.theory.specs.Syzygy.{Family, In, Free, Covered, Frame, Lifted}
use Rattle.theory.proofs.Levels.{Up}
use Rattle.theory.proofs.Vec
use Rattle.theory.proofs.Top.{Le, Top, top, Split, collect, lead_same}

-- ## The map ψ

module _ (S : Scalars) {M : Monoid} (L : Level M) (f : ℕ → Vec S L.B) where
  open M use {E, mulE}
  open L use {B, act}

  -- ψ of a multiple is the multiple of ψ
  pub ψ_act : (lm : ℕ → B) (u : E) (v : Vec S (E × ℕ)) → Same S (ψ S L f (mapB S (indAct L lm u) v)) (mapB S (act u) (ψ S L f v))
  ψ_act lm u v = record {
    at = λ φ.
        Vec.ev_lin S φ (times S L f) (mapB S (indAct L lm u) v) ∙ Vec.ev_map S (λ x. ev S φ (times S L f x)) (indAct L lm u) v
        ∙ Vec.ev_cong S _ _ (λ x. Vec.ev_map S φ (act (mulE u x.0)) (f x.1)
        ∙ Vec.ev_cong S _ _ (λ b. ap φ (L.act_act u x.0 b)) (f x.1)
        ∙ sym (Vec.ev_map S (λ b. φ (act u b)) (act x.0) (f x.1))) v
        ∙ sym (Vec.ev_map S φ (act u) (ψ S L f v) ∙ Vec.ev_lin S (λ b. φ (act u b)) (times S L f) v);
  }

  -- where ψ takes s to zero, a multiple of s may be added
  pub ψ_drop : (lm : ℕ → B) (c : S.K) (u : E) (s r : Vec S (E × ℕ)) → Same S (ψ S L f s) []
      → Same S (ψ S L f (scale S c (mapB S (indAct L lm u) s) ++ r)) (ψ S L f r)
  ψ_drop lm c u s r z =
      Vec.same_trans S (Vec.lin_linear S (times S L f) c (mapB S (indAct L lm u) s) r)
      (Vec.same_append S {v = scale S c (ψ S L f (mapB S (indAct L lm u) s))} {v' = []} none (Vec.same_refl S {v = ψ S L f r}))
    where
      none : Same S (scale S c (ψ S L f (mapB S (indAct L lm u) s))) []
      none = Vec.same_scale S c (Vec.same_trans S (ψ_act lm u s) (Vec.same_map S (act u) z))

module _ (S : Scalars) {M : Monoid} (L : Level M) (F : Family S L) where
  open S use {K, add, mul, 𝟘, 𝟙, neg}
  open M use {E}
  open L use {B, act, Lt}
  open F use {f, lm, lead}

  -- terms of m · f_i but the leading one lie below its image
  pub multiple_small : (c : K) (x : E × ℕ) (d : In S L F x) → All S (λ (b : B). Lt b (image L lm x))
      (scale S c (mapB S (act x.0) (lead x.1 d).rest))
  multiple_small c x d =
      Vec.all_scale S Small c (mapB S (act x.0) (lead x.1 d).rest)
      (Vec.all_mapB S (λ (b : B). Lt b (lm x.1)) Small (act x.0) (λ b k. L.compat x.0 _ _ k) (lead x.1 d).rest (lead x.1 d).smaller)
    where
      Small : B → Type 0
      Small b = Lt b (image L lm x)

  -- a combination of terms whose images lie below b, written with terms below b
  pub record Pushed (b : B) (v : Vec S (E × ℕ)) : Type 0 where
    pub rest : Vec S B
    pub small : All S (λ (x : B). Lt x b) rest
    pub same : Same S (ψ S L f v) rest

  pub push : (b : B) (v : Vec S (E × ℕ)) → All S (λ (x : E × ℕ). In S L F x × Lt (image L lm x) b) v → Pushed b v
  push b [] ps = record { rest = []; small = tt; same = Vec.same_refl S }
  push b (t ∷ v) ps = go (push b v ps.1)
    where
      l : Lead S L (f t.1.1) (lm t.1.1)
      l = lead t.1.1 ps.0.0

      tail : Vec S B
      tail = scale S t.0 (mapB S (act t.1.0) l.rest)

      under : All S (λ (x : B). Lt x b) tail
      under = Vec.all_map S (λ x. Lt x (image L lm t.1)) (λ x. Lt x b) (λ x k. L.trans _ _ _ k ps.0.1) tail
          (multiple_small t.0 t.1 ps.0.0)

      go : Pushed b v → Pushed b (t ∷ v)
      go T = record {
        rest = scale S t.0 (mapB S (act t.1.0) ((l.coef, lm t.1.1) ∷ l.rest)) ++ T.rest;
        small = (ps.0.1, Vec.all_append S (λ (x : B). Lt x b) tail T.rest under T.small);
        same = Vec.same_term S t.0 (act t.1.0) l.split T.same;
      }

  -- ## A leading term that is free maps to the leading term

  strictly : (b : E × ℕ) → Free S L F b → (x : E × ℕ) → In S L F x × IndLt L lm x b → In S L F x × Lt (image L lm x) (image L lm b)
  strictly b h x p = go p.1
    where
      go : IndLt L lm x b → In S L F x × Lt (image L lm x) (image L lm b)
      go (inl l) = (p.0, l)
      go (inr t) = absurd (h x p.0 t.1 t.0)

  pub free_lead : (q : Vec S (E × ℕ)) (b : E × ℕ) → In S L F b → (C : Split S (Up S L F) (In S L F) b q) → ¬ (mul 𝟙 C.coef ≡ 𝟘)
      → Free S L F b → Lead S L (ψ S L f q) (image L lm b)
  free_lead q b d C nz h = record {
    coef = mul C.coef l.coef;
    rest = scale S C.coef (mapB S (act b.0) l.rest) ++ R.rest;
    nonzero = Vec.nonzero_mul S C.coef l.coef nz l.nonzero;
    smaller = Vec.all_append S (λ (x : B). Lt x (image L lm b)) (scale S C.coef (mapB S (act b.0) l.rest)) R.rest
        (multiple_small C.coef b d) R.small;
    split = Vec.same_trans S (Vec.same_lin S (times S L f) C.split) (Vec.same_term S C.coef (act b.0) l.split R.same);
  }
    where
      l : Lead S L (f b.1) (lm b.1)
      l = lead b.1 d

      Strictly : E × ℕ → Type 0
      Strictly x = In S L F x × Lt (image L lm x) (image L lm b)

      R : Pushed (image L lm b) C.rest
      R = push (image L lm b) C.rest (Vec.all_map S (λ (x : E × ℕ). In S L F x × IndLt L lm x b) Strictly (strictly b h) C.rest C.small)

  -- ## The key theorem

  module _ (G : Frame S L F) (H : Lifted S L F G) where
    open G use {τ, Dom', frame}
    open H use {s, ahead, syzygy}

    abbrev Below : E × ℕ → E × ℕ → Type 0
    Below b x = In S L F x × IndLt L lm x b

    -- q is a combination of the s_k
    abbrev pub Combined : Vec S (E × ℕ) → Type 0
    Combined q = (w : Vec S (E × ℕ)) × All S (λ (x : E × ℕ). Dom' x.1) w × Same S q (ψ S (Up S L F) s w)

    -- ψ q has a leading monomial that some LM f_i divides
    abbrev pub Led : Vec S (E × ℕ) → Type 0
    Led q = (x : E × ℕ) × In S L F x × Lead S L (ψ S L f q) (image L lm x)

    abbrev pub Answer : Vec S (E × ℕ) → Type 0
    Answer q = Combined q ⊎ Led q

    answer_same : {q r : Vec S (E × ℕ)} → Same S q r → Answer r → Answer q
    answer_same e (inl a) = inl (a.0, a.1, Vec.same_trans S e a.2)
    answer_same e (inr a) = inr (a.0, a.1, lead_same S L (Vec.same_lin S (times S L f) e) a.2)

    -- a leading term that the frame divides goes away: subtract that multiple of s_k
    module _ (q : Vec S (E × ℕ)) (b : E × ℕ) (C : Split S (Up S L F) (In S L F) b q) (D : Covered S L F τ Dom' b) where
      abbrev u : E × ℕ → E × ℕ
      u x = indAct L lm D.factor x

      abbrev tail : Vec S (E × ℕ)
      tail = (ahead D.number D.dom).rest

      reduced : Vec S (E × ℕ)
      reduced = C.rest ++ scale S (neg C.coef) (mapB S u tail)

      reduced_same : Same S q (scale S C.coef (mapB S u (s D.number)) ++ reduced)
      unfolding reduced
      reduced_same = record {
        at = λ φ.
            C.split.at φ
            ∙ ap (λ z. add (mul C.coef (φ z)) (ev S φ C.rest)) (sym D.divides)
            ∙ sym (Vec.cancel S C.coef (φ (u (τ D.number))) (ev S (λ x. φ (u x)) tail) (ev S φ C.rest))
            ∙ sym (Vec.ev_term S φ C.coef u (s D.number) reduced
            ∙ ap₂ (λ x y. add (mul C.coef x) y) ((ahead D.number D.dom).split.at (λ x. φ (u x)))
            (Vec.ev_append S φ C.rest (scale S (neg C.coef) (mapB S u tail)) ∙ ap (add (ev S φ C.rest))
            (Vec.ev_scale S φ (neg C.coef) (mapB S u tail) ∙ ap (mul (neg C.coef)) (Vec.ev_map S φ u tail))));
      }

      reduced_small : All S (Below b) reduced
      unfolding reduced
      reduced_small =
          Vec.all_append S (Below b) C.rest (scale S (neg C.coef) (mapB S u tail)) C.small
          (Vec.all_scale S (Below b) (neg C.coef) (mapB S u tail)
          (Vec.all_mapB S (Below (τ D.number)) (Below b) u
          (λ x h. (h.0, subst (λ z. IndLt L lm (u x) z) D.divides (ind_compat L lm D.factor x (τ D.number) h.1)))
          tail (ahead D.number D.dom).small))

      reduced_answer : Answer reduced → Answer q
      reduced_answer (inl a) = inl (
        (C.coef, (D.factor, D.number)) ∷ a.0,
        (D.dom, a.1),
        Vec.same_trans S reduced_same (Vec.same_term S C.coef u (Vec.same_refl S {v = s D.number}) a.2),
      )
      reduced_answer (inr a) = inr (
        a.0,
        a.1,
        lead_same S L (Vec.same_trans S (Vec.same_lin S (times S L f) reduced_same)
            (ψ_drop S L f lm C.coef D.factor (s D.number) reduced (syzygy D.number D.dom))) a.2,
      )

    -- the claim for all q whose terms are at most b
    abbrev UpTo : E × ℕ → Type 0
    UpTo b = (q : Vec S (E × ℕ)) → All S (λ (x : E × ℕ). In S L F x × Le S (Up S L F) x b) q → Answer q

    -- .. and, from the claims below b, for all q whose terms are below b
    descend : (b : E × ℕ) → ((y : E × ℕ) → IndLt L lm y b → In S L F y → UpTo y) → (r : Vec S (E × ℕ)) → All S (Below b) r → Answer r
    descend b ih [] ps = inl ([], tt, Vec.same_refl S)
    descend b ih (t ∷ r) ps =
        let T : Top S (Up S L F) (Below b) t.1 r = top S (Up S L F) (Below b) t.1 r ps.0 ps.1 in
        ih T.at T.ok.1 T.ok.0 (t ∷ r) (
          (ps.0.0, T.head),
          Vec.all_map S (λ x. Below b x × Le S (Up S L F) x T.at) (λ x. In S L F x × Le S (Up S L F) x T.at) (λ x h. (h.0.0, h.1)) r
              T.bound,
        )

    step : (b : E × ℕ) → ((y : E × ℕ) → IndLt L lm y b → In S L F y → UpTo y) → In S L F b → UpTo b
    step b ih d q ps = go (S.zero? C.coef) (frame b d)
      where
        C : Split S (Up S L F) (In S L F) b q
        C = collect S (Up S L F) (In S L F) b q ps

        go : Dec (mul 𝟙 C.coef ≡ 𝟘) → Covered S L F τ Dom' b ⊎ Free S L F b → Answer q
        go (yes z) _ = answer_same (Vec.same_drop S C.coef b C.rest z C.split) (descend b ih C.rest C.small)
        go (no nz) (inl D) = reduced_answer q b C D (descend b ih (reduced q b C D) (reduced_small q b C D))
        go (no nz) (inr h) = inr (b, d, free_lead q b d C nz h)

    at_top : (b : E × ℕ) → Acc (IndLt L lm) b → In S L F b → UpTo b
    at_top b (Acc.intro b' h) d = step b' (λ y l d'. at_top y (h y l) d') d

    -- Every q is a combination of the s_k, or ψ q is not zero and its leading monomial is divisible by some LM f_i.
    pub schreyer : (q : Vec S (E × ℕ)) → All S (In S L F) q → Answer q
    schreyer [] ps = inl ([], tt, Vec.same_refl S)
    schreyer (t ∷ r) ps =
        let T : Top S (Up S L F) (In S L F) t.1 r = top S (Up S L F) (In S L F) t.1 r ps.0 ps.1 in
        at_top T.at ((Up S L F).wf.apply T.at) T.ok (t ∷ r) ((ps.0, T.head), T.bound)
