-- A step of the definitions, whatever it picks and drops, is a step of the theory.
use mathlib.Core.Path.{◌≡◌, refl, sym, ap, ◌∙◌, subst}
use mathlib.Core.Logic.{inl}
use mathlib.Core.Bool.{Bool, true, false}
use mathlib.Core.Option.{Option, none, some}
use mathlib.Core.List.{[], ◌∷◌, ◌++◌}
use Prim.Native.Nat.{ℕ, zero, suc, ◌<◌}
use native.Mathlib.Omega.{arith}
use lib.Dec.{T}
use lib.ListN.{length, get_or}
use Rattle.theory.specs.Vec.{Same, scale, All, times}
use Rattle.theory.specs.Reckon.{Reducer, Lower, turned}
use Rattle.theory.specs.Runs
use Rattle.theory.specs.Runs.{Drop, Whole, turn, drop}
use Rattle.theory.proofs.Vec
use Rattle.theory.proofs.Runs.{step_cancels}
use Rattle.definitions.specs.Limits.{Limits}
use Rattle.definitions.specs.Lists.{without}
use Rattle.definitions.specs.Field
use Rattle.definitions.specs.Monomial.{Vector, fits?, no_term}
use Rattle.definitions.specs.Reducer.{Answer, answer}
use Rattle.definitions.specs.Result.{done, ◌>>=◌}
use Rattle.definitions.specs.Vectors.{descending}
use Rattle.definitions.specs.Stage.{Stage, stage_over}
use Rattle.definitions.specs.Run
use Rattle.definitions.specs.Run.{Strategy, on, end, add_products, reduced, without_reducer, by_answer, by_pick, step}
use Rattle.demands.specs.Picks.{Picks}
use Rattle.demands.proofs.Results.{Ends, gives, refuses, ends_then, Refusal, limit, nine}
use Rattle.demands.proofs.Exponents.{out, factor_fits}
use Rattle.demands.proofs.Levels.{Mono, TVec, mono, term, vec, flat, flats, flat_at, vec_empty, vec_length, lm, Has, has_act}
use Rattle.demands.proofs.Coefficients.{Good, good_mul, good_turned, minus_times, times_one_right}
use Rattle.demands.proofs.Setting.{Setting, S, L, F, hs, red, red_by, Answered, hit, miss, answered, is_lower, answer_rescaled, rescaled}
use Rattle.demands.proofs.Sums.{true_not_false, Goods, canonical_good, Distinct, Like, like_stored, Left, products_added}

module _ (Z : Setting) (lim : Limits) where
  -- the stage over these levels
  abbrev pub stage : Stage
  stage = stage_over lim Z.p Z.code (flat Z.n Z.f ∷ flats Z.n Z.b)

  abbrev pub Fits : Mono Z.n → Type 0
  Fits x = T (fits? lim.exponent (out Z.n x.0))

  -- a monomial of the working value, of the vector: the component in range, the exponents within the limit
  abbrev pub InValue : Mono Z.n → Type 0
  InValue x = Has Z.n Z.b x × Fits x

  abbrev pub InVector : Mono Z.n → Type 0
  InVector x = Has Z.n (Z.f ∷ Z.b) x × Fits x

  -- coefficients 1 .. p − 1, monomials distinct and of Q
  pub record Sum (Q : Mono Z.n → Type 0) (v : TVec Z.n) : Type 0 where
    pub good : Goods Z.n Z.p Z.P v
    pub ok : All (S Z) Q v
    pub apart : Distinct Z.n Z.p Z.P v

  -- a run of the definitions, with this vector and this value
  abbrev pub run_at : TVec Z.n → TVec Z.n → Run.Run
  run_at v g = record { value = vec Z.n g; vector = vec Z.n v }

  pub record Stands (v g : TVec Z.n) (r : Run.Run) : Type 0 where
    pub is : r ≡ run_at v g
    pub vector : Sum InVector v
    pub value : Sum InValue g

  -- ## The picked term

  pub record Taken (g : TVec Z.n) (i : ℕ) : Type 1 where
    pub c : ℕ
    pub x : Mono Z.n
    pub kept : TVec Z.n
    pub is : get_or (vec Z.n g) i no_term ≡ term Z.n (c, x)
    pub left_is : without i (vec Z.n g) ≡ vec Z.n kept
    pub split : Same (S Z) g ((c, x) ∷ kept)
    pub good : Good Z.p c
    pub ok : InValue x
    pub rest : Sum InValue kept
    pub alone : All (S Z) (λ (y : Mono Z.n). x ≡ y → ⊥) kept
    -- nothing else is in it
    pub sub : (X : Mono Z.n → Type 0) → All (S Z) X g → X x × All (S Z) X kept

  pub taken : (g : TVec Z.n) (i : ℕ) → i < length g → Sum InValue g → Taken g i
  taken [] i l s = absurd (omega arith)
  taken (u ∷ g) zero l s = record {
    c = u.0;
    x = u.1;
    kept = g;
    is = refl;
    left_is = refl;
    split = Vec.same_refl (S Z);
    good = s.good.0;
    ok = s.ok.0;
    rest = record { good = s.good.1; ok = s.ok.1; apart = s.apart.1 };
    alone = s.apart.0;
    sub = λ X h. h;
  }
  taken (u ∷ g) (suc i) l s = go (taken g i (omega arith) (record { good = s.good.1; ok = s.ok.1; apart = s.apart.1 }))
    where
      go : Taken g i → Taken (u ∷ g) (suc i)
      go t = record {
        c = t.c;
        x = t.x;
        kept = u ∷ t.kept;
        is = t.is;
        left_is = ap (λ z. term Z.n u ∷ z) t.left_is;
        split = Vec.same_trans (S Z) (Vec.same_cons (S Z) u t.split) (Vec.same_swap (S Z) u (t.c, t.x) t.kept);
        good = t.good;
        ok = t.ok;
        rest = record {
          good = (s.good.0, t.rest.good);
          ok = (s.ok.0, t.rest.ok);
          apart = ((t.sub (λ y. u.1 ≡ y → ⊥) s.apart.0).1, t.rest.apart);
        };
        alone = ((λ e. (t.sub (λ y. u.1 ≡ y → ⊥) s.apart.0).0 (sym e)), t.alone);
        sub = λ X h. ((t.sub X h.1).0, (h.0, (t.sub X h.1).1));
      }

  -- ## One step

  -- acceptance: nothing is dropped, and a term without a reducer stops the run
  abbrev pub Exact : Strategy → Type 0
  Exact W = (W.drops ≡ false) × (W.stops ≡ true)

  -- a move of the theory
  pub data Move (W : Strategy) (v g : TVec Z.n) : TVec Z.n → TVec Z.n → Type 0 where
    reduces : {v' g' : TVec Z.n} (s : Runs.Step (S Z) (L Z) (F Z) (red Z) v g v' g') → (Exact W → s.low ≡ []) → Move W v g v' g'
    loses : {g' : TVec Z.n} → Drop (S Z) (L Z) (F Z) (red Z) g g' → (Exact W → ⊥) → Move W v g v g'

  pub longer : {W : Strategy} {v g v' g' w h : TVec Z.n} → Move W v g v' g' → Runs.Run (S Z) (L Z) (F Z) (red Z) v' g' w h
      → Runs.Run (S Z) (L Z) (F Z) (red Z) v g w h
  longer (reduces s e) r = turn s r
  longer (loses d n) r = drop d r

  pub longer_whole : {W : Strategy} {v g v' g' w h : TVec Z.n} (m : Move W v g v' g') → Exact W → (r : Runs.Run (S Z) (L Z) (F Z) (red Z) v' g' w h)
      → Whole (S Z) (L Z) (F Z) (red Z) r → Whole (S Z) (L Z) (F Z) (red Z) (longer m r)
  unfolding longer
  longer_whole (reduces s e) x r k = (e x, k)
  longer_whole (loses d n) x r k = absurd (n x)

  -- what a step leads to
  pub data Stepped (W : Strategy) (v g : TVec Z.n) : Run.Step → Type 0 where
    onward : {r : Run.Run} (v' g' : TVec Z.n) → Move W v g v' g' → Stands v' g' r → Stepped W v g (on r)
    ended : {w : Vector} → w ≡ vec Z.n v → g ≡ [] → Stepped W v g (end w)

  -- where a step of acceptance stops: a picked term without a reducer
  pub record Stuck (W : Strategy) (g : TVec Z.n) (value : Vector) : Type 0 where
    pub exact : W.stops ≡ true
    pub i : ℕ
    pub picks : W.pick (vec Z.n g) ≡ some i
    pub x : Mono Z.n
    pub is : (c : ℕ) × (get_or (vec Z.n g) i no_term ≡ term Z.n (c, x))
    pub lower : Lower (S Z) (L Z) (F Z) x
    pub shown : value ≡ descending stage.below Z.p (vec Z.n g)

  module _ (W : Strategy) (K : Picks W) (v g : TVec Z.n) (sv : Sum InVector v) (sg : Sum InValue g) where
    abbrev R : ℕ → Vector → Type 0
    R = Refusal (Stuck W g)

    -- the quotient of a monomial within the limit is within it
    quotient_fits : (x : Mono Z.n) → Fits x → (a : Reducer (S Z) (L Z) (F Z) x) → Fits a.at
    quotient_fits x h a =
        factor_fits lim.exponent Z.n a.at.0 (lm Z.n Z.f a.at.1).0
        (subst (λ (y : Mono Z.n). T (fits? lim.exponent (out Z.n y.0))) (sym a.hits) h)

    -- with a reducer: a step of the theory
    module _ (i : ℕ) (t : Taken g i) (a : Reducer (S Z) (L Z) (F Z) t.x) (known : red Z t.x ≡ inl a) where
      -- the recorded coefficient, the family's vector
      abbrev c' : ℕ
      c' = Field.times Z.p t.c (turned (S Z) (L Z) (F Z) a)

      abbrev f' : TVec Z.n
      f' = get_or Z.f a.at.1 []

      recorded_good : Good Z.p c'
      recorded_good =
          good_mul Z.p Z.P t.c _ t.good (good_turned Z.p Z.P ((F Z).lead a.at.1 a.dom).coef
          ((F Z).lead a.at.1 a.dom).nonzero)

      step_of : {vs gs : Vector} → Like Z.n Z.p Z.P InVector ((c', a.at) ∷ v) vs
          → Left Z.n Z.p Z.P lim (hs Z) W.drops (Lower (S Z) (L Z) (F Z)) InValue
          (g ++ scale (S Z) c' (times (S Z) (L Z) (F Z).f a.at)) gs
          → Stepped W v g (on (record { value = gs; vector = vs }))
      step_of l k = onward l.form k.form (reduces move (λ e. k.whole e.0)) (record {
        is = λ j. record { value = k.is j; vector = l.is j };
        vector = record { good = l.good; ok = l.ok; apart = l.apart };
        value = record { good = k.good; ok = k.ok; apart = k.apart };
      })
        where
          move : Runs.Step (S Z) (L Z) (F Z) (red Z) v g l.form k.form
          move = record {
            c = t.c;
            b = t.x;
            kept = t.kept;
            low = k.low;
            r = a;
            known = known;
            picked = t.split;
            recorded = l.like;
            lower = k.lows;
            products = Vec.same_trans (S Z) k.split (step_cancels (S Z) (L Z) (F Z) (red Z) g t.kept t.c t.x a t.split);
          }

      reduced_ends : Ends (Stepped W v g) R (reduced stage W (run_at v g) (suc a.at.1) c' (out Z.n a.at.0))
      reduced_ends =
          ends_then (like_stored Z.n Z.p Z.P InVector R (limit tt) lim.vector (c', a.at) v recorded_good
          (Z.somes a.at.1 a.dom, quotient_fits t.x t.ok.1 a) sv.good sv.ok sv.apart)
          (λ vs l. subst (λ z. Ends (Stepped W v g) R (add_products stage.reduction W.drops c' (out Z.n a.at.0) z (vec Z.n g) >>= λ w.
          done (on (record { value = w; vector = vs })))) (sym (flat_at Z.n Z.f a.at.1))
          (ends_then (products_added Z.n Z.p Z.P lim (hs Z) W.drops (Lower (S Z) (L Z) (F Z)) InValue R (limit tt)
          (limit tt) (is_lower Z) (Has Z.n Z.b) c' recorded_good a.at.0 (λ x h k. (has_act Z.n Z.b a.at.0 x h, k)) f' g
          (canonical_good Z.n Z.p Z.P Z.code Z.b f' (Z.canons a.at.1 a.dom)) (Z.inside a.at.1 a.dom) sg.good sg.ok
          sg.apart)
          (λ gs k. gives (step_of l k))))

    stuck_ends : (i : ℕ) → W.pick (vec Z.n g) ≡ some i → (t : Taken g i) → Lower (S Z) (L Z) (F Z) t.x → (b : Bool) → W.stops ≡ b
        → Ends (Stepped W v g) R (without_reducer b stage (run_at v g) i)
    stuck_ends i e t o true st = refuses (nine (record { exact = st; i = i; picks = e; x = t.x; is = (t.c, t.is); lower = o; shown = refl }))
    stuck_ends i e t o false st = gives (onward v t.kept (loses lost never) (record {
      is = λ j. record { value = t.left_is j; vector = vec Z.n v };
      vector = sv;
      value = t.rest;
    }))
      where
        whole : Same (S Z) (t.kept ++ (t.c, t.x) ∷ []) g
        whole =
            Vec.same_trans (S Z) (Vec.same_sym (S Z) (Vec.same_middle (S Z) (t.c, t.x) t.kept []))
            (Vec.same_trans (S Z) (Vec.same_cons (S Z) (t.c, t.x) (Vec.same_sym (S Z) (Vec.same_nil (S Z) t.kept)))
            (Vec.same_sym (S Z) t.split))

        lost : Drop (S Z) (L Z) (F Z) (red Z) g t.kept
        lost = record { low = (t.c, t.x) ∷ []; lower = (o, tt); split = whole }

        never : Exact W → ⊥
        never x = true_not_false (sym x.1 ∙ st)

    -- the answer to the picked term
    answered_ends : (i : ℕ) → W.pick (vec Z.n g) ≡ some i → (t : Taken g i)
        → Ends (Stepped W v g) R (by_answer stage W (run_at v g) i (answer Z.p (hs Z) (t.c, mono Z.n t.x)))
    answered_ends i e t =
        subst (λ a. Ends (Stepped W v g) R (by_answer stage W (run_at v g) i a)) (sym (answer_rescaled Z.p t.c 1 (hs Z) (mono Z.n t.x)))
        (go (answered Z t.x) refl)
      where
        go : {a : Answer} (s : Answered Z t.x a) → red Z t.x ≡ red_by Z t.x s
            → Ends (Stepped W v g) R (by_answer stage W (run_at v g) i (rescaled Z.p t.c a))
        go (hit a) known =
            subst (λ z. Ends (Stepped W v g) R (reduced stage W (run_at v g) (suc a.at.1) z (out Z.n a.at.0))) (sym turns)
            (reduced_ends i t a known)
          where
            ι : ℕ
            ι = Field.inverse Z.p ((F Z).lead a.at.1 a.dom).coef

            turns : Field.minus Z.p (Field.times Z.p t.c (Field.times Z.p 1 ι)) ≡ Field.times Z.p t.c (Field.minus Z.p ι)
            turns = ap (Field.minus Z.p) (times_one_right Z.p t.c ι) ∙ minus_times Z.p Z.P t.c ι
        go (miss o) known = stuck_ends i e t o W.stops refl

    stepped_at : Ends (Stepped W v g) R (step stage W (run_at v g))
    stepped_at = go (W.pick (vec Z.n g)) refl
      where
        go : (o : Option ℕ) → W.pick (vec Z.n g) ≡ o → Ends (Stepped W v g) R (by_pick stage W (run_at v g) o)
        go none e = gives (ended refl (vec_empty Z.n g (K.to_zero (vec Z.n g) e)))
        go (some i) e =
            let l : i < length (vec Z.n g) = K.inside (vec Z.n g) i e in
            let m : i < length g = omega (arith, vec_length Z.n g) in
            let t : Taken g i = taken g i m sg in
            subst (λ z. Ends (Stepped W v g) R (by_answer stage W (run_at v g) i (answer Z.p (hs Z) z))) (sym t.is) (answered_ends i e t)

  pub stepped : (W : Strategy) → Picks W → (v g : TVec Z.n) (r : Run.Run) → Stands v g r
      → Ends (Stepped W v g) (Refusal (Stuck W g)) (step stage W r)
  stepped W K v g r s = subst (λ z. Ends (Stepped W v g) (Refusal (Stuck W g)) (step stage W z)) (sym s.is)
      (stepped_at W K v g s.vector s.value)
