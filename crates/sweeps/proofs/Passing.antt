-- The pass over the nodes: it records the liftings of the sums, descending, and leaves the remainder.
use mathlib.Core.Path.{◌≡◌, refl, sym, ap, ◌∙◌, subst, subst₂}
use mathlib.Core.Logic.{◌≢◌, inl}
use mathlib.Core.Bool.{Bool, true, false, not}
use mathlib.Core.List.{List, [], ◌∷◌, ◌++◌}
use Prim.Native.Nat.{ℕ, suc, ◌%◌}
use native.Mathlib.Omega.{arith}
use lib.Dec.{T, eqb, eqb→eq}
use lib.ListN.{length}
use Rattle.theory.specs.Vec.{Same, scale, lin, All, times, ψ}
use Rattle.theory.specs.Induced
use Rattle.theory.specs.Reckon.{Reducer, Lower, turned, others}
use Rattle.theory.specs.Runs
use Rattle.theory.specs.Canon.{Canonical}
use Rattle.theory.specs.Modular.{one_times}
use Rattle.theory.proofs.Levels.{Up}
use Rattle.theory.proofs.Vec
use Rattle.theory.proofs.Runs.{drop_lower, step_keeps, step_cancels}
use Rattle.definitions.specs.Limits.{Limits}
use Rattle.definitions.specs.Lists.{◌and◌, rest, choose}
use Rattle.definitions.specs.Field
use Rattle.definitions.specs.Monomial.{Monomial, Vector, vector_of}
use Rattle.definitions.specs.Reducer.{Answer}
use Rattle.definitions.specs.Stage.{Stage}
use Rattle.laws.proofs.Tests.{and_left, and_right}
use Rattle.demands.proofs.Exponents.{out}
use Rattle.demands.proofs.Levels.{Mono, TVec, mono, vec, monos, flat, lm}
use Rattle.demands.proofs.Coefficients.{Good, good_mul, one_reduced}
use Rattle.demands.proofs.Setting.{Setting, S, L, F, red, red_by, up, answer_to, Answered, hit, miss, answered}
use Rattle.demands.proofs.Sums.{nonzero_test}
use Rattle.demands.proofs.Steps.{stage}
use Rattle.demands.proofs.Reckoned.{others_is, turned_good, turned_is}
use Rattle.sweeps.specs.Table.{all_held?}
use Rattle.sweeps.specs.Sweep.{edges, spread, passed, recorded, remaining, sweep, left, ahead?, forward?}
use Rattle.sweeps.proofs.Spreading.{held, as_remainder, Spread, spread_edges}

module _ (Z : Setting) (lim : Limits) (d : Bool) where
  abbrev K : Stage
  K = stage Z lim

  abbrev image : Mono Z.n → Mono Z.n
  image y = Induced.image (L Z) (F Z).lm y

  -- every node is below B
  abbrev pub Below : List (Mono Z.n) → Mono Z.n → Type 0
  Below [] B = Unit {0}
  Below (x ∷ xs) B = (L Z).Lt x B × Below xs B

  -- descending
  abbrev pub Falling : List (Mono Z.n) → Type 0
  Falling [] = Unit {0}
  Falling (x ∷ xs) = Below xs x × Falling xs

  -- the sums g at the nodes xs: w is their lifting, u what is left of them
  pub record Swept (xs : List (Mono Z.n)) (g : TVec Z.n) (w u : Vector) : Type 0 where
    pub form : TVec Z.n
    pub rests : TVec Z.n
    pub is : w ≡ vec Z.n form
    pub rests_is : u ≡ vec Z.n rests
    pub like : Same (S Z) form (lin (S Z) (up Z) g)
    pub even : d ≡ false → Same (S Z) (g ++ ψ (S Z) (L Z) (F Z).f form) rests
    pub canonical : Canonical (S Z) (Up (S Z) (L Z) (F Z)) form
    pub rests_canonical : Canonical (S Z) (L Z) rests
    pub under : (B : Mono Z.n) → Below xs B → All (S Z) (λ (y : Mono Z.n). (L Z).Lt (image y) B) form
    pub rests_under : (B : Mono Z.n) → Below xs B → All (S Z) (λ (y : Mono Z.n). (L Z).Lt y B) rests

  -- equal sums, and nodes that come before
  swept_same : (x : Mono Z.n) (xs : List (Mono Z.n)) {g g' : TVec Z.n} → Same (S Z) g g' → (w u : Vector) → Swept xs g' w u → Swept (x ∷ xs) g w u
  swept_same x xs {g} {g'} e w u h = record {
    form = h.form;
    rests = h.rests;
    is = h.is;
    rests_is = h.rests_is;
    like = Vec.same_trans (S Z) h.like (Vec.same_sym (S Z) (Vec.same_lin (S Z) (up Z) e));
    even = λ z. Vec.same_trans (S Z) (Vec.same_append (S Z) e (Vec.same_refl (S Z) {v = ψ (S Z) (L Z) (F Z).f h.form})) (h.even z);
    canonical = h.canonical;
    rests_canonical = h.rests_canonical;
    under = λ B k. h.under B k.1;
    rests_under = λ B k. h.rests_under B k.1;
  }

  -- a sum that is zero modulo p
  zero_sum : (s : ℕ) (x : Mono Z.n) (g : TVec Z.n) → s % Z.p ≡ 0 → Same (S Z) ((s, x) ∷ g) g
  zero_sum s x g e = Vec.same_drop (S Z) s x g (ap (λ z. z % Z.p) (one_times s) ∙ e) (Vec.same_refl (S Z))

  good_sum : (s : ℕ) → s % Z.p ≢ 0 → Good Z.p (s % Z.p)
  good_sum s n = ((λ e. n (sym (one_reduced Z.p s) ∙ e)), one_reduced Z.p s)

  -- ## A node of lower order

  module _ (x : Mono Z.n) (xs : List (Mono Z.n)) (s : ℕ) (ss : List ℕ) (below : Below xs x) where
    abbrev g : TVec Z.n
    g = held Z lim xs ss

    abbrev c : ℕ
    c = s % Z.p

    lower_node : Lower (S Z) (L Z) (F Z) x → (w u : Vector) → Swept xs g w u
        → (b : Bool) → (T b → c ≡ 0) → (T (not b) → c ≢ 0) → Swept (x ∷ xs) ((s, x) ∷ g) w (choose b u ((c, mono Z.n x) ∷ u))
    lower_node o w u h true z n = swept_same x xs (zero_sum s x g (z tt)) w u h
    lower_node o w u h false z n = record {
      form = h.form;
      rests = (c, x) ∷ h.rests;
      is = h.is;
      rests_is = ap (λ y. (c, mono Z.n x) ∷ y) h.rests_is;
      like =
          Vec.same_trans (S Z) h.like (drop_lower (S Z) (L Z) (F Z) (red Z) g ((s, x) ∷ []) ((s, x) ∷ g) (o, tt)
          (Vec.same_trans (S Z) (Vec.same_sym (S Z) (Vec.same_middle (S Z) (s, x) g [])) (Vec.same_cons (S Z) (s, x) (Vec.same_sym (S Z) (Vec.same_nil (S Z)
          g)))));
      even = λ e. Vec.same_trans (S Z) (as_remainder Z lim s x (g ++ ψ (S Z) (L Z) (F Z).f h.form)) (Vec.same_cons (S Z) (c, x) (h.even e));
      canonical = h.canonical;
      rests_canonical = ((good_sum s (n tt)).0, (good_sum s (n tt)).1, h.rests_under x below, h.rests_canonical);
      under = λ B k. h.under B k.1;
      rests_under = λ B k. (k.0, h.rests_under B k.1);
    }

    -- ## A node with a reducer

    module _ (r : Reducer (S Z) (L Z) (F Z) x) (known : red Z x ≡ inl r) (ss' : List ℕ) (sp : Spread Z lim d xs ss c (others (S Z) (L Z) (F Z) r) ss')
        (w u : Vector) (h : Swept xs (held Z lim xs ss') w u) (n : c ≢ 0) where
      abbrev g' : TVec Z.n
      g' = held Z lim xs ss'

      abbrev a : ℕ
      a = Field.times Z.p c (turned (S Z) (L Z) (F Z) r)

      step : Runs.Step (S Z) (L Z) (F Z) (red Z) [] ((s, x) ∷ g) ((a, r.at) ∷ []) g'
      step = record {
        c = c;
        b = x;
        kept = g;
        low = sp.low;
        r = r;
        known = known;
        picked = as_remainder Z lim s x g;
        recorded = Vec.same_refl (S Z);
        lower = sp.lower;
        products = sp.split;
      }

      evenly : d ≡ false → Same (S Z) (((s, x) ∷ g) ++ (scale (S Z) a (times (S Z) (L Z) (F Z).f r.at) ++ ψ (S Z) (L Z) (F Z).f h.form)) h.rests
      evenly e =
          Vec.same_trans (S Z) (Vec.same_sym (S Z) (Vec.same_assoc (S Z) ((s, x) ∷ g) (scale (S Z) a (times (S Z) (L Z) (F Z).f r.at)) later))
          (Vec.same_trans (S Z) (Vec.same_append (S Z) cancelled (Vec.same_refl (S Z) {v = later})) (h.even e))
        where
          later : TVec Z.n
          later = ψ (S Z) (L Z) (F Z).f h.form

          split : Same (S Z) (g' ++ []) (g ++ scale (S Z) c (others (S Z) (L Z) (F Z) r))
          split = subst (λ z. Same (S Z) (g' ++ z) (g ++ scale (S Z) c (others (S Z) (L Z) (F Z) r))) (sp.whole e) sp.split

          cancelled : Same (S Z) (((s, x) ∷ g) ++ scale (S Z) a (times (S Z) (L Z) (F Z).f r.at)) g'
          cancelled =
              Vec.same_trans (S Z) (step_cancels (S Z) (L Z) (F Z) (red Z) ((s, x) ∷ g) g c x r (as_remainder Z lim s x g))
              (Vec.same_trans (S Z) (Vec.same_sym (S Z) split) (Vec.same_sym (S Z) (Vec.same_nil (S Z) g')))

      reduced_node : Swept (x ∷ xs) ((s, x) ∷ g) ((a, mono Z.n r.at) ∷ w) u
      reduced_node = record {
        form = (a, r.at) ∷ h.form;
        rests = h.rests;
        is = ap (λ y. (a, mono Z.n r.at) ∷ y) h.is;
        rests_is = h.rests_is;
        like = Vec.same_trans (S Z) (Vec.same_cons (S Z) (a, r.at) h.like) (Vec.same_sym (S Z) (step_keeps (S Z) (L Z) (F Z) (red Z) step));
        even = evenly;
        canonical = (
          good.0,
          good.1,
          Vec.all_map (S Z) (λ y. (L Z).Lt (image y) x) (λ y. Induced.IndLt (L Z) (F Z).lm y r.at)
              (λ y k. inl (subst (λ z. (L Z).Lt (image y) z) (sym r.hits) k)) h.form (h.under x below),
          h.canonical,
        );
        rests_canonical = h.rests_canonical;
        under = λ B k. (subst (λ z. (L Z).Lt z B) (sym r.hits) k.0, h.under B k.1);
        rests_under = λ B k. h.rests_under B k.1;
      }
        where
          good : Good Z.p a
          good = good_mul Z.p Z.P c (turned (S Z) (L Z) (F Z) r) (good_sum s n) (turned_good Z r)

  -- ## All nodes

  pub sweeps : (xs : List (Mono Z.n)) → Falling xs → T (forward? K d (monos Z.n xs)) → (ss : List ℕ) → length ss ≡ length xs
      → Swept xs (held Z lim xs ss) (sweep K (monos Z.n xs) ss) (left K (monos Z.n xs) ss)
  sweeps [] k f ss l = record {
    form = [];
    rests = [];
    is = refl;
    rests_is = refl;
    like = Vec.same_refl (S Z);
    even = λ e. Vec.same_refl (S Z);
    canonical = tt;
    rests_canonical = tt;
    under = λ B h. tt;
    rests_under = λ B h. tt;
  }
  sweeps (x ∷ xs) k f [] l = absurd (omega (arith, l))
  sweeps (x ∷ xs) k f (s ∷ ss) l =
      go (answered Z x) refl (and_left (ahead? K d N (answer_to Z x)) (forward? K d N) f)
      (sweeps xs k.1 (and_right (ahead? K d N (answer_to Z x)) (forward? K d N) f))
    where
      N : List Monomial
      N = monos Z.n xs

      c : ℕ
      c = s % Z.p

      short : length ss ≡ length xs
      short = omega (arith, l)

      -- the reducer, its coefficient and its other terms as the theory has them
      with_reducer : (r : Reducer (S Z) (L Z) (F Z) x) → red Z x ≡ inl r
          → ((ss' : List ℕ) → length ss' ≡ length xs → Swept xs (held Z lim xs ss') (sweep K N ss') (left K N ss'))
          → (i : ℕ) → turned (S Z) (L Z) (F Z) r ≡ i
          → (o : Vector) → vec Z.n ((F Z).lead r.at.1 r.dom).rest ≡ o
          → T (all_held? K.reduction d N (out Z.n r.at.0) o)
          → (b : Bool) → (T b → c ≡ 0) → (T (not b) → c ≢ 0)
          → Swept (x ∷ xs) ((s, x) ∷ held Z lim xs ss)
          (choose b (sweep K N (choose b ss (spread c (edges Z.p i (out Z.n r.at.0) o) N ss))) ((Field.times Z.p c i, mono Z.n r.at) ∷
          sweep K N (choose b ss (spread c (edges Z.p i (out Z.n r.at.0) o) N ss))))
          (left K N (choose b ss (spread c (edges Z.p i (out Z.n r.at.0) o) N ss)))
      with_reducer r known ih i ei o eo t true z n = swept_same x xs (zero_sum s x (held Z lim xs ss) (z tt)) (sweep K N ss) (left K N ss) (ih ss short)
      with_reducer r known ih i ei o eo t false z n =
          subst₂ (λ i o. (ss' : List ℕ) → ss' ≡ spread c (edges Z.p i (out Z.n r.at.0) o) N ss → Swept (x ∷ xs) ((s, x) ∷ held Z lim xs ss)
          ((Field.times Z.p c i, mono Z.n r.at) ∷ sweep K N ss') (left K N ss')) ei eo
          (λ ss' e. subst (λ z. Swept (x ∷ xs) ((s, x) ∷ held Z lim xs ss)
          ((Field.times Z.p c (turned (S Z) (L Z) (F Z) r), mono Z.n r.at) ∷ sweep K N z) (left K N z)) (sym e)
          (reduced_node x xs s ss k.0 r known next sp (sweep K N next) (left K N next) (ih next sp.long) (n tt)))
          (spread c (edges Z.p i (out Z.n r.at.0) o) N ss) refl
        where
          g : TVec Z.n
          g = ((F Z).lead r.at.1 r.dom).rest

          next : List ℕ
          next = spread c (edges Z.p (turned (S Z) (L Z) (F Z) r) (out Z.n r.at.0) (vec Z.n g)) N ss

          sp : Spread Z lim d xs ss c (others (S Z) (L Z) (F Z) r) next
          sp =
              spread_edges Z lim d c (turned (S Z) (L Z) (F Z) r) r.at.0 g xs ss short
              (subst (λ y. T (all_held? K.reduction d N (out Z.n r.at.0) y)) (sym eo) t)

      go : {y : Answer} (h : Answered Z x y) → red Z x ≡ red_by Z x h → T (ahead? K d N y)
          → ((ss' : List ℕ) → length ss' ≡ length xs → Swept xs (held Z lim xs ss') (sweep K N ss') (left K N ss'))
          → Swept (x ∷ xs) ((s, x) ∷ held Z lim xs ss) (recorded K c y (sweep K N (passed K c y N ss))) (remaining c (mono Z.n x) y (left K N (passed K c y
          N ss)))
      go (miss o) known t ih =
          lower_node x xs s ss k.0 o (sweep K N ss) (left K N ss) (ih ss short) (eqb c 0) (eqb→eq c 0) (nonzero_test c)
      go (hit r) known t ih =
          with_reducer r known ih (Field.minus Z.p (Field.times Z.p 1 (Field.inverse Z.p ((F Z).lead r.at.1 r.dom).coef))) (sym (turned_is Z r))
          (rest (vector_of (flat Z.n Z.f) (suc r.at.1))) (sym (others_is Z r)) t (eqb c 0) (eqb→eq c 0) (nonzero_test c)
