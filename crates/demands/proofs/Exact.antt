-- Over a Gröbner basis the reckoning's level is right: each vector maps to zero with its frame term in front, every syzygy is a combination of the
-- vectors, and they are a Gröbner basis again.
use mathlib.Core.Path.{◌≡◌, refl, sym, ap, ◌∙◌, subst, subst₂}
use mathlib.Core.List.{List, [], ◌∷◌}
use Prim.Native.Nat.{ℕ, zero, suc, ◌<◌, ◌≤◌}
use native.Mathlib.Omega.{arith}
use lib.Dec.{T}
use lib.ListN.{length, get_or}
use Rattle.theory.specs.Laws.{Level}
use Rattle.theory.specs.Vec.{Same, All, ψ}
use Rattle.theory.specs.Orders.{ExpM}
use Rattle.theory.specs.Syzygy.{In, Ahead, Gröbner}
use Rattle.theory.specs.Canon.{Canonical}
use Rattle.theory.specs.Stage
use Rattle.theory.specs.Stage.{term_at}
use Rattle.theory.proofs.Vec
use Rattle.theory.proofs.Top.{lead_nonzero}
use Rattle.theory.proofs.Canon.{canon_canonical}
use Rattle.theory.proofs.Reckoning.{ahead_lead}
use Rattle.theory.proofs.Tower
use Rattle.theory.proofs.Tower.{ahead_head, ψ_agrees, gröbner_agrees, vector_ahead, vector_in, vector_syzygy, vectors_generate, gröbner_above}
use Rattle.theory.specs.Reckon.{reckon}
use Rattle.definitions.specs.Limits.{Limits}
use Rattle.definitions.specs.Monomial.{Vector, leading_term}
use Rattle.definitions.specs.Problem.{Parameters}
use Rattle.laws.proofs.Modular.{Prime}
use Rattle.demands.specs.Notions.{coefficient, put_for, Combination, Syzygy}
use Rattle.demands.specs.Exact.{VectorRight, LevelRight}
use Rattle.demands.proofs.Levels.{Mono, TVec, TLevel, mono, monos, monos_length, vec, flat, flats, flat_at, flat_length, cons?, head, lm, module_over}
use Rattle.demands.proofs.Levels.{Has}
use Rattle.demands.proofs.Setting.{Setting, S, L, F, red}
use Rattle.demands.proofs.Soundness.{tvec, Regular, Regulars, Deep}
use Rattle.demands.proofs.Reckoned.{vector}
use Rattle.demands.proofs.Notions.{same_equal, equal_same, put_for_is, lead_leads}
use Rattle.demands.proofs.Bases.{Ranged, Proper, proper_says, proper_shown, here, ranged_in, in_ranged, gröbner_out}
use Rattle.demands.proofs.Ways.{vectors}
use Rattle.demands.proofs.Stages.{terms, terms_back, framed, theory_stage}
use Rattle.demands.proofs.Canonical.{canonical_descends}

module _ (lim : Limits) (q : Parameters) (P : Prime q.p) (eight : q.n ≤ 8) (f : TLevel q.n) (b : List (TLevel q.n))
    (d : Deep q.n q.p P q.code (f ∷ b)) (code : ℕ) where
  abbrev Z : Setting
  Z = here q P eight f b d

  abbrev G : Stage.Stage (S Z) (ExpM q.n)
  G = theory_stage Z eight code

  abbrev xs : List (Mono q.n)
  xs = terms Z eight code

  abbrev Up : Level (ExpM q.n)
  Up = module_over q.n q.code (f ∷ b)

  -- the level above
  abbrev pub level_above : TLevel q.n
  level_above = vectors Z lim (terms Z eight code)

  -- ## Its vectors, one by one

  vectors_length : (ys : List (Mono q.n)) → length (vectors Z lim ys) ≡ length ys
  vectors_length [] = refl
  vectors_length (y ∷ ys) = ap suc (vectors_length ys)

  vectors_at : (ys : List (Mono q.n)) (k : ℕ) → k < length ys → get_or (vectors Z lim ys) k [] ≡ vector Z (term_at (ExpM q.n) ys k)
  vectors_at [] k l = absurd (omega arith)
  vectors_at (y ∷ ys) zero l = refl
  vectors_at (y ∷ ys) (suc k) l = vectors_at ys k (omega arith)

  above_size : length level_above ≡ length xs
  above_size = vectors_length xs

  abbrev at : ℕ → Mono q.n
  at k = term_at (ExpM q.n) xs k

  canonical_at : (k : ℕ) → Canonical (S Z) Up (vector Z (at k))
  canonical_at k = canon_canonical (S Z) Up (reckon (S Z) (L Z) (F Z) (red Z) (at k))

  -- the frame term in front
  front : (v : TVec q.n) (m : Mono q.n) → Canonical (S Z) Up v → Ahead (S Z) (L Z) (F Z) m v → (r : TVec q.n) × (v ≡ (1, m) ∷ r)
  front [] m k a = absurd (lead_nonzero (S Z) Up (ahead_lead (S Z) (L Z) (F Z) a) (Vec.same_refl (S Z)))
  front (t ∷ v) m k a = (v, ap (λ z. z ∷ v) (ahead_head (S Z) (L Z) (F Z) m t v k a))

  front_at : (k : ℕ) → k < length xs → (r : TVec q.n) × (vector Z (at k) ≡ (1, at k) ∷ r)
  front_at k l = front (vector Z (at k)) (at k) (canonical_at k) (vector_ahead (S Z) G k l)

  inside_at : (k : ℕ) → k < length xs → All (S Z) (Has q.n (f ∷ b)) (vector Z (at k))
  inside_at k l = Vec.all_map (S Z) (In (S Z) (L Z) (F Z)) (Has q.n (f ∷ b)) (λ x i. Z.somes x.1 i) (vector Z (at k)) (vector_in (S Z) G k l)

  -- ## The level above is regular

  regular_at : (k : ℕ) → k < length xs → Regular q.n q.p P q.code (f ∷ b) (vector Z (at k))
  regular_at k l = record {
    has_one = subst (λ v. T (cons? q.n v)) (sym (front_at k l).1) tt;
    canonical = canonical_at k;
    inside = inside_at k l;
  }

  pub regular_above : Regulars q.n q.p P q.code (f ∷ b) level_above
  regular_above k l =
      let i : k < length xs = subst (λ z. k < z) above_size l in
      subst (Regular q.n q.p P q.code (f ∷ b)) (sym (vectors_at xs k i)) (regular_at k i)

  pub deep_above : Deep q.n q.p P q.code (level_above ∷ f ∷ b)
  deep_above = (regular_above, d)

  abbrev Z' : Setting
  Z' = here q P eight level_above (f ∷ b) deep_above

  -- ## The theory's family of these vectors is this level's

  into_size : (j : ℕ) → j < length level_above → j < length xs
  into_size j l = subst (λ z. j < z) above_size l

  same_vector : (j : ℕ) → j < length level_above → vector Z (at j) ≡ get_or level_above j []
  same_vector j l = sym (vectors_at xs j (into_size j l))

  same_leading : (j : ℕ) → j < length xs → (j < length level_above) × (at j ≡ lm q.n level_above j)
  same_leading j l = (subst (λ z. j < z) (sym above_size) l, sym (ap (head q.n) (vectors_at xs j l ∙ (front_at j l).1)))

  -- ## A vector is right

  vector_right : Gröbner (S Z) (L Z) (F Z) → (k : ℕ) → k < length xs → VectorRight q (flats q.n (f ∷ b)) (mono q.n (at k))
      (vec q.n (vector Z (at k)))
  vector_right gb k l = record {
    syzygy = (
      proper_shown q eight (length (flat q.n f)) v (subst (λ r. Ranged q eight r v) (sym (flat_length q.n f))
          (in_ranged q P eight f b d v (vector_in (S Z) G k l))),
      λ m. ap (coefficient q.p m) (put_for_is q.n q.p P q.code b f v) ∙ same_equal q.n q.p P (ψ (S Z) (L Z) (F Z).f v) []
          (vector_syzygy (S Z) G gb k l) m,
    );
    in_front = ap (λ w. leading_term (vec q.n w)) (front_at k l).1;
    leads =
        lead_leads q.n q.p P q.code (f ∷ b) Z.grounded v (inside_at k l) (at k) (in_range k l)
        (ahead_lead (S Z) (L Z) (F Z) (vector_ahead (S Z) G k l));
    descends = canonical_descends q.n q.p P q.code (f ∷ b) Z.grounded v (inside_at k l) (canonical_at k);
  }
    where
      v : TVec q.n
      v = vector Z (at k)

      in_range : (k : ℕ) → k < length xs → Has q.n (f ∷ b) (at k)
      in_range k l = Z.somes (at k).1 ((framed Z eight code).real k l).0

  -- ## Over a Gröbner basis

  module _ (gb : Gröbner (S Z) (L Z) (F Z)) where
    -- it is a Gröbner basis again
    pub gröbner_next : Gröbner (S Z') (L Z') (F Z')
    gröbner_next = gröbner_agrees (S Z) Up (Stage.family (S Z) Up (Tower.next (S Z) G)) (F Z') into_size same_vector same_leading
        (gröbner_above (S Z) G gb)

    -- every syzygy is a combination
    generate : (c : Vector) → Syzygy q (flat q.n f) c → Combination q (flat q.n level_above) c
    generate c s = record {
      by = vec q.n u;
      proper = proper_shown q eight (length (flat q.n level_above)) u
          (subst (λ r. Ranged q eight r u) (sym (flat_length q.n level_above)) (in_ranged q P eight level_above (f ∷ b) deep_above u inside));
      is = λ m. ap (coefficient q.p m) (sym pr.back) ∙ same_equal q.n q.p P w (ψ (S Z) Up (vector_of_stage) u) found.2 m
          ∙ ap (λ z. coefficient q.p m (vec q.n z)) (ψ_agrees (S Z) Up (Stage.family (S Z) Up (Tower.next (S Z) G))
          (F Z') into_size same_vector same_leading u inside)
          ∙ ap (coefficient q.p m) (sym (put_for_is q.n q.p P q.code (f ∷ b) level_above u));
    }
      where
        vector_of_stage : ℕ → TVec q.n
        vector_of_stage k = vector Z (at k)

        pr : Proper q eight (length (flat q.n f)) c
        pr = proper_says q eight (length (flat q.n f)) c s.0

        w : TVec q.n
        w = tvec q.n c

        in_w : All (S Z) (In (S Z) (L Z) (F Z)) w
        in_w = ranged_in q P eight f b d w (subst (λ r. Ranged q eight r w) (flat_length q.n f) pr.ranged)

        zero_w : Same (S Z) (ψ (S Z) (L Z) (F Z).f w) []
        zero_w = equal_same q.n q.p P q.code b (ψ (S Z) (L Z) (F Z).f w) []
            (λ m. ap (coefficient q.p m) (sym (put_for_is q.n q.p P q.code b f w) ∙ ap (put_for q.p (flat q.n f)) pr.back)
            ∙ s.1 m)

        found : (u : TVec q.n) × All (S Z) (λ (x : Mono q.n). x.1 < length xs) u × Same (S Z) w (ψ (S Z) Up vector_of_stage u)
        found = vectors_generate (S Z) G gb w in_w zero_w

        u : TVec q.n
        u = found.0

        inside : All (S Z) (In (S Z') (L Z') (F Z')) u
        inside = Vec.all_map (S Z) (λ x. x.1 < length xs) (In (S Z') (L Z') (F Z')) (λ x l. subst (λ z. x.1 < z) (sym above_size) l) u found.1

    monos_at : (ys : List (Mono q.n)) (k : ℕ) → k < length ys → get_or (monos q.n ys) k ([], 0) ≡ mono q.n (term_at (ExpM q.n) ys k)
    monos_at [] k l = absurd (omega arith)
    monos_at (y ∷ ys) zero l = refl
    monos_at (y ∷ ys) (suc k) l = monos_at ys k (omega arith)

    pub level_right : LevelRight q code (flats q.n (f ∷ b)) (flat q.n level_above)
    level_right = record {
      count = flat_length q.n level_above ∙ above_size ∙ sym (monos_length q.n xs) ∙ ap length (terms_back Z eight code);
      vectors = λ k l.
          let i : k < length xs = into_size k (subst (λ z. k < z) (flat_length q.n level_above) l) in
          subst₂ (VectorRight q (flats q.n (f ∷ b))) (sym (monos_at xs k i) ∙ ap (λ ms. get_or ms k ([], 0)) (terms_back Z eight code))
          (sym (flat_at q.n level_above k ∙ ap (vec q.n) (vectors_at xs k i))) (vector_right gb k i);
      generate = generate;
      basis = gröbner_out q P eight level_above (f ∷ b) deep_above gröbner_next;
    }
