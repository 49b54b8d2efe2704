-- The reckoning over a Gröbner basis: each level's leading monomials are its frame terms. No limit binds it: the leading monomials' exponents stay in
-- range.
use mathlib.Core.Path.{◌≡◌, refl, sym, ap, ◌∙◌, subst}
use mathlib.Core.Logic.{inl, inr}
use mathlib.Core.Option.{Option, none, some}
use mathlib.Core.List.{List, [], ◌∷◌}
use Prim.Native.Nat.{ℕ, zero, suc, ◌<◌, ◌≤◌}
use native.Mathlib.Omega.{arith}
use lib.Dec.{T}
use lib.ListN.{length, get_or}
use Rattle.theory.specs.Syzygy.{Gröbner}
use Rattle.definitions.specs.Limits.{Limits}
use Rattle.definitions.specs.Monomial
use Rattle.definitions.specs.Monomial.{Monomial, leading, leading_monomials}
use Rattle.definitions.specs.Frame.{frame}
use Rattle.definitions.specs.Stage.{highest}
use Rattle.definitions.specs.Problem.{Parameters}
use Rattle.definitions.specs.State.{levels_sound?}
use Rattle.definitions.specs.Reckoning.{reckoned_level, reckoned_levels}
use Rattle.laws.proofs.Modular.{Prime}
use Rattle.demands.specs.Notions.{Member, GröbnerBasis}
use Rattle.demands.specs.Exact.{LevelRight, Reckons}
use Rattle.demands.proofs.Results.{Holds, holds, nothing, holds_then, holds_map}
use Rattle.demands.proofs.Levels.{TLevel, mono, flat, flats, flat_at, flat_length, leading_vec, lm}
use Rattle.demands.proofs.Setting.{Setting, S, L, F}
use Rattle.demands.proofs.Soundness.{tlevel, Deep, Within, components, leading_within, LevelsRight, levels_right}
use Rattle.demands.proofs.Bases.{here, gröbner_in}
use Rattle.demands.proofs.Lifted.{term_fits, level_bound}
use Rattle.demands.proofs.Reckonings.{one_level, Tower, tower_reckons}
use Rattle.demands.proofs.Exact
use Rattle.lengths.specs.Notions.{at}
use Rattle.lengths.proofs.Rising.{level_leads, Rising, rising_up}

member_at : (ms : List Monomial) (k : ℕ) → k < length ms → Member (at ms k) ms
member_at [] k l = absurd (omega arith)
member_at (m ∷ ms) zero l = inl refl
member_at (m ∷ ms) (suc k) l = inr (member_at ms k (omega arith))

-- what an optional value holds, with the equation
with_value : {A : Type 0} (P : A → Type 0) (x : Option A) → ((a : A) → x ≡ some a → P a) → Holds P x
with_value P none h = nothing
with_value P (some a) h = holds (h a refl)

module _ (lim : Limits) (q : Parameters) (P : Prime q.p) (eight : q.n ≤ 8) where
  -- levels of the theory, the highest a Gröbner basis with leading monomials in range
  pub record Built (levels : List Monomial.Level) : Type 0 where
    pub f : TLevel q.n
    pub b : List (TLevel q.n)
    pub back : flats q.n (f ∷ b) ≡ levels
    pub deep : Deep q.n q.p P q.code (f ∷ b)
    pub fits : (j : ℕ) → j < length f → Within lim q.n (lm q.n f j)
    pub basis : Gröbner (S (here q P eight f b deep)) (L (here q P eight f b deep)) (F (here q P eight f b deep))

  -- ## Level 0

  built_basis : (f : Monomial.Level) → T (levels_sound? lim q (f ∷ [])) → GröbnerBasis q [] f → Built (f ∷ [])
  built_basis f h gb = record {
    f = tlevel q.n f;
    b = [];
    back = r.back;
    deep = r.deep;
    fits = leading_within lim q.n q.p P (components lim q P eight (f ∷ [])) (tlevel q.n f)
        (here q P eight (tlevel q.n f) [] r.deep).somes r.fits;
    basis = gröbner_in q P eight (tlevel q.n f) [] r.deep (subst (λ ls. GröbnerBasis q [] (highest ls)) (sym r.back) gb);
  }
    where
      r : LevelsRight lim q P eight (f ∷ [])
      r = levels_right lim q P eight (f ∷ []) h

  -- ## A level more

  module _ (f : TLevel q.n) (b : List (TLevel q.n)) (d : Deep q.n q.p P q.code (f ∷ b))
      (fits : (j : ℕ) → j < length f → Within lim q.n (lm q.n f j))
      (gb : Gröbner (S (here q P eight f b d)) (L (here q P eight f b d)) (F (here q P eight f b d))) where
    abbrev Z : Setting
    Z = here q P eight f b d

    abbrev code : ℕ
    code = lim.numbering q.code

    abbrev above : TLevel q.n
    above = Exact.level_above lim q P eight f b d code

    abbrev terms : List Monomial
    terms = frame code (leading_monomials (flat q.n f))

    right : LevelRight q code (flats q.n (f ∷ b)) (flat q.n above)
    right = Exact.level_right lim q P eight f b d code gb

    -- a frame term's exponents are in range
    above_fits : (j : ℕ) → j < length above → Within lim q.n (lm q.n above j)
    above_fits j l = term_fits Z lim eight fits (lm q.n above j) (subst (λ m. Member m terms) is
        (member_at terms j (omega (arith, right.count, i))))
      where
        i : j < length (flat q.n above)
        i = subst (λ z. j < z) (sym (flat_length q.n above)) l

        is : at terms j ≡ mono q.n (lm q.n above j)
        is = sym (ap (λ t. t.1) (right.vectors j i).in_front) ∙ ap leading (flat_at q.n above j)
            ∙ leading_vec q.n (get_or above j []) (Exact.regular_above lim q P eight f b d code j l).has_one

    above_is : (N : ℕ) (g : Monomial.Level) → reckoned_level lim N q.p q.code (flats q.n (f ∷ b)) ≡ some g → g ≡ flat q.n above
    above_is N g e =
        let (M, k) = level_bound Z lim eight fits in
        one_level lim q.p q.code (flats q.n (f ∷ b)) N M g (flat q.n above) e k

    built_above : (N : ℕ) (g : Monomial.Level) → reckoned_level lim N q.p q.code (flats q.n (f ∷ b)) ≡ some g
        → Built (g ∷ flats q.n (f ∷ b)) × (leading_monomials g ≡ frame code (leading_monomials (flat q.n f)))
    built_above N g e = (
      record {
        f = above;
        b = f ∷ b;
        back = ap (λ z. z ∷ flats q.n (f ∷ b)) (sym (above_is N g e));
        deep = Exact.deep_above lim q P eight f b d code;
        fits = above_fits;
        basis = Exact.gröbner_next lim q P eight f b d code gb;
      },
      subst (λ z. leading_monomials z ≡ terms) (sym (above_is N g e)) (level_leads q code (flats q.n (f ∷ b)) (flat q.n above) right),
    )

  built_next : (levels : List Monomial.Level) → Built levels → (N : ℕ) (g : Monomial.Level) → reckoned_level lim N q.p q.code levels ≡ some g
      → Built (g ∷ levels) × (leading_monomials g ≡ frame (lim.numbering q.code) (leading_monomials (highest levels)))
  built_next levels u N g e =
      subst (λ ls. Built (g ∷ ls) × (leading_monomials g ≡ frame (lim.numbering q.code) (leading_monomials (highest ls)))) u.back
      (built_above u.f u.b u.deep u.fits u.basis N g (subst (λ ls. reckoned_level lim N q.p q.code ls ≡ some g) (sym u.back) e))

  next_reached : (levels : List Monomial.Level) → Built levels → (M : ℕ)
      × ((g : Monomial.Level) × (reckoned_level lim M q.p q.code levels ≡ some g))
  next_reached levels u =
      let (M, k) = level_bound (here q P eight u.f u.b u.deep) lim eight u.fits in
      let g : Monomial.Level = flat q.n (Exact.level_above lim q P eight u.f u.b u.deep (lim.numbering q.code)) in
      (M, (g, subst (λ ls. reckoned_level lim M q.p q.code ls ≡ some g) u.back k))

  -- ## All levels

  module _ (f : Monomial.Level) (sound : T (levels_sound? lim q (f ∷ []))) (gb : GröbnerBasis q [] f) where
    tower_up : (levels : List Monomial.Level) (g : Monomial.Level) → Tower lim q f levels
        → (bound : ℕ) × (reckoned_level lim bound q.p q.code levels ≡ some g) → Tower lim q f (g ∷ levels)
    tower_up [] g t r = absurd t
    tower_up (b ∷ levels) g t r = (r, t)

    -- some bound is enough, for any number of levels
    reached : (h : ℕ) → (levels : List Monomial.Level) × (length levels ≡ suc h) × Tower lim q f levels × Built levels
    reached zero = (f ∷ [], refl, refl, built_basis f sound gb)
    reached (suc h) =
        let (levels, l, t, u) = reached h in
        let (M, (g, e)) = next_reached levels u in
        (g ∷ levels, ap suc l, tower_up levels g t (M, e), (built_next levels u M g e).0)

    pub reckoned_reached : (h : ℕ) → (levels : List Monomial.Level) × (length levels ≡ suc h)
        × Reckons lim (record { basis = some (q, f); h = h }) levels
    reckoned_reached h = let (levels, l, t, u) = reached h in (levels, l, tower_reckons lim q f levels h l t)

    -- within any bound they are levels over f's leading monomials
    module _ (one : lim.numbering q.code ≡ 1) (N : ℕ) where
      reckoned_built : (h : ℕ) → Holds (λ levels. Built levels × Rising (leading_monomials f) levels) (reckoned_levels lim N q.p q.code f h)
      reckoned_built zero = holds (built_basis f sound gb, refl)
      reckoned_built (suc h) = holds_then (reckoned_built h) (λ below r.
          holds_then (with_value (λ g. Built (g ∷ below) × (leading_monomials g ≡ frame (lim.numbering q.code) (leading_monomials (highest below))))
          (reckoned_level lim N q.p q.code below) (λ g e. built_next below r.0 N g e))
          (λ g k. holds (
            k.0,
            rising_up (leading_monomials f) g below
                (subst (λ c. leading_monomials g ≡ frame c (leading_monomials (highest below))) one k.1) r.1,
          )))

      pub reckoned_rising : (h : ℕ) → Holds (Rising (leading_monomials f)) (reckoned_levels lim N q.p q.code f h)
      reckoned_rising h = holds_map (λ levels r. r.1) (reckoned_built h)
