-- Over the levels of a sound state: a level lifted by any way is the reckoning's, and the reckoning has one.
use mathlib.Core.Path.{◌≡◌, refl, sym, ap, ap₂, ◌∙◌, subst}
use mathlib.Core.Logic.{inl, inr}
use mathlib.Core.Bool.{Bool, true, false}
use mathlib.Core.Option.{some}
use mathlib.Core.List.{List, [], ◌∷◌}
use Prim.Native.Nat.{ℕ, ◌+◌, ◌<◌, ◌≤◌}
use native.Mathlib.Omega.{arith}
use lib.Dec.{T, leb, leb→le}
use lib.ListN.{length}
use Rattle.definitions.specs.Limits.{Limits}
use Rattle.definitions.specs.Lists.{◌then◌}
use Rattle.definitions.specs.Monomial
use Rattle.definitions.specs.Monomial.{Monomial, fits?}
use Rattle.definitions.specs.Result.{◌>>=◌}
use Rattle.definitions.specs.Lifting.{Lifting, lift_one, lift_all, if_few, lift_level}
use Rattle.definitions.specs.Reckoning.{reckoned_vector, each, reckoned_level}
use Rattle.demands.specs.Notions.{Member}
use Rattle.demands.proofs.Results.{Gives, refuses, ends_map, Holds, holds, holds_then, holds_at, Reached, reached_at, reached_some, reached_then}
use Rattle.demands.proofs.Exponents.{out, colon_fits}
use Rattle.demands.proofs.Levels.{Mono, mono, mono_injective, monos, monos_length, flat, flats, lm}
use Rattle.demands.proofs.Setting.{Setting}
use Rattle.demands.proofs.Soundness.{Within}
use Rattle.demands.proofs.Steps.{stage, Fits}
use Rattle.demands.proofs.Reckoned.{vector_is, vector_reached}
use Rattle.demands.proofs.Stages.{frame_terms, Written, written, terms, terms_back, term_real}
use Rattle.demands.proofs.Ways.{vectors, AllOk, total, GoodTerms, all_lifted}

module _ (Z : Setting) (lim : Limits) (eight : Z.n ≤ 8) (fits : (j : ℕ) → j < length Z.f → Within lim Z.n (lm Z.n Z.f j)) where
  -- the order that numbers frame terms
  abbrev code : ℕ
  code = lim.numbering Z.code

  -- ## The frame terms are in range and within the limit

  pub term_fits : (x : Mono Z.n) → Member (mono Z.n x) (frame_terms Z eight code) → Fits Z lim x
  term_fits x m =
      let w : Written Z eight code (mono Z.n x) = written Z eight code (mono Z.n x) m in
      let e : w.x ≡ x = mono_injective Z.n w.x x (sym w.is) in
      subst (Fits Z lim) e (subst (λ a. T (fits? lim.exponent (out Z.n a))) (sym w.colon_is)
      (colon_fits lim.exponent Z.n (lm Z.n Z.f w.from).0 w.by (fits w.from w.from_in)))

  good_terms : (xs : List (Mono Z.n)) → ((t : Monomial) → Member t (monos Z.n xs) → Member t (frame_terms Z eight code)) → GoodTerms Z lim xs
  good_terms [] h = tt
  good_terms (x ∷ xs) h =
      let m : Member (mono Z.n x) (frame_terms Z eight code) = h (mono Z.n x) (inl refl) in
      ((term_real Z eight code x m).0, term_fits x m, good_terms xs (λ t i. h t (inr i)))

  pub terms_good : GoodTerms Z lim (terms Z eight code)
  terms_good = good_terms (terms Z eight code) (λ t i. subst (Member t) (terms_back Z eight code) i)

  -- ## Lifting gives the theory's vectors

  pub record LiftedRight (g : Monomial.Level) : Type 0 where
    pub is : g ≡ flat Z.n (vectors Z lim (terms Z eight code))
    pub ok : AllOk Z lim (terms Z eight code)
    pub few : length (terms Z eight code) ≤ lim.vectors
    pub short : total Z lim (terms Z eight code) ≤ lim.level_terms

  few_frame : (b : Bool) → (T b → length (frame_terms Z eight code) ≤ lim.vectors) → (way : Lifting) (N : ℕ)
      → Gives LiftedRight (if_few b (frame_terms Z eight code) >>= λ ms. lift_all (stage Z lim) (lift_one (stage Z lim) way N) ([], 0) [] ms)
  few_frame false h way N = refuses tt
  few_frame true h way N =
      subst (λ ms. Gives LiftedRight (lift_all (stage Z lim) (lift_one (stage Z lim) way N) ([], 0) [] ms)) (terms_back Z eight code)
      (ends_map (λ g r. record {
        is = r.is;
        ok = r.ok;
        few = count (h tt);
        short = let m : 0 + total Z lim xs ≤ lim.level_terms = r.few
            (omega arith) in omega arith;
      })
      (all_lifted Z lim way N xs terms_good ([], 0) [] tt))
    where
      xs : List (Mono Z.n)
      xs = terms Z eight code

      count : length (frame_terms Z eight code) ≤ lim.vectors → length xs ≤ lim.vectors
      count l = let e : length (monos Z.n xs) ≡ length xs = monos_length Z.n xs in omega (arith, ap length (terms_back Z eight code))

  pub level_lifted : (way : Lifting) (N : ℕ) → Gives LiftedRight (lift_level lim Z.p Z.code (flats Z.n (Z.f ∷ Z.b)) way N)
  level_lifted way N = few_frame (leb (length (frame_terms Z eight code)) lim.vectors)
      (leb→le (length (frame_terms Z eight code)) lim.vectors) way N

  -- ## The reckoning gives them too

  abbrev below : List Monomial.Level
  below = flats Z.n (Z.f ∷ Z.b)

  each_is : (N : ℕ) (xs : List (Mono Z.n)) → GoodTerms Z lim xs
      → Holds (λ g. g ≡ flat Z.n (vectors Z lim xs)) (each (reckoned_vector N Z.p Z.code below) (monos Z.n xs))
  each_is N [] h = holds refl
  each_is N (x ∷ xs) h = holds_then (vector_is Z x h.0 N) (λ v e. holds_then (each_is N xs h.2) (λ g k. holds (ap₂ (λ a b. a ∷ b) e k)))

  each_reached : (xs : List (Mono Z.n)) → Reached (λ N. each (reckoned_vector N Z.p Z.code below) (monos Z.n xs))
  each_reached [] = reached_some []
  each_reached (x ∷ xs) =
      reached_then (λ N. reckoned_vector N Z.p Z.code below (mono Z.n x))
      (λ N v. each (reckoned_vector N Z.p Z.code below) (monos Z.n xs) then λ vs. some (v ∷ vs))
      (vector_reached Z x) (λ v. reached_then (λ N. each (reckoned_vector N Z.p Z.code below) (monos Z.n xs)) (λ N vs. some (v ∷ vs))
      (each_reached xs) (λ vs. reached_some (v ∷ vs)))

  -- from some bound on the reckoning's level is that of the theory's vectors
  pub level_bound : (N : ℕ) × (reckoned_level lim N Z.p Z.code (flats Z.n (Z.f ∷ Z.b)) ≡ some
      (flat Z.n (vectors Z lim (terms Z eight (lim.numbering Z.code)))))
  level_bound = subst (λ ms. (N : ℕ) × (each (reckoned_vector N Z.p Z.code below) ms ≡ some (flat Z.n (vectors Z lim xs))))
      (terms_back Z eight code)
      (r.bound, reached_at (λ N. each (reckoned_vector N Z.p Z.code below) (monos Z.n xs)) r ∙ ap some value)
    where
      xs : List (Mono Z.n)
      xs = terms Z eight code

      r : Reached (λ N. each (reckoned_vector N Z.p Z.code below) (monos Z.n xs))
      r = each_reached xs

      value : r.value ≡ flat Z.n (vectors Z lim xs)
      value = holds_at (reached_at (λ N. each (reckoned_vector N Z.p Z.code below) (monos Z.n xs)) r) (each_is r.bound xs terms_good)
