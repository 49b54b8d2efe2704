-- What the theory gives over the levels of a sound state, said of the levels themselves.
use mathlib.Core.Path.{◌≡◌, sym, ap, ◌∙◌, subst}
use mathlib.Core.Logic.{◌↔◌}
use mathlib.Core.Option.{some}
use mathlib.Core.List.{List, [], ◌∷◌}
use Prim.Native.Nat.{ℕ, ◌<◌, ◌≤◌}
use native.Mathlib.Omega.{arith}
use lib.Dec.{T, leb, leb→le}
use lib.ListN.{length, get_or}
use Rattle.definitions.specs.Limits.{Limits}
use Rattle.definitions.specs.Lists.{◌and◌, rest, between}
use Rattle.definitions.specs.Monomial
use Rattle.definitions.specs.Monomial.{Monomial, leading, leading_monomials}
use Rattle.definitions.specs.Frame.{frame}
use Rattle.definitions.specs.Result.{Result, done, ◌>>=◌}
use Rattle.definitions.specs.Stage.{highest, stage_over}
use Rattle.definitions.specs.Run.{Strategy}
use Rattle.definitions.specs.Lifting.{Lifting, lift_level}
use Rattle.definitions.specs.Problem.{Parameters}
use Rattle.definitions.specs.Field.{prime?}
use Rattle.definitions.specs.State.{State, levels_sound?, sound?}
use Rattle.definitions.specs.Calls.{accepted}
use Rattle.definitions.specs.Reckoning.{reckoned_vector, reckoned_level}
use Rattle.laws.proofs.Modular.{Prime, prime_says}
use Rattle.laws.proofs.Tests.{and_left, and_right, between_high}
use Rattle.laws.proofs.Sound.{sound_says}
use Rattle.demands.specs.Notions.{GröbnerBasis, LeadingGenerated, Member}
use Rattle.demands.specs.Picks.{AllPick, run_by}
use Rattle.demands.specs.Exact.{LevelRight}
use Rattle.demands.specs.Demands.{readable?, sensible?, ReadRight, accepts, limited, stopped, open_yet}
use Rattle.demands.proofs.Results.{Gives, ends_map}
use Rattle.demands.proofs.Exponents.{out_length}
use Rattle.demands.proofs.Levels.{Mono, TLevel, mono, flat, flats, flat_at, flat_length, leading_vec, lm}
use Rattle.demands.proofs.Setting.{Setting}
use Rattle.demands.proofs.Soundness.{tlevel, tlevels, Deep, Within, AllSound, components, leading_within, LevelsRight, levels_right}
use Rattle.demands.proofs.Frames.{EightEach}
use Rattle.demands.proofs.Runs.{AllIn}
use Rattle.demands.proofs.Reckoned.{vector_bound}
use Rattle.demands.proofs.Stages.{Written, written, term_real}
use Rattle.demands.proofs.Bases.{here, gröbner_in, gröbner_out}
use Rattle.demands.proofs.LeadingModule.{leading_module}
use Rattle.demands.proofs.Ways.{Free, never, picks_lift}
use Rattle.demands.proofs.Lifted.{term_fits, level_bound}
use Rattle.demands.proofs.Accepting.{AcceptedRight, is_basis, limit_met, shown_why, steps_left, accept_right}
use Rattle.demands.proofs.Exact
use Rattle.demands.proofs.Kept.{lift_kept}

-- ## Sensible limits, sound states

module _ (lim : Limits) (o : T (sensible? lim)) where
  pub few_variables : lim.variables ≤ 8
  few_variables = leb→le lim.variables 8 (and_left (leb lim.variables 8) (leb lim.exponent 255 and leb 1 lim.vector and readable? lim) o)

  later : T (leb lim.exponent 255 and leb 1 lim.vector and readable? lim)
  later = and_right (leb lim.variables 8) (leb lim.exponent 255 and leb 1 lim.vector and readable? lim) o

  pub small_exponents : lim.exponent ≤ 255
  small_exponents = leb→le lim.exponent 255 (and_left (leb lim.exponent 255) (leb 1 lim.vector and readable? lim) later)

  last : T (leb 1 lim.vector and readable? lim)
  last = and_right (leb lim.exponent 255) (leb 1 lim.vector and readable? lim) later

  pub vector_room : 1 ≤ lim.vector
  vector_room = leb→le 1 lim.vector (and_left (leb 1 lim.vector) (readable? lim) last)

  pub are_readable : T (readable? lim)
  are_readable = and_right (leb 1 lim.vector) (readable? lim) last

  -- the parameters of a sound state
  pub sound_prime : (X : State) → T (sound? lim X) → Prime X.parameters.p
  sound_prime X h = prime_says X.parameters.p (and_right (leb X.parameters.p lim.prime_bound) (prime? X.parameters.p)
      (sound_says lim X h).prime)

  pub sound_eight : (X : State) → T (sound? lim X) → X.parameters.n ≤ 8
  sound_eight X h =
      let q = X.parameters in
      let t = and_left (between 1 q.n lim.variables) (between 1 q.code 3 and between 1 q.s lim.components)
      (sound_says lim X h).ranges in
      let l : q.n ≤ lim.variables = between_high 1 q.n lim.variables t in
      omega (arith, few_variables)

-- ## Over levels of the theory

-- what lifting a level gives
pub record LiftRight (lim : Limits) (q : Parameters) (below : List Monomial.Level) (g : Monomial.Level) : Type 0 where
  pub bound : ℕ
  pub reckons : reckoned_level lim bound q.p q.code below ≡ some g
  pub sound : T (levels_sound? lim q (g ∷ below))
  pub exact : GröbnerBasis q (rest below) (highest below) → LevelRight q (lim.numbering q.code) below g

-- what holds over levels
pub record Over (lim : Limits) (q : Parameters) (below : List Monomial.Level) : Type 0 where
  pub lifts : (way : Lifting) (N : ℕ) → Gives (LiftRight lim q below) (lift_level lim q.p q.code below way N)
  pub picks : (W : Strategy) (Ws : List Strategy) (m : Monomial) → Member m (frame (lim.numbering q.code) (leading_monomials (highest below)))
      → AllPick Ws
      → Gives (λ v. (bound : ℕ) × (reckoned_vector bound q.p q.code below m ≡ some v)) (run_by (stage_over lim q.p q.code below) W Ws m)
  pub eights : EightEach (highest below)
  pub generates : GröbnerBasis q (rest below) (highest below) ↔ LeadingGenerated q (rest below) (highest below)

module _ (lim : Limits) (q : Parameters) (P : Prime q.p) (eight : q.n ≤ 8) where
  module _ (f : TLevel q.n) (b : List (TLevel q.n)) (d : Deep q.n q.p P q.code (f ∷ b)) (count : ℕ)
      (w : AllSound lim q.n q.p P count f) where
    abbrev Z : Setting
    Z = here q P eight f b d

    abbrev code : ℕ
    code = lim.numbering q.code

    fits : (j : ℕ) → j < length f → Within lim q.n (lm q.n f j)
    fits = leading_within lim q.n q.p P count f Z.somes w

    leading_eight : EightEach (flat q.n f)
    leading_eight j l =
        let i : j < length f = subst (λ z. j < z) (flat_length q.n f) l in
        ap (λ (m : Monomial). length m.0) (ap leading (flat_at q.n f j) ∙ leading_vec q.n (get_or f j []) (d.0 j i).has_one)
        ∙ out_length q.n eight
        (lm q.n f j).0

    all_free : (Ws : List Strategy) → AllPick Ws → AllIn Z lim (Free Z lim) ⊥ (never Z lim) Ws
    all_free [] k = tt
    all_free (W ∷ Ws) k = (k.0, tt, all_free Ws k.1)

    -- a run that comes to zero gives the reckoning's vector
    picked : (W : Strategy) (Ws : List Strategy) (m : Monomial) → Member m (frame code (leading_monomials (flat q.n f))) → AllPick Ws
        → Gives (λ v. (bound : ℕ) × (reckoned_vector bound q.p q.code (flats q.n (f ∷ b)) m ≡ some v))
        (run_by (stage_over lim q.p q.code (flats q.n (f ∷ b))) W Ws m)
    picked W Ws m i k =
        subst (λ z. Gives (λ v. (bound : ℕ) × (reckoned_vector bound q.p q.code (flats q.n (f ∷ b)) z ≡ some v))
        (run_by (stage_over lim q.p q.code (flats q.n (f ∷ b))) W Ws z)) (sym r.is)
        (ends_map (λ v h. ((vector_bound Z x l).0, (vector_bound Z x l).1 ∙ ap some (sym h.is)))
        (picks_lift Z lim W Ws (all_free Ws k) x l (term_fits Z lim eight fits x j)))
      where
        r : Written Z eight code m
        r = written Z eight code m i

        x : Mono q.n
        x = r.x

        j : Member (mono q.n x) (frame code (leading_monomials (flat q.n f)))
        j = subst (λ z. Member z (frame code (leading_monomials (flat q.n f)))) r.is i

        l : x.1 < length f
        l = (term_real Z eight code x j).0

    module _ (s : 1 ≤ lim.vector) (under : T (levels_sound? lim q (flats q.n (f ∷ b)))) where
      lifted : (way : Lifting) (N : ℕ) → Gives (LiftRight lim q (flats q.n (f ∷ b))) (lift_level lim q.p q.code (flats q.n (f ∷ b)) way N)
      lifted way N = ends_map (λ g h. record {
        bound = (level_bound Z lim eight fits).0;
        reckons = (level_bound Z lim eight fits).1 ∙ ap some (sym h.0);
        sound = h.1;
        exact = λ gb. subst (LevelRight q code (flats q.n (f ∷ b))) (sym h.0)
            (Exact.level_right lim q P eight f b d code (gröbner_in q P eight f b d gb));
      }) (lift_kept lim q P eight f b d s fits under way N)

      over_theory : Over lim q (flats q.n (f ∷ b))
      over_theory = record { lifts = lifted; picks = picked; eights = leading_eight; generates = leading_module q P eight f b d }

  -- ## Over sound levels

  pub over : 1 ≤ lim.vector → (below : List Monomial.Level) → T (levels_sound? lim q below) → Over lim q below
  over s [] h = absurd h
  over s (f ∷ b) h =
      let r : LevelsRight lim q P eight (f ∷ b) = levels_right lim q P eight (f ∷ b) h in
      subst (Over lim q) r.back
      (over_theory (tlevel q.n f) (tlevels q.n b) r.deep (components lim q P eight (f ∷ b)) r.fits s
      (subst (λ ls. T (levels_sound? lim q ls)) (sym r.back) h))

  -- ## Acceptance

  pub accepted_right : 1 ≤ lim.vector → (f : Monomial.Level) → T (levels_sound? lim q (f ∷ [])) → (N : ℕ) → ReadRight lim q f (accepted lim N (q, f))
  accepted_right o f h N =
      subst (λ ls. ReadRight lim q (highest ls) (accepted lim N (q, highest ls))) r.back (go (accept_right lim q P eight g r.deep o r.fits N))
    where
      r : LevelsRight lim q P eight (f ∷ [])
      r = levels_right lim q P eight (f ∷ []) h

      g : TLevel q.n
      g = tlevel q.n f

      go : {x : Result (Unit {0})} → AcceptedRight lim q P eight g r.deep o r.fits x
          → ReadRight lim q (flat q.n g) (x >>= λ u. done (record { parameters = q; levels = flat q.n g ∷ [] }))
      go (is_basis gb) = accepts (gröbner_out q P eight g [] r.deep gb)
      go (limit_met t) = limited t
      go (shown_why t s) = stopped t s
      go steps_left = open_yet
