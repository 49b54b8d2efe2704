-- The state holds what the reckoning says: after reading, and after lifting a level.
use mathlib.Core.Path.{◌≡◌, refl}
use mathlib.Core.Logic.{◌⊎◌, inl, inr}
use mathlib.Core.Option.{some}
use mathlib.Core.List.{List, [], ◌∷◌}
use Prim.Native.Nat.{ℕ, suc, ◌-◌, ◌<◌, ◌≤◌}
use native.Mathlib.Omega.{arith}
use lib.Dec.{T, ltb→lt}
use lib.ListN.{length}
use Rattle.definitions.specs.Limits.{Limits}
use Rattle.definitions.specs.Lists.{rest, between}
use Rattle.definitions.specs.Monomial.{Level}
use Rattle.definitions.specs.Result.{Result, done, refused, unfinished, ◌>>=◌}
use Rattle.definitions.specs.Stage.{highest}
use Rattle.definitions.specs.Lifting.{Lifting}
use Rattle.definitions.specs.Problem.{Bytes, Parameters, problem}
use Rattle.definitions.specs.State.{State, empty, has_level?, up_to, sound?}
use Rattle.definitions.specs.Calls.{accepted, read, lift}
use Rattle.definitions.specs.Reckoning.{Reckoning, nothing, basis_of, reckoned_level}
use Rattle.laws.proofs.Tests.{between_low}
use Rattle.laws.proofs.Results.{IfDone}
use Rattle.laws.proofs.Sound.{sound_says}
use Rattle.laws.proofs.Numbers
use Rattle.laws.proofs.Numbers.{Numbered, read_number?, read_number}
use Rattle.laws.proofs.Reading.{basis_state, problem_sound}
use Rattle.demands.specs.Notions.{GröbnerBasis}
use Rattle.demands.specs.Demands
use Rattle.demands.specs.Exact.{LevelRight, Exact, Reckons}
use Rattle.demands.specs.Demands.{sensible?, ReadRight, accepts, limited, stopped, OfBasis}
use Rattle.demands.proofs.Results.{Ends, gives, refuses, open_yet}
use Rattle.demands.proofs.Over.{few_variables, vector_room, sound_prime, sound_eight, LiftRight, accepted_right}
use Rattle.demands.proofs.Reckonings.{Tower, tower_reckons}
use Rattle.demands.proofs.Lifts.{LiftedTo, one_more, limit_met, still_lifting, stays, height_up_to, with_level, lifted_to, limit_read}

-- ## What the reckoning holds and what the state holds

-- levels 0 to h over the basis f
pub record Standing (lim : Limits) (q : Parameters) (f : Level) (h : ℕ) (levels : List Level) : Type 0 where
  pub height : length levels ≡ suc h
  pub tower : Tower lim q f levels
  pub sound : T (sound? lim (record { parameters = q; levels = levels }))
  pub exact : Exact lim q levels

pub data Held (lim : Limits) : Reckoning → State → Type 0 where
  none_held : Held lim nothing empty
  held : {q : Parameters} {f : Level} {levels : List Level} {h : ℕ} → Standing lim q f h levels
      → Held lim (record { basis = some (q, f); h = h }) (record { parameters = q; levels = levels })

pub record Agrees (lim : Limits) (R : Reckoning) (X : State) : Type 0 where
  pub levels : Reckons lim R X.levels
  pub parameters : OfBasis X R.basis
  pub sound : (X ≡ empty) ⊎ T (sound? lim X)
  pub exact : Exact lim X.parameters X.levels

pub held_agrees : (lim : Limits) (R : Reckoning) (X : State) → Held lim R X → Agrees lim R X
held_agrees lim R X none_held = record { levels = (0, refl); parameters = refl; sound = inl refl; exact = tt }
held_agrees lim R X (held {q} {f} {levels} {h} s) =
    record { levels = tower_reckons lim q f levels h s.height s.tower; parameters = refl; sound = inr s.sound; exact = s.exact }

-- ## Levels taken away, and a level more

module _ (lim : Limits) (q : Parameters) where
  tower_down : (f g b : Level) (below : List Level) → Tower lim q f (g ∷ b ∷ below) → Tower lim q f (b ∷ below)
  tower_down f g b below t = t.1

  exact_down : (g b : Level) (below : List Level) → Exact lim q (g ∷ b ∷ below) → Exact lim q (b ∷ below)
  exact_down g b below t = t.1

  tower_up : (f g : Level) (below : List Level) → Tower lim q f below → (bound : ℕ) × (reckoned_level lim bound q.p q.code below ≡ some g)
      → Tower lim q f (g ∷ below)
  tower_up f g [] t r = absurd t
  tower_up f g (b ∷ below) t r = (r, t)

  -- the highest level is a Gröbner basis
  exact_basis : (f : Level) (below : List Level) → Tower lim q f below → Exact lim q below → GröbnerBasis q (rest below) (highest below)
  exact_basis f [] t e = absurd t
  exact_basis f (g ∷ []) t e = e
  exact_basis f (g ∷ b ∷ below) t e = e.0.basis

  exact_up : (f g : Level) (below : List Level) → Tower lim q f below → Exact lim q below → LevelRight q (lim.numbering q.code) below g
      → Exact lim q (g ∷ below)
  exact_up f g [] t e r = absurd t
  exact_up f g (b ∷ below) t e r = (r, e)

module _ (lim : Limits) (o : T (sensible? lim)) where
  -- ## Reading

  -- what reading leaves, of what the reader gave
  read_from : (n : ℕ) (x : Result (Parameters × Level)) → IfDone (λ f. T (sound? lim (basis_state f))) x → Numbered read_number? (x >>= accepted lim n)
      → Ends (Held lim (record { basis = basis_of x; h = 0 })) (λ number value. T (read_number? number)) (x >>= accepted lim n)
  read_from n unfinished h k = open_yet
  read_from n (refused number place value) h (Numbers.refuses t) = refuses t
  read_from n (refused number place value) h (Numbers.stops t) = refuses t
  read_from n (done (q, f)) h k = go (accepted_right lim q (sound_prime lim o X h) (sound_eight lim o X h) (vector_room lim o) f
      (sound_says lim X h).levels n)
    where
      X : State
      X = basis_state (q, f)

      go : {x : Result State} → ReadRight lim q f x → Ends (Held lim (record { basis = some (q, f); h = 0 }))
          (λ number value. T (read_number? number)) x
      go (accepts gb) = gives (held (record { height = refl; tower = refl; sound = h; exact = gb }))
      go (limited {number} t) = refuses (limit_read number t)
      go (stopped t s) = refuses tt
      go Demands.open_yet = open_yet

  pub read_held : (n : ℕ) (bytes : Bytes) → Ends (Held lim (record { basis = basis_of (problem lim bytes); h = 0 }))
      (λ number value. T (read_number? number))
      (read lim n bytes)
  read_held n bytes = read_from n (problem lim bytes) (problem_sound lim (few_variables lim o) bytes) (read_number lim n bytes)

  -- ## Lifting

  -- a level more over standing levels
  pub level_stands : (q : Parameters) (f : Level) (levels : List Level) (h k : ℕ) → Standing lim q f h levels → T (between 1 k lim.levels)
      → k - 1 < length levels → (g : Level)
      → LiftRight lim q (up_to (record { parameters = q; levels = levels }) (k - 1)) g
      → Standing lim q f k (g ∷ up_to (record { parameters = q; levels = levels }) (k - 1))
  level_stands q f levels h k s r l g w = record {
    height = let e : length below ≡ suc (k - 1) = height_up_to lim X s.sound (k - 1) l in let m : 1 ≤ k = between_low 1 k lim.levels r in
        omega arith;
    tower = tower_up lim q f g below tower_below (w.bound, w.reckons);
    sound = with_level lim X s.sound k r l g w.sound;
    exact = exact_up lim q f g below tower_below exact_below (w.exact (exact_basis lim q f below tower_below exact_below));
  }
    where
      X : State
      X = record { parameters = q; levels = levels }

      below : List Level
      below = up_to X (k - 1)

      tower_below : Tower lim q f below
      tower_below = stays lim X s.sound (k - 1) (Tower lim q f) (tower_down lim q f) s.tower

      exact_below : Exact lim q below
      exact_below = stays lim X s.sound (k - 1) (Exact lim q) (exact_down lim q) s.exact

  pub lift_held : (R : Reckoning) (X : State) → Held lim R X → (k : ℕ) (way : Lifting) (n : ℕ) → T (sound? lim X) → T (between 1 k lim.levels)
      → T (has_level? X (k - 1))
      → Ends (Held lim (record { basis = R.basis; h = k })) (λ number value. T (read_number? number)) (lift lim n X k way)
  lift_held R X none_held k way n s r c = absurd (sound_says lim empty s).levels
  lift_held R X (held {q} {f} {levels} {h} u) k way n s r c = go (lifted_to lim o X s k way n)
    where
      go : {x : Result State} → LiftedTo lim X k x → Ends (Held lim (record { basis = some (q, f); h = k }))
          (λ number value. T (read_number? number)) x
      go (one_more g w) = gives (held (level_stands q f levels h k u r (ltb→lt (k - 1) (length levels) c) g w))
      go (limit_met {number} t) = refuses (limit_read number t)
      go still_lifting = open_yet
