-- Acceptance after an addition: which frame terms have to be divided again. And what one try comes to, whatever bound on steps suffices.
use Rattle.std.specs.Prelude.{◌≡◌, [], ◌∷◌, ◌++◌, ℕ, ◌+◌, ◌-◌, ◌≤◌, drop}
use Rattle.definitions.specs.Limits.{Limits}
use Rattle.definitions.specs.Monomial.{Vector, Level}
use Rattle.definitions.specs.Result.{Result, done, refused, ◌>>=◌}
use Rattle.definitions.specs.Stage.{stage_over}
use Rattle.definitions.specs.Lifting.{limited_frame, accept_from, accept}
use Rattle.definitions.specs.Problem.{Bytes, Parameters, problem}
use Rattle.definitions.specs.State.{State}
use Rattle.definitions.specs.Calls.{accepted}

-- acceptance that passes over the first frame terms, so many of them; 15 as before, for all of them and before any division
abbrev pub accept_behind : Limits → ℕ → ℕ → Level → ℕ → ℕ → Result (Unit {0})
accept_behind lim p code f from n = limited_frame lim code f >>= λ ms. accept_from (stage_over lim p code (f ∷ [])) n (from + 1) (drop from ms)

abbrev pub accepted_behind : Limits → ℕ → ℕ → Parameters × Level → Result State
accepted_behind lim from n f = accept_behind lim f.0.p f.0.code f.1 from n >>= λ u. done (record { parameters = f.0; levels = f.1 ∷ [] })

-- 9 came at frame term t of f. With any element more at the end f's frame terms keep their numbers, those before t divide to zero as they did, and so
-- acceptance is that behind the first t − 1 terms: the same answer, whatever it is. Frame term t is divided again: its vector has one term more then, and
-- that may be 14
pub record Resumes (lim : Limits) : Type 0 where
  pub resumes : (q : Parameters) (f : Level) (v value : Vector) (t n k : ℕ) → accepted lim n (q, f) ≡ refused 9 t value → n ≤ k
      → accepted lim k (q, f ++ v ∷ []) ≡ accepted_behind lim (t - 1) k (q, f ++ v ∷ [])
  -- at first none is passed over
  pub begins : (q : Parameters) (f : Level) (n : ℕ) → accepted lim n (q, f) ≡ accepted_behind lim 0 n (q, f)

-- ## Whatever bound suffices

-- equal from some bound on
abbrev pub Same : {A : Type 0} → (ℕ → Result A) → (ℕ → Result A) → Type 0
Same F G = (least : ℕ) × ((n : ℕ) → least ≤ n → F n ≡ G n)

-- of the file's frame terms the first need no division, so many of them
abbrev pub Passed : Limits → Bytes → ℕ → Type 0
Passed lim file from = (f : Parameters × Level) → problem lim file ≡ done f → Same (λ n. accepted lim n f) (λ n. accepted_behind lim from n f)
