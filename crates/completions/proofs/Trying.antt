-- One try of a file: what acceptance answers, and what the program has then.
use mathlib.Core.Path.{◌≡◌, refl, sym, ap, ◌∙◌, subst}
use mathlib.Core.Bool.{true, false}
use mathlib.Core.List.{[], ◌∷◌, ◌++◌}
use Prim.Native.Nat.{ℕ, suc, ◌+◌, ◌-◌}
use native.Mathlib.Omega.{arith}
use lib.Dec.{T, eqb}
use lib.ListN.{drop}
use Rattle.definitions.specs.Limits.{Limits}
use Rattle.definitions.specs.Monomial.{Vector, Level}
use Rattle.definitions.specs.Result.{Result, done, refused, unfinished, finished?, ◌>>=◌}
use Rattle.definitions.specs.Stage.{stage_over}
use Rattle.definitions.specs.Lifting.{limited_frame, accept_from}
use Rattle.definitions.specs.Problem.{Bytes, Parameters, problem}
use Rattle.definitions.specs.State.{State}
use Rattle.definitions.specs.Calls.{accepted}
use Rattle.definitions.specs.Completing.{monic, with_element, with_value, by_acceptance, completed}
use Rattle.laws.proofs.Steady.{Steady, steady_fixed, steady_from, bind_steady, bind_fixed}
use Rattle.laws.proofs.Bound.{accept_from_steady}
use Rattle.files.specs.Files.{WellFormedFile}
use Rattle.files.specs.Answers.{Answered}
use Rattle.demands.specs.Exact.{ShowsWhy}
use Rattle.demands.specs.Demands
use Rattle.demands.specs.Demands.{sensible?, limit?, ReadRight, stopped}
use Rattle.demands.proofs.Reader.{files}
use Rattle.completions.specs.Resuming.{accepted_behind, Same, Passed}
use Rattle.completions.proofs.Completions.{not_nine, read_as, right, filled_value, next_file, tests, completed_steady, all_end}
use Rattle.completions.proofs.Resuming.{resumes}

-- ## From some bound on

pub same_at_once : {A : Type 0} {F G : ℕ → Result A} → ((n : ℕ) → F n ≡ G n) → Same F G
same_at_once e = (0, λ n l. e n)

pub same_then : {A : Type 0} {F G H : ℕ → Result A} → Same F G → Same G H → Same F H
same_then a b = (a.0 + b.0, λ n l. a.1 n (omega (arith, l)) ∙ b.1 n (omega (arith, l)))

pub same_finished : {A : Type 0} (F : ℕ → Result A) → Steady finished? F → (n : ℕ) (x : Result A) → T (finished? x) → x ≡ F n → Same F (λ n. x)
same_finished F s n x t e = (
  n,
  λ k l.
      let d : k ≡ n + (k - n) = omega (arith, l) in
      ap F d ∙ steady_from finished? F s n (k - n) (subst (λ y. T (finished? y)) e t) ∙ sym e,
)

behind_steady : (lim : Limits) (from : ℕ) (f : Parameters × Level) → Steady finished? (λ n. accepted_behind lim from n f)
behind_steady lim from f =
    bind_fixed (λ u. done (record { parameters = f.0; levels = f.1 ∷ [] }))
    (λ n. limited_frame lim f.0.code f.1 >>= λ ms. accept_from (stage_over lim f.0.p f.0.code (f.1 ∷ [])) n (from + 1) (drop from ms))
    (bind_steady (λ n. limited_frame lim f.0.code f.1)
    (λ n ms. accept_from (stage_over lim f.0.p f.0.code (f.1 ∷ [])) n (from + 1) (drop from ms))
    (steady_fixed finished? (limited_frame lim f.0.code f.1))
    (λ ms. accept_from_steady (stage_over lim f.0.p f.0.code (f.1 ∷ [])) (from + 1) (drop from ms)))

-- the division of the frame terms that were not passed over decides
pub behind_decides : (lim : Limits) (file : Bytes) (from : ℕ) → Passed lim file from → (f : Parameters × Level) → problem lim file ≡ done f
    → (n : ℕ) (x : Result State) → T (finished? x) → x ≡ accepted_behind lim from n f → Same (λ n. accepted lim n f) (λ n. x)
behind_decides lim file from p f e n x t a = same_then (p f e) (same_finished (λ n. accepted_behind lim from n f) (behind_steady lim from f) n x t a)

pub none_passed : (lim : Limits) (file : Bytes) → Passed lim file 0
none_passed lim file f e = same_at_once (λ n. (resumes lim).begins f.0 f.1 n)

-- ## One try

module _ (lim : Limits) (o : T (sensible? lim)) (file : Bytes) (f : Parameters × Level) (e : problem lim file ≡ done f) (left : ℕ) where
  w : WellFormedFile lim file f.0 f.1
  w = subst (Answered lim file) e ((files lim o).answered file)

  abbrev again : ℕ → Bytes → Result Bytes
  again n longer = completed lim n left longer

  -- acceptance answers x
  tried : {x : Result State} → Same (λ n. accepted lim n f) (λ n. x) → Same (λ n. completed lim n (suc left) file) (λ n. by_acceptance lim file f (again n) x)
  tried a = (
    a.0,
    λ n l.
        ap (λ y. y >>= λ f. by_acceptance lim file f (again n) (accepted lim n f)) e ∙ ap (by_acceptance lim file f (again n)) (a.1 n l),
  )

  pub tried_accepted : {X : State} → Same (λ n. accepted lim n f) (λ n. done X) → Same (λ n. completed lim n (suc left) file) (λ n. done file)
  tried_accepted a = tried a

  -- what a refusal is
  told : {x : Result State} → Same (λ n. accepted lim n f) (λ n. x) → ReadRight lim f.0 f.1 x
  told a = subst (ReadRight lim f.0 f.1) (a.1 a.0 (omega arith)) (right lim o file f.0 f.1 w a.0)

  other_number : (number place : ℕ) → ReadRight lim f.0 f.1 (refused number place []) → eqb number 9 ≡ false
  other_number number place (Demands.limited t) = not_nine number t
  other_number number place (stopped {value = v} i s) = let l = filled_value lim o file f.0 f.1 w v s in absurd (omega (arith, l))

  pub tried_refused : (number place : ℕ) → Same (λ n. accepted lim n f) (λ n. refused number place [])
      → Same (λ n. completed lim n (suc left) file) (λ n. refused number place [])
  tried_refused number place a = same_then (tried a) (same_at_once (λ n.
      ap (λ b. elim b [ true ↦ with_value lim file f [] >>= again n | false ↦ refused number place [] ]) (other_number number place (told a))))

  module _ (t : ℕ) (v : Vector) (a : Same (λ n. accepted lim n f) (λ n. refused 9 t v)) where
    shows : ShowsWhy lim f.0 f.1 v
    shows = shown 9 t v refl (told a)
      where
        shown : (number t : ℕ) (v : Vector) → number ≡ 9 → ReadRight lim f.0 f.1 (refused number t v) → ShowsWhy lim f.0 f.1 v
        shown number t v e (stopped i s) = s
        shown number t v e (Demands.limited m) = absurd (subst (λ k. T (limit? k)) e m)

    -- no room for the value
    pub tried_full : (number place : ℕ) → with_value lim file f v ≡ refused number place []
        → Same (λ n. completed lim n (suc left) file) (λ n. refused number place [])
    tried_full number place h = same_then (tried a) (same_at_once (λ n. ap (λ y. y >>= again n) h))

    pub tried_grown : (longer : Bytes) → with_value lim file f v ≡ done longer
        → Same (λ n. completed lim n (suc left) file) (λ n. completed lim n left longer)
    tried_grown longer h = same_then (tried a) (same_at_once (λ n. ap (λ y. y >>= again n) h))

    -- the longer file's elements
    grown_says : (longer : Bytes) → with_value lim file f v ≡ done longer → problem lim longer ≡ done (f.0, f.1 ++ monic f.0.p v ∷ [])
    grown_says longer h = good (with_value lim file f v) h
        (tests lim o file f.0 f.1 w v shows Good done (λ k. tt) (λ r k. tt) (λ r m k. tt)
        (λ r m k. read_as lim o (with_element f.0.n file f.1 (monic f.0.p v)) f.0 (f.1 ++ monic f.0.p v ∷ [])
        (next_file lim o file f.0 f.1 w v shows r m k)))
      where
        Good : Result Bytes → Type 0
        Good (done b) = problem lim b ≡ done (f.0, f.1 ++ monic f.0.p v ∷ [])
        Good (refused number place value) = Unit {0}
        Good unfinished = Unit {0}

        good : (x : Result Bytes) → x ≡ done longer → Good (x >>= done) → problem lim longer ≡ done (f.0, f.1 ++ monic f.0.p v ∷ [])
        good x e g = subst Good (ap (λ y. y >>= done) e) g

    -- and its frame terms before number t need no division
    pub grown_passes : (longer : Bytes) → with_value lim file f v ≡ done longer → Passed lim longer (t - 1)
    grown_passes longer h g e = subst (λ g. Same (λ n. accepted lim n g) (λ n. accepted_behind lim (t - 1) n g)) (one (sym (grown_says longer h) ∙ e)) (
      a.0,
      λ n l. (resumes lim).resumes f.0 f.1 (monic f.0.p v) v t n n (a.1 n l) (omega arith),
    )
      where
        one : {x y : Parameters × Level} → ◌≡◌ {A = Result (Parameters × Level)} (done x) (done y) → x ≡ y
        one {x} p = ap value p
          where
            value : Result (Parameters × Level) → Parameters × Level
            value (done z) = z
            value (refused number place v) = x
            value unfinished = x

-- a file that is not read
pub tried_unread : (lim : Limits) (file : Bytes) (left number place : ℕ) → problem lim file ≡ refused number place []
    → Same (λ n. completed lim n (suc left) file) (λ n. refused number place [])
tried_unread lim file left number place e =
    same_at_once (λ n. ap (λ y. y >>= λ f. by_acceptance lim file f (λ longer. completed lim n left longer) (accepted lim n f)) e)

-- the tries suffice
pub never_open : (lim : Limits) → T (sensible? lim) → (file : Bytes) → Same (λ n. completed lim n (suc lim.elements) file) (λ n. unfinished) → ⊥
never_open lim o file a =
    let ends = all_end lim o file in
    let s = steady_from finished? (λ n. completed lim n (suc lim.elements) file) (completed_steady lim o (suc lim.elements) file) ends.0 a.0
    ends.1 in
    subst (λ x. T (finished? x)) (sym s ∙ a.1 (ends.0 + a.0) (omega arith)) ends.1
