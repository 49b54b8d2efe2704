-- What a loop of steps has come to: after so many steps the division is where the loop is.
use mathlib.Core.Path.{◌≡◌, refl, sym, ap, ◌∙◌}
use mathlib.Core.Option.{some}
use mathlib.Core.List.{[], ◌∷◌}
use Prim.Native.Nat.{ℕ, suc, ◌+◌, ◌<◌, ◌≤◌}
use native.Mathlib.Omega.{arith}
use lib.Dec.{T}
use lib.ListN.{length}
use Rattle.definitions.specs.Monomial.{Monomial, Vector}
use Rattle.definitions.specs.Order.{Comparison}
use Rattle.definitions.specs.Result.{Result, done, refusal, ◌>>=◌}
use Rattle.definitions.specs.Stage.{Stage}
use Rattle.definitions.specs.Run.{greatest}
use Rattle.definitions.specs.Membership.{Division, divide_by, divide}
use Rattle.ending.specs.Good.{good?}
use Rattle.ending.specs.Spent.{spent}
use Rattle.ending.specs.Well.{Well}
use Rattle.members.proofs.Ending.{division_step_keeps, division_step_spends}
use Rattle.dividing.specs.steps.Divisions.{stepped}

module _ (S : Stage) where
  pub record Reached (from to : Division) : Type 0 where
    pub count : ℕ
    pub same : (n : ℕ) → divide S (count + n) from ≡ divide S n to

  pub reached_start : (d : Division) → Reached d d
  reached_start d = record { count = 0; same = λ n. let e : 0 + n ≡ n = omega arith in ap (λ k. divide S k d) e }

  one_more : (from to : Division) (x : Reached from to) (i : ℕ) → greatest S.below to.value ≡ some i → (s : Result Division)
      → s ≡ stepped S to (some i) → (n : ℕ) → divide S (x.count + 1 + n) from ≡ s >>= divide S n
  one_more from to x i p s e n =
      let k : x.count + 1 + n ≡ x.count + suc n = omega arith in
      ap (λ m. divide S m from) k ∙ x.same (suc n) ∙ ap (divide_by S (divide S n) to) p ∙ sym (ap (λ y. y >>= divide S n) e)

  pub reached_on : (from to next : Division) → Reached from to → (i : ℕ) → greatest S.below to.value ≡ some i
      → done next ≡ stepped S to (some i) → Reached from next
  reached_on from to next x i p e = record { count = x.count + 1; same = one_more from to x i p (done next) e }

  -- some bound suffices for this result
  abbrev pub Gives : Division → Result Division → Type 0
  Gives d x = (k : ℕ) × (x ≡ divide S k d)

  pub reached_refused : (from to : Division) (number : ℕ) → Reached from to → (i : ℕ) → greatest S.below to.value ≡ some i
      → refusal number ≡ stepped S to (some i) → Gives from (refusal number)
  reached_refused from to number x i p e = (x.count + 1 + 0, sym (one_more from to x i p (refusal number) e 0))

  -- "stop at zero"
  pub reached_end : (from to : Division) → Reached from to → to.value ≡ []
      → Gives from (done (record { value = []; quotients = to.quotients; remainder = to.remainder }))
  reached_end from to x e = (
    x.count + 1,
    sym (x.same 1 ∙ (λ k. divide_by S (divide S 0) (record { value = e k; quotients = to.quotients; remainder = to.remainder })
        (greatest S.below (e k)))),
  )

-- ## The value falls

-- a value that is not empty has a greatest term
pub some_greatest : (order : Monomial → Monomial → Comparison) (v : Vector) → 0 < length v → (i : ℕ) × (greatest order v ≡ some i)
some_greatest order [] l = absurd (omega arith)
some_greatest order (t ∷ v) l = (_, refl)

module _ (S : Stage) (X : Well S) (room : 1 ≤ S.reduction.limits.vector) (d d' : Division) (g : T (good? d.value)) (i : ℕ)
    (p : greatest S.below d.value ≡ some i) (e : done d' ≡ stepped S d (some i)) where
  pub step_keeps : T (good? d'.value)
  step_keeps = division_step_keeps S X room d d' g i p (sym e)

  pub step_spends : spent S.reduction.p S.reduction.heads S.family d'.value
      < spent S.reduction.p S.reduction.heads S.family d.value
  step_spends = division_step_spends S X room d d' g i p (sym e)
