-- The quotients and the remainder of a division have no more terms than their limits say.
use mathlib.Core.Bool.{Bool, true, false}
use mathlib.Core.Option.{Option, none, some}
use mathlib.Core.List.{[], ◌∷◌, ◌++◌}
use Prim.Native.Nat.{ℕ, zero, suc, ◌<◌, ◌≤◌}
use native.Mathlib.Omega.{arith}
use lib.Dec.{T, ltb, ltb→lt}
use lib.ListN.{length, get_or, length-append}
use Rattle.definitions.specs.Lists.{without}
use Rattle.definitions.specs.Field.{minus}
use Rattle.definitions.specs.Monomial.{Exponents, Term, no_term, vector_of}
use Rattle.definitions.specs.Reducer.{Answer, reducer, lower_order, answer}
use Rattle.definitions.specs.Result.{Result, done, refused, unfinished, ◌>>=◌}
use Rattle.definitions.specs.Vectors.{appended}
use Rattle.definitions.specs.Stage.{Reduction, Stage}
use Rattle.definitions.specs.Run.{greatest, add_products}
use Rattle.demands.proofs.Results.{Gives, gives, refuses, open_yet, ends_then}
use Rattle.demands.proofs.Short.{store_short}
use Rattle.definitions.specs.Membership.{Division, divided, moved, by_reducer, division_step, divide_by, divide}

module _ (S : Stage) where
  abbrev R : Reduction
  R = S.reduction

  pub record Short (d : Division) : Type 0 where
    pub quotients : length d.quotients ≤ S.reduction.limits.vector
    pub remainder : length d.remainder ≤ S.reduction.limits.working

  any : {A : Type 0} (x : Result A) → Gives (λ a. Unit {0}) x
  any (done a) = gives tt
  any (refused number place value) = refuses tt
  any unfinished = open_yet

  divided_short : (d : Division) → Short d → (j c : ℕ) (q : Exponents) → Gives Short (divided S d j c q)
  divided_short d s j c q =
      ends_then (store_short tt R.limits.vector R.p (c, (q, j)) d.quotients s.quotients) (λ w l.
      ends_then (any (add_products R false (minus R.p c) q (vector_of S.family j) d.value))
      (λ v u. gives (record { quotients = l; remainder = s.remainder })))

  moved_short : (d : Division) → Short d → (i : ℕ) (t : Term) → Gives Short (moved S d i t)
  moved_short d s i t = go (ltb (length d.remainder) R.limits.working) (ltb→lt (length d.remainder) R.limits.working)
    where
      go : (b : Bool) → (T b → length d.remainder < R.limits.working)
          → Gives Short (appended b t d.remainder >>= λ r. done (record { value = without i d.value; quotients = d.quotients; remainder = r }))
      go false l = refuses tt
      go true l =
          let k : length d.remainder < R.limits.working = l tt in
          let m : length (d.remainder ++ t ∷ []) ≤ R.limits.working = omega (arith, length-append d.remainder (t ∷ [])) in
          gives (record { quotients = s.quotients; remainder = m })

  step_short : (d : Division) → Short d → (i : ℕ) (t : Term) → Gives Short (division_step S d i t)
  step_short d s i t = go (answer R.p R.heads t)
    where
      go : (a : Answer) → Gives Short (by_reducer S d i t a)
      go (reducer j c q) = divided_short d s j c q
      go lower_order = moved_short d s i t

  pub divide_short : (n : ℕ) (d : Division) → Short d → Gives Short (divide S n d)
  divide_short zero d s = open_yet
  divide_short (suc n) d s = go (greatest S.below d.value) (divide_short n)
    where
      go : (o : Option ℕ) → ((e : Division) → Short e → Gives Short (divide S n e)) → Gives Short (divide_by S (divide S n) d o)
      go none ih = gives s
      go (some i) ih = ends_then (step_short d s i (get_or d.value i no_term)) ih
