-- What a loop of steps has come to: after so many steps the run is where the loop is.
use mathlib.Core.Path.{◌≡◌, refl, sym, ap, ◌∙◌}
use mathlib.Core.Bool.{Bool, true, false}
use mathlib.Core.Option.{Option, none}
use mathlib.Core.List.{[], ◌∷◌}
use Prim.Native.Nat.{ℕ, suc, ◌+◌}
use native.Mathlib.Omega.{arith}
use lib.Dec.{T, eqb}
use lib.ListN.{length}
use Rattle.definitions.specs.Monomial.{Monomial, Vector, vector_of}
use Rattle.definitions.specs.Order.{Comparison}
use Rattle.definitions.specs.Result.{Result, done, refused, refusal, ◌>>=◌}
use Rattle.definitions.specs.Vectors.{descending}
use Rattle.definitions.specs.Stage.{Stage}
use Rattle.definitions.specs.Run.{Run, Strategy, Step, on, end, by_code, by_pick, step, continued, runs, run, add_products}
use Rattle.ending.specs.Good.{good?}
use Rattle.ending.specs.Well.{Well}
use Rattle.ending.proofs.Falling.{start_good}

nothing : (n : ℕ) → 0 + n ≡ n
nothing n = omega arith

one_inside : (a n : ℕ) → a + 1 + n ≡ a + suc n
one_inside a n = omega arith

module _ (S : Stage) (W : Strategy) where
  pub record Reached (from to : Run) : Type 0 where
    pub count : ℕ
    pub same : (n : ℕ) → runs S W (count + n) from ≡ runs S W n to

  pub reached_start : (r : Run) → Reached r r
  reached_start r = record { count = 0; same = λ n. ap (λ k. runs S W k r) (nothing n) }

  one_more : (from to : Run) (x : Reached from to) (s : Result Step) → s ≡ step S W to → (n : ℕ)
      → runs S W (x.count + 1 + n) from ≡ continued S (λ r. runs S W n r) s
  one_more from to x s e n =
      ap (λ k. runs S W k from) (one_inside x.count n) ∙ x.same (suc n) ∙ sym (ap (continued S (λ r. runs S W n r)) e)

  -- a step more
  pub reached_on : (from to next : Run) → Reached from to → done (on next) ≡ step S W to → Reached from next
  reached_on from to next x e = record { count = x.count + 1; same = one_more from to x (done (on next)) e }

  -- some bound suffices for this result
  abbrev pub Gives : Run → Result Vector → Type 0
  Gives r x = (k : ℕ) × (x ≡ runs S W k r)

  pub reached_refused : (from to : Run) (number place : ℕ) (value : Vector) → Reached from to → refused number place value ≡ step S W to
      → Gives from (refused number place value)
  reached_refused from to number place value x e = (x.count + 1 + 0, sym (one_more from to x (refused number place value) e 0))

  pub reached_end : (from to : Run) (v : Vector) → Reached from to → done (end v) ≡ step S W to
      → Gives from (done (descending S.above S.reduction.p v))
  reached_end from to v x e = (x.count + 1 + 0, sym (one_more from to x (done (end v)) e 0))

-- no term is picked from an empty value
none_picked : (order : Monomial → Monomial → Comparison) (code : ℕ) → none ≡ by_code order code []
none_picked order code = go (eqb code 1) (eqb code 2)
  where
    go : (one two : Bool) → ◌≡◌ {A = Option ℕ} none (elim one [ true ↦ none | false ↦ elim two [ true ↦ none | false ↦ none ] ])
    go true two = refl
    go false true = refl
    go false false = refl

-- "stop at zero"
pub step_ends : (S : Stage) (order : Monomial → Monomial → Comparison) (code : ℕ) (drops stops : Bool) (r : Run) → r.value ≡ []
    → done (end r.vector) ≡ step S (record { drops = drops; pick = by_code order code; stops = stops }) r
step_ends S order code drops stops r e =
    ap (by_pick S (record { drops = drops; pick = by_code order code; stops = stops }) r) (none_picked order code ∙ sym (ap (by_code order code) e))

-- ## From the start

module _ (S : Stage) (W : Strategy) (m : Monomial) where
  -- m·f_i: its products
  abbrev first_products : Result Vector
  first_products = add_products S.reduction W.drops 1 m.0 (vector_of S.family m.1) []

  abbrev with_frame_term : Result Vector → Result Run
  with_frame_term a = a >>= λ v. done (record { value = v; vector = (1, m) ∷ [] })

  -- the first products refused
  pub start_refused : (number : ℕ) → refusal number ≡ first_products → (k : ℕ) × (refusal number ≡ run S W k m)
  start_refused number e = (0, ap (λ a. with_frame_term a >>= λ r. runs S W 0 r) e)

  pub started_good : Well S → length m.0 ≡ 8 → (v : Vector) → done v ≡ first_products → T (good? v)
  started_good X l v e = start_good S X W m l (record { value = v; vector = (1, m) ∷ [] }) (sym (ap with_frame_term e))

  pub from_start : (v u : Vector) (x : Result Vector) → done v ≡ first_products → u ≡ (1, m) ∷ [] → Gives S W (record { value = v; vector = u }) x
      → (k : ℕ) × (x ≡ run S W k m)
  from_start v u x e h g = (
    g.0,
    g.1 ∙ ap (λ w. runs S W g.0 (record { value = v; vector = w })) h ∙ ap (λ a. with_frame_term a >>= λ r. runs S W g.0 r) e,
  )
