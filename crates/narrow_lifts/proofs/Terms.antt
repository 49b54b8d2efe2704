-- Where 14 comes for a working value: a product that is kept, has no equal monomial there, and would be one term more than there is room for.
use mathlib.Core.Path.{◌≡◌, refl, sym, ap, subst}
use mathlib.Core.Logic.{◌↔◌}
use mathlib.Core.Bool.{Bool, true, false, not}
use mathlib.Core.Option.{Option, none, some, none-ne-some}
use mathlib.Core.List.{[]}
use Prim.Native.Nat.{ℕ, ◌<◌, ◌≤◌}
use native.Mathlib.Omega.{arith}
use lib.Dec.{T, ltb, ltb→lt, lt→ltb}
use lib.ListN.{length}
use Rattle.definitions.specs.Monomial.{Term, Vector, fits?}
use Rattle.definitions.specs.Result.{Result, done, refused, unfinished, refusal}
use Rattle.definitions.specs.Vectors.{combined, appended, or_last}
use Rattle.definitions.specs.Stage.{Reduction, Stage, narrowed}
use Rattle.definitions.specs.Run.{dropped?, unless_dropped, if_fits, add_term}

abbrev number_of : Result Vector → ℕ
number_of (done v) = 0
number_of (refused number place value) = number
number_of unfinished = 0

-- whether a result is 14 can be told from its number
no_14 : (x : Result Vector) → ¬ (number_of x ≡ 14) → x ≡ refused 14 0 [] → ⊥
no_14 x h e = h (ap number_of e)

module _ (w : ℕ) (t : Term) (v : Vector) where
  -- a product tested for 13, for being dropped, and for an equal monomial
  abbrev tested : Bool → Bool → Option Vector → Result Vector
  tested false d o = refusal 13
  tested true true o = done v
  tested true false o = or_last w t v o

  full : (b : Bool) → (T b → length v < w) → (length v < w → T b) → (appended b t v ≡ refused 14 0 []) ↔ (w ≤ length v)
  full true f g = (λ e. absurd (no_14 (appended true t v) (λ z. let i : ◌≡◌ {A = ℕ} 0 14 = z in omega arith) e), λ l. absurd (omega (arith, f tt, l)))
  full false f g = (λ e. omega (arith, g), λ l. refl)

  tested_14 : (b d : Bool) (o : Option Vector) → (tested b d o ≡ refused 14 0 []) ↔ (T b × T (not d) × (o ≡ none) × (w ≤ length v))
  tested_14 false d o = (λ e. absurd (no_14 (tested false d o) (λ z. let i : ◌≡◌ {A = ℕ} 13 14 = z in omega arith) e), λ h. absurd h.0)
  tested_14 true true o = (λ e. absurd (no_14 (tested true true o) (λ z. let i : ◌≡◌ {A = ℕ} 0 14 = z in omega arith) e), λ h. absurd h.1)
  tested_14 true false (some u) = (
    λ e. absurd (no_14 (tested true false (some u)) (λ z. let i : ◌≡◌ {A = ℕ} 0 14 = z in omega arith) e),
    λ h. absurd (none-ne-some u (sym h.2)),
  )
  tested_14 true false none =
      let f = full (ltb (length v) w) (ltb→lt (length v) w) (lt→ltb (length v) w) in
      (λ e. (tt, tt, refl, f.0 e), λ h. f.1 h.3)

pub term_14 : (S : Stage) (w : ℕ) (drops : Bool) (t : Term) (v : Vector)
    → (add_term (narrowed w S).reduction drops t v ≡ refused 14 0 [])
    ↔ (T (fits? S.reduction.limits.exponent t.1.0) × T (not (dropped? (narrowed w S).reduction drops t.1))
    × (combined S.reduction.p t v ≡ none) × (w ≤ length v))
term_14 S w drops t v =
    subst (λ r. (r ≡ refused 14 0 []) ↔ (T (fits? S.reduction.limits.exponent t.1.0) × T (not (dropped? R drops t.1))
    × (combined S.reduction.p t v ≡ none) × (w ≤ length v))) (sym (fitting (fits? S.reduction.limits.exponent t.1.0)))
    (tested_14 w t v (fits? S.reduction.limits.exponent t.1.0) (dropped? R drops t.1) (combined S.reduction.p t v))
  where
    R : Reduction
    R = (narrowed w S).reduction

    kept : (d : Bool) → unless_dropped d R t v ≡ tested w t v true d (combined S.reduction.p t v)
    kept true = refl
    kept false = refl

    fitting : (b : Bool) → if_fits b R drops t v ≡ tested w t v b (dropped? R drops t.1) (combined S.reduction.p t v)
    fitting false = refl
    fitting true = kept (dropped? R drops t.1)
