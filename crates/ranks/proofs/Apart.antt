-- Rows that are zero in the columns of other degrees, and their parts: the columns of one degree.
use mathlib.Core.Path.{◌≡◌, refl, sym, ap, ap₂, ◌∙◌}
use mathlib.Core.Bool.{Bool, true, false}
use mathlib.Core.List.{List, [], ◌∷◌}
use Prim.Native.Nat.{ℕ, zero, suc, ◌+◌, ◌%◌, ◌<◌}
use native.Mathlib.Nat.{mod-mod, add-zero}
use native.Mathlib.Omega.{arith}
use lib.Dec.{eqb}
use lib.ListN.{length, get_or}
use Rattle.definitions.specs.Lists.{map, choose}
use Rattle.definitions.specs.Field.{plus, times, minus, inverse}
use Rattle.definitions.specs.Places.{row_shift}
use Rattle.definitions.specs.Rank.{Row, Matrix}
use Rattle.definitions.specs.Minimal.{of_degree}
use Rattle.laws.proofs.Modular.{times_right}
use Rattle.theory.specs.Modular.{times_zero}
use Rattle.ranks.specs.Elimination.{add_multiple, cleared}

-- ## Members of a degree

pub of_degree_map : {A B : Type 0} (f : A → B) (t : ℕ) (ds : List ℕ) (l : List A) → of_degree t ds (map f l) ≡ map f (of_degree t ds l)
of_degree_map f t [] l = refl
of_degree_map f t (d ∷ ds) [] = refl
of_degree_map {A} {B} f t (d ∷ ds) (a ∷ l) = go (eqb (d + row_shift) t) (of_degree_map f t ds l)
  where
    go : (b : Bool) → of_degree t ds (map f l) ≡ map f (of_degree t ds l)
        → ◌≡◌ {A = List B} (elim b [ true ↦ f a ∷ of_degree t ds (map f l) | false ↦ of_degree t ds (map f l) ])
        (map f (elim b [ true ↦ a ∷ of_degree t ds l | false ↦ of_degree t ds l ]))
    go true e = ap {B = List B} (λ r. f a ∷ r) e
    go false e = e

module _ (t : ℕ) (es : List ℕ) where
  -- the columns of that degree
  abbrev pub part : Row → Row
  part w = of_degree t es w

  -- column c of whole rows is column c' of the parts
  abbrev pub SameColumn : ℕ → ℕ → Type 0
  SameColumn c c' = (w : Row) → length w ≡ length es → get_or (part w) c' 0 ≡ get_or w c 0

-- ## Rows apart

module _ (p : ℕ) where
  -- a row of degree d: a number for each column, of degrees es, zero modulo p in those of other degrees
  abbrev pub Apart : List ℕ → ℕ → Row → Type 0
  Apart [] d [] = Unit {0}
  Apart [] d (x ∷ w) = ⊥
  Apart (e ∷ es) d [] = ⊥
  Apart (e ∷ es) d (x ∷ w) = (¬ (e ≡ d) → x % p ≡ 0) × Apart es d w

  -- .. of degrees ds
  abbrev pub Aparts : List ℕ → List ℕ → Matrix → Type 0
  Aparts es [] [] = Unit {0}
  Aparts es [] (w ∷ M) = ⊥
  Aparts es (d ∷ ds) [] = ⊥
  Aparts es (d ∷ ds) (w ∷ M) = Apart es d w × Aparts es ds M

  pub apart_length : (es : List ℕ) (d : ℕ) (w : Row) → Apart es d w → length w ≡ length es
  apart_length [] d [] a = refl
  apart_length [] d (x ∷ w) a = absurd a
  apart_length (e ∷ es) d [] a = absurd a
  apart_length (e ∷ es) d (x ∷ w) a = ap suc (apart_length es d w a.1)

  -- in a column of another degree
  pub apart_zero : (es : List ℕ) (d : ℕ) (w : Row) → Apart es d w → (k : ℕ) → k < length es → ¬ (get_or es k 0 ≡ d) → get_or w k 0 % p ≡ 0
  apart_zero [] d w a k h n = absurd (omega arith)
  apart_zero (e ∷ es) d [] a k h n = absurd a
  apart_zero (e ∷ es) d (x ∷ w) a zero h n = a.0 n
  apart_zero (e ∷ es) d (x ∷ w) a (suc k) h n = apart_zero es d w a.1 k (omega arith) n

  zero_sum : (s x y : ℕ) → x % p ≡ 0 → y % p ≡ 0 → plus p y (times p s x) % p ≡ 0
  zero_sum s x y h k =
      mod-mod (y + times p s x) p ∙ ap (plus p y) (sym (times_right p s x) ∙ ap (times p s) h ∙ times_zero p s) ∙ ap (λ z. z % p) (add-zero y) ∙ k

  pub apart_multiple : (s : ℕ) (es : List ℕ) (d : ℕ) (v w : Row) → Apart es d v → Apart es d w → Apart es d (add_multiple p s v w)
  apart_multiple s [] d [] w a b = b
  apart_multiple s [] d (x ∷ v) w a b = absurd a
  apart_multiple s (e ∷ es) d [] w a b = absurd a
  apart_multiple s (e ∷ es) d (x ∷ v) [] a b = absurd b
  apart_multiple s (e ∷ es) d (x ∷ v) (y ∷ w) a b = (λ n. zero_sum s x y (a.0 n) (b.0 n), apart_multiple s es d v w a.1 b.1)

  -- ## A row and its part of a degree

  multiple_part : (s t : ℕ) (es : List ℕ) (v w : Row) → length v ≡ length es → length w ≡ length es
      → of_degree t es (add_multiple p s v w) ≡ add_multiple p s (of_degree t es v) (of_degree t es w)
  multiple_part s t [] v w h k = refl
  multiple_part s t (e ∷ es) [] w h k = absurd (omega arith)
  multiple_part s t (e ∷ es) (x ∷ v) [] h k = absurd (omega arith)
  multiple_part s t (e ∷ es) (x ∷ v) (y ∷ w) h k = go (eqb (e + row_shift) t) (multiple_part s t es v w (omega arith) (omega arith))
    where
      go : (b : Bool) → of_degree t es (add_multiple p s v w) ≡ add_multiple p s (of_degree t es v) (of_degree t es w)
          → ◌≡◌ {A = Row} (elim b [ true ↦ plus p y (times p s x) ∷ of_degree t es (add_multiple p s v w) | false ↦ of_degree t es (add_multiple p s v w) ])
          (add_multiple p s (elim b [ true ↦ x ∷ of_degree t es v | false ↦ of_degree t es v ])
          (elim b [ true ↦ y ∷ of_degree t es w | false ↦ of_degree t es w ]))
      go true r = ap {B = Row} (λ l. plus p y (times p s x) ∷ l) r
      go false r = r

  module _ (t : ℕ) (es : List ℕ) where
    pub cleared_part : (c c' : ℕ) → SameColumn t es c c' → (v w : Row) → length v ≡ length es → length w ≡ length es
        → part t es (cleared p c v w) ≡ cleared p c' (part t es v) (part t es w)
    cleared_part c c' same v w h k =
        split (eqb (get_or w c 0 % p) 0)
        ∙ ap₂ (λ a x. choose (eqb (a % p) 0) (part t es w) (add_multiple p (minus p (times p a (inverse p x))) (part t es v) (part t es w)))
        (sym (same w k)) (sym (same v h))
      where
        s : ℕ
        s = minus p (times p (get_or w c 0) (inverse p (get_or v c 0)))

        split : (b : Bool) → part t es (choose b w (add_multiple p s v w)) ≡ choose b (part t es w) (add_multiple p s (part t es v) (part t es w))
        split true = refl
        split false = multiple_part s t es v w h k
