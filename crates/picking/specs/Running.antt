-- "A3. Running greatest in pick code 1."
use Rattle.std.specs.Prelude.{◌≡◌, List, [], ◌∷◌, ℕ, suc, T, eqb, length, get_or}
use Rattle.std.proofs.Math.Option.{Option, none, some}
use Rattle.definitions.specs.Limits.{Limits}
use Rattle.definitions.specs.Lists.{every}
use Rattle.definitions.specs.Monomial.{Monomial, Vector, Level, no_term}
use Rattle.definitions.specs.Order.{Comparison, greater, equal, smaller, or_at_tie, numbers, image, compare_over}
use Rattle.definitions.specs.Run.{greatest}
use Rattle.definitions.specs.State.{State, sound?, up_to}
use Rattle.comparing.specs.Above.{GreatestOf}

-- ## The search

-- a term's place and monomial, and beside them its image
pub record Running : Type 0 where
  pub place : ℕ
  pub monomial : Monomial
  pub beside : Monomial

abbrev pub running_at : Level → ℕ → Monomial → Running
running_at f i m = record { place = i; monomial = m; beside = image f m }

-- the induced order over f and the levels below it, by the images that stand there
abbrev pub against : ℕ → List Level → Running → Running → Comparison
against code below x y = or_at_tie (compare_over code below x.beside y.beside) (numbers x.monomial.1 y.monomial.1)

abbrev pub if_greater : Comparison → Running → Running → Running
if_greater greater x y = x
if_greater equal x y = y
if_greater smaller x y = y

abbrev pub running_from : ℕ → Level → List Level → ℕ → Running → Vector → Running
running_from code f below i x [] = x
running_from code f below i x (t ∷ v) = let y = running_at f i t.1 in running_from code f below (suc i) (if_greater (against code below y x) y x) v

-- over f and the levels below it; on level 0's module monomials are their own images
abbrev pub greatest_beside : ℕ → Level → List Level → Vector → Option ℕ
greatest_beside code f below [] = none
greatest_beside code f below (t ∷ v) = some (running_from code f below 1 (running_at f 0 t.1) v).place

-- ## What is promised

abbrev pub monomials : Vector → List Monomial
monomials [] = []
monomials (t ∷ v) = t.1 ∷ monomials v

pub record A3 (lim : Limits) : Type 0 where
  -- "at each step it is that term's image"
  pub image_kept : (code : ℕ) (f : Level) (below : List Level) (i : ℕ) (x : Running) (v : Vector) → x.beside ≡ image f x.monomial
      → (running_from code f below i x v).beside ≡ image f (running_from code f below i x v).monomial
  -- "Nothing seen from outside changes.": the place is that of the definitions' pick code 1
  pub same_place : (code : ℕ) (f : Level) (below : List Level) (v : Vector) → greatest_beside code f below v
      ≡ greatest (compare_over code (f ∷ below)) v
  -- "and the term found is the greatest of the working value": over levels 0 to k of every sound state, for every value of terms with eight exponents
  pub is_greatest : (X : State) → T (sound? lim X) → (k : ℕ) (v : Vector) → T (every (λ t. eqb (length t.1.0) 8) v)
      → (i : ℕ) → greatest (compare_over X.parameters.code (up_to X k)) v ≡ some i
      → GreatestOf X.parameters.code (up_to X k) (monomials v) (get_or v i no_term).1
