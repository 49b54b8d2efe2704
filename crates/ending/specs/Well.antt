-- What the argument that runs end asks of a stage: a prime, an order with its laws, and strictly descending vectors. A Gröbner basis is not
-- asked for, so that it holds while accepting and in altered states too.
use Rattle.std.specs.Prelude.{◌≡◌, ◌≢◌, List, [], ◌∷◌, ℕ, ◌%◌, ◌<◌, ◌≤◌, T, length}
use Rattle.std.proofs.Math.Option.{Option, some}
use Rattle.definitions.specs.Limits.{Limits}
use Rattle.definitions.specs.Monomial.{Monomial, Term, Vector, Level}
use Rattle.definitions.specs.Order.{Comparison, compare_over}
use Rattle.definitions.specs.Reducer.{heads}
use Rattle.definitions.specs.Vectors.{strictly_descending?}
use Rattle.definitions.specs.Stage.{Stage}
use Rattle.laws.proofs.Modular.{Prime}
use Rattle.laws.proofs.Members.{All}
use Rattle.laws.proofs.Induced.{Shaped, ModuleOrder}

-- a term with eight exponents, its component counted from 1, its coefficient not zero modulo p
pub record Proper (p : ℕ) (t : Term) : Type 0 where
  pub shaped : Shaped 8 t.1
  pub coefficient : t.0 % p ≢ 0

-- a vector of such terms, strictly descending; it may be empty
pub record Descending (p : ℕ) (order : Monomial → Monomial → Comparison) (v : Vector) : Type 0 where
  pub proper : All (Proper p) v
  pub strictly : T (strictly_descending? order v)

-- levels of such vectors, the highest first
abbrev pub DescendingLevels : ℕ → ℕ → List Level → Type 0
DescendingLevels p code [] = Unit {0}
DescendingLevels p code (f ∷ below) = All (Descending p (compare_over code below)) f × DescendingLevels p code below

pub record Well (S : Stage) : Type 0 where
  pub prime : Prime S.reduction.p
  pub small : S.reduction.limits.exponent ≤ 255
  pub heads_are : S.reduction.heads ≡ heads S.reduction.p S.family
  pub order : ModuleOrder 8 S.below
  pub family : All (Descending S.reduction.p S.below) S.family

-- a pick answers a place inside the value
abbrev pub Picks : (Vector → Option ℕ) → Type 0
Picks pick = (v : Vector) (i : ℕ) → pick v ≡ some i → i < length v

-- what the argument asks of the limits, to read a file and to run
pub record Bytewise (lim : Limits) : Type 0 where
  pub exponents : lim.exponent ≤ 255
  pub variables : lim.variables ≤ 8
