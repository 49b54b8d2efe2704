-- "The frame": what makes a list of terms the minimal generators of all leading syzygies, numbered as document 01 says.
use Rattle.std.specs.Prelude.{◌≡◌, ◌⊎◌, List, [], ◌∷◌, ℕ, ◌-◌, ◌<◌, T, length}
use Rattle.definitions.specs.Lists.{between}
use Rattle.definitions.specs.Monomial.{Monomial, Level, product, divides_monomial?, leading, vector_of}
use Rattle.definitions.specs.Order.{smaller, exponents_by}
use Rattle.demands.specs.Notions.{Member}

-- m·LM f_i, of the module monomial m·e_i
abbrev pub times_leading : Level → Monomial → Monomial
times_leading f t = (product t.0 (leading (vector_of f t.1)).0, (leading (vector_of f t.1)).1)

-- m·e_i is a leading syzygy: m·LM f_i is a multiple of some LM f_j with j < i
pub record LeadingSyzygy (f : Level) (t : Monomial) : Type 0 where
  pub in_range : T (between 1 t.1 (length f))
  pub j : ℕ
  pub earlier : T (between 1 j (t.1 - 1))
  pub divides : T (divides_monomial? (leading (vector_of f j)) (times_leading f t))

-- "Numbered by i ascending, then monomial ascending", in the order of the code
abbrev pub Before : ℕ → Monomial → Monomial → Type 0
Before code t u = (t.1 < u.1) ⊎ ((t.1 ≡ u.1) × (exponents_by code t.0 u.0 ≡ smaller))

-- each before all that follow it
abbrev pub BeforeAll : ℕ → Monomial → List Monomial → Type 0
BeforeAll code t [] = Unit {0}
BeforeAll code t (u ∷ ts) = Before code t u × BeforeAll code t ts

abbrev pub Ascending : ℕ → List Monomial → Type 0
Ascending code [] = Unit {0}
Ascending code (t ∷ ts) = BeforeAll code t ts × Ascending code ts

pub record IsFrame (code : ℕ) (f : Level) (ts : List Monomial) : Type 0 where
  -- it generates: a listed term divides each leading syzygy
  pub covers : (t : Monomial) → length t.0 ≡ 8 → LeadingSyzygy f t → (u : Monomial) × Member u ts × T (divides_monomial? u t)
  -- nothing else is listed
  pub only : (t : Monomial) → Member t ts → (length t.0 ≡ 8) × LeadingSyzygy f t
  -- minimal: no term divides another
  pub minimal : (t u : Monomial) → Member t ts → Member u ts → T (divides_monomial? t u) → t ≡ u
  pub numbered : Ascending code ts
