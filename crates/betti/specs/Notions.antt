-- Plain notions for request A1: elements with terms of two degrees, the generators of a column, rows in use, lines of 72 columns.
use Rattle.std.specs.Prelude.{◌≡◌, Bool, List, [], ℕ, zero, suc, ◌+◌, ◌<◌, ◌≤◌, leb, ltb, eqb, length}
use Rattle.definitions.specs.Limits.{Limits}
use Rattle.definitions.specs.Lists.{◌and◌, choose, count, from}
use Rattle.definitions.specs.Monomial.{Monomial, Term, Vector, Level, vector_of}
use Rattle.definitions.specs.Problem.{Line, Parameters}
use Rattle.definitions.specs.Degrees.{component_degree, degree_of}
use Rattle.definitions.specs.Places.{most_exponent, most_components, most_elements, most_vectors, most_levels, page_columns, row_shift, page_line_length}
use Rattle.demands.specs.Notions.{Member}
use Rattle.demands.specs.Demands.{level_of}
use Rattle.degrees.specs.Notions.{levels_below}

-- limits for which a page has room: at most document 01's
abbrev pub paged? : Limits → Bool
paged? lim =
    leb lim.exponent most_exponent and leb lim.components most_components and leb lim.elements most_elements and
    leb lim.vectors most_vectors and leb lim.levels most_levels

-- ## Elements

module _ {A : Type 0} (by : Monomial → A) where
  -- it "has terms of two degrees"; a degree is a number, or two side by side (A14)
  pub record TwoDegrees (f : Vector) : Type 0 where
    pub one : Term
    pub other : Term
    pub in_it : Member one f
    pub too : Member other f
    pub differ : ¬ (by one.1 ≡ by other.1)

  -- element i is "the first such element"
  pub record FirstMixed (f : Level) (i : ℕ) : Type 0 where
    pub low : 1 ≤ i
    pub high : i ≤ length f
    pub mixed : TwoDegrees (vector_of f i)
    pub none_before : (j : ℕ) → 1 ≤ j → j < i → ¬ (TwoDegrees (vector_of f j))

  -- there is none
  abbrev pub Homogeneous : Level → Type 0
  Homogeneous f = (i : ℕ) → 1 ≤ i → i ≤ length f → ¬ (TwoDegrees (vector_of f i))

-- ## Columns and rows

-- level k, of levels held highest first; none of it where it is not there
abbrev pub listed_level : List Level → ℕ → Level
listed_level levels k = choose (ltb k (length levels)) (level_of levels k) []

-- "Column 0 counts components, column 1 the elements, column k + 1 the vectors of level k. A vector's degree is the total degree of its frame term's
-- image monomial in level 0's free module", its component's degree included: how many of column c have degree x
abbrev pub generators : Parameters → List Level → ℕ → ℕ → ℕ
generators q levels zero x = count (λ i. eqb (component_degree q.degrees i) x) (from 1 q.s)
generators q levels (suc k) x = count (λ v. eqb (degree_of q.degrees (levels_below levels k) v) x) (listed_level levels k)

-- how many there are
abbrev pub all_generators : Parameters → List Level → ℕ → ℕ
all_generators q levels zero = q.s
all_generators q levels (suc k) = length (listed_level levels k)

-- "The row is the degree minus the column": row r, counted from −10, has a generator
pub record InUse (q : Parameters) (levels : List Level) (r : ℕ) : Type 0 where
  pub column : ℕ
  pub inside : column < page_columns
  pub degree : ℕ
  pub row : degree + row_shift ≡ r + column
  pub some_there : 0 < generators q levels column degree

-- ## Lines

-- "exactly 72 columns", and ended
abbrev pub line_wide? : Line → Bool
line_wide? l = l.1 and eqb (suc (length l.0)) page_line_length
