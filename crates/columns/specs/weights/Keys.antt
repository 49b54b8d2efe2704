-- A bidegree as one number, its key (A14): the first times second-base, and the second, which is below that. A monomial's key is a weighted sum, too.
use Rattle.std.specs.Prelude.{◌≡◌, List, [], ◌++◌, ℕ, ◌+◌, ◌-◌, ◌*◌, ◌/◌, ◌%◌, ◌<◌, ◌≤◌, length, get_or, take, replicate}
use Rattle.definitions.specs.Limits.{document_01}
use Rattle.definitions.specs.Lists.{map}
use Rattle.definitions.specs.Monomial.{Level, leading}
use Rattle.definitions.specs.Problem.{pairs}
use Rattle.definitions.specs.Layout.{Words, row_at, decode, degrees_at}
use Rattle.definitions.specs.Columns.{columns}
use Rattle.definitions.specs.Bidegrees.{Bidegree, degree_weighted}
use Rattle.definitions.specs.Places.{
  exponents_length,
  most_exponent,
  most_degree,
  most_weight,
  most_components,
  most_vectors,
  all_levels,
  second_base,
}
use Rattle.reducers.specs.tables.Cuts.{start_of}

abbrev pub key : Bidegree → ℕ
key x = x.0 * second_base + x.1

-- the bidegree of a key
abbrev pub parted : ℕ → Bidegree
parted x = (x / second_base, x % second_base)

-- ## Weights

-- a1,b1,..,an,bn of the sixteen numbers that are read
abbrev pub weights_of : ℕ → List ℕ → List (ℕ × ℕ)
weights_of n ws = pairs (take (2 * n) ws)

-- a key for each variable, zero for those past n
abbrev pub key_weights : ℕ → List ℕ → List ℕ
key_weights n ws = map key (weights_of n ws) ++ replicate (exponents_length - n) 0

-- "with D added to the first"
abbrev pub key_degrees : List ℕ → List ℕ
key_degrees d = map (λ x. x * second_base) d

-- no number of the list is above b
abbrev pub AtMost : ℕ → List ℕ → Type 0
AtMost b l = (i : ℕ) → get_or l i 0 ≤ b

-- the largest key of a weight, and of eight exponents
abbrev pub most_key_weight : ℕ
most_key_weight = most_weight * second_base + most_weight

abbrev pub most_key : ℕ
most_key = exponents_length * most_exponent * most_key_weight

-- .. of a generator: a component's, and eight exponents' for each level
abbrev pub most_keys : ℕ
most_keys = all_levels * most_key + most_degree * second_base

-- ## Columns

-- the first r numbers of d are the keys of the vectors, over those of components
abbrev pub Weighed : List ℕ → List ℕ → Words → Words → ℕ → List ℕ → Type 0
Weighed kw below level ends r d = (j : ℕ) → j < r → get_or d j 0 ≡ degree_weighted kw below (row_at level (start_of ends j)).1

-- the keys of a level's vectors, over those of the components of its module
abbrev pub keys_over : List ℕ → List ℕ → Level → List ℕ
keys_over kw below f = map (λ v. degree_weighted kw below (leading v)) f

-- the keys of the generators of each column, those of column c
abbrev pub keys_of : List ℕ → Words → List (List ℕ)
keys_of kw s = map (map (degree_weighted kw (key_degrees (degrees_at document_01 s)))) (columns (decode document_01 s))

abbrev pub column_keys : List ℕ → Words → ℕ → List ℕ
column_keys kw s c = get_or (keys_of kw s) c []

-- the components' keys, where a state has r of them
pub record Components (s : Words) (r : ℕ) (keys : List ℕ) : Type 0 where
  pub held : take r keys ≡ key_degrees (degrees_at document_01 s)
  pub many : r ≡ get_or s 3 0
  pub few : r ≤ most_components
  pub low : AtMost (most_degree * second_base) (take r keys)

-- column c has so many, they stand here, and a level more can be added to each
pub record Keyed (kw : List ℕ) (s : Words) (c r : ℕ) (keys : List ℕ) : Type 0 where
  pub held : take r keys ≡ column_keys kw s c
  pub long : r ≡ length (column_keys kw s c)
  pub few : r ≤ most_vectors
  pub room : most_vectors ≤ length keys
  pub low : AtMost (c * most_key + most_degree * second_base) (take r keys)
