-- What the lent slices and the ground mean: the reduction, the stage and the run of the definitions.
use Rattle.std.specs.Prelude.{ℕ, zero, suc, ◌-◌, ◌*◌, ◌<◌, ◌≤◌, length, get_or, take, drop, Result as CodeResult, Ok, Err}
use Rattle.definitions.specs.Limits.{Limits, document_01}
use Rattle.definitions.specs.Monomial.{Vector, Level}
use Rattle.definitions.specs.Result.{Result, done, refusal}
use Rattle.definitions.specs.Stage.{Reduction}
use Rattle.definitions.specs.Layout.{Words, rows, vectors_at}
use Rattle.definitions.specs.Places.{most_exponent, row_length}
use Rattle.definitions.specs.Places.{tables_above, tables_below, tables_ends, tables_length, tables_spans}
use Rattle.reducers.specs.search.Search.{Spanned}
use Rattle.runs.specs.declared.reduction.Ground.{Ground}
use Rattle.words.specs.declared.refusals.Refusal.{Refusal}
use Rattle.words.specs.refusals.Numbers.{number_of}

-- document 01's limits, but for those that the ground names
abbrev pub limits_of : Ground → Limits
limits_of g = record {
  prime_bound = document_01.prime_bound;
  variables = document_01.variables;
  components = document_01.components;
  elements = document_01.elements;
  exponent = most_exponent;
  t_lines = document_01.t_lines;
  file = document_01.file;
  field = document_01.field;
  vectors = document_01.vectors;
  level_terms = g.room;
  levels = document_01.levels;
  working = g.working;
  vector = g.vector;
  tree = g.tree;
  numbering = document_01.numbering;
}

-- ## The tables of a lifting in one slice, one after the other: rows of 128 heads, their spans, the ends of the level's vectors, the images below and
-- above

-- the words from place a on
abbrev pub part : ℕ → Words → Words
part a s = take (length s - a) (drop a s)

abbrev pub spans_in : Words → Words
spans_in tables = part tables_spans tables

abbrev pub ends_in : Words → Words
ends_in tables = part tables_ends tables

abbrev pub below_in : Words → Words
below_in tables = part tables_below tables

abbrev pub above_in : Words → Words
above_in tables = part tables_above tables

-- the heads' rows
abbrev pub reduction_of : Ground → Words → Reduction
reduction_of g tables = record { limits = limits_of g; p = g.p; heads = rows tables 0 g.r }

-- f_1 .. f_r
abbrev pub family_of : Ground → Words → Words → Level
family_of g level ends = vectors_at level 0 (take g.r ends)

-- what the tables must be
pub record Tables (g : Ground) (tables : Words) : Type 0 where
  pub prime : 0 < g.p
  pub few : g.r < 65536
  pub long : tables_length ≤ length tables
  pub heads_fit : g.r * row_length ≤ length tables
  pub spans_fit : g.components * 2 ≤ length (spans_in tables)
  pub spanned : Spanned g.components g.r (spans_in tables) tables

-- ## Answers

abbrev pub added_of : CodeResult ℕ Refusal → Words → Result Vector
added_of (Ok n) s = done (rows s 0 n)
added_of (Err e) s = refusal (number_of e)

abbrev pub Within : ℕ → CodeResult ℕ Refusal → Type 0
Within limit (Ok n) = n ≤ limit
Within limit (Err e) = Unit {0}

-- ## A level's vectors

-- every vector ends within the rows
pub record Family (g : Ground) (level ends : Words) : Type 0 where
  pub ends_fit : g.r ≤ length ends
  pub rows_fit : (j : ℕ) → j < g.r → get_or ends j 0 * row_length ≤ length level

-- the first row of vector j, counted from 1: the end of the one before it
abbrev pub first_row : Words → ℕ → ℕ
first_row ends zero = 0
first_row ends (suc zero) = 0
first_row ends (suc (suc j)) = get_or ends j 0
