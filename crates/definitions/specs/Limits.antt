-- "Limits": each a named number, so that the rules on 13, 14 and 15 can be tried with small ones.
-- Requests A4 and A10 have changed prime-bound and numbering; by request A11 a caller may lend less than working.
use Rattle.std.specs.Prelude.{ℕ}

pub record Limits : Type 0 where
  -- "The upper end for p becomes 65,535" (A4)
  pub prime_bound : ℕ
  -- "n variables, 1 to 8"
  pub variables : ℕ
  -- "s components, 1 to 16"
  pub components : ℕ
  -- "r elements, 1 to 64"
  pub elements : ℕ
  -- "exponent 0 to 255"
  pub exponent : ℕ
  -- "2,048 T lines"
  pub t_lines : ℕ
  -- "file 65,536 bytes"
  pub file : ℕ
  -- "A field after the letter is a number from 0 to 65,535"
  pub field : ℕ
  -- "128 vectors .. in a level above 0"
  pub vectors : ℕ
  -- ".. and 2,048 terms in a level above 0"
  pub level_terms : ℕ
  -- "levels 1 to 9"
  pub levels : ℕ
  -- "512 terms in a working value"
  pub working : ℕ
  -- ".. and in a vector above level 0"
  pub vector : ℕ
  -- "4,096 terms in the tree's work area"
  pub tree : ℕ
  -- "Frame terms with the same component are from now on numbered by ascending lexicographic monomial, whatever the file's order code" (A10):
  -- the code of the order that numbers, from the file's
  pub numbering : ℕ → ℕ

-- document 01's, as the requests that have landed leave them
abbrev pub document_01 : Limits
document_01 = record {
  prime_bound = 65_535;
  variables = 8;
  components = 16;
  elements = 64;
  exponent = 255;
  t_lines = 2_048;
  file = 65_536;
  field = 65_535;
  vectors = 128;
  level_terms = 2_048;
  levels = 9;
  working = 512;
  vector = 512;
  tree = 4_096;
  numbering = λ code. 1;
}

-- the same with another limit on the working value (A11)
abbrev pub with_working : ℕ → Limits → Limits
with_working working lim = record {
  prime_bound = lim.prime_bound;
  variables = lim.variables;
  components = lim.components;
  elements = lim.elements;
  exponent = lim.exponent;
  t_lines = lim.t_lines;
  file = lim.file;
  field = lim.field;
  vectors = lim.vectors;
  level_terms = lim.level_terms;
  levels = lim.levels;
  working = working;
  vector = lim.vector;
  tree = lim.tree;
  numbering = lim.numbering;
}
